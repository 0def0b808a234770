-- The law in bytes at the members' sockets, with a key, wherever members stop and start again.
use Rattle.std.specs.Prelude.{◌≡◌, ◌⊎◌, ◌<◌, ℕ, List, [], ◌∷◌, ◌++◌, map, Option, Some, None}
use Rattle.px_model.specs.Law.{Among, NoneTwice}
use Rattle.px_model.specs.Spelling.{Bytes}
use Rattle.px_model.specs.Step.{put}
use Rattle.px_records.specs.declared.records.Records.{Ghosts}
use Rattle.px_wire.specs.Message.{Group}
use Rattle.px_packet.specs.Headers.{start_bytes}
use Rattle.px_transport.specs.Sending.{Sealer}
use Rattle.px_transport.specs.Wiring.{opened}
use Rattle.node_udp.specs.Sockets.{SocketEvent, Came, Went}
use Rattle.node_control.specs.Sockets.{RanSealed}
use Rattle.pfx_laws.specs.Promised.{IsGroup}
use Rattle.pfx_laws.specs.Wires.{Stretch}
use Rattle.pfx_laws.specs.Members.{RunEvent, Starts, During, Run, Runs, AreRuns, IsEmpty, events_at}
use Rattle.pfx_laws.specs.Members.{InStretches, NeverDiffer, LearnWhatWasAsked, EquallyApplied}

-- a run's key: the keys with which it opens packets, and who seals its own, with its start
pub record Keyed : Type 0 where
  pub keys : List (List ℕ)
  pub sealer : Sealer

-- the packet isn't opened with the key of this run; nor is any where there is no run
abbrev pub IsUnopened : Option Keyed → Bytes → Type 0
IsUnopened None bytes = Unit {0}
IsUnopened (Some k) bytes = opened k.keys k.sealer bytes ≡ None

-- what happens at the members' sockets, in order, each with the member: a run starts, a packet comes, or one goes
abbrev pub Network : Type 0
Network = List (ℕ × RunEvent Keyed SocketEvent)

-- Each packet that arrives at a member's socket was handed to some member's socket before, in any run, at any time and
-- however often it comes; or it isn't opened. The members are in these runs, and these were handed over already.
abbrev pub PacketsCarry : (members : ℕ) → (run : ℕ → Option Keyed) → Network → (handed : List Bytes) → Type 0
PacketsCarry n run [] handed = Unit {0}
PacketsCarry n run ((m, Starts key) ∷ xs) handed = (m < n) × PacketsCarry n (put run m (Some key)) xs handed
PacketsCarry n run ((m, During (Came from bytes)) ∷ xs) handed =
    (m < n) × (Among handed bytes ⊎ IsUnopened (run m) bytes) × PacketsCarry n run xs handed
PacketsCarry n run ((m, During (Went to bytes)) ∷ xs) handed = (m < n) × PacketsCarry n run xs (handed ++ bytes ∷ [])

-- a run of the member with a key, over a socket over which this went: it seals as this member
pub record IsSealed (g : Group) (m : ℕ) (r : Run Keyed) (events : List SocketEvent) : Type 0 where
  pub ran : RanSealed g r.key.keys r.key.sealer m r.first events r.trace r.end r.unanswered
  pub me : r.key.sealer.me ≡ m

-- These are the members' runs over such sockets, each over its own, the first of each over a new store. No two runs of
-- a member have one start.
pub record RanOver (g : Group) (network : Network) (runs : Runs Keyed) : Type 0 where
  pub group : IsGroup g
  pub carry : PacketsCarry g.members (λ m. None) network []
  pub ran : (m : ℕ) → m < g.members → AreRuns g m (IsSealed g m) IsEmpty (runs m) (events_at m network)
  pub starts : (m : ℕ) → m < g.members → NoneTwice (map (λ r. start_bytes r.key.sealer.start) (runs m))

-- members that ran over such sockets went in stretches
abbrev pub SealedSocketsGo : Type 0
SealedSocketsGo =
    (g : Group) (network : Network) (runs : Runs Keyed) → RanOver g network runs →
    (stretches : List Stretch) × InStretches g runs stretches

-- they never differ
abbrev pub SealedSocketsNeverDiffer : Type 0
SealedSocketsNeverDiffer =
    (g : Group) (network : Network) (runs : Runs Keyed) → RanOver g network runs → NeverDiffer g runs

-- they learn what was asked, in the stretches in which they went
abbrev pub SealedSocketsLearnWhatWasAsked : Type 0
SealedSocketsLearnWhatWasAsked =
    (g : Group) (network : Network) (runs : Runs Keyed) → RanOver g network runs →
    (stretches : List Stretch) × InStretches g runs stretches × LearnWhatWasAsked g runs stretches

-- where they have applied equally many positions, they have one configuration
abbrev pub EquallyAppliedAtSealedSockets : {R Q : Type 0} → Ghosts R → Ghosts Q → Type 0
EquallyAppliedAtSealedSockets {R} {Q} G H =
    (g : Group) (network : Network) (runs : Runs Keyed) → RanOver g network runs → EquallyApplied G H g runs
