-- The law in bytes at the members' sockets, without a key, wherever members stop and start again.
use Rattle.std.specs.Prelude.{◌⊎◌, ◌<◌, ℕ, List, [], ◌∷◌, ◌++◌}
use Rattle.px_model.specs.Law.{Among}
use Rattle.px_model.specs.Spelling.{Bytes}
use Rattle.px_records.specs.declared.records.Records.{Ghosts}
use Rattle.px_wire.specs.Message.{Group}
use Rattle.node_loop.specs.Resending.{IsOutside}
use Rattle.node_udp.specs.Sockets.{SocketEvent, Came, Went}
use Rattle.node_control.specs.Sockets.{RanAt}
use Rattle.pfx_laws.specs.Promised.{IsGroup}
use Rattle.pfx_laws.specs.Wires.{Stretch}
use Rattle.pfx_laws.specs.Members.{RunEvent, Starts, During, Run, Runs, AreRuns, IsEmpty, events_at}
use Rattle.pfx_laws.specs.Members.{InStretches, NeverDiffer, LearnWhatWasAsked, EquallyApplied}

-- The datagram was handed to some member's socket before, at any time and however often it comes. Or it is no member's
-- message to this member: what it spells, if anything, is a request from outside. So are garbage, and a datagram of
-- another cluster.
abbrev pub WasHanded : Group → (handed : List Bytes) → (member : ℕ) → Bytes → Type 0
WasHanded g handed m bytes = Among handed bytes ⊎ IsOutside g m bytes

-- what happens at the members' sockets, in order, each with the member: a run starts, a datagram comes, or one goes
abbrev pub Network : Type 0
Network = List (ℕ × RunEvent (Unit {0}) SocketEvent)

-- Each datagram that arrives at a member's socket is such a one. These were handed over already.
abbrev pub SocketsCarry : Group → Network → (handed : List Bytes) → Type 0
SocketsCarry g [] handed = Unit {0}
SocketsCarry g ((m, Starts key) ∷ xs) handed = (m < g.members) × SocketsCarry g xs handed
SocketsCarry g ((m, During (Came from bytes)) ∷ xs) handed =
    (m < g.members) × WasHanded g handed m bytes × SocketsCarry g xs handed
SocketsCarry g ((m, During (Went to bytes)) ∷ xs) handed =
    (m < g.members) × SocketsCarry g xs (handed ++ bytes ∷ [])

-- a run of the member without a key, over a socket over which this went
abbrev pub IsRun : Group → (m : ℕ) → Run (Unit {0}) → List SocketEvent → Type 0
IsRun g m r events = RanAt g m r.first events r.trace r.end r.unanswered

-- These are the members' runs over such sockets, each over its own, the first of each over a new store.
pub record RanOver (g : Group) (network : Network) (runs : Runs (Unit {0})) : Type 0 where
  pub group : IsGroup g
  pub carry : SocketsCarry g network []
  pub ran : (m : ℕ) → m < g.members → AreRuns g m (IsRun g m) IsEmpty (runs m) (events_at m network)

-- members that ran over such sockets went in stretches
abbrev pub SocketsGo : Type 0
SocketsGo =
    (g : Group) (network : Network) (runs : Runs (Unit {0})) → RanOver g network runs →
    (stretches : List Stretch) × InStretches g runs stretches

-- they never differ
abbrev pub SocketsNeverDiffer : Type 0
SocketsNeverDiffer =
    (g : Group) (network : Network) (runs : Runs (Unit {0})) → RanOver g network runs → NeverDiffer g runs

-- they learn what was asked, in the stretches in which they went
abbrev pub SocketsLearnWhatWasAsked : Type 0
SocketsLearnWhatWasAsked =
    (g : Group) (network : Network) (runs : Runs (Unit {0})) → RanOver g network runs →
    (stretches : List Stretch) × InStretches g runs stretches × LearnWhatWasAsked g runs stretches

-- where they have applied equally many positions, they have one configuration
abbrev pub EquallyAppliedAtSockets : {R Q : Type 0} → Ghosts R → Ghosts Q → Type 0
EquallyAppliedAtSockets {R} {Q} G H =
    (g : Group) (network : Network) (runs : Runs (Unit {0})) → RanOver g network runs →
    EquallyApplied G H g runs
