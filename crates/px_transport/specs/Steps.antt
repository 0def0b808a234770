-- What goes over a wire of packets, step by step: a step is at most one event over the wire below, and at most one
-- here.
use Rattle.std.specs.Prelude.{◌≡◌, ◌⊎◌, ◌<◌, ◌^◌, ℕ, ◌==◌, ◌&&◌, Bool, true, List, [], ◌∷◌, ◌++◌, length}
use Rattle.std.specs.Prelude.{if◌then◌else◌}
use Rattle.px_transport.specs.Wires.{WireEvent, Gave, Handed}
use Rattle.px_transport.specs.Receiving.{Heard, Memory, reported_of}
use Rattle.px_transport.specs.Sending.{Sealer, Unsealed, packet}
use Rattle.px_transport.specs.Wiring.{WireState, opened, given_of, heard_with, datagram_of, Calls}
use Rattle.px_transport.specs.Laws.{Traffic, IsBodyOf, nobody}

-- a step of a member's wire
pub data Step : Type 0 where
  -- a packet comes, and this is given, at a time and for what memory is refused
  Hears : (came given : List ℕ) (memory : Memory) (now : ℕ) → Step
  -- a packet is handed to the wire below
  Puts : (to : ℕ) (bytes : List ℕ) → Step
  -- it is handed a datagram for a member, which may be cut under a new name
  Takes : (to : ℕ) (m : List ℕ) (is_cut : Bool) → Step
  -- it is noted that a report went to a member, whether one did or not
  Reports : (member now : ℕ) → Step

-- over the wire below
abbrev pub below_of : Step → List WireEvent
below_of (Hears came given memory now) = Gave came ∷ []
below_of (Puts to bytes) = Handed to bytes ∷ []
below_of (Takes to m is_cut) = []
below_of (Reports member now) = []

-- over the wire
abbrev pub above_of : Step → List WireEvent
above_of (Hears came given memory now) = Gave given ∷ []
above_of (Puts to bytes) = []
above_of (Takes to m is_cut) = Handed to m ∷ []
above_of (Reports member now) = []

abbrev pub below_in : List Step → List WireEvent
below_in [] = []
below_in (x ∷ xs) = below_of x ++ below_in xs

abbrev pub above_in : List Step → List WireEvent
above_in [] = []
above_in (x ∷ xs) = above_of x ++ above_in xs

-- ---- after steps, the latest first

-- the datagrams that were handed over for a member, in order
abbrev pub wholes_for : (to : ℕ) → List Step → List (List ℕ)
wholes_for to [] = []
wholes_for to (Hears came given memory now ∷ before) = wholes_for to before
wholes_for to (Puts k bytes ∷ before) = wholes_for to before
wholes_for to (Takes k m is_cut ∷ before) = if k == to then wholes_for to before ++ m ∷ [] else wholes_for to before
wholes_for to (Reports member now ∷ before) = wholes_for to before

-- those that were cut for it, in order: each is named by its place
abbrev pub cuts_for : (to : ℕ) → List Step → List (List ℕ)
cuts_for to [] = []
cuts_for to (Hears came given memory now ∷ before) = cuts_for to before
cuts_for to (Puts k bytes ∷ before) = cuts_for to before
cuts_for to (Takes k m is_cut ∷ before) =
    if is_cut && (k == to) then cuts_for to before ++ m ∷ [] else cuts_for to before
cuts_for to (Reports member now ∷ before) = cuts_for to before

-- what was heard of each member
abbrev pub heard_in : (keys : List (List ℕ)) → Sealer → List Step → List Heard
heard_in keys s [] = nobody s.members
heard_in keys s (Hears came given memory now ∷ before) =
    heard_with s.start memory (heard_in keys s before) (opened keys s came) now
heard_in keys s (Puts to bytes ∷ before) = heard_in keys s before
heard_in keys s (Takes to m is_cut ∷ before) = heard_in keys s before
heard_in keys s (Reports member now ∷ before) = reported_of (heard_in keys s before) member now

-- what was handed over for a member, at any start
abbrev pub handed_for : (to : ℕ) → List Step → Traffic
handed_for to before =
    record { wholes = λ member start. wholes_for to before; cuts = λ member start. cuts_for to before }

-- A packet for a member was sealed with what was handed over for that member before.
pub record IsPut (s : Sealer) (before : List Step) (to : ℕ) (bytes : List ℕ) : Type 0 where
  pub what : Unsealed
  pub counter : ℕ
  pub to_is : what.to ≡ to
  pub bytes_is : bytes ≡ (packet s what counter).1
  pub body_is : IsBodyOf (handed_for to before) what.kind s.me s.start what.body

-- what is given is what the receiver makes of the packet, or an empty datagram
abbrev pub IsHeard : (keys : List (List ℕ)) → Sealer → List Step → (came given : List ℕ) → Memory → (now : ℕ) → Type 0
IsHeard keys s before came given memory now =
    (given ≡ []) ⊎
    (given ≡ datagram_of (given_of s.start memory (heard_in keys s before) (opened keys s came) now))

-- where a datagram is cut for a member, a name of four bytes is left: fewer than 2^32 were cut for it before
abbrev pub IsNamed : (before : List Step) → (to : ℕ) → (is_cut : Bool) → Type 0
IsNamed before to is_cut = is_cut ≡ true → length (cuts_for to before) < 2 ^ 32

abbrev pub IsStep : (keys : List (List ℕ)) → Sealer → (before : List Step) → Step → Type 0
IsStep keys s before (Hears came given memory now) = IsHeard keys s before came given memory now
IsStep keys s before (Puts to bytes) = IsPut s before to bytes
IsStep keys s before (Takes to m is_cut) = IsNamed before to is_cut
IsStep keys s before (Reports member now) = Unit {0}

-- steps one after another, behind those before them, of which the latest comes first
abbrev pub AreSteps : (keys : List (List ℕ)) → Sealer → List Step → (before : List Step) → Type 0
AreSteps keys s [] before = Unit {0}
AreSteps keys s (x ∷ xs) before = IsStep keys s before x × AreSteps keys s xs (x ∷ before)

-- the calls of a wire of packets are such steps, in order
abbrev pub CallsAreSteps : Type 0
CallsAreSteps =
    (keys : List (List ℕ)) (s : Sealer) (n : ℕ) (k : WireState) (es : List WireEvent) → Calls keys s n k es →
    (steps : List Step) × (below_in steps ≡ k.traffic) × (above_in steps ≡ es) × AreSteps keys s steps []
