-- What a record's log reaches: a member learns at the 64 positions from its front on, and nowhere else.
use Rattle.std.specs.Prelude.{◌≡◌, ℕ, ◌+◌, ◌<◌, ◌≤◌, Bool, List, Option, Some}
use Rattle.px_model.specs.Node.{Record, Change, Plan}
use Rattle.px_model.specs.Node.Input.{Ticks}
use Rattle.px_model.specs.Node.Answer.{Planned}
use Rattle.px_model.specs.Step.{positions, front, commit}
use Rattle.px_model.specs.World.{NodeState, Event, follows, step_of}
use Rattle.px_model.specs.Law.{learned_of, world_after}

-- nothing is learned from 64 positions past the front on, nor past the last position
abbrev pub IsInReach : {X : Type 0} → (ℕ → Option X) → Type 0
IsInReach {X} learned = (p : ℕ) (x : X) → learned p ≡ Some x → (p < front learned + 64) × (p < positions)

-- at every moment of every run each member's log is in reach of its front
abbrev pub AlwaysInReach : (C : Type 0) → Type 0
AlwaysInReach C =
    (same : C → C → Bool) (n : ℕ) (events : List (Event C)) (m : ℕ) →
    IsInReach (learned_of (world_after same n events) m)

-- a tick learns nothing
abbrev pub TicksLearnNothing : (C : Type 0) → Type 0
TicksLearnNothing C =
    (same : C → C → Bool) (n m : ℕ) (s : NodeState C) (plan : Plan C) →
    step_of same n m s Ticks ≡ Planned plan → (follows s plan).stored.learned ≡ s.stored.learned

-- no change of a record moves its front back
abbrev pub FrontsStay : (C : Type 0) → Type 0
FrontsStay C = (change : Option (Change C)) (d : Record C) → front d.learned ≤ front (commit change d).learned
