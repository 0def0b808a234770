-- What a member writes takes nothing back: no round is used twice, no promise falls, nothing learned is replaced (2.2,
-- 2.5).
use Rattle.std.specs.Prelude.{◌≡◌, ℕ, ◌+◌, ◌<◌, ◌≤◌, Bool, None, IfSome}
use Rattle.px_model.specs.Node.{Record, Change, Plan, Input}
use Rattle.px_model.specs.Node.Change.{NewRound, NewNumber, NewFloor, NewPromise, NewAccepted, NewLearned}
use Rattle.px_model.specs.Node.Answer.{Planned}
use Rattle.px_model.specs.Step.{promised_at}
use Rattle.px_model.specs.World.{NodeState, step_of}

-- the change goes beyond what the record has
abbrev pub Rises : {C : Type 0} → Record C → Change C → Type 0
Rises d (NewRound r) = d.meta.round < r
Rises d (NewNumber k) = k ≡ d.meta.number + 1
Rises d (NewFloor b) = d.meta.floor < b
Rises d (NewPromise p b) = promised_at d.meta (d.slots p) < b
Rises d (NewAccepted p b e) = promised_at d.meta (d.slots p) ≤ b
Rises d (NewLearned p e) = d.learned p ≡ None

-- every change that a member's step makes
abbrev pub StepsRise : (C : Type 0) → Type 0
StepsRise C =
    (same : C → C → Bool) (n m : ℕ) (s : NodeState C) (input : Input C) (plan : Plan C) →
    step_of same n m s input ≡ Planned plan → IfSome plan.change (λ x. Rises s.stored x)
