-- What a call of a node makes, from bytes to bytes.
use Rattle.std.specs.Prelude.{◌≡◌, ◌⊎◌, ℕ, Bool, true, List, ◌++◌, nat_eq}
use Rattle.std.specs.Cmp.Lexicographic.{pointwise}
use Rattle.px_model.specs.Node.{Record, Volatile, Input, Plan, Answer}
use Rattle.px_model.specs.Node.Answer.{Planned}
use Rattle.px_model.specs.Step.{commit}
use Rattle.px_model.specs.World.{NodeState, step_of, follows}
use Rattle.px_model.specs.Spelling.{Bytes}
use Rattle.px_wire.specs.Message.{Group}
use Rattle.px_replica.specs.Spelled.{AreSpelled}
use Rattle.px_replica.specs.declared.datagram.Datagram.{Datagram}

-- commands are compared as their bytes
abbrev pub same : Bytes → Bytes → Bool
same = pointwise nat_eq

-- a member that runs, with this record and this volatile part
abbrev pub running : Record Bytes → Volatile Bytes → NodeState Bytes
running d v = record { is_up = true; stored = d; volatile = v }

-- the answer of the member me of n in this state
abbrev pub answer : (n me : ℕ) → NodeState Bytes → Input Bytes → Answer Bytes
answer n me s x = step_of same n me s x

-- A step of the model was made from s to t, and its messages were appended in order in their spelling.
pub record Makes (g : Group) (me : ℕ) (s t : NodeState Bytes) (x : Input Bytes) (old new : List Datagram) : Type
    0 where
  pub plan : Plan Bytes
  pub steps : answer g.members me s x ≡ Planned plan
  pub follows : t ≡ follows s plan
  pub added : List Datagram
  pub handed : new ≡ old ++ added
  pub spelled : AreSpelled g plan.sends added

-- What a stop leaves: the record as before the call, or with the change of its step.
abbrev pub LeavesOne : (n me : ℕ) → NodeState Bytes → Input Bytes → Record Bytes → Type 0
LeavesOne n me s x left =
    (left ≡ s.stored) ⊎
    ((plan : Plan Bytes) × (answer n me s x ≡ Planned plan) × (left ≡ commit plan.change s.stored))
