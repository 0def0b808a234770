-- Planning, committing and settling are one step of a member of the world.
use Rattle.std.specs.Prelude.{◌≡◌, ℕ, true, IfSome, nat_eq}
use Rattle.std.specs.Cmp.Lexicographic.{pointwise}
use Rattle.px_model.specs.Node as node
use Rattle.px_model.specs.Node.Answer.{Planned}
use Rattle.px_model.specs.Step.{commit}
use Rattle.px_model.specs.Rising.{Rises}
use Rattle.px_model.specs.World.{NodeState, follows, step_of}
use Rattle.px_model.specs.Spelling.{Bytes}
use Rattle.px_model.specs.Seen.{slot_of, meta_of, input_of, reads_of, IsRead}
use Rattle.px_model.specs.declared.record.Slot.{Slot}
use Rattle.px_model.specs.declared.record.Meta.{Meta}
use Rattle.px_model.specs.declared.message.Event.{Event}
use Rattle.px_core.specs.Planning.{State, step_with, settles}

-- the member with this record, whose volatile part is the core's
abbrev pub node_of : State → node.Record Bytes → NodeState Bytes
node_of s d = record { is_up = true; stored = d; volatile = s.volatile }

-- The core's log is the record's, and what it is handed is the record's as far as the event reads it.
pub record IsOfRecord (d : node.Record Bytes) (s : State) (numbers : Meta) (slot : Slot) (top : ℕ) (event : Event) :
    Type 0 where
  pub learned : s.learned ≡ d.learned
  pub meta : meta_of numbers ≡ d.meta
  pub read : IsRead (reads_of (input_of event)) d (slot_of slot) top

-- what a member with this core and this record answers
abbrev pub answer_of : State → node.Record Bytes → Event → node.Answer Bytes
answer_of s d event = step_of (pointwise nat_eq) s.members s.me (node_of s d) (input_of event)

-- what the core answers, plan or refusal, is the member's answer
abbrev pub AnswersAsAMember : Type 0
AnswersAsAMember =
    (s : State) (d : node.Record Bytes) (numbers : Meta) (slot : Slot) (top : ℕ) (event : Event) →
    IsOfRecord d s numbers slot top event → step_with s numbers slot top event ≡ answer_of s d event

-- with t for the core afterwards: it and the record with the change are the member that has followed its plan
pub record IsOneStep (s t : State) (d : node.Record Bytes) (plan : node.Plan Bytes) (event : Event) : Type 0 where
  pub answer : answer_of s d event ≡ Planned plan
  pub state : node_of t (commit plan.change d) ≡ follows (node_of s d) plan
  pub learned : t.learned ≡ (commit plan.change d).learned
  pub rises : IfSome plan.change (λ x. Rises d x)
  pub members : t.members ≡ s.members
  pub me : t.me ≡ s.me

-- what `Core::plan` answers, committed, and settled as `Core::settle` does it, is one step
abbrev pub SettlesAsAMember : Type 0
SettlesAsAMember =
    (s t : State) (d : node.Record Bytes) (numbers : Meta) (slot : Slot) (top : ℕ) (event : Event) →
    IsOfRecord d s numbers slot top event → (plan : node.Plan Bytes) →
    step_with s numbers slot top event ≡ Planned plan → t ≡ settles s plan → IsOneStep s t d plan event
