-- Planning, committing and settling are one step.
use Rattle.std.proofs.Common.{◌≡◌, Option, Some, None, nat_eq, refl, ap, sym, ◌∙◌}
use Rattle.std.specs.Cmp.Lexicographic.{pointwise}
use Rattle.px_model.specs.Node as node
use Rattle.px_model.specs.Node.Answer.{Planned}
use Rattle.px_model.specs.Node.Change.{NewRound, NewNumber, NewFloor, NewPromise, NewAccepted, NewLearned}
use Rattle.px_model.specs.Step.{commit, step}
use Rattle.px_model.specs.Spelling.{Bytes}
use Rattle.px_model.specs.Seen.{slot_of, input_of}
use Rattle.px_model.proofs.Enough.{reads_suffice}
use Rattle.px_model.proofs.Rising.{steps_rise}
use Rattle.px_core.specs.Planning.{State, learned_after}
use Rattle.px_core.specs.OneStep.{AnswersAsAMember, SettlesAsAMember, node_of}

-- what settling leaves as learned is what the record has as learned after the change
pub learned_committed : (change : Option (node.Change Bytes)) (d : node.Record Bytes) → learned_after change d.learned ≡ (commit change d).learned
learned_committed None d = refl
learned_committed (Some (NewRound r)) d = refl
learned_committed (Some (NewNumber k)) d = refl
learned_committed (Some (NewFloor b)) d = refl
learned_committed (Some (NewPromise p b)) d = refl
learned_committed (Some (NewAccepted p b e)) d = refl
learned_committed (Some (NewLearned p e)) d = refl

pub answers_as_a_member : AnswersAsAMember
answers_as_a_member s d numbers slot top event of =
    ap (λ (m : node.Meta). at m s.learned) of.meta ∙ ap (λ (log : node.Log Bytes). at d.meta log) of.learned
    ∙ reads_suffice (pointwise nat_eq) s.members s.me (node_of s d) (input_of event) (slot_of slot) top of.read
  where
    at : node.Meta → node.Log Bytes → node.Answer Bytes
    at m log = step (pointwise nat_eq) s.members s.me m (slot_of slot) top log s.volatile (input_of event)

pub settles_as_a_member : SettlesAsAMember
settles_as_a_member s t d numbers slot top event of plan is after = record {
  answer = sym (answers_as_a_member s d numbers slot top event of) ∙ is;
  rises = steps_rise (pointwise nat_eq) s.members s.me (node_of s d) (input_of event) plan (sym (answers_as_a_member s d numbers slot top event of) ∙ is);
  state = ap (λ (u : State). node_of u (commit plan.change d)) after;
  learned = ap (λ (u : State). u.learned) after ∙ ap (λ (log : node.Log Bytes). learned_after plan.change log) of.learned ∙ learned_committed plan.change d;
  members = ap (λ (u : State). u.members) after;
  me = ap (λ (u : State). u.me) after;
}
