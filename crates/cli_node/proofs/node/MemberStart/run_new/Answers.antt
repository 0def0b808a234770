-- what the run ended with
use Rattle.std.proofs.Common.{◌≡◌, Bool, Err, ap, false, inl, inr, subst}
use Rattle.std.specs.Prelude.{is_some}
use Rattle.cli_node.specs.Endings.{is_beyond}
use Rattle.cli_node.proofs.Beyond.{controlled_or_not, keyed_or_not}
use Rattle.cli_node.proofs.Endings.{refusal_of, unsealed}
use Rattle.cli_node.proofs.Stores.{not_lost}
use Rattle.cli_node.proofs.node.MemberStart.run_new.Goals as goal

pub returns-in-Ok-opened_record-clause-store : goal.returns-in-Ok-opened_record-clause-store
returns-in-Ok-opened_record-clause-store g c = c.run_on.ensures.store c.args.self.now.start.arguments.is_from_file c.args.self.now.start.arguments.is_new

pub returns-in-Err-clause-ran : goal.returns-in-Err-clause-ran
returns-in-Err-clause-ran g c =
    inl (refusal_of 95 c.sealing_for.result c.in-Err.outcome c.in-Err.is c.sealing_for.ensures.refused)

pub returns-in-Ok-opened_record-clause-ran : goal.returns-in-Ok-opened_record-clause-ran
returns-in-Ok-opened_record-clause-ran g c = inr (
  c.in-Ok-opened_record.records,
  c.in-Ok-opened_record.ensures.members,
  c.in-Ok-opened_record.ensures.begins,
  c.in-Ok-opened_record.ensures.rows,
  inl (c.in-Ok.sealing, c.in-Ok.ensures.keys, c.in-Ok.ensures.start, c.run_on.ensures.ran),
)

pub returns-in-Err-opened_record-clause-ran : goal.returns-in-Err-opened_record-clause-ran
returns-in-Err-opened_record-clause-ran g c = inl c.in-Err-opened_record.ensures.kind

pub returns-in-Err-clause-none : goal.returns-in-Err-clause-none
returns-in-Err-clause-none g c = λ e. absurd (not_lost c.in-Err.outcome
    (unsealed c.sealing_for.result c.in-Err.outcome c.in-Err.is c.sealing_for.ensures.refused) e)

pub returns-in-Ok-opened_record-clause-none : goal.returns-in-Ok-opened_record-clause-none
returns-in-Ok-opened_record-clause-none g c = λ e. absurd (not_lost c.run_on.result c.run_on.ensures.store e)

pub returns-in-Err-opened_record-clause-none : goal.returns-in-Err-opened_record-clause-none
returns-in-Err-opened_record-clause-none g c = λ e. c.in-Err-opened_record.ensures.none (ap Err e)

pub returns-in-Ok-opened_record-clause-beyond : goal.returns-in-Ok-opened_record-clause-beyond
returns-in-Ok-opened_record-clause-beyond g c = keyed_or_not (is_some c.args.self.now.start.arguments.key) (is_some c.args.self.now.start.arguments.control) c.run_on.result c.run_on.ensures.beyond

pub returns-in-Err-opened_record-clause-beyond : goal.returns-in-Err-opened_record-clause-beyond
returns-in-Err-opened_record-clause-beyond g c = keyed_or_not (is_some c.args.self.now.start.arguments.key) (is_some c.args.self.now.start.arguments.control) c.in-Err-opened_record.outcome c.in-Err-opened_record.ensures.beyond

pub returns-in-Err-clause-beyond : goal.returns-in-Err-clause-beyond
returns-in-Err-clause-beyond g c =
    controlled_or_not (is_some c.args.self.now.start.arguments.key) (is_some c.args.self.now.start.arguments.control) c.in-Err.outcome
    (subst (λ (k : Bool). is_beyond k false c.in-Err.outcome ≡ false) c.requires.keyed c.in-Err.ensures.beyond)
