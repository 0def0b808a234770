-- the outcome of a store that is refused, and the contents of one that isn't
use Rattle.std.proofs.Common.{◌∙◌, ap, sym, subst}
use Rattle.cli_node.specs.declared.outcome.Outcome.{Outcome}
use Rattle.cli_node.specs.declared.outcome.Outcome.TheVariants.{Refused}
use Rattle.cli_node.specs.Endings.{adopt_outcome, numbered}
use Rattle.cli_node.specs.Stores.{IsRefusal, IsStoreless}
use Rattle.cli_node.proofs.Kept.{kept_in}
use Rattle.cli_node.proofs.Stores.{by_fault, err_is, kind_of_fault, not_lost, unfailed_fault}
use Rattle.cli_node.proofs.node.MemberStart.opened_record.Goals as goal

pub returns-in-Ok-clause-rows : goal.returns-in-Ok-clause-rows
returns-in-Ok-clause-rows g c =
    kept_in _ _ _ _ c.in_ok-conn.conn c.in-Ok.records c.identity_of.ensures c.in_ok-conn.ensures.at
    c.in-Ok.ensures.rows c.in-Ok.ensures.owned c.in-Ok.ensures.made
    c.in-Ok.ensures.brought

pub returns-in-Err-clause-refused : goal.returns-in-Err-clause-refused
returns-in-Err-clause-refused g c =
    subst (λ (o : Outcome). IsStoreless c.args.self.now.start.arguments.is_from_file c.args.self.now.start.arguments.is_new o) (sym (c.numbered.ensures ∙ ap numbered c.code.ensures))
    (by_fault c.args.self.now.start.arguments.is_from_file c.args.self.now.start.arguments.is_new c.in-Err.fault)

pub returns-in-Err-clause-kind : goal.returns-in-Err-clause-kind
returns-in-Err-clause-kind g c =
    subst IsRefusal (sym (c.numbered.ensures ∙ ap numbered c.code.ensures)) (kind_of_fault c.in-Err.fault)

pub returns-in-Err-clause-unfailed : goal.returns-in-Err-clause-unfailed
returns-in-Err-clause-unfailed g c = λ e.
    unfailed_fault c.in-Err.fault (sym (c.numbered.ensures ∙ ap numbered c.code.ensures) ∙ err_is c.numbered.result (Refused 80) e)

pub returns-in-Err-clause-none : goal.returns-in-Err-clause-none
returns-in-Err-clause-none g c = λ e.
    absurd (not_lost (adopt_outcome c.in-Err.fault) (λ file new. by_fault file new c.in-Err.fault)
    (sym (c.numbered.ensures ∙ ap numbered c.code.ensures) ∙ err_is c.numbered.result (Refused 93) e))
