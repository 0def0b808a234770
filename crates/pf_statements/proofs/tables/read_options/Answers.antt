use Rattle.std.proofs.Common.{sym, ◌∙◌}
use Rattle.std.proofs.lemmas.Result.{err_from_is_err_and}
use Rattle.pf_tokens.specs.Parsing.{left}
use Rattle.pf_statements.specs.Seen.{table_text_of}
use Rattle.pf_statements.specs.Tables.{table_option}
use Rattle.pf_statements.proofs.Steps.{ended, next, refused, stopped}
use Rattle.pf_statements.proofs.TableSteps.{option_shorter}
use Rattle.pf_statements.proofs.tables.read_options.Goals as goal

pub returns-in_err-table-clause-value : goal.returns-in_err-table-clause-value
returns-in_err-table-clause-value c =
    let passed = err_from_is_err_and c.from_residual.result c.from_residual.ensures.1 in
    rw (passed.1, passed.2) (stopped table_text_of table_text_of c.in_err-table.field-0.0 _ _ _ c.in_err-table.ensures.read (refused (table_option c.args.cx.profile) _ (table_text_of c.options.table) (left c.options.parser) c.options.invariant.going (sym c.at_end.ensures ∙ c.options-test.true)))

pub options-smaller : goal.options-smaller
options-smaller c = option_shorter c.args.cx.profile (table_text_of c.options.table) (table_text_of c.in_ok-table.table) (left c.options.parser) (left c.read_option.new.parser) c.in_ok-table.ensures.read

pub options-preserved : goal.options-preserved
options-preserved c = record {
  going =
      next (table_option c.args.cx.profile) _ (table_text_of c.options.table) (table_text_of c.in_ok-table.table) (left c.options.parser) (left c.read_option.new.parser) c.options.invariant.going (sym c.at_end.ensures ∙ c.options-test.true) c.in_ok-table.ensures.read
      (option_shorter c.args.cx.profile (table_text_of c.options.table) (table_text_of c.in_ok-table.table) (left c.options.parser) (left c.read_option.new.parser) c.in_ok-table.ensures.read);
  later = c.in_ok-table.ensures.later ∙ c.options.invariant.later;
}

pub returns-clause-value : goal.returns-clause-value
returns-clause-value c = ended (table_option c.args.cx.profile) _ (table_text_of c.options.table) (left c.options.parser) c.options.invariant.going (sym c.at_end.ensures ∙ c.options-test.false)
