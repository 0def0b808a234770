use Rattle.std.proofs.Common.{sym, ◌∙◌}
use Rattle.std.proofs.lemmas.Result.{err_from_is_err_and}
use Rattle.pf_tokens.specs.Parsing.{left}
use Rattle.pf_statements.specs.inner.Seen.{options_of}
use Rattle.pf_statements.proofs.OptionSteps.{option_shorter}
use Rattle.pf_statements.proofs.OverSteps.{ended, next, refused, stops_too}
use Rattle.pf_statements.specs.Statements.{option_with}
use Rattle.pf_statements.proofs.options.read_options.Goals as goal

pub returns-in_err-options-clause-read : goal.returns-in_err-options-clause-read
returns-in_err-options-clause-read c =
    let passed = err_from_is_err_and c.from_residual.result c.from_residual.ensures.1 in
    rw (passed.1, passed.2) (stops_too options_of options_of c.in_err-options.field-0.0 _ _ _ _ c.in_err-options.ensures.read (refused (option_with c.args.cx.profile) _ (options_of c.options.options) (left c.options.parser) c.options.invariant.going (sym c.is_over.ensures ∙ c.options-test.true)))

pub options-smaller : goal.options-smaller
options-smaller c = option_shorter c.args.cx.profile (options_of c.options.options) (options_of c.in_ok-options.options) (left c.options.parser) (left c.read_option.new.parser) c.in_ok-options.ensures.read

pub options-preserved : goal.options-preserved
options-preserved c = record {
  going =
      next (option_with c.args.cx.profile) _ (options_of c.options.options) (options_of c.in_ok-options.options) (left c.options.parser) (left c.read_option.new.parser) c.options.invariant.going (sym c.is_over.ensures ∙ c.options-test.true) c.in_ok-options.ensures.read
      (option_shorter c.args.cx.profile (options_of c.options.options) (options_of c.in_ok-options.options) (left c.options.parser) (left c.read_option.new.parser) c.in_ok-options.ensures.read);
  later = c.in_ok-options.ensures.later ∙ c.options.invariant.later;
}

pub returns-clause-read : goal.returns-clause-read
returns-clause-read c = ended (option_with c.args.cx.profile) _ (options_of c.options.options) (left c.options.parser) c.options.invariant.going (sym c.is_over.ensures ∙ c.options-test.false)
