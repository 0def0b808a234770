use Rattle.std.proofs.Common.{◌≡◌, suc, length}
use Rattle.pf_tokens.specs.Parsing.{left, later}
use Rattle.pf_statements.specs.Statements.{no_options, option_with, options_at}
use Rattle.pf_statements.specs.inner.Seen.{options_of}
use Rattle.pf_statements.proofs.OverSteps.{Going}
use Rattle.pf_statements.proofs.options.read_options.Given as goal

abbrev pub invariant-options : goal.invariant-options
invariant-options l = record {
  going : Going (option_with l.fn.cx.profile) (options_at (suc (length (left l.fn.parser))) l.fn.cx.profile no_options (left l.fn.parser)) (options_of l.options) (left l.parser);
  later : later l.parser ≡ later l.fn.parser;
}

abbrev pub decreases-options : goal.decreases-options
decreases-options l = length (left l.parser)
