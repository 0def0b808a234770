use Rattle.std.proofs.Common.{◌≡◌, false, drop, map}
use Rattle.clap.specs.Words.{app_of}
use Rattle.clap.specs.declared.builder.command.Command.TheViews.{out-Command}
use Rattle.cli_io.specs.Options.{rule_by, with_rules}
use Rattle.cli_io.proofs.options.with_options.Given as goal

-- the rules of the arguments that are left lead to the same command
abbrev pub invariant-loop-argument : goal.invariant-loop-argument
invariant-loop-argument l = record {
  same : with_rules (app_of l.command) (map rule_by (drop l.argument-index l.arguments)) ≡ with_rules (app_of l.fn.command) (map rule_by l.arguments);
  local : (out-Command l.command).has_globals ≡ false;
}
