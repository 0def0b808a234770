use Rattle.std.proofs.Common.{◌≡◌, drop, map}
use Rattle.clap.specs.Words.{app_of}
use Rattle.pf_tool.specs.Options.{with_named}
use Rattle.pf_tool.proofs.options.with_named.Given as goal

-- the names that are left lead to the same program
abbrev pub invariant-loop-subcommand : goal.invariant-loop-subcommand
invariant-loop-subcommand l = with_named (app_of l.command) (map (λ s. s.0.now) (drop l.subcommand-index l.subcommands)) ≡ with_named (app_of l.fn.command) (map (λ s. s.0.now) l.subcommands)
