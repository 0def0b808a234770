use Rattle.std.proofs.Common.{◌≡◌, ◌++◌, None, length, option_map}
use Rattle.pf_command.specs.Effect.{empty}
use Rattle.pf_scripts.specs.Lines.{lines}
use Rattle.pf_scripts.specs.Ctl.{printed_from}
use Rattle.pf_scripts.specs.Seen.{printed_values}
use Rattle.pf_scripts.specs.inner.Seen.{waiting_of}
use Rattle.pf_scripts.proofs.running.ctl.Given as goal

-- what is printed so far, and then what the lines that are left print
abbrev pub invariant-loop-line : goal.invariant-loop-line
invariant-loop-line l = printed_values l.out.items ++ printed_from l.config (option_map waiting_of l.waiting) (lines l.left) ≡ printed_from empty None (lines l.script)

abbrev pub decreases-loop-line : goal.decreases-loop-line
decreases-loop-line l = length l.left
