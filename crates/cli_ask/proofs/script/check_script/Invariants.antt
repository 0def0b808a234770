use Rattle.std.proofs.Common.{◌≡◌, None, length}
use Rattle.cli_ask.specs.Scripts.{items_left, items_in, script_refusal}
use Rattle.cli_ask.proofs.script.check_script.Given as goal

-- the changes so far aren't refused
abbrev pub invariant-loop-change : goal.invariant-loop-change
invariant-loop-change l = script_refusal l.from (items_left l.left None) ≡ script_refusal l.from (items_in l.bytes)

abbrev pub decreases-loop-change : goal.decreases-loop-change
decreases-loop-change l = length l.left.bytes.now
