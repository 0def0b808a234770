use Rattle.std.proofs.Common.{◌≡◌, ◌-◌, Some}
use Rattle.cli_ask.specs.Asking.{behind_lines, left_by}
use Rattle.cli_ask.specs.Calls.{call_value}
use Rattle.cli_ask.specs.Replies.{reply_value}
use Rattle.cli_ask.proofs.verdicts.left_by.Given as goal

-- as many fewer lines are left as there are fewer to go
abbrev pub invariant-loop-line : goal.invariant-loop-line
invariant-loop-line l = behind_lines (l.count - l._line) l.left ≡ left_by (Some (reply_value l.so_far)) (call_value l.call).body
