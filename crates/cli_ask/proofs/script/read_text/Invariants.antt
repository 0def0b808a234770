use Rattle.std.proofs.Common.{◌≡◌, ◌≤◌, Some, length}
use Rattle.cli_ask.specs.Scripts.{items_left, change_value}
use Rattle.cli_ask.proofs.script.read_text.Given as goal

-- the lines so far are in the text
abbrev pub invariant-loop-line : goal.invariant-loop-line
invariant-loop-line l = record {
  same : items_left l.fn.left (Some (change_value l.fn.change)) ≡ items_left l.left (Some (change_value l.change));
  less : length l.left.bytes.now ≤ length l.fn.left.bytes.now;
}

abbrev pub decreases-loop-line : goal.decreases-loop-line
decreases-loop-line l = length l.left.bytes.now
