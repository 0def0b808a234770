use Rattle.std.proofs.Common.{◌≡◌, ◌≤◌, None, length}
use Rattle.cli_ask.specs.Scripts.{items_left}
use Rattle.cli_ask.proofs.script.next_change.Given as goal

-- the lines so far are empty
abbrev pub invariant-loop-first : goal.invariant-loop-first
invariant-loop-first l = record {
  same : items_left l.fn.left None ≡ items_left l.left None;
  less : length l.left.bytes.now ≤ length l.fn.left.bytes.now;
}

abbrev pub decreases-loop-first : goal.decreases-loop-first
decreases-loop-first l = length l.left.bytes.now
