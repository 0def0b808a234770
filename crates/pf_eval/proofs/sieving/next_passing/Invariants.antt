use Rattle.std.proofs.Common.{◌≤◌, length, ◌-◌}
use Rattle.pf_eval.specs.inner.Searching.{Skips}
use Rattle.pf_eval.proofs.sieving.next_passing.Given as goal

abbrev pub invariant-loop-at : goal.invariant-loop-at
invariant-loop-at l = record {
  past : l.from ≤ l.left;
  skipped : Skips l.candidates l.key l.from l.left;
}

abbrev pub decreases-loop-at : goal.decreases-loop-at
decreases-loop-at l = length l.candidates - l.left
