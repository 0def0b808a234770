use Rattle.std.proofs.Common.{◌≡◌, ◌≤◌}
use Rattle.px_model.specs.Step.{count}
use Rattle.px_core.specs.Seen.{counted_of}
use Rattle.px_core.proofs.proposing.majority.Given as goal

abbrev pub invariant-loop-member : goal.invariant-loop-member
invariant-loop-member l = record {
  counted : l.votes ≡ count l.member (counted_of l.counted);
  few : l.votes ≤ l.member;
}
