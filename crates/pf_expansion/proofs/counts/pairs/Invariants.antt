use Rattle.std.proofs.Common.{◌≡◌, ◌+◌, ◌-◌, ◌^◌, ◌≤◌, drop, min}
use Rattle.pf_statements.specs.ConditionsSeen.{conditions_of}
use Rattle.pf_expansion.specs.inner.Counts.{pairs_from}
use Rattle.pf_expansion.proofs.counts.pairs.Given as goal

-- what is left is counted behind what was counted, up to the cap
abbrev pub invariant-loop-source : goal.invariant-loop-source
invariant-loop-source l = record {
  counted : min (l.count + pairs_from (conditions_of l.text) (drop l.source-index l.source-items)) (2 ^ 64 - 1)
      ≡ min (pairs_from (conditions_of l.text) (conditions_of l.text).common.source.hosts.items) (2 ^ 64 - 1);
  fits : l.count ≤ 2 ^ 64 - 1;
}
