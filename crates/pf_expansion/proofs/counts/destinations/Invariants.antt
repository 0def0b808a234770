use Rattle.std.proofs.Common.{◌≡◌, ◌+◌, ◌≤◌, drop}
use Rattle.pf_statements.specs.ConditionsSeen.{conditions_of}
use Rattle.pf_expansion.specs.inner.Counts.{is_of_one, count_hosts}
use Rattle.pf_expansion.proofs.counts.destinations.Given as goal

abbrev pub invariant-loop-destination : goal.invariant-loop-destination
invariant-loop-destination l = record {
  counted : l.count + count_hosts (is_of_one (conditions_of l.text) l.source) (drop l.destination-index l.destination-items)
      ≡ count_hosts (is_of_one (conditions_of l.text) l.source) (conditions_of l.text).common.destination.hosts.items;
  few : l.count ≤ l.destination-index;
}
