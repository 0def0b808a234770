use Rattle.std.proofs.Common.{◌≡◌, ◌≤◌, ◌++◌, length, map, drop}
use Rattle.pf_rules.specs.Seen.{rule_of}
use Rattle.pf_config.specs.Orders.{may_stop, candidates}
use Rattle.pf_config.proofs.order.stops_of.Given as goal

-- behind those that were found stand those of the rules that are left
abbrev pub invariant-loop-index : goal.invariant-loop-index
invariant-loop-index l = record {
  rest : l.found.items ++ candidates may_stop l.index (map rule_of (drop l.index l.items)) ≡ candidates may_stop 0 (map rule_of l.items);
  few : length l.items ≤ 1024;
}
