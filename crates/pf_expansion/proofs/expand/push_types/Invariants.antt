use Rattle.std.proofs.Common.{◌≡◌, ◌++◌, drop, map, Some}
use Rattle.std.specs.List.{flat_map}
use Rattle.pf_expansion.specs.inner.Chosen.{combination_of, given_by}
use Rattle.pf_expansion.specs.Expansion.{conditions_at, by_type}
use Rattle.pf_statements.specs.ConditionsSeen.{conditions_of}
use Rattle.pf_expansion.proofs.expand.push_types.Given as goal

-- what is left comes behind those so far
abbrev pub invariant-loop-icmp_type : goal.invariant-loop-icmp_type
invariant-loop-icmp_type l =
    l.found.items ++ flat_map (λ x. conditions_at l.next.test (conditions_of l.next.text.now) (record (combination_of l.next) { icmp_type = x })) (map (λ x. Some x) (drop l.icmp_type-index l.icmp_type-items))
    ≡ l.fn.found.items ++ given_by by_type l.chosen
