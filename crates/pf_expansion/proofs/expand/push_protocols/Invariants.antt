use Rattle.std.proofs.Common.{◌≡◌, ◌++◌, drop, map, Some}
use Rattle.std.specs.List.{flat_map}
use Rattle.pf_expansion.specs.inner.Chosen.{combination_of, given_by}
use Rattle.pf_expansion.specs.Expansion.{by_source, by_protocol}
use Rattle.pf_statements.specs.ConditionsSeen.{conditions_of}
use Rattle.pf_expansion.proofs.expand.push_protocols.Given as goal

-- what is left comes behind those so far
abbrev pub invariant-loop-protocol : goal.invariant-loop-protocol
invariant-loop-protocol l =
    l.found.items ++ flat_map (λ x. by_source l.next.test (conditions_of l.next.text.now) (record (combination_of l.next) { protocol = x })) (map (λ x. Some x) (drop l.protocol-index l.protocol-items))
    ≡ l.fn.found.items ++ given_by by_protocol l.chosen
