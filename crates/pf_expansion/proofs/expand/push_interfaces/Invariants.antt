use Rattle.std.proofs.Common.{◌≡◌, ◌++◌, drop, map, Some}
use Rattle.std.specs.List.{flat_map}
use Rattle.pf_expansion.specs.inner.Chosen.{combination_of, given_by}
use Rattle.pf_expansion.specs.Expansion.{by_protocol, by_interface}
use Rattle.pf_statements.specs.ConditionsSeen.{conditions_of}
use Rattle.pf_expansion.proofs.expand.push_interfaces.Given as goal

-- what is left comes behind those so far
abbrev pub invariant-loop-interface : goal.invariant-loop-interface
invariant-loop-interface l =
    l.found.items ++ flat_map (λ x. by_protocol l.next.test (conditions_of l.next.text.now) (record (combination_of l.next) { interface = x })) (map (λ x. Some x) (drop l.interface-index l.interface-items))
    ≡ l.fn.found.items ++ given_by by_interface l.chosen
