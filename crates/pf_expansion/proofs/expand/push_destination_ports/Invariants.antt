use Rattle.std.proofs.Common.{◌≡◌, ◌++◌, drop, map, Some}
use Rattle.std.specs.List.{flat_map}
use Rattle.pf_expansion.specs.inner.Chosen.{combination_of, given_by}
use Rattle.pf_expansion.specs.Expansion.{by_type, by_destination_port}
use Rattle.pf_statements.specs.ConditionsSeen.{conditions_of}
use Rattle.pf_expansion.proofs.expand.push_destination_ports.Given as goal

-- what is left comes behind those so far
abbrev pub invariant-loop-destination_port : goal.invariant-loop-destination_port
invariant-loop-destination_port l =
    l.found.items ++ flat_map (λ x. by_type l.next.test (conditions_of l.next.text.now) (record (combination_of l.next) { destination_port = x })) (map (λ x. Some x) (drop l.destination_port-index l.destination_port-items))
    ≡ l.fn.found.items ++ given_by by_destination_port l.chosen
