use Rattle.std.proofs.Common.{◌≡◌, ◌++◌, drop, map, Some}
use Rattle.std.specs.List.{flat_map}
use Rattle.pf_expansion.specs.inner.Chosen.{combination_of, given_by}
use Rattle.pf_expansion.specs.Expansion.{by_destination, by_source_port}
use Rattle.pf_statements.specs.ConditionsSeen.{conditions_of}
use Rattle.pf_expansion.proofs.expand.push_source_ports.Given as goal

-- what is left comes behind those so far
abbrev pub invariant-loop-source_port : goal.invariant-loop-source_port
invariant-loop-source_port l =
    l.found.items ++ flat_map (λ x. by_destination l.next.test (conditions_of l.next.text.now) (record (combination_of l.next) { source_port = x })) (map (λ x. Some x) (drop l.source_port-index l.source_port-items))
    ≡ l.fn.found.items ++ given_by by_source_port l.chosen
