use Rattle.std.proofs.Common.{◌≡◌, ◌++◌, drop}
use Rattle.std.specs.List.{flat_map}
use Rattle.pf_expansion.specs.inner.Chosen.{combination_of, given_by}
use Rattle.pf_expansion.specs.Expansion.{by_destination_port, by_destination}
use Rattle.pf_statements.specs.ConditionsSeen.{conditions_of}
use Rattle.pf_expansion.proofs.expand.push_destinations.Given as goal

-- what is left comes behind those so far
abbrev pub invariant-loop-destination : goal.invariant-loop-destination
invariant-loop-destination l =
    l.found.items ++ flat_map (λ x. by_destination_port l.next.test (conditions_of l.next.text.now) (record (combination_of l.next) { destination = x })) (drop l.destination-index l.destination-items)
    ≡ l.fn.found.items ++ given_by by_destination l.chosen
