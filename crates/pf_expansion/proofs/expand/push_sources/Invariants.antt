use Rattle.std.proofs.Common.{◌≡◌, ◌++◌, drop}
use Rattle.std.specs.List.{flat_map}
use Rattle.pf_expansion.specs.inner.Chosen.{combination_of, given_by}
use Rattle.pf_expansion.specs.Expansion.{by_source_port, by_source}
use Rattle.pf_statements.specs.ConditionsSeen.{conditions_of}
use Rattle.pf_expansion.proofs.expand.push_sources.Given as goal

-- what is left comes behind those so far
abbrev pub invariant-loop-source : goal.invariant-loop-source
invariant-loop-source l =
    l.found.items ++ flat_map (λ x. by_source_port l.next.test (conditions_of l.next.text.now) (record (combination_of l.next) { source = x })) (drop l.source-index l.source-items)
    ≡ l.fn.found.items ++ given_by by_source l.chosen
