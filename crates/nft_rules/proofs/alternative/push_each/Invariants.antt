use Rattle.std.proofs.Common.{◌≡◌, ◌++◌, map, drop}
use Rattle.std.specs.List.{flat_map}
use Rattle.nft_rules.specs.Alternatives.{joined}
use Rattle.nft_rules.specs.inner.Asked.{alternative_of}
use Rattle.nft_rules.proofs.alternative.push_each.Given as goal

abbrev pub invariant-loop-other : goal.invariant-loop-other
invariant-loop-other l = map alternative_of l.all.items ++ flat_map (joined (alternative_of l.fn.one)) (map alternative_of (drop l.other-index l.others)) ≡ map alternative_of l.fn.all.items ++ flat_map (joined (alternative_of l.fn.one)) (map alternative_of l.fn.others)
