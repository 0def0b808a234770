use Rattle.std.proofs.Common.{◌≡◌, ◌++◌, map, drop}
use Rattle.std.specs.List.{flat_map}
use Rattle.nft_rules.specs.Alternatives.{joined}
use Rattle.nft_rules.specs.inner.Asked.{alternative_of}
use Rattle.nft_rules.proofs.alternative.both.Given as goal

abbrev pub invariant-loop-one : goal.invariant-loop-one
invariant-loop-one l = map alternative_of l.all.items ++ flat_map (λ a. flat_map (joined a) (map alternative_of l.fn.those)) (map alternative_of (drop l.one-index l.one-items)) ≡ flat_map (λ a. flat_map (joined a) (map alternative_of l.fn.those)) (map alternative_of l.fn.these.items)
