use Rattle.std.proofs.Common.{◌≡◌, ◌++◌, map, drop}
use Rattle.std.specs.List.{flat_map}
use Rattle.nft_rules.specs.Rendering.{path_sets}
use Rattle.nft_rules.specs.Seen.{named_set_of}
use Rattle.nft_rules.proofs.sets.sets_of.Given as goal

abbrev pub invariant-loop-path : goal.invariant-loop-path
invariant-loop-path l = map named_set_of l.sets.items ++ flat_map (path_sets l.fn.place.config.now) (map (λ p. p.now) (drop l.path-index l.paths))
    ≡ flat_map (path_sets l.fn.place.config.now) (map (λ p. p.now) l.fn.paths)
