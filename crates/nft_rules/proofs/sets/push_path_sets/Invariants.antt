use Rattle.std.proofs.Common.{◌≡◌, ◌++◌, map, drop}
use Rattle.std.specs.List.{flat_map}
use Rattle.nft_rules.specs.Rendering.{table_sets, path_sets}
use Rattle.nft_rules.specs.Seen.{named_set_of}
use Rattle.nft_rules.proofs.sets.push_path_sets.Given as goal

abbrev pub invariant-loop-table : goal.invariant-loop-table
invariant-loop-table l = map named_set_of l.sets.items ++ flat_map (table_sets l.fn.place.config.now l.fn.place.path.now) (map (λ t. t.now) (drop l.table-index l.table-items))
    ≡ map named_set_of l.fn.sets.items ++ path_sets l.fn.place.config.now l.fn.place.path.now
