use Rattle.std.proofs.Common.{◌≡◌, [], Some, drop}
use Rattle.std.specs.List.{list_any}
use Rattle.pf_rules.specs.Items.{values_of}
use Rattle.pf_rules.specs.Seen.{items_of}
use Rattle.pf_expansion.specs.Blocks.{paths_within}
use Rattle.pf_expansion.specs.inner.Numbers.{is_marked}
use Rattle.pf_expansion.proofs.block_paths.+values.Given as goal

-- looked for among the rules that are left
abbrev pub invariant-any_in-loop-item : goal.invariant-any_in-loop-item
invariant-any_in-loop-item l =
    list_any (is_marked l.fn.numbers.steps l.fn.set (Some l.fn.from)) (paths_within [] (values_of (items_of l.fn.items))) ≡ list_any (is_marked l.fn.numbers.steps l.fn.set (Some l.fn.from)) (paths_within [] (values_of (items_of (drop l.item-index l.items))))
