use Rattle.std.proofs.Common.{◌≡◌, drop}
use Rattle.pf_rules.specs.Items.{values_of}
use Rattle.pf_rules.specs.Seen.{items_of}
use Rattle.pf_config.specs.inner.Depths.{any_deep}
use Rattle.pf_config.proofs.depths.+depths.Given as goal

-- a block is too deep if one of those that are left is
abbrev pub invariant-any_deep-loop-item : goal.invariant-any_deep-loop-item
invariant-any_deep-loop-item l = any_deep l.names (values_of (items_of (drop l.item-index l.items))) ≡ any_deep l.names (values_of (items_of l.items))
