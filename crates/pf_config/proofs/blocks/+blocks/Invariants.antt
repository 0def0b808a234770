use Rattle.std.proofs.Common.{◌≡◌, ◌++◌, false, drop}
use Rattle.std.specs.List.{list_any}
use Rattle.pf_rules.specs.Items.{values_of}
use Rattle.pf_rules.specs.inner.Items.{is_overfull}
use Rattle.pf_rules.specs.Seen.{items_of}
use Rattle.pf_config.specs.Changes.{blocks_in}
use Rattle.pf_config.proofs.blocks.+blocks.Given as goal

-- the blocks of the rules that are left come behind those found
abbrev pub invariant-put_blocks-loop-item : goal.invariant-put_blocks-loop-item
invariant-put_blocks-loop-item l = record {
  rest : l.found.items ++ blocks_in l.path (values_of (items_of (drop l.item-index l.items))) ≡ l.fn.found.items ++ blocks_in l.path (values_of (items_of l.items));
  few : list_any is_overfull (items_of (drop l.item-index l.items)) ≡ false;
}
