use Rattle.std.proofs.Common.{◌≡◌, ◌++◌, drop}
use Rattle.pf_rules.specs.Seen.{items_of}
use Rattle.pf_statements.specs.Seen.{item_texts_of}
use Rattle.pf_expansion.specs.Blocks.{block_values}
use Rattle.pf_expansion.proofs.blocks.+values.Given as goal

-- the rules so far and those of what is left are all
abbrev pub invariant-block_items-loop-item : goal.invariant-block_items-loop-item
invariant-block_items-loop-item l =
    block_values l.fn.policy 0 (item_texts_of l.fn.items) ≡ items_of l.found.items ++ block_values l.fn.policy l.unnamed (item_texts_of (drop l.item-index l.items))
