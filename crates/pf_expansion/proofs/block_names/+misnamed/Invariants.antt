use Rattle.std.proofs.Common.{◌≡◌, drop}
use Rattle.pf_statements.specs.Seen.{item_texts_of}
use Rattle.pf_expansion.specs.Blocks.{block_misnamed}
use Rattle.pf_expansion.proofs.block_names.+misnamed.Given as goal

abbrev pub invariant-items_misnamed-loop-item : goal.invariant-items_misnamed-loop-item
invariant-items_misnamed-loop-item l = block_misnamed 0 (item_texts_of l.fn.items) ≡ block_misnamed l.unnamed (item_texts_of (drop l.item-index l.items))
