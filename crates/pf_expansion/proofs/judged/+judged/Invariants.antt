use Rattle.std.proofs.Common.{◌≡◌, drop}
use Rattle.pf_statements.specs.Seen.{item_texts_of}
use Rattle.pf_expansion.specs.Blocks.{block_judged, nothing_wrong}
use Rattle.pf_expansion.proofs.judged.+judged.Given as goal

abbrev pub invariant-items_judged-loop-item : goal.invariant-items_judged-loop-item
invariant-items_judged-loop-item l = block_judged nothing_wrong (item_texts_of l.fn.items) ≡ block_judged l.judged (item_texts_of (drop l.item-index l.items))
