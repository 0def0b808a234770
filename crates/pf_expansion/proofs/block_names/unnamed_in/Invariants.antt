use Rattle.std.proofs.Common.{◌≡◌, drop}
use Rattle.pf_rules.specs.Seen.{items_of}
use Rattle.pf_expansion.specs.Blocks.{unnamed_in}
use Rattle.pf_expansion.proofs.block_names.unnamed_in.Given as goal

abbrev pub invariant-loop-item : goal.invariant-loop-item
invariant-loop-item l = unnamed_in 0 (items_of l.fn.items) ≡ unnamed_in l.unnamed (items_of (drop l.item-index l.items))
