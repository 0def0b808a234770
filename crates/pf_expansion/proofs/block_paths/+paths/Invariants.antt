use Rattle.std.proofs.Common.{drop}
use Rattle.pf_statements.specs.Seen.{item_texts_of}
use Rattle.pf_expansion.specs.Blocks.{Path, block_paths}
use Rattle.pf_expansion.specs.inner.Numbers.{AreNumbered}
use Rattle.pf_expansion.proofs.block_paths.+paths.Given as goal

-- the paths that are left are those of the rules that are left
abbrev pub invariant-push_block_paths-loop-item : goal.invariant-push_block_paths-loop-item
invariant-push_block_paths-loop-item l =
    AreNumbered l.initial.numbers.steps l.numbers.steps l.fn.from l.initial.numbers.found.items l.numbers.found.items (λ (path : Path). block_paths path 0 (item_texts_of l.fn.items)) (λ (path : Path). block_paths path l.unnamed (item_texts_of (drop l.item-index l.items)))
