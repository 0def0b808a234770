use Rattle.std.proofs.Common.{List, sym, ap, ◌∙◌}
use Rattle.pf_rules.specs.Items.{Target}
use Rattle.pf_statements.specs.declared.written.WrittenItem.{WrittenItem}
use Rattle.pf_statements.specs.Statements.{ItemText, BlockItem}
use Rattle.pf_statements.specs.Seen.{heading_text_of, item_text_of, item_texts_of}
use Rattle.pf_expansion.specs.Blocks.{Path, block_paths, item_paths}
use Rattle.pf_expansion.proofs.Numbering.{numbered_none, numbered_more, numbered_empty, numbered_block, next_paths, rule_text, anchor_text, block_text}
use Rattle.pf_expansion.proofs.block_paths.+paths.Goals as goal

pub push_block_paths-loop-item-init : goal.push_block_paths-loop-item-init
push_block_paths-loop-item-init t c =
    numbered_none c.args.numbers.now.steps c.args.from c.args.numbers.now.found.items (λ (path : Path). block_paths path 0 (item_texts_of c.args.items.now))

pub push_block_paths-loop-item-preserved : goal.push_block_paths-loop-item-preserved
push_block_paths-loop-item-preserved t c =
    numbered_more c.args.numbers.now.steps c.loop-item.numbers.steps c.push_item_paths.new.numbers.steps c.args.from c.args.numbers.now.found.items c.loop-item.numbers.found.items c.push_item_paths.new.numbers.found.items
    _ (λ (path : Path). item_paths path c.loop-item.unnamed (item_text_of c.item-item.result)) _ _
    c.loop-item.invariant c.in_ok-push_item_paths.ensures
    (next_paths c.args.items.now c.loop-item.item-index c.item-item.result c.loop-item.unnamed c.unnamed_after-unnamed.result c.loop-item-test.true c.item-item.is c.unnamed_after-unnamed.ensures)

pub push_item_paths-returns-in_ok-push-in-Block : goal.push_item_paths-returns-in_ok-push-in-Block
push_item_paths-returns-in_ok-push-in-Block t c =
    numbered_block c.args.numbers.now.steps c.push_walk.new.self.steps c.push_block_paths.new.numbers.steps c.args.from c.in_ok-at-in-Block.at c.args.unnamed c.deref.result.now c.args.numbers.now.found.items c.push_block_paths.new.numbers.found.items c.push.new.self.items
    (heading_text_of c.in-Block.heading) (item_texts_of c.deref-in-Block.result.now) (λ (path : Path). item_paths path c.args.unnamed (item_text_of c.args.item.now))
    (c.deref.ensures.value ∙ ap (λ (t : Target). t.names) c.in_ok-target-in-Block.ensures)
    (λ path. ap (λ (i : ItemText). item_paths path c.args.unnamed i) (ap item_text_of c.in-Block.is ∙ block_text c.in-Block.heading c.in-Block.items) ∙ ap (λ (is : List WrittenItem). item_paths path c.args.unnamed (BlockItem (heading_text_of c.in-Block.heading) (item_texts_of is))) (sym c.deref-in-Block.ensures.value))
    c.in_ok-at-in-Block.ensures.grows c.in_ok-at-in-Block.ensures.found (rw c.in_ok-at-in-Block.ensures.kept at c.in_ok-push_block_paths-in-Block.ensures) c.in_ok-push-in-Block.ensures.items

pub push_item_paths-returns-in-Rule : goal.push_item_paths-returns-in-Rule
push_item_paths-returns-in-Rule t c =
    numbered_empty c.args.numbers.now.steps c.args.from c.args.numbers.now.found.items (λ (path : Path). item_paths path c.args.unnamed (item_text_of c.args.item.now))
    (λ path. ap (λ (i : ItemText). item_paths path c.args.unnamed i) (ap item_text_of c.in-Rule.is ∙ rule_text c.in-Rule.field-0))

pub push_item_paths-returns-in-Anchor : goal.push_item_paths-returns-in-Anchor
push_item_paths-returns-in-Anchor t c =
    numbered_empty c.args.numbers.now.steps c.args.from c.args.numbers.now.found.items (λ (path : Path). item_paths path c.args.unnamed (item_text_of c.args.item.now))
    (λ path. ap (λ (i : ItemText). item_paths path c.args.unnamed i) (ap item_text_of c.in-Anchor.is ∙ anchor_text c.in-Anchor.field-0))
