use Rattle.std.proofs.Common.{rules, ◌≡◌, ap, ◌∙◌, sym, refl, ◌++◌, string_bytes}
use Rattle.std.specs.Prelude.{option_map}
use Rattle.pf_rules.specs.Items.{Blocks, values_of}
use Rattle.pf_rules.specs.Seen.{heading_of, item_of, items_of, with_block}
use Rattle.pf_rules.proofs.Carried.{anchor_is}
use Rattle.pf_show.specs.Shown.{shown_item}
use Rattle.pf_show.proofs.Anchors.{block_text_is}
use Rattle.pf_show.proofs.items.+text.Goals as goal

pub push_item-returns-in-Some : goal.push_item-returns-in-Some
push_item-returns-in-Some t c =
    let heading = heading_of c.in-Anchor.anchor.heading in
    let items : c.as_slice.result.now ≡ c.in-Some.block.value.items = search rules in
    let is : item_of c.args.item.now ≡ Blocks heading (values_of (items_of c.as_slice.result.now)) =
    ap item_of c.in-Anchor.is ∙ anchor_is c.in-Anchor.anchor ∙ ap (λ o. with_block heading (option_map (λ v. items_of v.value.items) o)) c.in-Some.is
    ∙ ap (λ xs. Blocks heading (values_of (items_of xs))) (search rules) in
    rw (ap shown_item is, block_text_is heading c.as_slice.result.now) c.push_block.ensures
