-- What an anchor rule stands for, by its block.
use Rattle.std.proofs.Common.{rules, ◌≡◌, Option, Some, None, Vec, Global}
use Rattle.std.specs.Prelude.{option_map}
use Rattle.std.specs.declared.rc.Rc.{Rc}
use Rattle.pf_rules.specs.declared.item.AnchorHeading.{AnchorHeading}
use Rattle.pf_rules.specs.declared.item.AnchorRule.{AnchorRule}
use Rattle.pf_rules.specs.declared.item.Item.{Item, Anchor, the_lemmas}
use Rattle.pf_rules.specs.Seen.{heading_of, item_of, items_of, with_block}

abbrev anchored : AnchorHeading → Option (Rc (Vec Item Global) Global) → AnchorRule
anchored h o = record { heading = h; block = o }

carried : (h : AnchorHeading) (o : Option (Rc (Vec Item Global) Global)) → item_of (Anchor (anchored h o)) ≡ with_block (heading_of h) (option_map (λ v. items_of v.value.items) o)
carried h None = search (rules, the_lemmas)
carried h (Some v) = search (rules, the_lemmas)

pub anchor_is : (a : AnchorRule) → item_of (Anchor a) ≡ with_block (heading_of a.heading) (option_map (λ v. items_of v.value.items) a.block)
anchor_is a = carried a.heading a.block
