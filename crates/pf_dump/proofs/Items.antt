-- Rules that are said in the same way.
use Rattle.std.proofs.Common.{◌≡◌, List, Option, Some, None, refl, sym, ap, ◌∙◌}
use Rattle.std.specs.Prelude.{option_map}
use Rattle.pf_rules.specs.declared.rule.Rule.{Rule}
use Rattle.pf_rules.specs.declared.item.AnchorRule as anchored
use Rattle.pf_rules.specs.declared.item.Item as item
use Rattle.pf_rules.specs.declared.item.Item.{Item}
use Rattle.pf_rules.specs.Items.{Heading, AnchorRule, ItemValue, rule_in}
use Rattle.pf_rules.specs.Seen.{rule_of, heading_of, items_of, with_block}
use Rattle.pf_rules.proofs.Carried.{anchor_is}

head_only : (h : Heading) (o : Option (List ItemValue)) → rule_in (with_block h o) ≡ AnchorRule h
head_only h None = refl
head_only h (Some items) = refl

pub anchor_rule : (a : anchored.AnchorRule) → rule_of (item.Anchor a) ≡ AnchorRule (heading_of a.heading)
anchor_rule a = ap rule_in (anchor_is a) ∙ head_only (heading_of a.heading) (option_map (λ v. items_of v.value.items) a.block)

pub same_filters : (x y : Item) (a b : Rule) → x ≡ item.Filter a → y ≡ item.Filter b → a ≡ b → rule_of x ≡ rule_of y
same_filters x y a b e f s = ap rule_of (e ∙ ap item.Filter s ∙ sym f)

pub same_anchors : (x y : Item) (a b : anchored.AnchorRule) → x ≡ item.Anchor a → y ≡ item.Anchor b →
    heading_of a.heading ≡ heading_of b.heading → rule_of x ≡ rule_of y
same_anchors x y a b e f s = ap rule_of e ∙ anchor_rule a ∙ ap AnchorRule s ∙ sym (ap rule_of f ∙ anchor_rule b)
