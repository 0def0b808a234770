-- What is asked of an item to place it is asked of its rule.
use Rattle.std.proofs.Common.{◌≡◌, true, Option, Some, None, List, refl, sym, ap, ◌∙◌, rules}
use Rattle.std.specs.Prelude.{not, option_map}
use Rattle.pf_rules.specs.Items.{FilterRule, AnchorRule, Heading, rule_in}
use Rattle.pf_rules.specs.declared.rule.Rule.{Rule}
use Rattle.pf_rules.specs.declared.item.AnchorRule as anchored
use Rattle.pf_rules.specs.declared.item.Item as item
use Rattle.pf_rules.specs.declared.item.Item.{Item}
use Rattle.pf_rules.specs.Seen.{heading_of, items_of, rule_of, with_block}
use Rattle.pf_rules.proofs.Carried.{anchor_is}
use Rattle.pf_config.specs.Orders.{may_stop, is_other}

filter_rule : (r : Rule) → rule_of (item.Filter r) ≡ FilterRule r
filter_rule r = search (rules, item.the_lemmas)

head_only : (h : Heading) (o : Option (List _)) → rule_in (with_block h o) ≡ AnchorRule h
head_only h None = refl
head_only h (Some items) = refl

anchor_rule : (a : anchored.AnchorRule) → rule_of (item.Anchor a) ≡ AnchorRule (heading_of a.heading)
anchor_rule a = ap rule_in (anchor_is a) ∙ head_only (heading_of a.heading) (option_map (λ v. items_of v.value.items) a.block)

pub filter_stops : (r : Rule) (x : Item) → x ≡ item.Filter r → r.quick ≡ may_stop (rule_of x)
filter_stops r x is = sym (ap may_stop (ap rule_of is ∙ filter_rule r))

pub anchor_stops : (a : anchored.AnchorRule) (x : Item) → x ≡ item.Anchor a → true ≡ may_stop (rule_of x)
anchor_stops a x is = sym (ap may_stop (ap rule_of is ∙ anchor_rule a))

pub filter_other : (r : Rule) (x : Item) → x ≡ item.Filter r → not r.quick ≡ is_other (rule_of x)
filter_other r x is = sym (ap is_other (ap rule_of is ∙ filter_rule r))

pub anchor_other : (a : anchored.AnchorRule) (x : Item) → x ≡ item.Anchor a → not a.heading.quick ≡ is_other (rule_of x)
anchor_other a x is = sym (ap is_other (ap rule_of is ∙ anchor_rule a))
