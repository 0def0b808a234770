-- What the code's items stand for.
use Rattle.std.specs.Prelude.{List, map, Option, Some, None, option_map}
use Rattle.pf_rules.specs.declared.item.Target as target
use Rattle.pf_rules.specs.declared.item.AnchorHeading.{AnchorHeading}
use Rattle.pf_rules.specs.declared.item.Item.{Item, fold-Item}
use Rattle.pf_rules.specs.declared.item.Item.TheOpen.{Item-F}
use Rattle.pf_rules.specs.declared.item.AnchorRule.{AnchorRule-F}
use Rattle.pf_rules.specs.Items.{Target, Heading, AnyRule, ItemValue, Filters, Anchors, Blocks, values_of}
use Rattle.pf_rules.specs.Items.{rule_in}

-- the target of an anchor rule that a value in code stands for
abbrev pub target_of : target.Target → Target
target_of t = record { names = t.names.items; children = t.children }

-- the anchor rule, without its block, that a heading in code stands for
abbrev pub heading_of : AnchorHeading → Heading
heading_of h = record { target = target_of h.target; quick = h.quick; conditions = h.conditions }

-- the anchor rule with the items of its block, if it carries one
abbrev pub with_block : Heading → Option (List ItemValue) → ItemValue
with_block h None = Anchors h
with_block h (Some items) = Blocks h (values_of items)

-- one level, with each rule inside already seen as its value
abbrev pub item_step : Item-F ItemValue ItemValue → ItemValue
item_step (Item-F.Filter rule) = Filters rule
item_step (Item-F.Anchor a) = a

-- an anchor rule, with each rule in its block already seen as its value
abbrev pub anchor_step : AnchorRule-F ItemValue ItemValue → ItemValue
anchor_step a = with_block (heading_of a.heading) (option_map (λ v. v.value.items) a.block)

-- the rule, with its block if it carries one, that an item in code stands for
abbrev pub item_of : Item → ItemValue
item_of = fold-Item ItemValue ItemValue item_step anchor_step

-- the rules that a list of items in code stands for, in order
abbrev pub items_of : List Item → List ItemValue
items_of items = map item_of items

-- the rule without its block
abbrev pub rule_of : Item → AnyRule
rule_of item = rule_in (item_of item)
