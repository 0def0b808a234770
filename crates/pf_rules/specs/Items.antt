-- Rules of each kind, as values.
use Rattle.std.specs.Prelude.{Bool, List, [], ◌∷◌}
use Rattle.pf_rules.specs.Names.{Name}
use Rattle.pf_rules.specs.declared.rule.Rule.{Rule}
use Rattle.pf_rules.specs.declared.rule.Conditions.{Conditions}

-- which anchors an anchor rule evaluates, named relative to the anchor that holds the rule: the one at these names,
-- or the children directly attached to it
pub record Target : Type 0 where
  pub names : List Name
  pub children : Bool

-- an anchor rule without the block that it may carry
-- Example: anchor "ftp/*" in quick on em0.
pub record Heading : Type 0 where
  pub target : Target
  pub quick : Bool
  pub conditions : Conditions

-- a rule of any kind
pub data AnyRule : Type 0 where
  FilterRule : (rule : Rule) → AnyRule
  AnchorRule : (heading : Heading) → AnyRule

-- what a packet must be for the rule
abbrev pub conditions_of : AnyRule → Conditions
conditions_of (FilterRule rule) = rule.conditions
conditions_of (AnchorRule heading) = heading.conditions

mutual
  -- a filter rule, an anchor rule without a block, or one with its block
  pub data ItemValue : Type 0 where
    Filters : (rule : Rule) → ItemValue
    Anchors : (heading : Heading) → ItemValue
    Blocks : (heading : Heading) → (block : ItemValues) → ItemValue

  -- items of a block
  pub data ItemValues : Type 0 where
    no_items : ItemValues
    one_more : (item : ItemValue) → (items : ItemValues) → ItemValues

-- the items of a block as a list, in order
abbrev pub list_of : ItemValues → List ItemValue
list_of no_items = []
list_of (one_more item items) = item ∷ list_of items

-- a list of items as those of a block, in order
abbrev pub values_of : List ItemValue → ItemValues
values_of [] = no_items
values_of (item ∷ items) = one_more item (values_of items)

-- the rule without its block
abbrev pub rule_in : ItemValue → AnyRule
rule_in (Filters rule) = FilterRule rule
rule_in (Anchors heading) = AnchorRule heading
rule_in (Blocks heading block) = AnchorRule heading
