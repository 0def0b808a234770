-- What the code's written rules and statements stand for.
use Rattle.std.specs.Prelude.{◌≡◌, List, map, Option, Some, None, option_map, Result, Ok, Err}
use Rattle.pf_tokens.specs.declared.stop.Stop.{Stop}
use Rattle.pf_tokens.specs.declared.stop.Stop.TheVariants as stops
use Rattle.pf_tokens.specs.Lists.{elements_of}
use Rattle.pf_statements.specs.declared.written.WrittenRule.{WrittenRule}
use Rattle.pf_statements.specs.declared.written.Setting as setting
use Rattle.pf_statements.specs.declared.written.Setting.TheVariants as settings
use Rattle.pf_statements.specs.declared.written.Statement as statement
use Rattle.pf_statements.specs.declared.written.Statement.TheVariants as statements
use Rattle.pf_statements.specs.Statements.{RuleText, Setting, SetPolicy, SetSkip, Statement, Sets, Rules}
use Rattle.pf_statements.specs.Statements.{Tables, Anchors, AnchorBlocks, ItemText, RuleItem, AnchorItem, BlockItem}
use Rattle.pf_statements.specs.Statements.{ItemTexts, texts_of}
use Rattle.pf_statements.specs.declared.written.WrittenHeading.{WrittenHeading}
use Rattle.pf_statements.specs.declared.written.WrittenItem.{WrittenItem, fold-WrittenItem}
use Rattle.pf_statements.specs.declared.written.WrittenItem.TheOpen.{WrittenItem-F}
use Rattle.pf_statements.specs.ConditionsSeen.{list_of, conditions_of}
use Rattle.pf_statements.specs.Tables.{TableText}
use Rattle.pf_statements.specs.declared.written.WrittenTable.{WrittenTable}
use Rattle.pf_statements.specs.declared.written.WrittenAnchor.{WrittenAnchor}
use Rattle.pf_statements.specs.Anchors.{AnchorText, HeadingText}
use Rattle.pf_rules.specs.Seen.{target_of}

-- the filter rule as it is written that a value in code stands for
abbrev pub text_of : WrittenRule → RuleText
text_of r = record { action = r.action; quick = r.quick; conditions = conditions_of r.conditions; state = r.state }

-- the same of an anchor rule without a block
abbrev pub anchor_text_of : WrittenAnchor → AnchorText
anchor_text_of a = record { target = target_of a.target; quick = a.quick; conditions = conditions_of a.conditions }

-- the same of an anchor rule up to its block
abbrev pub heading_text_of : WrittenHeading → HeadingText
heading_text_of h = record {
  target = option_map target_of h.target;
  quick = h.quick;
  conditions = conditions_of h.conditions;
}

-- one level, with each rule in a block already seen as its value
abbrev pub item_step : WrittenItem-F ItemText → ItemText
item_step (WrittenItem-F.Rule rule) = RuleItem (text_of rule)
item_step (WrittenItem-F.Anchor anchor) = AnchorItem (anchor_text_of anchor)
item_step (WrittenItem-F.Block heading items) = BlockItem (heading_text_of heading) (texts_of items.items)

-- the same of a rule of any kind, with its block if it carries one
abbrev pub item_text_of : WrittenItem → ItemText
item_text_of = fold-WrittenItem ItemText item_step

-- the same of the rules of a block, in order
abbrev pub item_texts_of : List WrittenItem → ItemTexts
item_texts_of items = texts_of (map item_text_of items)

-- the same of a table
abbrev pub table_text_of : WrittenTable → TableText
table_text_of t = record { name = t.name; persist = t.persist; is_const = t.is_const; entries = list_of t.entries }

-- the same of what is set
abbrev pub setting_of : setting.Setting → Setting
setting_of (settings.Policy said) = SetPolicy said
setting_of (settings.Skip names) = SetSkip (elements_of names)

-- the same of a statement
abbrev pub statement_of : statement.Statement → Statement
statement_of (statements.Sets said) = Sets (setting_of said)
statement_of (statements.Tables table) = Tables (table_text_of table)
statement_of (statements.Rules text) = Rules (text_of text)
statement_of (statements.Anchors text) = Anchors (anchor_text_of text)
statement_of (statements.Blocks heading items) = AnchorBlocks (heading_text_of heading) (item_texts_of items.items)

-- the whole statement spells the value, or doesn't; unless out of memory
abbrev pub Spells : {X Y : Type 0} → (X → Y) → Result X Stop → Option Y → Type 0
Spells view (Ok x) read = read ≡ Some (view x)
Spells view (Err stops.Memory) read = Unit {0}
Spells view (Err stops.TooMany) read = Unit {0}
Spells view (Err stops.Syntax) read = read ≡ None
