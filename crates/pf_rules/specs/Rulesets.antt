-- Rulesets as values.
use Rattle.std.specs.Prelude.{Bool, List, map, Option, option_map}
use Rattle.pf_rules.specs.Names.{Name}
use Rattle.pf_rules.specs.Items.{ItemValue}
use Rattle.pf_rules.specs.Seen.{items_of}
use Rattle.pf_rules.specs.declared.ruleset.Ruleset.{Ruleset}
use Rattle.pf_rules.specs.declared.ruleset.TableDef.{TableDef}
use Rattle.pf_rules.specs.declared.ruleset.TableEntry.{TableEntry}

-- a table of a ruleset: its flags, and its entries where they are listed
-- Example: table <t> persist.
pub record TableValue : Type 0 where
  pub name : Name
  pub persist : Bool
  pub is_const : Bool
  pub entries : Option (List TableEntry)

-- a ruleset without where it is in memory
pub record RulesetValue : Type 0 where
  pub skip : List Name
  pub tables : List TableValue
  pub items : List ItemValue

-- the value of the code's table: its name, its flags, and its entries where they are listed
abbrev pub table_of : TableDef → TableValue
table_of t = record {
  name = t.name;
  persist = t.persist;
  is_const = t.is_const;
  entries = option_map (λ v. v.items) t.entries;
}

-- the ruleset that the code's stands for: the skipped names, the tables and the rules of any kind
abbrev pub ruleset_of : Ruleset → RulesetValue
ruleset_of r = record { skip = r.skip.items; tables = map table_of r.tables.items; items = items_of r.items.items }
