-- What is in a configuration, path by path.
use Rattle.std.specs.Prelude.{◌≡◌, List, map, Option}
use Rattle.pf_rules.specs.Names.{Name}
use Rattle.pf_rules.specs.Items.{AnyRule}
use Rattle.pf_tables.specs.Tables.{TableValue}
use Rattle.pf_config.specs.Map.{Configuration, Path, paths_in, rules_at, table_names, table_at}

-- a path with its rules, and its tables with their flags and entries
pub record Content : Type 0 where
  pub path : Path
  pub rules : List AnyRule
  pub tables : List (Name × Option TableValue)

-- the tables of these names at a path
abbrev pub tables_named : Configuration → Path → List Name → List (Name × Option TableValue)
tables_named c p names = map (λ (n : Name). (n, table_at c p n)) names

-- all tables at a path
abbrev pub tables_of : Configuration → Path → List (Name × Option TableValue)
tables_of c p = tables_named c p (table_names c p)

-- what is at a path: its rules in their order, and its tables
abbrev pub content_at : Configuration → Path → Content
content_at c p = record { path = p; rules = rules_at c p; tables = tables_of c p }

-- of every path that has rules or tables, those of unnamed blocks too
-- Example: with a rule at x alone it has one element.
abbrev pub contents : Configuration → List Content
contents c = map (content_at c) (paths_in c.anchors)

-- the same interfaces are skipped, and at the same paths are the same rules and tables
-- Example: a table with persist isn't the same as one without.
pub record IsSame (c d : Configuration) : Type 0 where
  pub skip : c.skip ≡ d.skip
  pub contents : contents c ≡ contents d
