-- The tables that a ruleset has defined so far.
use Rattle.std.specs.Prelude.{List, map}
use Rattle.pf_rules.specs.Rulesets.{TableValue, table_of}
use Rattle.pf_expansion.specs.declared.defined_tables.DefinedTables.{DefinedTables}

-- the tables that a ruleset has defined so far, in the order of their definitions
abbrev pub tables_of : DefinedTables → List TableValue
tables_of tables = map table_of tables.all.items
