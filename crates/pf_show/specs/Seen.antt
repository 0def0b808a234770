-- A table as its line has it.
use Rattle.std.specs.Prelude.{option_map}
use Rattle.pf_rules.specs.Rulesets.{TableValue}
use Rattle.pf_show.specs.declared.tables.TableLine.{TableLine}

-- the table that a line defines
abbrev pub table_in : TableLine → TableValue
table_in t = record {
  name = t.name.now;
  persist = t.persist;
  is_const = t.is_const;
  entries = option_map (λ v. v.now) t.entries;
}
