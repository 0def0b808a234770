-- What a table statement gives, and why one is refused.
use Rattle.std.specs.Prelude.{◌||◌, Bool, false, List, [], ◌∷◌, ◌++◌, length, fold, Option}
use Rattle.std.specs.Prelude.{Some, None, option_map, nat_lt, if◌then◌else◌}
use Rattle.std.specs.List.{list_any}
use Rattle.std.specs.Str.{bytes_eq}
use Rattle.std.specs.Ordering.{is_eq}
use Rattle.pf_addr.specs.Order.{prefix_cmp}
use Rattle.pf_tokens.specs.Lists.{Elements}
use Rattle.pf_rules.specs.Names.{Name}
use Rattle.pf_rules.specs.Rulesets.{TableValue}
use Rattle.pf_rules.specs.declared.ruleset.TableEntry.{TableEntry}
use Rattle.pf_statements.specs.Tables.{TableText}
use Rattle.pf_expansion.specs.declared.cause.Cause.{Cause}
use Rattle.pf_expansion.specs.declared.cause.Cause.TheVariants.{Twice, TooMany}
use Rattle.pf_expansion.specs.Causes.{is_deep}

-- ---- entries

-- the second has the prefix of the first
abbrev pub same_prefix : TableEntry → TableEntry → Bool
same_prefix e f = is_eq (prefix_cmp f.prefix e.prefix)

-- an entry behind others, unless its prefix is there
abbrev pub with_first : List TableEntry → TableEntry → List TableEntry
with_first entries e = if list_any (same_prefix e) entries then entries else entries ++ e ∷ []

-- the first entry of each prefix
abbrev pub first_of_each : List TableEntry → List TableEntry
first_of_each entries = fold with_first [] entries

-- what a table statement gives
abbrev pub table_value : TableText → TableValue
table_value t = record {
  name = t.name;
  persist = t.persist;
  is_const = t.is_const;
  entries = option_map (λ (list : Elements TableEntry). first_of_each list.items) t.entries;
}

-- ---- causes

-- a table of that name is among these
abbrev pub is_defined : List TableValue → Name → Bool
is_defined tables name = list_any (λ (t : TableValue). bytes_eq t.name name) tables

-- more than 8 lists are in one another, or more than 4,096 different prefixes are listed
abbrev pub is_too_long : Option (Elements TableEntry) → Bool
is_too_long None = false
is_too_long (Some list) = is_deep list || nat_lt 4096 (length (first_of_each list.items))

-- each cause with its test, the lowest first, where these tables are before
abbrev pub table_causes : List TableValue → TableText → List (Bool × Cause)
table_causes tables t = (is_defined tables t.name, Twice) ∷ (is_too_long t.entries, TooMany) ∷ []
