-- A table statement, production by production (pf.conf(5), TABLES).
use Rattle.std.specs.Prelude.{suc, ◌&&◌, Bool, true, false, List, [], drop, length, Option, Some, None}
use Rattle.std.specs.Prelude.{is_some, not, codes, if◌then◌else◌}
use Rattle.pf_rules.specs.declared.profile.Profile.{Profile}
use Rattle.pf_tokens.specs.declared.symbol.Symbol.TheVariants as mark
use Rattle.pf_tokens.specs.Tokens.{Token}
use Rattle.pf_tokens.specs.Productions.{Read, ◌>>=◌, begins, begins_symbol, symbol_at, list_opened}
use Rattle.pf_tokens.specs.Lists.{Elements, list_at}
use Rattle.pf_rules.specs.Names.{Name}
use Rattle.pf_rules.specs.declared.ruleset.TableEntry.{TableEntry}
use Rattle.pf_statements.specs.Conditions.{prefix_at, table_at}
use Rattle.pf_statements.specs.Options.{to_end}

-- a table as it is written
pub record TableText : Type 0 where
  pub name : Name
  pub persist : Bool
  pub is_const : Bool
  pub entries : Option (Elements TableEntry)

-- a table of this name, of which nothing more was given
abbrev pub new_table : Name → TableText
new_table name = record { name = name; persist = false; is_const = false; entries = None }

-- ["!"] prefix
unfoldable pub entry_at : Profile → List Token → Read TableEntry
entry_at profile ts = do
  let negated = symbol_at mark.Not ts
  block ← prefix_at negated.1
  Some (record { negated = negated.0; prefix = block.0 }, block.1)

-- behind an address a slash begins a length
abbrev pub may_follow_entry : List Token → Bool
may_follow_entry rest = not (begins_symbol mark.Slash rest)

-- "{" "}", between which newlines are blanks
unfoldable pub empty_at : List Token → Bool × List Token
empty_at ts =
    let opened = list_opened ts in
    if opened.0 && begins_symbol mark.Close opened.1 then (true, drop 1 opened.1) else (false, ts)

-- the list without entries, which is one list deep
abbrev pub no_entries : Elements TableEntry
no_entries = record { items = []; deepest = 1 }

-- "{" "}" | list(["!"] prefix)
unfoldable pub entries_at : Profile → List Token → Read (Elements TableEntry)
entries_at profile ts = let none = empty_at ts in if none.0 then Some (no_entries, none.1)
    else list_at (entry_at profile) ts

-- the entries, listed once
unfoldable pub listed_option : Profile → TableText → List Token → Read TableText
listed_option profile t ts = if is_some t.entries then None
    else (entries_at profile ts >>= λ list. Some (record t { entries = Some list.0 }, list.1))

-- "persist" | "const" | "counters" | "{" "}" | list(["!"] prefix)
unfoldable pub table_option : Profile → TableText → List Token → Read TableText
table_option profile t ts =
    if begins (codes "persist") ts then Some (record t { persist = true }, drop 1 ts)
    else (if begins (codes "const") ts then Some (record t { is_const = true }, drop 1 ts)
    else (if begins (codes "counters") ts then Some (t, drop 1 ts)
    else listed_option profile t ts))

-- table = "table" "<" TNAME ">" {"persist" | "const" | "counters" | "{" "}" | list(["!"] prefix)}, after the first
-- keyword
-- Example: table <t> const { 10/8, !10.1/16 }.
unfoldable pub table_of : Profile → List Token → Option TableText
table_of profile ts = table_at profile ts >>= λ name. to_end (table_option profile) (suc (length name.1))
    (new_table name.0) name.1
