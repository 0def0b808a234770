-- What pfctl lists (pfctl(8), -s and -T).
use Rattle.std.specs.Prelude.{ℕ, List, [], ◌∷◌, ◌++◌, length, map, Option, Some, None, Result, Ok, Err, codes, decimal}
use Rattle.std.specs.Prelude.{count_by}
use Rattle.std.specs.List.{flat_map}
use Rattle.pf_addr.specs.declared.addr.Addr.{Addr}
use Rattle.pf_show.specs.Shown.{entry_part, shown_items}
use Rattle.pf_tables.specs.Tables.{TableValue, in_table}
use Rattle.pf_config.specs.Map.{Configuration, AnchorValue, Path, rules_at, table_names, table_at}
use Rattle.pf_arguments.specs.Asked.{ActionValue, ShowRules, ShowTables, ShowAnchors, TableShow, TableTest}
use Rattle.pf_scripts.specs.Lines.{line}
use Rattle.pf_scripts.specs.Orders.{entries_in_order, lines_in_order}

-- the strings, a line each
abbrev pub all_lines : List (List ℕ) → List ℕ
all_lines texts = flat_map line texts

-- -s rules: a line for each rule, with every name and without blocks
abbrev pub rules_listed : Configuration → Path → List ℕ
rules_listed c p = shown_items (rules_at c p)

-- -s Tables: the names at a path, ordered by bytes
abbrev pub tables_listed : Configuration → Path → List ℕ
tables_listed c p = all_lines (lines_in_order (table_names c p))

-- a path and the paths that lead to it, names joined by slashes
abbrev pub leading_from : List ℕ → Path → List (List ℕ)
leading_from begun [] = []
leading_from begun (n ∷ ns) = (begun ++ n) ∷ leading_from ((begun ++ n) ++ 47 ∷ []) ns

-- an anchor's path and the paths that lead to it
abbrev pub leading : AnchorValue → List (List ℕ)
leading a = leading_from [] a.path

-- -s Anchors: all anchors but main, unnamed blocks and those that only lead to others too, ordered by bytes
-- Example: with rules at x/y alone x and x/y.
abbrev pub anchors_listed : Configuration → List ℕ
anchors_listed c = all_lines (lines_in_order (flat_map leading c.anchors))

-- -T show: the entries, IPv4 first, then by address, then by length
abbrev pub entries_listed : TableValue → List ℕ
entries_listed t = all_lines (map entry_part (entries_in_order t.entries))

-- -T test: how many of the addresses are in the table
abbrev pub matches_listed : List Addr → TableValue → List ℕ
matches_listed addresses t =
    line (decimal (count_by (λ a. in_table a t.entries) addresses) ++ codes " of " ++ decimal (length addresses) ++
    codes " match")

-- what is listed of a table, 20 without one
abbrev pub of_table : (TableValue → List ℕ) → Option TableValue → Result (List ℕ) ℕ
of_table list None = Err 20
of_table list (Some t) = Ok (list t)

-- what an action lists, or the number of its refusal: 40 of one that lists nothing
-- Source: pfctl(8). Example: -t bad -T show without such a table is 20.
abbrev pub listed : Configuration → ActionValue → Result (List ℕ) ℕ
listed c (ShowRules p) = Ok (rules_listed c p)
listed c (ShowTables p) = Ok (tables_listed c p)
listed c ShowAnchors = Ok (anchors_listed c)
listed c (TableShow p t) = of_table entries_listed (table_at c p t)
listed c (TableTest p t addresses) = of_table (matches_listed addresses) (table_at c p t)
listed c action = Err 40
