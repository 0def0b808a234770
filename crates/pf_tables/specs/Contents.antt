-- How the contents of a table change.
use Rattle.std.specs.Prelude.{ℕ, Bool, ◌&&◌, List, [], ◌∷◌, ◌++◌, length, filter, fold, not}
use Rattle.std.specs.Prelude.{if◌then◌else◌}
use Rattle.std.specs.List.{list_any}
use Rattle.std.specs.Ordering.{is_lt, is_eq}
use Rattle.pf_addr.specs.Blocks.{Block}
use Rattle.pf_rules.specs.declared.ruleset.TableEntry.{TableEntry}
use Rattle.pf_addr.specs.Order.{prefix_cmp}
use Rattle.pf_tables.specs.declared.edits.Edit.{Edit}
use Rattle.pf_tables.specs.declared.edits.Edit.TheVariants.{Insert, Remove}
use Rattle.pf_tables.specs.Tables.{bool_eq}

-- the entry has this prefix, negated or not
abbrev pub is_prefix : Block → TableEntry → Bool
is_prefix p e = is_eq (prefix_cmp e.prefix p)

-- ---- entries put in

-- the entries whose prefix is before this one
abbrev pub entries_before : Block → List TableEntry → List TableEntry
entries_before p entries = filter (λ (e : TableEntry). is_lt (prefix_cmp e.prefix p)) entries

-- the entries whose prefix is behind this one
abbrev pub entries_behind : Block → List TableEntry → List TableEntry
entries_behind p entries = filter (λ (e : TableEntry). is_lt (prefix_cmp p e.prefix)) entries

-- an entry is put in, unless its prefix is there
abbrev pub put_entry : List TableEntry → TableEntry → List TableEntry
put_entry entries e = if list_any (is_prefix e.prefix) entries then entries else entries_before e.prefix entries ++
    e ∷ entries_behind e.prefix entries

-- entries are put in, one after another, so the first of each prefix counts
-- Example: { 10/8, !10/8 } is { 10/8 }.
abbrev pub with_entries : List TableEntry → List TableEntry → List TableEntry
with_entries entries more = fold put_entry entries more

-- what a table has in which these entries are listed: ordered, and of each prefix the first
abbrev pub contents_of : List TableEntry → List TableEntry
contents_of entries = with_entries [] entries

-- ---- entries taken out

-- both have the same prefix and the same sign
abbrev pub same_entry : TableEntry → TableEntry → Bool
same_entry e f = is_prefix e.prefix f && bool_eq e.negated f.negated

-- the entries that aren't listed with their sign
abbrev pub unlisted : List TableEntry → List TableEntry → List TableEntry
unlisted entries listed = filter (λ (e : TableEntry). not (list_any (same_entry e) listed)) entries

-- each entry that is listed with its sign goes; of a prefix listed twice the first counts
abbrev pub without_entries : List TableEntry → List TableEntry → List TableEntry
without_entries entries less = unlisted entries (contents_of less)

-- how many entries, with their signs, the first has that the second lacks
abbrev pub count_without : List TableEntry → List TableEntry → ℕ
count_without entries other = length (unlisted entries other)

-- ---- one entry

-- the entries after an edit: one is added, unless its prefix is there, or removed, if it is there with its sign
abbrev pub edited : Edit → TableEntry → List TableEntry → List TableEntry
edited Insert e entries = put_entry entries e
edited Remove e entries = unlisted entries (e ∷ [])
