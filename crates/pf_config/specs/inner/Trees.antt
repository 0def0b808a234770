-- What only code and proofs use beside `Trees`.
use Rattle.std.specs.Prelude.{◌≡◌, ℕ, ◌-◌, Bool, List, [], ◌∷◌, ◌++◌}
use Rattle.std.specs.Prelude.{filter, Option, Some, None, not, nat_lt, ◌&&◌, fold}
use Rattle.std.specs.Prelude.{if◌then◌else◌, ◌||◌}
use Rattle.std.specs.List.{list_any, starts_with}
use Rattle.std.specs.Str.{bytes_eq}
use Rattle.pf_rules.specs.Names.{Name, is_before}
use Rattle.pf_rules.specs.Items.{AnyRule}
use Rattle.pf_tables.specs.Tables.{TableValue}
use Rattle.pf_config.specs.Map.{AnchorValue, Path, anchor_at, tables_in, name_after}
use Rattle.pf_config.specs.Changes.{is_empty, is_nothing, with_anchor, is_some_unnamed, is_used}
use Rattle.pf_config.specs.Changes.{Block, Definition, defined}
use Rattle.pf_config.specs.Trees.{AnchorTree, child_at, last_name}

-- ---- how it is kept

-- its last name is this one
abbrev pub is_named : Name → AnchorTree → Bool
is_named n k = bytes_eq (last_name k.names) n

-- those with names before this one, and those with names behind it
abbrev pub kids_before : Name → List AnchorTree → List AnchorTree
kids_before n ks = filter (λ (j : AnchorTree). is_before (last_name j.names) n) ks

abbrev pub kids_behind : Name → List AnchorTree → List AnchorTree
kids_behind n ks = filter (λ (j : AnchorTree). is_before n (last_name j.names)) ks

-- an anchor that holds nothing isn't kept
abbrev pub some_kid : AnchorTree → List AnchorTree
some_kid k = if is_empty k.anchors then [] else k ∷ []

abbrev pub anchors_of : Option AnchorTree → List AnchorValue
anchors_of None = []
anchors_of (Some k) = k.anchors

-- the anchor with these rules and tables at a path below it
abbrev pub placed_in : AnchorTree → Path → List AnyRule → List (Name × TableValue) → AnchorTree
placed_in t r rules tables = record {
  names = t.names;
  anchors = with_anchor (record {
    path = t.names ++ r;
    rules = rules;
    tables = tables;
  }) t.anchors;
}

-- where an entry has taken its place in the anchor of that name, it has taken its place in the whole
abbrev pub TakesPlace : AnchorTree → Name → AnchorTree → AnchorTree → Type 0
TakesPlace t n kid new = (a : AnchorValue) (r : Path) → a.path ≡ t.names ++ n ∷ r → kid.anchors ≡
    with_anchor a (anchors_of (child_at t n)) → new ≡ record { names = t.names; anchors = with_anchor a t.anchors }

-- ---- walks down

-- its last name passes
abbrev pub passes : (Name → Bool) → AnchorTree → Bool
passes test k = test (last_name k.names)

-- the names of an anchor, none where it holds nothing
abbrev pub names_held : AnchorTree → Option Path
names_held t = if is_empty t.anchors then None else Some t.names

-- ---- counts

abbrev pub room_after : ℕ → ℕ → Option ℕ
room_after room n = if nat_lt room n then None else Some (room - n)

abbrev pub own_count : List AnyRule → List (Name × TableValue) → ℕ
own_count rules tables = if is_empty rules && is_empty tables then 0 else 1

-- ---- what a change takes away

-- some path begins with p and an unnamed name
abbrev pub any_unnamed : Path → List AnchorValue → Bool
any_unnamed p anchors = list_any (λ (a : AnchorValue). is_some_unnamed (name_after p a.path)) anchors

-- neither of the paths begins with the other
abbrev pub are_apart : Path → Path → Bool
are_apart p q = not (starts_with bytes_eq p q) && not (starts_with bytes_eq q p)

-- a table of the entry that goes
abbrev pub is_idle : List AnchorValue → AnchorValue → Name × TableValue → Bool
is_idle all a t = not (t.1.persist || is_used all a t.0)

-- some entry has such a table, or holds nothing
abbrev pub sheds : List AnchorValue → AnchorValue → Bool
sheds all a = is_nothing a || list_any (is_idle all a) a.tables

abbrev pub any_sheds : List AnchorValue → List AnchorValue → Bool
any_sheds all anchors = list_any (sheds all) anchors

-- ---- a ruleset's rules and tables are put in place at once

abbrev pub with_text : Block → List Definition → List AnchorValue → List AnchorValue
with_text own definitions anchors = with_anchor (record {
  path = own.path;
  rules = own.rules;
  tables = fold defined (tables_in (anchor_at own.path anchors)) definitions;
}) anchors
