-- A configuration: a skip list, and a map from paths to rules and tables.
use Rattle.std.specs.Prelude.{Bool, true, List, [], ◌∷◌, ◌++◌, length, map}
use Rattle.std.specs.Prelude.{fold, Option, Some, None, if◌then◌else◌, slice_get, find}
use Rattle.std.specs.List.{starts_with, filter_map}
use Rattle.std.specs.Str.{bytes_eq}
use Rattle.std.specs.Map.{lookup}
use Rattle.std.specs.Cmp.Lexicographic.{pointwise}
use Rattle.pf_rules.specs.Names.{Name, is_before}
use Rattle.pf_rules.specs.Items.{AnyRule}
use Rattle.pf_tables.specs.Tables.{TableValue}

-- main is the empty path
abbrev pub Path : Type 0
Path = List Name

-- what the map has at a path, not both parts empty
pub record AnchorValue : Type 0 where
  pub path : Path
  pub rules : List AnyRule
  pub tables : List (Name × TableValue)

-- the entries of the map are in byte order of their paths, each path once
pub record Configuration : Type 0 where
  pub skip : List Name
  pub anchors : List AnchorValue

-- two paths are the same, name by name
abbrev pub path_eq : Path → Path → Bool
path_eq p q = pointwise bytes_eq p q

-- ---- what is at a path

-- the map's entry at a path, if there is one
abbrev pub anchor_at : Path → List AnchorValue → Option AnchorValue
anchor_at p anchors = find (λ (a : AnchorValue). path_eq a.path p) anchors

-- the rules of an entry, none where there is no entry
abbrev pub rules_in : Option AnchorValue → List AnyRule
rules_in None = []
rules_in (Some a) = a.rules

-- the tables of an entry, none where there is no entry
abbrev pub tables_in : Option AnchorValue → List (Name × TableValue)
tables_in None = []
tables_in (Some a) = a.tables

-- the rules at a path: none where the map has no such path
unfoldable pub rules_at : Configuration → Path → List AnyRule
rules_at c p = rules_in (anchor_at p c.anchors)

-- the tables at a path: none where the map has no such path
unfoldable pub tables_at : Configuration → Path → List (Name × TableValue)
tables_at c p = tables_in (anchor_at p c.anchors)

-- the table of that name, if it is among these
abbrev pub named : Name → List (Name × TableValue) → Option TableValue
named name tables = lookup (λ n. bytes_eq n name) tables

-- the first value, or the other where there is none
abbrev pub or_else : {X : Type 0} → Option X → Option X → Option X
or_else None other = other
or_else (Some x) other = Some x

-- the table of that name at this path, if there is one; main's is not looked for
abbrev pub table_at : Configuration → Path → Name → Option TableValue
table_at c p name = named name (tables_at c p)

-- the path's own table, else main's
abbrev pub table_for : Configuration → Path → Name → Option TableValue
table_for c p name = or_else (table_at c p name) (table_at c [] name)

-- the names of the tables at a path
abbrev pub table_names : Configuration → Path → List Name
table_names c p = map (λ (t : Name × TableValue). t.0) (tables_at c p)

-- the paths of entries
abbrev pub paths_in : List AnchorValue → List Path
paths_in anchors = map (λ (a : AnchorValue). a.path) anchors

-- ---- paths below a path

-- the name that follows p in the path, if p is its front and not all of it
abbrev pub name_after : Path → Path → Option Name
name_after p q = if starts_with bytes_eq q p then slice_get q (length p) else None

-- a name at its place in byte order, unless it is there
abbrev pub put_name : List Name → Name → List Name
put_name [] n = n ∷ []
put_name (m ∷ ms) n = if is_before n m then n ∷ m ∷ ms else (if is_before m n then m ∷ put_name ms n
    else m ∷ ms)

-- of each entry whose path begins with p and goes on, the name that follows there
abbrev pub names_after : Path → List AnchorValue → List Name
names_after p anchors = filter_map (λ (a : AnchorValue). name_after p a.path) anchors

-- the names n, in byte order, such that p followed by n begins some path of the map
unfoldable pub kids : Configuration → Path → List Name
kids c p = fold put_name [] (names_after p c.anchors)

-- the name is above another one, where one is given
abbrev pub is_above : Option Name → Name → Bool
is_above None n = true
is_above (Some m) n = is_before m n

-- a path and one name more
abbrev pub followed_by : Path → Name → Path
followed_by p n = p ++ n ∷ []
