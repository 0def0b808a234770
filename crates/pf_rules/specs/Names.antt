-- Names, seen as their bytes.
use Rattle.std.specs.Prelude.{ℕ, Bool, false, not, ◌==◌, ◌&&◌, nat_le, length, List, [], ◌∷◌, Option}
use Rattle.std.specs.Prelude.{Some, None, if◌then◌else◌}
use Rattle.std.specs.List.{list_all}
use Rattle.pf_rules.specs.Words.{is_anchor_text}
use Rattle.std.specs.Ordering.{is_lt, nat_cmp}
use Rattle.std.specs.Cmp.Lexicographic.{slice_cmp}

-- a name is its bytes
abbrev pub Name : Type 0
Name = List ℕ

-- the name that a string of this form spells
abbrev pub name_if : (List ℕ → Bool) → List ℕ → Option Name
name_if has_form text = if has_form text then Some text else None

-- byte by byte
abbrev pub is_before : Name → Name → Bool
is_before a b = is_lt (slice_cmp nat_cmp a b)

-- the names of unnamed blocks begin with _
abbrev pub begins_below : Name → Bool
begins_below [] = false
begins_below (b ∷ bs) = b == 95

-- a name that commands may write in a path: an anchor's, and not an unnamed block's
abbrev pub is_path_name : Name → Bool
is_path_name name = is_anchor_text name && not (begins_below name)

-- the path of these names: 8 at most, each of which commands may write
abbrev pub path_if : List Name → Option (List Name)
path_if names = if nat_le (length names) 8 && list_all is_path_name names then Some names else None
