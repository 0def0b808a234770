-- Anchors as a tree: what each of them holds is a part of the map.
use Rattle.std.specs.Prelude.{◌≡◌, ℕ, ◌+◌, ◌-◌, true, false, List, [], ◌∷◌, ◌++◌}
use Rattle.std.specs.Prelude.{length, filter, Option, Some, None, slice_get}
use Rattle.std.specs.Prelude.{map, if◌then◌else◌}
use Rattle.std.specs.List.{list_all, starts_with}
use Rattle.std.specs.Str.{bytes_eq}
use Rattle.std.specs.declared.rc.Rc.{Rc}
use Rattle.pf_rules.specs.Names.{Name, is_before}
use Rattle.pf_rules.specs.Items.{AnyRule}
use Rattle.pf_tables.specs.Tables.{TableValue}
use Rattle.pf_config.specs.Map.{AnchorValue, Path}
use Rattle.pf_config.specs.Changes.{is_empty, unless_nothing}

-- an anchor: its full names, and the part of the map at its path and below
pub record AnchorTree : Type 0 where
  pub names : Path
  pub anchors : List AnchorValue

-- the paths of the map that begin with this one
abbrev pub part_below : Path → List AnchorValue → List AnchorValue
part_below p anchors = filter (λ (a : AnchorValue). starts_with bytes_eq a.path p) anchors

-- the anchor of these names with this part of the map, none where the part is empty
abbrev pub some_part : Path → List AnchorValue → Option AnchorTree
some_part p [] = None
some_part p (a ∷ anchors) = Some (record { names = p; anchors = a ∷ anchors })

-- the anchor of that name directly below, if a path of the anchor's part of the map begins with its names
abbrev pub child_at : AnchorTree → Name → Option AnchorTree
child_at t n = let p = t.names ++ n ∷ [] in some_part p (part_below p t.anchors)

-- ---- how it is kept

-- what the anchors hold, one after another
abbrev pub below : List AnchorTree → List AnchorValue
below [] = []
below (k ∷ ks) = k.anchors ++ below ks

-- what is shared
abbrev pub shared : {X Z : Type 0} → List (Rc X Z) → List X
shared ks = map (λ k. k.value) ks

-- the entry of an anchor's own path
abbrev pub own_entry : Path → List AnyRule → List (Name × TableValue) → List AnchorValue
own_entry p rules tables = unless_nothing (record { path = p; rules = rules; tables = tables })

-- the last name of a path, the empty name where the path is empty
abbrev pub last_name : Path → Name
last_name [] = []
last_name (n ∷ []) = n
last_name (n ∷ m ∷ ns) = last_name (m ∷ ns)

-- it is directly below the path, and holds something, all of it at its path and below
abbrev pub IsKid : Path → AnchorTree → Type 0
IsKid p k = (k.names ≡ p ++ last_name k.names ∷ []) × (is_empty k.anchors ≡ false) ×
    (list_all (λ (a : AnchorValue). starts_with bytes_eq a.path k.names) k.anchors ≡ true)

-- they are such anchors, in order of their names
abbrev pub AreKids : Path → List AnchorTree → Type 0
AreKids p [] = Unit {0}
AreKids p (k ∷ ks) = IsKid p k × (list_all (λ (j : AnchorTree). is_before (last_name k.names) (last_name j.names))
    ks ≡ true) × AreKids p ks

-- the names of all paths past the first n
abbrev pub weight : ℕ → List AnchorValue → ℕ
weight n [] = 0
weight n (a ∷ anchors) = (length a.path + 1 - n) + weight n anchors

-- each of these is the anchor of its last name directly below
abbrev pub AreBelow : AnchorTree → List AnchorTree → Type 0
AreBelow t ks = (i : ℕ) (k : AnchorTree) → slice_get ks i ≡ Some k → Some k ≡ child_at t (last_name k.names)

-- ---- walks down

-- what is made of a value, none where there is no value
abbrev pub and_then : {X Y : Type 0} → Option X → (X → Option Y) → Option Y
and_then None f = None
and_then (Some x) f = f x

-- the anchor at a path below this one
abbrev pub tree_at : AnchorTree → Path → Option AnchorTree
tree_at t [] = Some t
tree_at t (n ∷ r) = and_then (child_at t n) (λ k. tree_at k r)

-- the anchor at a path of the map: main always, another one where a path of the map begins with it
abbrev pub anchor_in : List AnchorValue → Path → Option AnchorTree
anchor_in anchors [] = Some (record { names = []; anchors = anchors })
anchor_in anchors (n ∷ r) = some_part (n ∷ r) (part_below (n ∷ r) anchors)

-- the path, where a path of the map begins with it
abbrev pub path_in : List AnchorValue → Path → Option Path
path_in anchors p = if is_empty (part_below p anchors) then None else Some p

-- the full names of these anchors
abbrev pub paths_of : List AnchorTree → List Path
paths_of [] = []
paths_of (k ∷ ks) = k.names ∷ paths_of ks
