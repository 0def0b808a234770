-- Numbers for paths. The empty path's is 0, and each step from a numbered path to a name behind it has one of its own.
use Rattle.std.specs.Prelude.{◌≡◌, ℕ, ◌&&◌, ◌||◌, Bool, true, false, List, [], ◌∷◌, ◌++◌, map, fold, nat_lt, nat_le}
use Rattle.std.specs.Prelude.{Option, Some, None, nat_eq, bytes_eq}
use Rattle.std.specs.Ordering.{nat_cmp, ordering_then}
use Rattle.std.specs.Cmp.Lexicographic.{slice_cmp}
use Rattle.std.specs.List.{list_any}
use Rattle.std.specs.BTreeMap.{BTreeMap, get_by, btree_map_len}
use Rattle.std.specs.BTreeSet.{BTreeSet, contains}
use Rattle.std.specs.Global.{Vec}
use Rattle.pf_rules.specs.Names.{Name}
use Rattle.pf_expansion.specs.Blocks.{Path}

abbrev pub Steps : Type 0
Steps = BTreeMap (ℕ × Vec ℕ) ℕ

-- the number behind the path of this number by a name
abbrev pub step_from : Steps → ℕ → Name → Option ℕ
step_from steps from name =
    get_by (λ (k : ℕ × Vec ℕ). ordering_then (nat_cmp from k.0) (slice_cmp nat_cmp name k.1.items)) steps

abbrev pub next_of : Steps → Option ℕ → Name → Option ℕ
next_of steps None name = None
next_of steps (Some from) name = step_from steps from name

-- the number behind the path of this number by these names
abbrev pub walk : Steps → Option ℕ → Path → Option ℕ
walk steps from names = fold (next_of steps) from names

-- a path's number
abbrev pub number_of : Steps → Path → Option ℕ
number_of steps path = walk steps (Some 0) path

abbrev pub is_within : ℕ → Option ℕ → Bool
is_within count None = true
is_within count (Some at) = nat_lt 0 at && nat_le at count

-- the numbers count from 1 on
abbrev pub AreWithin : Steps → Type 0
AreWithin steps = (from : ℕ) (name : Name) → is_within (btree_map_len steps) (step_from steps from name) ≡ true

-- no two steps have one number
abbrev pub AreApart : Steps → Type 0
AreApart steps = (from : ℕ) (name : Name) (other : ℕ) (another : Name) (at : ℕ) → step_from steps from name ≡ Some at →
    step_from steps other another ≡ Some at → (nat_eq from other && bytes_eq name another) ≡ true

-- each number stays
abbrev pub Grows : Steps → Steps → Type 0
Grows old new = (from : ℕ) (name : Name) (at : ℕ) → step_from old from name ≡ Some at →
    step_from new from name ≡ Some at

-- ---- the numbers of many paths

-- behind the numbers old, new has those of the paths
abbrev pub AreBehind : Steps → List Path → List ℕ → List ℕ → Type 0
AreBehind steps paths old new =
    (more : List ℕ) × (new ≡ old ++ more) × (map (number_of steps) paths ≡ map (λ (k : ℕ). Some k) more)

-- of all paths behind the one of this number those up to the rest have their numbers behind the old ones
unfoldable pub AreNumbered : Steps → Steps → ℕ → List ℕ → List ℕ → (Path → List Path) → (Path → List Path) →
    Type 0
AreNumbered old new from olds news all rest = Grows old new × ((path : Path) → number_of old path ≡ Some from →
    (done : List Path) × (all path ≡ done ++ rest path) × AreBehind new done olds news)

-- a number comes again
abbrev pub has_again : List ℕ → Bool
has_again [] = false
has_again (k ∷ ks) = list_any (nat_eq k) ks || has_again ks

-- ---- looked up

abbrev pub is_in : BTreeSet ℕ → Option ℕ → Bool
is_in blocks None = false
is_in blocks (Some at) = contains nat_cmp blocks at

-- the path behind one of this number has a number of the set
abbrev pub is_marked : Steps → BTreeSet ℕ → Option ℕ → Path → Bool
is_marked steps blocks from path = is_in blocks (walk steps from path)
