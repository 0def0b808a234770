-- The place of the last definition of each name.
use Rattle.std.specs.Prelude.{◌≡◌, ℕ, Bool, true, List, Option, Some, None, option_map, is_some}
use Rattle.std.specs.List.{slice_get}
use Rattle.std.specs.Ordering.{nat_cmp}
use Rattle.std.specs.Cmp.Lexicographic.{slice_cmp}
use Rattle.std.specs.BTreeMap.{BTreeMap, get_by}
use Rattle.std.specs.Global.{Vec}
use Rattle.pf_tokens.specs.Tokens.{plain_tokens}
use Rattle.pf_tokens.specs.Macros.{Definition, text_of}

-- both values are there and have the same tokens, or neither is there
abbrev pub HasTokensOf : Option (List ℕ) → Option (List ℕ) → Type 0
HasTokensOf one other = option_map plain_tokens one ≡ option_map plain_tokens other

-- the text of the definition at the place
abbrev pub text_at : List Definition → Option ℕ → Option (List ℕ)
text_at ds None = None
text_at ds (Some at) = option_map (λ (d : Definition). d.text) (slice_get ds at)

-- whether there is a definition at the place
abbrev pub is_there : List Definition → Option ℕ → Bool
is_there ds None = true
is_there ds (Some at) = is_some (slice_get ds at)

-- where a name is found
abbrev pub place_of : BTreeMap (Vec ℕ) ℕ → List ℕ → Option ℕ
place_of last name = get_by (λ (k : Vec ℕ). slice_cmp nat_cmp name k.items) last

-- each name is found where its last definition is
abbrev pub IsIndex : List Definition → BTreeMap (Vec ℕ) ℕ → Type 0
IsIndex ds last = (name : List ℕ) → text_of ds name ≡ text_at ds (place_of last name)

abbrev pub IsWithin : List Definition → BTreeMap (Vec ℕ) ℕ → Type 0
IsWithin ds last = (name : List ℕ) → is_there ds (place_of last name) ≡ true
