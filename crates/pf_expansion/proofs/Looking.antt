-- Paths that are looked up by their steps, and sets of numbers.
use Rattle.std.proofs.Common.{◌≡◌, ℕ, ◌+◌, ◌<◌, ◌||◌, Bool, true, false, cond, not, List, [], ◌∷◌, ◌++◌, length, map, take, drop, drop-cons, get_or, add-one, Option, Some, None, append_assoc, refl, sym, ap, ◌∙◌}
use Rattle.std.specs.Prelude.{nat_eq}
use Rattle.std.specs.List.{list_any}
use Rattle.std.specs.Ordering.{nat_cmp}
use Rattle.std.specs.BTreeSet.{BTreeSet, contains, Updates}
use Rattle.std.proofs.Math.Seq.{take-suc}
use Rattle.std.proofs.lemmas.Bool.{false≢true}
use Rattle.std.proofs.lemmas.Cmp.{nat_eq_equiv}
use Rattle.std.proofs.lemmas.List.{map-append, append-nil}
use Rattle.std.proofs.lemmas.List.Folds.{list_any-append}
use Rattle.pf_rules.specs.Items.{ItemValue, ItemValues, Filters, Anchors, Blocks, no_items, one_more}
use Rattle.pf_expansion.specs.Blocks.{Path, paths_in, paths_within}
use Rattle.pf_expansion.specs.inner.Numbers.{Steps, walk, is_in, is_marked, has_again}
use Rattle.pf_expansion.proofs.Stepping.{is_eq_nat}
use Rattle.pf_expansion.proofs.Walking.{walk_none, walk_append}

-- ---- paths behind others

abbrev behind : Path → List Path → List Path
behind a ps = map (λ (p : Path). a ++ p) ps

mutual
  behind_in : (a b : Path) (item : ItemValue) → paths_in (a ++ b) item ≡ behind a (paths_in b item)
  behind_in a b (Filters rule) = refl
  behind_in a b (Anchors h) = refl
  behind_in a b (Blocks h block) =
      let n = h.target.names in
      ap (λ (p : Path). paths_within p block ++ p ∷ []) (append_assoc a b n) ∙
      ap (λ (ps : List Path). ps ++ (a ++ (b ++ n)) ∷ []) (behind_within a (b ++ n) block) ∙
      sym (map-append (λ (p : Path). a ++ p) (paths_within (b ++ n) block) ((b ++ n) ∷ []))

  behind_within : (a b : Path) (items : ItemValues) → paths_within (a ++ b) items ≡ behind a (paths_within b items)
  behind_within a b no_items = refl
  behind_within a b (one_more item items) =
      ap (λ (ps : List Path). ps ++ paths_within (a ++ b) items) (behind_in a b item) ∙
      ap (λ (ps : List Path). behind a (paths_in b item) ++ ps) (behind_within a b items) ∙
      sym (map-append (λ (p : Path). a ++ p) (paths_in b item) (paths_within b items))

any_behind : (m : Steps) (s : BTreeSet ℕ) (from : Option ℕ) (a : Path) (ps : List Path) → list_any (is_marked m s from) (behind a ps) ≡ list_any (is_marked m s (walk m from a)) ps
any_behind m s from a [] = refl
any_behind m s from a (p ∷ ps) = rw (walk_append m from a p, any_behind m s from a ps) refl

none_marked : (m : Steps) (s : BTreeSet ℕ) (ps : List Path) → list_any (is_marked m s None) ps ≡ false
none_marked m s [] = refl
none_marked m s (p ∷ ps) = rw (walk_none m p, none_marked m s ps) refl

-- a block and those in it
carried : (m : Steps) (s : BTreeSet ℕ) (from : Option ℕ) (names : Path) (items : ItemValues) → list_any (is_marked m s from) (paths_within names items ++ names ∷ []) ≡ (list_any (is_marked m s (walk m from names)) (paths_within [] items) || (is_in s (walk m from names) || false))
carried m s from names items =
    list_any-append (is_marked m s from) (paths_within names items) (names ∷ []) ∙
    ap (λ (b : Bool). b || (is_in s (walk m from names) || false)) (ap (λ (ps : List Path). list_any (is_marked m s from) ps) (ap (λ (p : Path). paths_within p items) (sym (append-nil names)) ∙ behind_within names [] items) ∙ any_behind m s from names (paths_within [] items))

pub not_carried : (m : Steps) (s : BTreeSet ℕ) (from : ℕ) (names : Path) (items : ItemValues) → walk m (Some from) names ≡ None → false ≡ list_any (is_marked m s (Some from)) (paths_within names items ++ names ∷ [])
not_carried m s from names items e = rw (carried m s (Some from) names items, e, none_marked m s (paths_within [] items)) refl

or-true : (b : Bool) → (b || true) ≡ true
or-true true = refl
or-true false = refl

or-false : (b : Bool) → (b || false) ≡ b
or-false true = refl
or-false false = refl

pub carried_itself : (m : Steps) (s : BTreeSet ℕ) (from at : ℕ) (names : Path) (items : ItemValues) → walk m (Some from) names ≡ Some at → contains nat_cmp s at ≡ true → true ≡ list_any (is_marked m s (Some from)) (paths_within names items ++ names ∷ [])
carried_itself m s from at names items e f = rw (carried m s (Some from) names items, e, f, or-true (list_any (is_marked m s (Some at)) (paths_within [] items))) refl

pub carried_within : (m : Steps) (s : BTreeSet ℕ) (from at : ℕ) (names : Path) (items : ItemValues) (found : Bool) → walk m (Some from) names ≡ Some at → contains nat_cmp s at ≡ false → found ≡ list_any (is_marked m s (Some at)) (paths_within [] items) → found ≡ list_any (is_marked m s (Some from)) (paths_within names items ++ names ∷ [])
carried_within m s from at names items found e f same = rw (carried m s (Some from) names items, e, f, or-false (list_any (is_marked m s (Some at)) (paths_within [] items))) same

-- ---- numbers that come again

pub none_in : (s : BTreeSet ℕ) → s.keys ≡ [] → (ks : List ℕ) → list_any (contains nat_cmp s) ks ≡ false
none_in s e [] = refl
none_in s e (k ∷ ks) = rw (e, none_in s e ks) refl

abbrev pub again_in : BTreeSet ℕ → List ℕ → Bool
again_in s ks = list_any (contains nat_cmp s) ks || has_again ks

from_not : (b : Bool) → false ≡ not b → b ≡ true
from_not true e = refl
from_not false e = absurd (false≢true e)

from_not_true : (b : Bool) → true ≡ not b → b ≡ false
from_not_true true e = absurd (false≢true (sym e))
from_not_true false e = refl

here : (all : List ℕ) (i k : ℕ) → i < length all → k ≡ get_or all i k → drop i all ≡ k ∷ drop (i + 1) all
here all i k within is = rw add-one (drop-cons all i k within) ∙ ap (λ (x : ℕ). x ∷ drop (i + 1) all) (sym is)

pub again_there : (s : BTreeSet ℕ) (all : List ℕ) (i k : ℕ) → i < length all → k ≡ get_or all i k → has_again all ≡ again_in s (drop i all) → false ≡ not (contains nat_cmp s k) → true ≡ has_again all
again_there s all i k within is e n =
    sym (e ∙ ap (again_in s) (here all i k within is) ∙ rw (from_not (contains nat_cmp s k) n) refl)

module _ (s t : BTreeSet ℕ) (k : ℕ) (set : Updates nat_cmp s t k true) where
  contained : (q : ℕ) → contains nat_cmp t q ≡ (nat_eq q k || contains nat_cmp s q)
  contained q = set.0 q ∙ ap (λ (b : Bool). cond b true (contains nat_cmp s q)) (is_eq_nat k q ∙ nat_eq_equiv.symm k q) ∙ cases (nat_eq q k) (contains nat_cmp s q)
    where
      cases : (a b : Bool) → cond a true b ≡ (a || b)
      cases true b = refl
      cases false b = refl

  any_contained : (qs : List ℕ) → list_any (contains nat_cmp t) qs ≡ (list_any (contains nat_cmp s) qs || list_any (nat_eq k) qs)
  any_contained [] = refl
  any_contained (q ∷ qs) = rw (contained q, any_contained qs, nat_eq_equiv.symm q k) (cases (nat_eq k q) (contains nat_cmp s q) (list_any (contains nat_cmp s) qs) (list_any (nat_eq k) qs))
    where
      cases : (a b c d : Bool) → ((a || b) || (c || d)) ≡ ((b || c) || (a || d))
      cases true true c d = refl
      cases true false true d = refl
      cases true false false d = refl
      cases false true c d = refl
      cases false false c d = refl

  pub again_more : (all : List ℕ) (i : ℕ) → i < length all → k ≡ get_or all i k → has_again all ≡ again_in s (drop i all) → true ≡ not (contains nat_cmp s k) → has_again all ≡ again_in t (drop (i + 1) all)
  again_more all i within is e n =
      let more = drop (i + 1) all in
      e ∙ ap (again_in s) (here all i k within is) ∙ rw (from_not_true (contains nat_cmp s k) n, any_contained more) (cases (list_any (contains nat_cmp s) more) (list_any (nat_eq k) more) (has_again more))
    where
      cases : (a b c : Bool) → (a || (b || c)) ≡ ((a || b) || c)
      cases true b c = refl
      cases false b c = refl

  pub those_more : (all : List ℕ) (i : ℕ) → i < length all → k ≡ get_or all i k → ((q : ℕ) → contains nat_cmp s q ≡ list_any (nat_eq q) (take i all)) → (q : ℕ) → contains nat_cmp t q ≡ list_any (nat_eq q) (take (i + 1) all)
  those_more all i within is e q =
      let now : take (i + 1) all ≡ take i all ++ k ∷ [] = rw add-one (take-suc all i k within) ∙ ap (λ (x : ℕ). take i all ++ x ∷ []) (sym is) in
      contained q ∙ ap (λ (b : Bool). nat_eq q k || b) (e q) ∙ cases (nat_eq q k) (list_any (nat_eq q) (take i all)) ∙ sym (list_any-append (nat_eq q) (take i all) (k ∷ [])) ∙ ap (λ (ks : List ℕ). list_any (nat_eq q) ks) (sym now)
    where
      cases : (a b : Bool) → (a || b) ≡ (b || (a || false))
      cases true true = refl
      cases true false = refl
      cases false true = refl
      cases false false = refl
