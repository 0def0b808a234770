-- Paths that come again have numbers that come again.
use Rattle.std.proofs.Common.{◌≡◌, ℕ, ◌||◌, Bool, true, false, List, [], ◌∷◌, map, Option, Some, None, refl, sym, ap, ◌∙◌}
use Rattle.std.specs.Prelude.{nat_eq, bytes_eq}
use Rattle.std.specs.List.{list_any}
use Rattle.std.specs.Ordering.{nat_cmp}
use Rattle.std.specs.BTreeMap.{btree_map_len}
use Rattle.std.specs.BTreeSet.{BTreeSet, contains}
use Rattle.std.proofs.lemmas.Bool.{false≢true, and_parts, and_from, false_from_ne_true}
use Rattle.std.proofs.lemmas.Bool.Decides.{Decides-eqb}
use Rattle.std.proofs.lemmas.Slice.Eq.{bytes_eq-Decides}
use Rattle.pf_rules.specs.Names.{Name}
use Rattle.pf_rules.specs.Items.{ItemValue, values_of}
use Rattle.pf_statements.specs.Statements.{ItemText}
use Rattle.pf_expansion.specs.Blocks.{Path, item_paths, paths_within, same_path, any_among, comes_again, is_twice, unnamed_in}
use Rattle.pf_expansion.specs.inner.Numbers.{Steps, step_from, next_of, walk, number_of, is_within, AreWithin, AreApart, is_in, is_marked, has_again, AreNumbered}
use Rattle.pf_expansion.proofs.Stepping.{not_none, same_value, same_step}
use Rattle.pf_expansion.proofs.Numbering.{somes, head_same, tail_same, cons_none, all_numbers}

-- ---- paths that are the same

same_itself : (p : Path) → same_path p p ≡ true
same_itself [] = refl
same_itself (n ∷ ns) = and_from (bytes_eq n n) (same_path ns ns) ((bytes_eq-Decides n n).1 refl) (same_itself ns)

one_path : (p q : Path) → same_path p q ≡ true → p ≡ q
one_path [] [] e = refl
one_path [] (n ∷ ns) e = absurd (false≢true e)
one_path (m ∷ ms) [] e = absurd (false≢true e)
one_path (m ∷ ms) (n ∷ ns) e =
    let parts = and_parts (bytes_eq m n) (same_path ms ns) e in
    ap (λ (k : Name). k ∷ ms) ((bytes_eq-Decides m n).0 parts.0) ∙ ap (λ (ks : Path). n ∷ ks) (one_path ms ns parts.1)

same_other : (p q : Path) → same_path p q ≡ true → same_path q p ≡ true
same_other p q e = ap (λ (x : Path). same_path q x) (one_path p q e) ∙ same_itself q

same_either : (p q : Path) → same_path p q ≡ same_path q p
same_either p q = cases (same_path p q) (same_path q p) (same_other p q) (same_other q p)
  where
    cases : (a b : Bool) → (a ≡ true → b ≡ true) → (b ≡ true → a ≡ true) → a ≡ b
    cases true b f g = sym (f refl)
    cases false true f g = g refl
    cases false false f g = refl

-- ---- a number is that of one path

abbrev turned : Path → Path → Path
turned done [] = done
turned done (n ∷ ns) = turned (n ∷ done) ns

turned_again : (done path : Path) → turned [] (turned done path) ≡ turned path done
turned_again done [] = refl
turned_again done (n ∷ ns) = turned_again (n ∷ done) ns

abbrev number_back : Steps → Path → Option ℕ
number_back m [] = Some 0
number_back m (n ∷ ns) = next_of m (number_back m ns) n

from_back : (m : Steps) (done path : Path) → walk m (number_back m done) path ≡ number_back m (turned done path)
from_back m done [] = refl
from_back m done (n ∷ ns) = from_back m (n ∷ done) ns

module _ (m : Steps) (within : AreWithin m) (apart : AreApart m) where
  not_zero : (from : ℕ) (name : Name) → step_from m from name ≡ Some 0 → ⊥
  not_zero from name e = false≢true (sym (ap (is_within (btree_map_len m)) e) ∙ within from name)

  back_one : (p q : Path) (k : ℕ) → number_back m p ≡ Some k → number_back m q ≡ Some k → p ≡ q
  back_one [] [] k e f = refl
  back_one [] (n ∷ ns) k e f = cases (number_back m ns) (f ∙ sym e)
    where
      cases : (o : Option ℕ) → next_of m o n ≡ Some 0 → [] ≡ n ∷ ns
      cases None g = absurd (not_none g)
      cases (Some from) g = absurd (not_zero from n g)
  back_one (n ∷ ns) [] k e f = cases (number_back m ns) (e ∙ sym f)
    where
      cases : (o : Option ℕ) → next_of m o n ≡ Some 0 → n ∷ ns ≡ []
      cases None g = absurd (not_none g)
      cases (Some from) g = absurd (not_zero from n g)
  back_one (a ∷ ps) (b ∷ qs) k e f = cases (number_back m ps) (number_back m qs) refl refl e f (λ j x y. back_one ps qs j x y)
    where
      cases : (o u : Option ℕ) → number_back m ps ≡ o → number_back m qs ≡ u → next_of m o a ≡ Some k → next_of m u b ≡ Some k → ((j : ℕ) → number_back m ps ≡ Some j → number_back m qs ≡ Some j → ps ≡ qs) → a ∷ ps ≡ b ∷ qs
      cases None u x y g h more = absurd (not_none g)
      cases (Some i) None x y g h more = absurd (not_none h)
      cases (Some i) (Some j) x y g h more =
          let same = same_step i j a b (apart i a j b k g h) in
          ap (λ (n : Name). n ∷ ps) same.1 ∙ ap (λ (ns : Path). b ∷ ns) (more i x (y ∙ ap (λ (n : ℕ). Some n) (sym same.0)))

  number_one : (p q : Path) (k : ℕ) → number_of m p ≡ Some k → number_of m q ≡ Some k → p ≡ q
  number_one p q k e f =
      let turn : turned [] p ≡ turned [] q = back_one (turned [] p) (turned [] q) k (sym (from_back m [] p) ∙ e) (sym (from_back m [] q) ∙ f) in
      sym (turned_again [] p) ∙ ap (turned []) turn ∙ turned_again [] q

  same_number : (p q : Path) (i j : ℕ) → number_of m p ≡ Some i → number_of m q ≡ Some j → same_path p q ≡ nat_eq i j
  same_number p q i j e f = cases (same_path p q) (nat_eq i j) there back
    where
      there : same_path p q ≡ true → nat_eq i j ≡ true
      there s = (Decides-eqb i j).1 (same_value i j (sym e ∙ ap (number_of m) (one_path p q s) ∙ f))

      back : nat_eq i j ≡ true → same_path p q ≡ true
      back s = ap (same_path p) (sym (number_one p q i e (f ∙ ap (λ (k : ℕ). Some k) (sym ((Decides-eqb i j).0 s))))) ∙ same_itself p

      cases : (a b : Bool) → (a ≡ true → b ≡ true) → (b ≡ true → a ≡ true) → a ≡ b
      cases true b f g = sym (f refl)
      cases false true f g = g refl
      cases false false f g = refl

  any_number : (q : Path) (i : ℕ) → number_of m q ≡ Some i → (ps : List Path) (ks : List ℕ) → map (number_of m) ps ≡ somes ks → list_any (same_path q) ps ≡ list_any (nat_eq i) ks
  any_number q i e [] [] f = refl
  any_number q i e [] (k ∷ ks) f = absurd (cons_none (sym f))
  any_number q i e (p ∷ ps) [] f = absurd (cons_none f)
  any_number q i e (p ∷ ps) (k ∷ ks) f =
      ap (λ (b : Bool). b || list_any (same_path q) ps) (same_number q p i k e (head_same (number_of m p) (Some k) (map (number_of m) ps) (somes ks) f)) ∙
      ap (λ (b : Bool). nat_eq i k || b) (any_number q i e ps ks (tail_same (number_of m p) (Some k) (map (number_of m) ps) (somes ks) f))

  again_number : (ps : List Path) (ks : List ℕ) → map (number_of m) ps ≡ somes ks → comes_again ps ≡ has_again ks
  again_number [] [] f = refl
  again_number [] (k ∷ ks) f = absurd (cons_none (sym f))
  again_number (p ∷ ps) [] f = absurd (cons_none f)
  again_number (p ∷ ps) (k ∷ ks) f =
      let more = tail_same (number_of m p) (Some k) (map (number_of m) ps) (somes ks) f in
      ap (λ (b : Bool). b || comes_again ps) (any_number p k (head_same (number_of m p) (Some k) (map (number_of m) ps) (somes ks) f) ps ks more) ∙
      ap (λ (b : Bool). list_any (nat_eq k) ks || b) (again_number ps ks more)

  none_number : (q : Path) → number_of m q ≡ None → (ps : List Path) (ks : List ℕ) → map (number_of m) ps ≡ somes ks → false ≡ list_any (same_path q) ps
  none_number q e [] ks f = refl
  none_number q e (p ∷ ps) [] f = absurd (cons_none f)
  none_number q e (p ∷ ps) (k ∷ ks) f =
      let first = head_same (number_of m p) (Some k) (map (number_of m) ps) (somes ks) f in
      let apart : same_path q p ≡ false = false_from_ne_true (same_path q p) (λ s. not_none (sym e ∙ ap (number_of m) (one_path q p s) ∙ first)) in
      none_number q e ps ks (tail_same (number_of m p) (Some k) (map (number_of m) ps) (somes ks) f) ∙ ap (λ (b : Bool). b || list_any (same_path q) ps) (sym apart)

  module _ (s : BTreeSet ℕ) (ps : List Path) (ks : List ℕ) (numbers : map (number_of m) ps ≡ somes ks) (those : (k : ℕ) → contains nat_cmp s k ≡ list_any (nat_eq k) ks) where
    marked : (q : Path) → is_marked m s (Some 0) q ≡ list_any (same_path q) ps
    marked q = cases (number_of m q) refl
      where
        cases : (o : Option ℕ) → number_of m q ≡ o → is_in s o ≡ list_any (same_path q) ps
        cases None e = none_number q e ps ks numbers
        cases (Some i) e = those i ∙ sym (any_number q i e ps ks numbers)

    all_marked : (qs : List Path) → list_any (is_marked m s (Some 0)) qs ≡ list_any (λ (q : Path). list_any (same_path q) ps) qs
    all_marked [] = refl
    all_marked (q ∷ qs) = ap (λ (b : Bool). b || list_any (is_marked m s (Some 0)) qs) (marked q) ∙ ap (λ (b : Bool). list_any (same_path q) ps || b) (all_marked qs)

-- ---- either may be looked for among the other

any_none : (ps : List Path) → false ≡ list_any (λ (p : Path). list_any (same_path p) []) ps
any_none [] = refl
any_none (p ∷ ps) = any_none ps

any_more : (q : Path) (qs ps : List Path) → (list_any (same_path q) ps || list_any (λ (p : Path). list_any (same_path p) qs) ps) ≡ list_any (λ (p : Path). list_any (same_path p) (q ∷ qs)) ps
any_more q qs [] = refl
any_more q qs (p ∷ ps) =
    cases (same_path q p) (list_any (same_path q) ps) (list_any (same_path p) qs) (list_any (λ (x : Path). list_any (same_path x) qs) ps) ∙
    ap (λ (b : Bool). (b || list_any (same_path p) qs) || (list_any (same_path q) ps || list_any (λ (x : Path). list_any (same_path x) qs) ps)) (same_either q p) ∙
    ap (λ (b : Bool). (same_path p q || list_any (same_path p) qs) || b) (any_more q qs ps)
  where
    cases : (a b c d : Bool) → ((a || b) || (c || d)) ≡ ((a || c) || (b || d))
    cases true b c d = refl
    cases false true true d = refl
    cases false true false d = refl
    cases false false c d = refl

either_way : (qs ps : List Path) → list_any (λ (q : Path). list_any (same_path q) ps) qs ≡ any_among qs ps
either_way [] ps = any_none ps
either_way (q ∷ qs) ps = ap (λ (b : Bool). list_any (same_path q) ps || b) (either_way qs ps) ∙ any_more q qs ps

-- ---- a rule that is numbered

module _ (m n : Steps) (within : AreWithin n) (apart : AreApart n) (unnamed : ℕ) (before : List ItemValue) (item : ItemText) (ks olds news : List ℕ) (those_news : ks ≡ news) (none : olds ≡ []) (x : AreNumbered m n 0 olds news (λ (path : Path). item_paths path unnamed item) (λ (path : Path). [])) (same : unnamed ≡ unnamed_in 0 before) where
  abbrev paths : List Path
  paths = item_paths [] unnamed item

  abbrev others : List Path
  others = paths_within [] (values_of before)

  numbers : map (number_of n) paths ≡ somes ks
  numbers = all_numbers m n olds news (λ (path : Path). item_paths path unnamed item) none x ∙ ap somes (sym those_news)

  whole : is_twice before item ≡ (any_among others paths || comes_again paths)
  unfolding is_twice
  whole = ap (λ (k : ℕ). any_among others (item_paths [] k item) || comes_again (item_paths [] k item)) (sym same)

  or-true : (b : Bool) → (b || true) ≡ true
  or-true true = refl
  or-true false = refl

  or-false : (b : Bool) → (b || false) ≡ b
  or-false true = refl
  or-false false = refl

  -- a path in it comes again
  pub twice_within : true ≡ has_again ks → true ≡ is_twice before item
  twice_within e = sym (or-true (any_among others paths)) ∙ ap (λ (b : Bool). any_among others paths || b) (e ∙ sym (again_number n within apart paths ks numbers)) ∙ sym whole

  -- or is one before
  pub twice_before : (s : BTreeSet ℕ) → ((k : ℕ) → contains nat_cmp s k ≡ list_any (nat_eq k) ks) → false ≡ has_again ks → (found : Bool) → found ≡ list_any (is_marked n s (Some 0)) others → found ≡ is_twice before item
  twice_before s those e found f =
      f ∙ all_marked n within apart s paths ks numbers those others ∙ either_way others paths ∙ sym (or-false (any_among others paths)) ∙ ap (λ (b : Bool). any_among others paths || b) (e ∙ sym (again_number n within apart paths ks numbers)) ∙ sym whole
