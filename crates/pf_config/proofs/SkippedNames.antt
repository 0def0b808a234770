-- The names of skipped interfaces in byte order, and how one of them is found.
use Rattle.std.proofs.Common.{◌≡◌, ℕ, suc, add-one, ◌<◌, ◌||◌, Bool, true, false, List, [], ◌∷◌, ◌++◌, length, take, drop, take-append-drop, get_or, refl, sym, ap, subst, ◌∙◌, arith}
use Rattle.std.specs.declared.cmp.Ordering.TheVariants.{Less, Equal, Greater}
use Rattle.std.specs.Prelude.{not}
use Rattle.std.specs.List.{list_all}
use Rattle.std.specs.List.Sorted.{IsPermutation, IsSortedBy}
use Rattle.std.specs.Str.{bytes_eq}
use Rattle.std.specs.Ordering.{nat_cmp, is_eq, is_lt, ordering_reverse}
use Rattle.std.specs.Cmp.{IsStrictWeakOrder}
use Rattle.std.specs.Cmp.Lexicographic.{slice_cmp}
use Rattle.std.proofs.lemmas.Cmp.{nat_list_cmp_total}
use Rattle.std.proofs.lemmas.List.Folds.{list_any-append}
use Rattle.std.proofs.lemmas.List.Sorted.{list_any-IsPermutation}
use Rattle.std.proofs.lemmas.List.MinMax.{ranks_by}
use Rattle.std.proofs.lemmas.Map.Text.{is_eq-slice_cmp}
use Rattle.pf_rules.specs.Names.{Name, is_before}
use Rattle.pf_config.specs.SkippedNames.{is_listed}
use Rattle.pf_config.specs.inner.RisingNames.{AreRising, IsIndex}
use Rattle.pf_config.proofs.Treed.{both_true, before_other, bytes_same, never}
use Rattle.pf_config.proofs.Ordered.{turned}

pub index_none : (rising names : List Name) → rising ≡ [] → names ≡ [] → IsIndex rising names
index_none rising names h k = rw (h, k) (tt, λ n. refl)

-- ---- sorted names

pub before_ranks : IsStrictWeakOrder (λ (x y : Name). is_before x y)
before_ranks = ranks_by nat_list_cmp_total (λ (x : Name). x)

none_lower : (x y : Name) (ns : List Name) → is_before y x ≡ false → list_all (λ (m : Name). not (is_before m y)) ns ≡ true → list_all (λ (m : Name). not (is_before m x)) ns ≡ true
none_lower x y [] h k = refl
none_lower x y (n ∷ ns) h k =
    let both = both_true (not (is_before n y)) (list_all (λ (m : Name). not (is_before m y)) ns) k in
    rw (before_ranks.chain n y x (not_before (is_before n y) both.0) h) (none_lower x y ns h both.1)
  where
    not_before : (b : Bool) → not b ≡ true → b ≡ false
    not_before true e = cc
    not_before false e = refl

rising_each : (ns : List Name) → ((k : ℕ) (d : Name) → suc k < length ns → is_before (get_or ns (suc k) d) (get_or ns k d) ≡ false) → AreRising ns
rising_each [] h = tt
rising_each (x ∷ []) h = (refl, tt)
rising_each (x ∷ y ∷ ns) h =
    let rest = rising_each (y ∷ ns) (λ k d p. h (suc k) d (omega (arith, p))) in
    let first : is_before y x ≡ false = h 0 x (omega arith) in
    (rw first (none_lower x y ns first rest.0), rest)

pub rising_sorted : (ns : List Name) → IsSortedBy (λ (x y : Name). is_before x y) ns → AreRising ns
rising_sorted ns h = rising_each ns (λ k d p. subst (λ j. is_before (get_or ns j d) (get_or ns k d) ≡ false) (add-one k) (h k d (omega arith) (omega (arith, p))))

pub index_sorted : (names old new : List Name) → old ≡ names → IsPermutation old new → AreRising new → IsIndex new names
index_sorted names old new e moved up = (up, λ n. sym (list_any-IsPermutation (λ (m : Name). bytes_eq m n) old new moved) ∙ ap (is_listed n) e)

-- ---- a name is looked for by halves

not_true : (b : Bool) → not b ≡ true → b ≡ false
not_true true e = cc
not_true false e = refl

or_true : (b c : Bool) → (b || (true || c)) ≡ true
or_true true c = refl
or_true false c = refl

-- a name with another order to m is another name
other_front : (x m n : Name) → is_before m x ≡ false → is_before m n ≡ true → bytes_eq x n ≡ false
other_front x m n h k = (elim (bytes_eq x n) as (λ b. bytes_eq x n ≡ b → b ≡ false) [
  | true ↦ λ e. (let bad : true ≡ false = sym k ∙ subst (λ (z : Name). is_before m z ≡ false) (bytes_same x n e) h in bad)
  | false ↦ λ e. refl
]) refl

other_behind : (y m n : Name) → is_before y m ≡ false → is_before n m ≡ true → bytes_eq y n ≡ false
other_behind y m n h k = (elim (bytes_eq y n) as (λ b. bytes_eq y n ≡ b → b ≡ false) [
  | true ↦ λ e. (let bad : true ≡ false = sym k ∙ subst (λ (z : Name). is_before z m ≡ false) (bytes_same y n e) h in bad)
  | false ↦ λ e. refl
]) refl

none_front : (n m : Name) (ns behind : List Name) → AreRising (ns ++ m ∷ behind) → is_before m n ≡ true → is_listed n ns ≡ false
none_front n m [] behind s h = refl
none_front n m (x ∷ ns) behind s h = rw (other_front x m n (at_end ns s.0) h) (none_front n m ns behind s.1 h)
  where
    at_end : (ns : List Name) → list_all (λ (y : Name). not (is_before y x)) (ns ++ m ∷ behind) ≡ true → is_before m x ≡ false
    at_end [] e = not_true (is_before m x) (both_true (not (is_before m x)) (list_all (λ (y : Name). not (is_before y x)) behind) e).0
    at_end (y ∷ ns) e = at_end ns (both_true (not (is_before y x)) (list_all (λ (z : Name). not (is_before z x)) (ns ++ m ∷ behind)) e).1

none_behind : (n m : Name) (ns : List Name) → list_all (λ (y : Name). not (is_before y m)) ns ≡ true → is_before n m ≡ true → is_listed n ns ≡ false
none_behind n m [] s h = refl
none_behind n m (y ∷ ns) s h =
    let both = both_true (not (is_before y m)) (list_all (λ (z : Name). not (is_before z m)) ns) s in
    rw (other_behind y m n (not_true (is_before y m) both.0) h) (none_behind n m ns both.1 h)

rising_back : (ns us : List Name) → AreRising (ns ++ us) → AreRising us
rising_back [] us s = s
rising_back (n ∷ ns) us s = rising_back ns us s.1

rising_front : (ns us : List Name) → AreRising (ns ++ us) → AreRising ns
rising_front [] us s = tt
rising_front (n ∷ ns) us s = (front ns s.0, rising_front ns us s.1)
  where
    front : (ns : List Name) → list_all (λ (m : Name). not (is_before m n)) (ns ++ us) ≡ true → list_all (λ (m : Name). not (is_before m n)) ns ≡ true
    front [] h = refl
    front (x ∷ ns) h = let both = both_true (not (is_before x n)) (list_all (λ (m : Name). not (is_before m n)) (ns ++ us)) h in rw both.0 (front ns both.1)

or_false : (b : Bool) → (b || false) ≡ b
or_false true = refl
or_false false = refl

-- one half of the names is left
pub record NameHalves (n : Name) (ns front : List Name) (m : Name) (behind : List Name) : Type 0 where
  pub here : slice_cmp nat_cmp m n ≡ Equal → is_listed n ns ≡ true
  pub back : slice_cmp nat_cmp m n ≡ Less → is_listed n ns ≡ is_listed n behind
  pub first : slice_cmp nat_cmp m n ≡ Greater → is_listed n ns ≡ is_listed n front
  pub rising_behind : AreRising behind
  pub rising_front : AreRising front

pub name_halves : (n : Name) (i : ℕ) (ns : List Name) (m : Name) (behind : List Name) → AreRising ns → drop i ns ≡ m ∷ behind → NameHalves n ns (take i ns) m behind
name_halves n i ns m behind s h =
    let front = take i ns in
    let e : front ++ m ∷ behind ≡ ns = ap (λ r. take i ns ++ r) (sym h) ∙ take-append-drop i ns in
    let t : AreRising (front ++ m ∷ behind) = subst AreRising (sym e) s in
    let b = rising_back front (m ∷ behind) t in
    let whole : is_listed n ns ≡ (is_listed n front || (bytes_eq m n || is_listed n behind)) = ap (is_listed n) (sym e) ∙ list_any-append (λ (x : Name). bytes_eq x n) front (m ∷ behind) in
    record {
      here = λ o. let same : bytes_eq m n ≡ true = sym (is_eq-slice_cmp m n) ∙ ap is_eq o in
          whole ∙ rw same (or_true (is_listed n front) (is_listed n behind));
      back = λ o. let less : is_before m n ≡ true = ap is_lt o in
          whole ∙ rw (none_front n m front behind t less, before_other m n less) refl;
      first = λ o. let less : is_before n m ≡ true = ap is_lt (turned m n ∙ ap ordering_reverse o) in
          whole ∙ rw (other_behind m m n (never m) less, none_behind n m behind b.0 less) (or_false (is_listed n front));
      rising_behind = b.1;
      rising_front = rising_front front (m ∷ behind) t;
    }
