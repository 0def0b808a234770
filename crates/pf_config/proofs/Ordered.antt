-- Tables in the order of their names.
use Rattle.std.proofs.Common.{◌≡◌, ◌-◌, ◌≤◌, Bool, true, false, cond, List, [], ◌∷◌, ◌++◌, Some, None, Ordering, length, take, drop, drop-cons, take_all, get_or, refl, sym, subst, ap, ◌∙◌, arith, length-drop}
use Rattle.std.specs.declared.cmp.Ordering.TheVariants.{Less, Equal, Greater}
use Rattle.std.specs.Prelude.{if◌then◌else◌, filter}
use Rattle.std.specs.List.{list_all}
use Rattle.std.specs.Str.{bytes_eq}
use Rattle.std.specs.Ordering.{is_lt, is_eq, nat_cmp, ordering_reverse}
use Rattle.std.specs.Cmp.Lexicographic.{slice_cmp}
use Rattle.std.proofs.lemmas.Cmp.{nat_list_cmp_total, nat_list_eq_equiv}
use Rattle.std.proofs.lemmas.Map.Lookups.{exact_bytes}
use Rattle.std.proofs.lemmas.Map.Text.{is_eq-slice_cmp}
use Rattle.pf_rules.specs.Names.{Name, is_before}
use Rattle.pf_tables.specs.Tables.{TableValue}
use Rattle.pf_config.specs.Map.{named}
use Rattle.pf_config.specs.Changes.{with_table, tables_before, tables_behind}
use Rattle.pf_config.specs.Ordered.{AreOrdered}
use Rattle.pf_config.proofs.Treed.{both_true, is_less, name_chain, before_other}

-- ---- names

pub turned : (x y : Name) → slice_cmp nat_cmp y x ≡ ordering_reverse (slice_cmp nat_cmp x y)
turned x y = nat_list_cmp_total.antisymm y x

pub back : (x y : Name) → is_before x y ≡ true → is_before y x ≡ false
back x y h = ap is_lt (turned x y ∙ ap ordering_reverse (is_less _ h))

neither : (o : Ordering) → is_lt o ≡ false → is_lt (ordering_reverse o) ≡ false → o ≡ Equal
neither Less h k = cc
neither Equal h k = refl
neither Greater h k = cc

pub same : (x y : Name) → is_before x y ≡ false → is_before y x ≡ false → x ≡ y
same x y h k = exact_bytes x y (neither _ h (ap is_lt (sym (turned x y)) ∙ k))

-- ---- tables behind a name

abbrev pub above : Name → List (Name × TableValue) → Bool
above n ts = list_all (λ (u : Name × TableValue). is_before n u.0) ts

pub above_chain : (m n : Name) (ts : List (Name × TableValue)) → is_before m n ≡ true → above n ts ≡ true → above m ts ≡ true
above_chain m n [] h k = refl
above_chain m n (t ∷ ts) h k = let both = both_true (is_before n t.0) (above n ts) k in rw (name_chain m n t.0 h both.0) (above_chain m n ts h both.1)

pub none_before : (n : Name) (ts : List (Name × TableValue)) → above n ts ≡ true → tables_before n ts ≡ []
none_before n [] h = refl
none_before n (t ∷ ts) h = let both = both_true (is_before n t.0) (above n ts) h in rw (back n t.0 both.0) (none_before n ts both.1)

pub all_behind : (n : Name) (ts : List (Name × TableValue)) → above n ts ≡ true → tables_behind n ts ≡ ts
all_behind n [] h = refl
all_behind n (t ∷ ts) h = let both = both_true (is_before n t.0) (above n ts) h in rw both.0 (ap (λ (us : List (Name × TableValue)). t ∷ us) (all_behind n ts both.1))

above_filter : (test : Name × TableValue → Bool) (n : Name) (ts : List (Name × TableValue)) → above n ts ≡ true → above n (filter test ts) ≡ true
above_filter test n [] h = refl
above_filter test n (t ∷ ts) h =
    let both = both_true (is_before n t.0) (above n ts) h in
    elim (test t) as (λ b. above n (cond b (t ∷ filter test ts) (filter test ts)) ≡ true) [ true ↦ rw both.0 (above_filter test n ts both.1) | false ↦ above_filter test n ts both.1 ]

pub ordered_filter : (test : Name × TableValue → Bool) (ts : List (Name × TableValue)) → AreOrdered ts → AreOrdered (filter test ts)
ordered_filter test [] s = tt
ordered_filter test (t ∷ ts) s = elim (test t) as (λ b. AreOrdered (cond b (t ∷ filter test ts) (filter test ts))) [ true ↦ (above_filter test t.0 ts s.0, ordered_filter test ts s.1) | false ↦ ordered_filter test ts s.1 ]

-- ---- one table takes its place

-- step by step
abbrev pub put : List (Name × TableValue) → Name → TableValue → List (Name × TableValue)
put [] n v = (n, v) ∷ []
put (t ∷ ts) n v = if is_before t.0 n then t ∷ put ts n v else (if is_before n t.0 then (n, v) ∷ t ∷ ts else (n, v) ∷ ts)

pub with_is_put : (ts : List (Name × TableValue)) (n : Name) (v : TableValue) → AreOrdered ts → with_table ts n v ≡ put ts n v
with_is_put [] n v s = refl
with_is_put (t ∷ ts) n v s =
    (elim (is_before t.0 n) as (λ b. is_before t.0 n ≡ b → (cond b (t ∷ tables_before n ts) (tables_before n ts) ++ (n, v) ∷ tables_behind n (t ∷ ts)) ≡ (if b then t ∷ put ts n v else (if is_before n t.0 then (n, v) ∷ t ∷ ts else (n, v) ∷ ts))) [
      | true ↦ λ h. rw (back t.0 n h) (ap (λ (us : List (Name × TableValue)). t ∷ us) (with_is_put ts n v s.1))
      | false ↦ λ h. (elim (is_before n t.0) as (λ b. is_before n t.0 ≡ b → (tables_before n ts ++ (n, v) ∷ cond b (t ∷ tables_behind n ts) (tables_behind n ts)) ≡ (if b then (n, v) ∷ t ∷ ts else (n, v) ∷ ts)) [
        | true ↦ λ k. let a = above_chain n t.0 ts k s.0 in rw (none_before n ts a, all_behind n ts a) refl
        | false ↦ λ k. let a = subst (λ (m : Name). above m ts ≡ true) (same t.0 n h k) s.0 in rw (none_before n ts a, all_behind n ts a) refl
      ]) refl
    ]) refl

above_put : (m n : Name) (v : TableValue) (ts : List (Name × TableValue)) → is_before m n ≡ true → above m ts ≡ true → above m (put ts n v) ≡ true
above_put m n v [] h k = rw h refl
above_put m n v (t ∷ ts) h k =
    let both = both_true (is_before m t.0) (above m ts) k in
    elim (is_before t.0 n) as (λ b. above m (if b then t ∷ put ts n v else (if is_before n t.0 then (n, v) ∷ t ∷ ts else (n, v) ∷ ts)) ≡ true) [
      | true ↦ rw both.0 (above_put m n v ts h both.1)
      | false ↦ elim (is_before n t.0) as (λ b. above m (if b then (n, v) ∷ t ∷ ts else (n, v) ∷ ts) ≡ true) [ true ↦ rw h k | false ↦ rw h both.1 ]
    ]

ordered_put : (ts : List (Name × TableValue)) (n : Name) (v : TableValue) → AreOrdered ts → AreOrdered (put ts n v)
ordered_put [] n v s = (refl, tt)
ordered_put (t ∷ ts) n v s =
    (elim (is_before t.0 n) as (λ b. is_before t.0 n ≡ b → AreOrdered (if b then t ∷ put ts n v else (if is_before n t.0 then (n, v) ∷ t ∷ ts else (n, v) ∷ ts))) [
      | true ↦ λ h. (above_put t.0 n v ts h s.0, ordered_put ts n v s.1)
      | false ↦ λ h. (elim (is_before n t.0) as (λ b. is_before n t.0 ≡ b → AreOrdered (if b then (n, v) ∷ t ∷ ts else (n, v) ∷ ts)) [
        | true ↦ λ k. (rw k (above_chain n t.0 ts k s.0), s)
        | false ↦ λ k. (subst (λ (m : Name). above m ts ≡ true) (same t.0 n h k) s.0, s.1)
      ]) refl
    ]) refl

-- the tables with one more are in order
pub ordered_with : (ts : List (Name × TableValue)) (n : Name) (v : TableValue) → AreOrdered ts → AreOrdered (with_table ts n v)
ordered_with ts n v s = subst AreOrdered (sym (with_is_put ts n v s)) (ordered_put ts n v s)

-- ---- a table is looked for by halves

pub named_append : (n : Name) (ts us : List (Name × TableValue)) → named n ts ≡ None → named n (ts ++ us) ≡ named n us
named_append n [] us h = refl
named_append n (t ∷ ts) us h = (elim (bytes_eq t.0 n) as (λ b. cond b (Some t.1) (named n ts) ≡ None → cond b (Some t.1) (named n (ts ++ us)) ≡ named n us) [ true ↦ λ k. cc | false ↦ λ k. named_append n ts us k ]) h

none_in_front : (n : Name) (ts : List (Name × TableValue)) (m : Name × TableValue) (us : List (Name × TableValue)) → AreOrdered (ts ++ m ∷ us) → ((x : Name) → is_before x m.0 ≡ true → is_before x n ≡ true) → named n ts ≡ None
none_in_front n [] m us s h = refl
none_in_front n (t ∷ ts) m us s h = rw (before_other t.0 n (h t.0 (at_end ts s.0))) (none_in_front n ts m us s.1 h)
  where
    at_end : (ts : List (Name × TableValue)) → above t.0 (ts ++ m ∷ us) ≡ true → is_before t.0 m.0 ≡ true
    at_end [] k = (both_true (is_before t.0 m.0) (above t.0 us) k).0
    at_end (x ∷ ts) k = at_end ts (both_true (is_before t.0 x.0) (above t.0 (ts ++ m ∷ us)) k).1

pub none_above : (n : Name) (ts : List (Name × TableValue)) → above n ts ≡ true → named n ts ≡ None
none_above n [] h = refl
none_above n (t ∷ ts) h =
    let both = both_true (is_before n t.0) (above n ts) h in
    let o : bytes_eq t.0 n ≡ false = nat_list_eq_equiv.symm t.0 n ∙ before_other n t.0 both.0 in
    rw o (none_above n ts both.1)

pub found_here : (n : Name) (ts : List (Name × TableValue)) (m : Name × TableValue) (us : List (Name × TableValue)) → AreOrdered (ts ++ m ∷ us) → slice_cmp nat_cmp m.0 n ≡ Equal → named n (ts ++ m ∷ us) ≡ Some m.1
found_here n ts m us s o =
    let e : bytes_eq m.0 n ≡ true = sym (is_eq-slice_cmp m.0 n) ∙ ap is_eq o in
    named_append n ts (m ∷ us) (none_in_front n ts m us s (λ x k. subst (λ (y : Name). is_before x y ≡ true) (exact_bytes m.0 n o) k)) ∙ rw e refl

-- a list that isn't empty is its first element and the rest
pub cons_is : {X : Type 0} (xs : List X) (x : X) → 1 ≤ length xs → x ≡ get_or xs 0 x → x ∷ take (length xs - 1) (drop 1 xs) ≡ xs
cons_is xs x h k = ap (λ r. x ∷ r) (take_all (length xs - 1) (drop 1 xs) (omega (arith, length-drop 1 xs))) ∙ ap (λ z. z ∷ drop 1 xs) k ∙ sym (drop-cons xs 0 x (omega (arith, h)))
