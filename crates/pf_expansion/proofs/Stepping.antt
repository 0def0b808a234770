-- The numbers of steps, with one step more.
use Rattle.std.proofs.Common.{◌≡◌, ℕ, ◌+◌, ◌≤◌, ◌&&◌, Bool, true, false, cond, List, Option, Some, None, Result, Ok, Err, IfOk, OnOk, refl, sym, ap, ◌∙◌, arith}
use Rattle.std.specs.Prelude.{nat_eq, bytes_eq, is_some, unwrap_or, OnErr, if◌then◌else◌}
use Rattle.std.specs.Global.{Vec}
use Rattle.std.specs.Cmp.{IsTotalOrder}
use Rattle.std.specs.Ordering.{nat_cmp, is_eq, ordering_then}
use Rattle.std.specs.declared.cmp.Ordering.{Ordering}
use Rattle.std.specs.declared.cmp.Ordering.TheVariants.{Less, Equal, Greater}
use Rattle.std.specs.Cmp.Lexicographic.{slice_cmp}
use Rattle.std.specs.Map.{KeepsOthers, lookup}
use Rattle.std.specs.BTreeMap.{UpdatesBy, Updates, btree_map_len, get, is_at}
use Rattle.std.proofs.lemmas.Bool.{false≢true}
use Rattle.std.proofs.lemmas.Option.{none-some}
use Rattle.std.proofs.lemmas.Bool.Decides.{nat_tests, Decides-eqb}
use Rattle.std.proofs.lemmas.Cmp.{eq_by_cmp_equiv, nat_cmp_total, nat_list_cmp_total, then_total, on_total}
use Rattle.std.proofs.lemmas.Map.Text.{is_eq-slice_cmp}
use Rattle.std.proofs.lemmas.Slice.Eq.{bytes_eq-Decides}
use Rattle.pf_rules.specs.Names.{Name}
use Rattle.pf_expansion.specs.inner.Numbers.{Steps, step_from, is_within, AreWithin, AreApart, Grows}

-- ---- keys

abbrev pair_cmp : (ℕ × List ℕ) → (ℕ × List ℕ) → Ordering
pair_cmp x y = ordering_then (nat_cmp x.0 y.0) (slice_cmp nat_cmp x.1 y.1)

pair_total : IsTotalOrder pair_cmp
pair_total = then_total (on_total (λ (t : ℕ × List ℕ). t.0) nat_cmp_total) (on_total (λ (t : ℕ × List ℕ). t.1) nat_list_cmp_total)

abbrev pub by_step : (ℕ × Vec ℕ) → (ℕ × Vec ℕ) → Ordering
by_step x y = ordering_then (nat_cmp x.0 y.0) (slice_cmp nat_cmp x.1.items y.1.items)

abbrev pub at_step : ℕ → Name → (ℕ × Vec ℕ) → Ordering
at_step from name k = ordering_then (nat_cmp from k.0) (slice_cmp nat_cmp name k.1.items)

pub is_eq_nat : (x y : ℕ) → is_eq (nat_cmp x y) ≡ nat_eq x y
is_eq_nat x y = grind (arith, nat_tests)

is_eq_then : (a b : Ordering) → is_eq (ordering_then a b) ≡ (is_eq a && is_eq b)
is_eq_then Less b = refl
is_eq_then Equal b = refl
is_eq_then Greater b = refl

is_eq_pair : (x y : ℕ × List ℕ) → is_eq (pair_cmp x y) ≡ (nat_eq x.0 y.0 && bytes_eq x.1 y.1)
is_eq_pair x y = rw (is_eq_then (nat_cmp x.0 y.0) (slice_cmp nat_cmp x.1 y.1), is_eq_nat x.0 y.0, is_eq-slice_cmp x.1 y.1) refl

pub same_step : (from other : ℕ) (name another : Name) → (nat_eq from other && bytes_eq name another) ≡ true → (from ≡ other) × (name ≡ another)
same_step from other name another = cases (nat_eq from other) (bytes_eq name another) (Decides-eqb from other).0 (bytes_eq-Decides name another).0
  where
    cases : (a b : Bool) → (a ≡ true → from ≡ other) → (b ≡ true → name ≡ another) → (a && b) ≡ true → (from ≡ other) × (name ≡ another)
    cases true true f g e = (f refl, g refl)
    cases true false f g e = absurd (false≢true e)
    cases false b f g e = absurd (false≢true e)

pub is_same_step : (from : ℕ) (name : Name) → (nat_eq from from && bytes_eq name name) ≡ true
is_same_step from name = rw ((Decides-eqb from from).1 refl, (bytes_eq-Decides name name).1 refl) refl

apart : (x y k : ℕ × List ℕ) → (nat_eq x.0 y.0 && bytes_eq x.1 y.1) ≡ false → is_eq (pair_cmp x k) ≡ true → is_eq (pair_cmp y k) ≡ false
apart x y k n e =
    let laws = eq_by_cmp_equiv pair_total in
    laws.symm y k ∙ sym (laws.congr x k y e) ∙ is_eq_pair x y ∙ n

-- ---- what is found once a step was numbered

pub step_after : (m n : Steps) (from : ℕ) (name : Name) (at : ℕ) → UpdatesBy by_step (at_step from name) m n (Some at) → (p : ℕ) (q : Name) → step_from n p q ≡ cond (nat_eq from p && bytes_eq name q) (Some at) (step_from m p q)
unfolding KeepsOthers
step_after m n from name at h p q = cases (nat_eq from p && bytes_eq name q) refl
  where
    cases : (b : Bool) → (nat_eq from p && bytes_eq name q) ≡ b → step_from n p q ≡ cond b (Some at) (step_from m p q)
    cases true e =
        let same = same_step from p name q e in
        ap (λ (a : ℕ). step_from n a q) (sym same.0) ∙ ap (λ (b : Name). step_from n from b) (sym same.1) ∙ h.1
    cases false e = h.3 _ (λ x y. (eq_by_cmp_equiv pair_total).congr (p, q) (x.0, x.1.items) (y.0, y.1.items)) (λ k. apart (from, name) (p, q) (k.0, k.1.items) e)

pub same_value : (x y : ℕ) → Some x ≡ Some y → x ≡ y
same_value x y e = ap (λ (o : Option ℕ). unwrap_or o 0) e

pub not_none : {A : Type 0} {x : A} → None ≡ Some x → ⊥
not_none {x = x} e = none-some x e

module _ (m n : Steps) (from : ℕ) (name : Name) (at : ℕ) (h : UpdatesBy by_step (at_step from name) m n (Some at)) where
  pub grows_more : step_from m from name ≡ None → Grows m n
  grows_more none p q k e = step_after m n from name at h p q ∙ cases (nat_eq from p && bytes_eq name q) refl
    where
      cases : (b : Bool) → (nat_eq from p && bytes_eq name q) ≡ b → cond b (Some at) (step_from m p q) ≡ Some k
      cases true f =
          let same = same_step from p name q f in
          absurd (not_none (sym none ∙ ap (λ (a : ℕ). step_from m a name) same.0 ∙ ap (λ (b : Name). step_from m p b) same.1 ∙ e))
      cases false f = e

  module _ (count : at ≡ btree_map_len m + 1) (len : btree_map_len n ≡ btree_map_len m + 1) (within : AreWithin m) where
    pub within_more : AreWithin n
    within_more p q = rw (step_after m n from name at h p q, len) (cases (nat_eq from p && bytes_eq name q) (step_from m p q) (within p q))
      where
        cases : (b : Bool) (o : Option ℕ) → is_within (btree_map_len m) o ≡ true → is_within (btree_map_len m + 1) (cond b (Some at) o) ≡ true
        cases true o w = rw count (grind (arith, nat_tests))
        cases false None w = refl
        cases false (Some k) w = grind (arith, nat_tests, w)

    below : (o : Option ℕ) (k : ℕ) → is_within (btree_map_len m) o ≡ true → o ≡ Some k → k ≤ btree_map_len m
    below None k w e = absurd (not_none e)
    below (Some x) k w e = grind (arith, nat_tests, w, same_value x k e)

    pub apart_more : AreApart m → AreApart n
    apart_more a p q r s k e f = cases (nat_eq from p && bytes_eq name q) (nat_eq from r && bytes_eq name s) refl refl (sym (step_after m n from name at h p q) ∙ e) (sym (step_after m n from name at h r s) ∙ f)
      where
        cases : (b c : Bool) → (nat_eq from p && bytes_eq name q) ≡ b → (nat_eq from r && bytes_eq name s) ≡ c → cond b (Some at) (step_from m p q) ≡ Some k → cond c (Some at) (step_from m r s) ≡ Some k → (nat_eq p r && bytes_eq q s) ≡ true
        cases true true x y u v =
            let one = same_step from p name q x in
            let two = same_step from r name s y in
            rw (sym one.0, sym one.1, sym two.0, sym two.1) (is_same_step from name)
        cases true false x y u v =
            let big : at ≡ k = same_value at k u in
            let small : k ≤ btree_map_len m = below (step_from m r s) k (within r s) v in
            absurd (omega (arith, big, small, count))
        cases false true x y u v =
            let big : at ≡ k = same_value at k v in
            let small : k ≤ btree_map_len m = below (step_from m p q) k (within p q) u in
            absurd (omega (arith, big, small, count))
        cases false false x y u v = a p q r s k u v

-- ---- an insertion, which may be refused

pub is_none_from : (o : Option ℕ) → ((x : ℕ) → o ≡ Some x → ⊥) → o ≡ None
is_none_from None h = refl
is_none_from (Some x) h = absurd (h x refl)

len_more : (m n : Steps) (key : ℕ × Vec ℕ) → step_from m key.0 key.1.items ≡ None → (old : Option ℕ) → old ≡ get by_step m key → btree_map_len n ≡ btree_map_len m + (if is_some old then 0 else 1) → btree_map_len n ≡ btree_map_len m + 1
len_more m n key none old e l = l ∙ ap (λ (o : Option ℕ). btree_map_len m + (if is_some o then 0 else 1)) (e ∙ none)

module _ {E : Type 0} (m n : Steps) (key : ℕ × Vec ℕ) (at : ℕ) (count : at ≡ btree_map_len m + 1) (none : step_from m key.0 key.1.items ≡ None) (within : AreWithin m) where
  pub within_kept : (r : Result (Option ℕ) E) → OnOk r (Updates by_step m n key (Some at)) → IfOk r (λ old. old ≡ get by_step m key) → IfOk r (λ old. btree_map_len n ≡ btree_map_len m + (if is_some old then 0 else 1)) → OnErr r (n.entries ≡ m.entries) → AreWithin n
  within_kept (Ok old) set was len err = within_more m n key.0 key.1.items at set count (len_more m n key none old was len) within
  within_kept (Err e) set was len err = λ p q. rw err (within p q)

  pub apart_kept : (r : Result (Option ℕ) E) → OnOk r (Updates by_step m n key (Some at)) → IfOk r (λ old. old ≡ get by_step m key) → IfOk r (λ old. btree_map_len n ≡ btree_map_len m + (if is_some old then 0 else 1)) → OnErr r (n.entries ≡ m.entries) → AreApart m → AreApart n
  apart_kept (Ok old) set was len err a = apart_more m n key.0 key.1.items at set count (len_more m n key none old was len) within a
  apart_kept (Err e) set was len err a = λ p q r s k. rw (same_steps p q, same_steps r s) (a p q r s k)
    where
      same_steps : (p : ℕ) (q : Name) → step_from n p q ≡ step_from m p q
      same_steps p q = ap (λ (es : List ((ℕ × Vec ℕ) × ℕ)). lookup (is_at (at_step p q)) es) err
