-- Lists, majorities and maps by position.
use Rattle.std.proofs.Common.{◌≡◌, ℕ, zero, suc, ◌+◌, ◌*◌, ◌<◌, Bool, true, false, cond, ◌⊎◌, inl, inr, List, [], ◌∷◌, ◌++◌, Some, slice_get, eqb, arith, refl, sym, ap, subst, ltb-true, eqb-true, eq-eqb, ne_eqb, lt-suc_self}
use Rattle.std.proofs.lemmas.Bool.{cond_both, eqb-false}
use Rattle.px_model.specs.Step.{count, IsMajority, is_majority, put}
use Rattle.px_model.specs.Node.{Envelope, client}
use Rattle.px_model.specs.World.{to_members}
use Rattle.px_model.specs.Law.{Among}

pub among_left : {X : Type 0} (xs ys : List X) (x : X) → Among xs x → Among (xs ++ ys) x
among_left [] ys x h = absurd h
among_left (y ∷ xs) ys x h = elim h [ inl e ↦ inl e | inr t ↦ inr (among_left xs ys x t) ]

pub among_right : {X : Type 0} (xs ys : List X) (x : X) → Among ys x → Among (xs ++ ys) x
among_right [] ys x h = h
among_right (y ∷ xs) ys x h = inr (among_right xs ys x h)

pub among_cases : {X : Type 0} (xs ys : List X) (x : X) → Among (xs ++ ys) x → Among xs x ⊎ Among ys x
among_cases [] ys x h = inr h
among_cases (y ∷ xs) ys x h =
    elim h [
      | inl e ↦ inl (inl e)
      | inr t ↦ (elim (among_cases xs ys x t) [ inl a ↦ inl (inr a) | inr b ↦ inr b ])
    ]

pub among_get : {X : Type 0} (xs : List X) (k : ℕ) (x : X) → slice_get xs k ≡ Some x → Among xs x
among_get [] k x h = absurd (cc)
among_get (y ∷ ys) zero x h = inl (cc)
among_get (y ∷ ys) (suc k) x h = inr (among_get ys k x h)

-- what goes to members is among what is sent
pub among_to_members : {C : Type 0} (xs : List (Envelope C)) (x : Envelope C) → Among (to_members xs) x → Among xs x
among_to_members [] x h = absurd h
among_to_members {C} (y ∷ ys) x h =
    cond_both (eqb y.addressee client) (to_members ys) (y ∷ to_members ys) (λ (zs : List (Envelope C)). Among zs x → Among (y ∷ ys) x)
    (λ t b. inr (among_to_members ys x b))
    (λ f b. elim b [ inl is ↦ inl is | inr c ↦ inr (among_to_members ys x c) ]) h

-- ---- majorities

abbrev Shared : (n : ℕ) → (ℕ → Bool) → (ℕ → Bool) → Type 0
Shared n P Q = (m : ℕ) × (m < n) × (P m ≡ true) × (Q m ≡ true)

wider : (n : ℕ) (P Q : ℕ → Bool) → Shared n P Q → Shared (suc n) P Q
wider n P Q s = (s.0, (let l = s.1 in omega arith), s.2, s.3)

meet_more : (n : ℕ) (P Q : ℕ → Bool) (p q : Bool) → P n ≡ p → Q n ≡ q → suc n < cond p (suc (count n P)) (count n P) + cond q (suc (count n Q)) (count n Q) → (n < count n P + count n Q → Shared n P Q) → Shared (suc n) P Q
meet_more n P Q true true ep eq h ih = (n, lt-suc_self n, ep, eq)
meet_more n P Q true false ep eq h ih = wider n P Q (ih (omega arith))
meet_more n P Q false true ep eq h ih = wider n P Q (ih (omega arith))
meet_more n P Q false false ep eq h ih = wider n P Q (ih (omega arith))

meet : (n : ℕ) (P Q : ℕ → Bool) → n < count n P + count n Q → Shared n P Q
meet zero P Q h = absurd (omega arith)
meet (suc n) P Q h = meet_more n P Q (P n) (Q n) refl refl h (meet n P Q)

-- two majorities share a member
pub majorities_meet : (n : ℕ) (P Q : ℕ → Bool) → IsMajority n P → IsMajority n Q → (m : ℕ) × (m < n) × (P m ≡ true) × (Q m ≡ true)
majorities_meet n P Q p q = meet n P Q (omega arith)

-- the test finds majorities
pub majority_from : (n : ℕ) (P : ℕ → Bool) → is_majority n P ≡ true → IsMajority n P
majority_from n P t = ltb-true n (2 * count n P) t

-- ---- maps

pub put_same : {X : Type 0} (map : ℕ → X) (k : ℕ) (x : X) → put map k x k ≡ x
put_same map k x = ap (λ (b : Bool). cond b x (map k)) (eq-eqb k k refl)

pub put_other : {X : Type 0} (map : ℕ → X) (k : ℕ) (x : X) (q : ℕ) → (q ≡ k → ⊥) → put map k x q ≡ map q
put_other map k x q ne = ap (λ (b : Bool). cond b x (map q)) (ne_eqb q k ne)

-- what holds of the new value at its place, and of the others as they were, holds everywhere
pub put_all : {X : Type 0} (P : ℕ → X → Type 0) (map : ℕ → X) (k : ℕ) (x : X) → P k x → ((q : ℕ) → (q ≡ k → ⊥) → P q (map q)) → (q : ℕ) → P q (put map k x q)
put_all P map k x here there q =
    cond_both (eqb q k) x (map q) (P q)
    (λ e. subst (λ (j : ℕ). P j x) (sym (eqb-true q k e)) here)
    (λ e. there q (eqb-false q k e))
