-- Elements of what is left of a list.
use Rattle.std.proofs.Common.{◌≡◌, ℕ, zero, suc, ◌+◌, ◌<◌, length, List, [], ◌∷◌, take, drop, min, refl, sym, ap, ◌∙◌, arith, inl, inr}
use Rattle.std.specs.Prelude.{slice_get}
use Rattle.std.proofs.lemmas.Bool.{cases_lt}
use Rattle.std.proofs.Math.Seq.{drop-length}
use Rattle.std.proofs.Math.ListN.{drop_of_length-le}

pub got_dropped : {X : Type 0} → (n : ℕ) (xs : List X) (k : ℕ) → slice_get (drop n xs) k ≡ slice_get xs (n + k)
got_dropped zero xs k = let e : k ≡ 0 + k = omega arith in ap (slice_get xs) e
got_dropped (suc n) [] k = refl
got_dropped (suc n) (x ∷ xs) k = let e : suc (n + k) ≡ suc n + k = omega arith in got_dropped n xs k ∙ ap (slice_get (x ∷ xs)) e

pub got_in_front : {X : Type 0} → (n : ℕ) (xs : List X) (k : ℕ) → k < n → slice_get (take n xs) k ≡ slice_get xs k
got_in_front zero xs k h = absurd (omega (arith, h))
got_in_front (suc n) [] k h = refl
got_in_front (suc n) (x ∷ xs) zero h = refl
got_in_front (suc n) (x ∷ xs) (suc k) h = got_in_front n xs k (omega (arith, h))

pub dropped_twice : {X : Type 0} → (n m : ℕ) (xs : List X) → drop m (drop n xs) ≡ drop (n + m) xs
dropped_twice zero m xs = let e : m ≡ 0 + m = omega arith in ap (λ k. drop k xs) e
dropped_twice (suc n) zero [] = let e : suc (n + 0) ≡ suc n + 0 = omega arith in ap (λ k. drop k []) e
dropped_twice (suc n) (suc m) [] = let e : suc (n + suc m) ≡ suc n + suc m = omega arith in ap (λ k. drop k []) e
dropped_twice (suc n) m (x ∷ xs) = let e : suc (n + m) ≡ suc n + m = omega arith in dropped_twice n m xs ∙ ap (λ k. drop k (x ∷ xs)) e

-- to drop more than there is drops all
pub dropped_least : {X : Type 0} → (n : ℕ) (xs : List X) → drop (min (length xs) n) xs ≡ drop n xs
dropped_least n xs = elim (cases_lt n (length xs)) [
  | inl h ↦ let e : min (length xs) n ≡ n = omega (arith, h) in ap (λ k. drop k xs) e
  | inr h ↦ let e : min (length xs) n ≡ length xs = omega (arith, h) in ap (λ k. drop k xs) e ∙ drop-length xs ∙ sym (drop_of_length-le xs h)
]
