-- Products that stop at a greatest number.
use Rattle.std.proofs.Common.{◌≡◌, ℕ, zero, suc, ◌*◌, ◌<◌, ◌≤◌, min, nat_lt, inl, inr, refl, ap, arith}
use Rattle.std.proofs.lemmas.Bool.{cases_lt, lt-ltb}

-- a number that was capped at m
lesser : (x m : ℕ) → x < m → min x m ≡ x
lesser x m h = omega arith

greater : (x m : ℕ) → m ≤ x → min x m ≡ m
greater x m h = omega arith

-- two products that both pass m
both : (x y m : ℕ) → m ≤ x → min (m * suc y) m ≡ min (x * suc y) m
both x y m h = grind arith

-- a factor that was capped makes no difference beneath the cap
pub capped : (x y m : ℕ) → min (min x m * y) m ≡ min (x * y) m
capped x zero m = omega arith
capped x (suc y) m =
    elim (cases_lt x m) [
      | inl h ↦ ap (λ n. min (n * suc y) m) (lesser x m h)
      | inr h ↦ rw (greater x m h) (both x y m h)
    ]

-- a bound beneath the cap is passed by both
pub below_cap : (k n m : ℕ) → k < m → nat_lt k (min n m) ≡ nat_lt k n
below_cap k n m h =
    elim (cases_lt n m) [
      | inl small ↦ ap (nat_lt k) (lesser n m small)
      | inr big ↦ rw (greater n m big) (rw (lt-ltb k m h, lt-ltb k n (omega arith)) refl)
    ]
