-- Lines of a log, one after the other.
use Rattle.std.proofs.Common.{◌≡◌, ℕ, zero, suc, min, ◌-◌, ◌<◌, ◌≤◌, true, false, List, ◌++◌, length, refl, arith}
use Rattle.std.specs.Prelude.{nat_lt}
use Rattle.std.proofs.lemmas.Bool.{lt-ltb, le-ltb}
use Rattle.node_requests.specs.EntryLines.{lines_before}

-- one line more, while there is room
pub lines_step : (line : ℕ → List ℕ) (end n : ℕ) (text : List ℕ) → 0 < n → length text < 262144 →
    lines_before line end n text ≡ lines_before line end (n - 1) (text ++ line (end - n))
lines_step line end zero text some room = absurd (omega arith)
lines_step line end (suc n) text some room =
    let a : nat_lt (length text) 262144 ≡ true = lt-ltb (length text) 262144 room in
    let e : suc n - 1 ≡ n = omega arith in
    rw (a, e) refl

-- no line more, where none is left or there is no room
pub lines_end : (line : ℕ → List ℕ) (end n : ℕ) (text : List ℕ) → (0 < n → length text < 262144 → ⊥) →
    lines_before line end n text ≡ text
lines_end line end zero text full = refl
lines_end line end (suc n) text full =
    let here : length text < 262144 → ⊥ = full (omega arith) in
    let over : 262144 ≤ length text = omega (arith, here) in
    let a : nat_lt (length text) 262144 ≡ false = le-ltb (length text) 262144 over in
    rw a refl

-- a number of 32 bits is below what is cut to 32 bits where it is below it uncut
pub capped : (p n : ℕ) → p < 4294967296 → min p (min n 4294967295) ≡ min p n
capped p n h = grind (arith, h)
