-- Bits of parts.
use Rattle.std.proofs.Common.{◌≡◌, ◌∙◌, ℕ, zero, suc, ◌+◌, ◌*◌, ◌/◌, ◌%◌, ◌^◌, ◌<◌, ◌≤◌, Bool, true, false, List, [], ◌∷◌, length, ap, refl, arith}
use Rattle.std.specs.Prelude.{◌==◌, if◌then◌else◌}
use Rattle.std.specs.Int.{from_bool}
use Rattle.std.proofs.lemmas.Nat.Bits.{bit_at-suc}
use Rattle.std.proofs.Math.Nat.{pow-suc, pow-le-pow_right}
use Rattle.px_packet.specs.Held.{is_present, bits_of}
use Rattle.px_packet.specs.PieceLaws.{BitsReport}

-- the first bit, and the rest
low : (b : Bool) (n : ℕ) → ((if b then 1 else 0) + 2 * n) % 2 ≡ (if b then 1 else 0)
low true n = omega arith
low false n = omega arith

high : (b : Bool) (n : ℕ) → ((if b then 1 else 0) + 2 * n) / 2 ≡ n
high true n = omega arith
high false n = omega arith

bit_is : (b : Bool) → ((if b then 1 else 0) == 1) ≡ b
bit_is true = refl
bit_is false = refl

pub bits_report : BitsReport
bits_report [] k h = absurd (omega (arith, h))
bits_report (p ∷ ps) zero h =
    let one : bits_of (p ∷ ps) / 1 % 2 ≡ (if is_present p then 1 else 0) =
    ap (λ n. n % 2) (let e : bits_of (p ∷ ps) / 1 ≡ bits_of (p ∷ ps) = omega arith in e)
    ∙ low (is_present p) (bits_of ps) in
    ap (λ n. n == 1) one ∙ bit_is (is_present p)
bits_report (p ∷ ps) (suc k) h =
    ap (λ n. n == 1) (bit_at-suc (bits_of (p ∷ ps)) k ∙ ap (λ n. n / 2 ^ k % 2) (high (is_present p) (bits_of ps)))
    ∙ bits_report ps k (omega (arith, h))

-- there are no more bits than parts
bit_le : (b : Bool) → (if b then 1 else 0) ≤ 1
bit_le true = omega arith
bit_le false = omega arith

pub bits_below : (ps : List (List ℕ)) → bits_of ps < 2 ^ length ps
bits_below [] = omega arith
bits_below (p ∷ ps) =
    let e : 2 ^ suc (length ps) ≡ 2 ^ length ps * 2 = pow-suc 2 (length ps) in
    omega (arith, e, bits_below ps, bit_le (is_present p))

pub bits_few : (ps : List (List ℕ)) → length ps ≤ 29 → bits_of ps < 536870912
bits_few ps h =
    let pos : 0 < 2 = omega arith in
    let e : 2 ^ length ps ≤ 2 ^ 29 = pow-le-pow_right pos h in
    omega (arith, bits_below ps, e)

-- a bit is at most 1
pub bool_le : (b : Bool) → from_bool b ≤ 1
bool_le true = omega arith
bool_le false = omega arith
