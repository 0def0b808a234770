-- Digits that write a number of more than 64 bits.
use Rattle.std.proofs.Common.{◌≡◌, ℕ, ◌<◌, ◌≤◌, ◌^◌, List, [], ◌∷◌, true, false, length, ap, refl, arith, ◌&&◌, nat_lt, Err, Some}
use Rattle.std.proofs.lemmas.Bool.Decides.{nat_tests}
use Rattle.std.specs.List.{list_all}
use Rattle.std.specs.Char.{is_ascii_digit}
use Rattle.std.specs.Str.{all_ascii_digits}
use Rattle.std.specs.Str.Parse.{digits_value, ParsesUnsigned}
use Rattle.std.proofs.lemmas.Bool.{and_parts}
use Rattle.std.proofs.lemmas.Str.Parse.{parse_digits, numerals_by_value, tells_all_ascii_digits}
use Rattle.pf_lab.specs.Numbers.{is_number, number_of}

pub digits_all : (bs : List ℕ) → list_all is_ascii_digit bs ≡ all_ascii_digits bs
digits_all [] = refl
digits_all (b ∷ bs) = ap (λ r. is_ascii_digit b && r) (digits_all bs)

past_end : (n : ℕ) → (n < 2 ^ 64 → ⊥) → nat_lt n 18446744073709551616 ≡ false
past_end n h = let above : 18446744073709551616 ≤ n = omega (arith, h) in grind (arith, nat_tests)

above_none : (n : ℕ) → nat_lt 0 n ≡ true → 0 < n
above_none n h = grind (arith, nat_tests)

-- a number that isn't parsed, since it doesn't fit, is read as the greatest that does
pub number_past : {E : Type 0} (w : List ℕ) (e : E) → is_number w ≡ true → ParsesUnsigned 64 10 w (Err e)
    → Some 18446744073709551615 ≡ number_of w
unfolding number_of
number_past w e n h =
    let parts = and_parts (nat_lt 0 (length w)) (all_ascii_digits w) n in
    let past = past_end (digits_value 10 w) (λ less. parse_digits (numerals_by_value _ tells_all_ascii_digits) 64 w (Err e) h parts.1 (above_none _ parts.0, less)) in
    rw (n, past) refl
