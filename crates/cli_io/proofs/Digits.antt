-- Numbers that were read.
use Rattle.std.proofs.Common.{◌≡◌, ℕ, ◌<◌, ◌^◌, Bool, true, false, List, [], ◌∷◌, length, Option, Some, None, Result, Ok, Err, refl}
use Rattle.std.specs.Prelude.{◌&&◌, nat_lt, option_and_then}
use Rattle.std.specs.Char.{digit_value}
use Rattle.std.specs.List.{list_all}
use Rattle.std.specs.Str.Parse.{AllDigits, IsNumeral, ParsesUnsigned, digits_value, without_leading_plus}
use Rattle.std.proofs.lemmas.Bool.{and_parts, and_from, ltb-true, lt-ltb, false_from_ne_true}
use Rattle.clap.specs.Words.{ReadsOne}
use Rattle.cli_io.specs.Numbers.{is_numeral, number_if, number_of}

all_digits : (ds : List ℕ) → AllDigits 10 ds → list_all (λ c. nat_lt (digit_value c) 10) ds ≡ true
all_digits [] h = refl
all_digits (c ∷ cs) h = and_from (nat_lt (digit_value c) 10) (list_all (λ b. nat_lt (digit_value b) 10) cs) (lt-ltb (digit_value c) 10 h.0) (all_digits cs h.1)

from_digits : (ds : List ℕ) → list_all (λ c. nat_lt (digit_value c) 10) ds ≡ true → AllDigits 10 ds
from_digits [] h = tt
from_digits (c ∷ cs) h =
    let a = and_parts (nat_lt (digit_value c) 10) (list_all (λ b. nat_lt (digit_value b) 10) cs) h in
    (ltb-true (digit_value c) 10 a.0, from_digits cs a.1)

abbrev is_small : List ℕ → Bool
is_small ds = is_numeral ds && nat_lt (digits_value 10 ds) (2 ^ 32)

small : (ds : List ℕ) → IsNumeral 10 ds × (digits_value 10 ds < 2 ^ 32) → is_small ds ≡ true
small ds h = and_from (is_numeral ds) (nat_lt (digits_value 10 ds) (2 ^ 32))
    (and_from (nat_lt 0 (length ds)) (list_all (λ c. nat_lt (digit_value c) 10) ds) (lt-ltb 0 (length ds) h.0.0) (all_digits ds h.0.1))
    (lt-ltb (digits_value 10 ds) (2 ^ 32) h.1)

is_small_so : (ds : List ℕ) → is_small ds ≡ true → IsNumeral 10 ds × (digits_value 10 ds < 2 ^ 32)
is_small_so ds e =
    let a = and_parts (is_numeral ds) (nat_lt (digits_value 10 ds) (2 ^ 32)) e in
    let b = and_parts (nat_lt 0 (length ds)) (list_all (λ c. nat_lt (digit_value c) 10) ds) a.0 in
    ((ltb-true 0 (length ds) b.0, from_digits ds b.1), ltb-true (digits_value 10 ds) (2 ^ 32) a.1)

number_is : (ds : List ℕ) (n : ℕ) → is_small ds ≡ true → n ≡ digits_value 10 ds → Some n ≡ number_if ds
number_is ds n e same = rw (e, same) refl

pub number_read : (text : List ℕ) (n : ℕ) →
    (IsNumeral 10 (without_leading_plus text) × (digits_value 10 (without_leading_plus text) < 2 ^ 32)) × (n ≡ digits_value 10 (without_leading_plus text)) →
    Some n ≡ number_of text
number_read text n h = number_is (without_leading_plus text) n (small (without_leading_plus text) h.0) h.1

pub no_number : (text : List ℕ) →
    (IsNumeral 10 (without_leading_plus text) × (digits_value 10 (without_leading_plus text) < 2 ^ 32) → ⊥) → None ≡ number_of text
no_number text h =
    let none : is_small (without_leading_plus text) ≡ false =
    false_from_ne_true (is_small (without_leading_plus text)) (λ s. h (is_small_so (without_leading_plus text) s)) in
    rw none refl

-- the number that an option has, as its text is read
pub number_at : {E : Type 0} (gives : List ℕ → Result ℕ E → Type 0) (text : Option (List ℕ)) (r : Option ℕ) → (text ≡ None → r ≡ None) →
    ((t : List ℕ) → text ≡ Some t → ReadsOne gives t r) → ((t : List ℕ) (x : Result ℕ E) → gives t x → ParsesUnsigned 32 10 t x) →
    r ≡ option_and_then number_of text
number_at gives None r none some f = none refl
number_at gives (Some t) (Some v) none some f = number_read t v (f t (Ok v) (some t refl))
number_at gives (Some t) None none some f = let w = some t refl in no_number t (f t (Err w.0) w.1)
