-- Shown numbers are read again.
use Rattle.std.proofs.Common.{◌≡◌, ℕ, ◌^◌, ◌<◌, ◌≤◌, ◌==◌, ◌&&◌, Bool, true, false, List, [], ◌∷◌, length, Some, None, refl, arith}
use Rattle.std.specs.Prelude.{decimal, bytes_eq, codes, nat_lt}
use Rattle.std.specs.List.{list_all}
use Rattle.std.specs.Char.{is_ascii_digit}
use Rattle.std.proofs.lemmas.Bool.Decides.{nat_tests}
use Rattle.std.proofs.lemmas.Fmt.{digits_decimal, digits_value-decimal, decimal_nonempty, length-decimal-le}
use Rattle.pf_rules.specs.declared.profile.Profile.{Profile}
use Rattle.pf_rules.specs.declared.profile.Profile.TheVariants.{One, Two}
use Rattle.pf_rules.specs.Words.{decimal_value, number_of, Named, named, protocols, protocol_of, services, port_of, icmp_types, icmp_type_of, common_reserved, is_among, is_reserved}
use Rattle.pf_expansion.proofs.Given.{IsDigit, Digits, model, le_is, lt_is}

-- ---- digits

pub decimal_digits : (n : ℕ) → n < 65536 → Digits (decimal n)
decimal_digits n small = digits_decimal model n (omega (arith, small))

pub decimal_again : (n : ℕ) → n < 65536 → decimal_value (decimal n) ≡ n
decimal_again n small = digits_value-decimal model n (omega (arith, small))

digit_is : (b : ℕ) → IsDigit b → is_ascii_digit b ≡ true
digit_is b digit = grind (arith, nat_tests)

digits_all : (text : List ℕ) → Digits text → list_all is_ascii_digit text ≡ true
digits_all [] digits = refl
digits_all (b ∷ text) digits = rw (digit_is b digits.0, digits_all text digits.1) refl

pub decimal_there : (n : ℕ) → n < 65536 → 0 < length (decimal n)
decimal_there n small = decimal_nonempty n (omega (arith, small))

pub number_again : (digits most n : ℕ) → 0 < digits → n ≤ most → n < 65536 → n < 10 ^ digits → number_of digits most (decimal n) ≡ Some n
unfolding number_of
number_again digits most n some fits small short =
    rw (
      lt_is 0 (length (decimal n)) (decimal_there n small),
      le_is (length (decimal n)) digits (length-decimal-le digits n some short (omega (arith, small))),
      digits_all (decimal n) (decimal_digits n small),
      decimal_again n small,
      le_is n most fits,
    ) refl

-- ---- digits are no words

-- begins with a byte above the digits
abbrev begins_high : List ℕ → Bool
begins_high [] = false
begins_high (b ∷ word) = nat_lt 57 b

abbrev pub BeginsDigit : List ℕ → Type 0
BeginsDigit [] = ⊥
BeginsDigit (b ∷ text) = IsDigit b

unlike : (b c : ℕ) → IsDigit b → nat_lt 57 c ≡ true → (b == c) ≡ false
unlike b c digit high = grind (arith, nat_tests, high)

no_word : (text word : List ℕ) → BeginsDigit text → begins_high word ≡ true → bytes_eq text word ≡ false
no_word [] word digit high = absurd digit
no_word (b ∷ text) [] digit high = refl
no_word (b ∷ text) (c ∷ word) digit high = rw (unlike b c digit high) refl

and_parts : (a b : Bool) → (a && b) ≡ true → (a ≡ true) × (b ≡ true)
and_parts true b e = (refl, e)
and_parts false b e = absurd cc

no_words : (text : List ℕ) (words : List (List ℕ)) → BeginsDigit text → list_all begins_high words ≡ true → is_among words text ≡ false
no_words text [] digit high = refl
no_words text (word ∷ words) digit high =
    let h = and_parts (begins_high word) (list_all begins_high words) high in
    rw (no_word text word digit h.0, no_words text words digit h.1) refl

no_name : (text : List ℕ) (rows : List Named) → BeginsDigit text → list_all (λ row. begins_high row.0) rows ≡ true → named rows text ≡ None
no_name text [] digit high = refl
no_name text (row ∷ rows) digit high =
    let h = and_parts (begins_high row.0) (list_all (λ row. begins_high row.0) rows) high in
    rw (no_word text row.0 digit h.0, no_name text rows digit h.1) refl

pub digit_free : (profile : Profile) (text : List ℕ) → BeginsDigit text → is_reserved profile text ≡ false
unfolding is_reserved
digit_free One text digit = no_words text common_reserved digit refl
digit_free Two text digit = rw (no_words text common_reserved digit refl) (no_word text (codes "icmp-type") digit refl)

digits_begin : (text : List ℕ) → 0 < length text → Digits text → BeginsDigit text
digits_begin [] some digits = absurd (omega arith)
digits_begin (b ∷ text) some digits = digits.0

pub decimal_begins : (n : ℕ) → n < 65536 → BeginsDigit (decimal n)
decimal_begins n small = digits_begin (decimal n) (decimal_there n small) (decimal_digits n small)

pub protocol_again : (n : ℕ) → n ≤ 255 → protocol_of (decimal n) ≡ Some n
protocol_again n fits = rw (no_name (decimal n) protocols (decimal_begins n (omega (arith, fits))) refl) (number_again 3 255 n (omega arith) fits (omega (arith, fits)) (omega (arith, fits)))

pub port_again : (n : ℕ) → n ≤ 65535 → port_of (decimal n) ≡ Some n
port_again n fits = rw (no_name (decimal n) services (decimal_begins n (omega (arith, fits))) refl) (number_again 5 65535 n (omega arith) fits (omega (arith, fits)) (omega (arith, fits)))

pub type_again : (n : ℕ) → n ≤ 255 → icmp_type_of (decimal n) ≡ Some n
type_again n fits = rw (no_name (decimal n) icmp_types (decimal_begins n (omega (arith, fits))) refl) (number_again 3 255 n (omega arith) fits (omega (arith, fits)) (omega (arith, fits)))
