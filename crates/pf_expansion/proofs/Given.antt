-- The name that an unnamed block is given is one.
use Rattle.std.proofs.Common.{◌≡◌, ℕ, ◌+◌, ◌-◌, ◌*◌, ◌^◌, ◌<◌, ◌≤◌, Bool, true, List, [], ◌∷◌, length, Option, Some, refl, ap, ◌∙◌, cond, None, arith, nat_le}
use Rattle.std.specs.Prelude.{decimal, fold, nat_lt}
use Rattle.std.specs.Option.{IsSome}
use Rattle.std.specs.List.{AllByRecursion, list_all}
use Rattle.std.proofs.lemmas.Bool.Decides.{nat_tests}
use Rattle.std.proofs.lemmas.Fmt.{digits_decimal, length-decimal-le}
use Rattle.std.proofs.lemmas.Str.Parse.{IsNumeralModel, numerals_by_fold, IsDigitsTest, FoldsDigits}
use Rattle.pf_rules.specs.Words.{decimal_value, is_anchor_byte, is_anchor_text}
use Rattle.pf_rules.specs.Names.{Name, name_if}
use Rattle.pf_expansion.specs.Anchors.{given_name}

abbrev pub IsDigit : ℕ → Type 0
IsDigit b = (48 ≤ b) × (b ≤ 57)

abbrev pub Digits : List ℕ → Type 0
Digits text = AllByRecursion IsDigit text

digits_test : IsDigitsTest Digits
digits_test = record { empty = tt; parts = λ c cs p. p; more = λ c cs p q. (p, q) }

abbrev value_from : ℕ → List ℕ → ℕ
value_from n text = fold (λ n d. 10 * n + (d - 48)) n text

folds : FoldsDigits value_from
folds = record { empty = λ n. refl; more = λ n c cs h. ap (λ (k : ℕ). value_from k cs) (omega arith) }

pub model : IsNumeralModel Digits decimal_value
model = numerals_by_fold Digits digits_test value_from folds

digit_is : (b : ℕ) → IsDigit b → is_anchor_byte b ≡ true
digit_is b digit = grind (arith, nat_tests)

digits_all : (text : List ℕ) → Digits text → list_all is_anchor_byte text ≡ true
digits_all [] digits = refl
digits_all (b ∷ text) digits = rw (digit_is b digits.0, digits_all text digits.1) refl

pub le_is : (m n : ℕ) → m ≤ n → nat_le m n ≡ true
le_is m n h = grind (arith, nat_tests, h)

pub lt_is : (m n : ℕ) → m < n → nat_lt m n ≡ true
lt_is m n h = grind (arith, nat_tests, h)

pub given_form : (k : ℕ) → k < 2 ^ 32 → is_anchor_text (given_name k) ≡ true
unfolding is_anchor_text
given_form k small =
    let short : length (decimal k) ≤ 10 = length-decimal-le 10 k (omega arith) (omega (arith, small)) (omega (arith, small)) in
    rw (lt_is 0 (length (given_name k)) (omega arith), le_is (length (given_name k)) 63 (omega (arith, short)), digits_all (decimal k) (digits_decimal model k (omega (arith, small)))) refl

-- so there is one
pub given_there : (o : Option Name) (bytes : List ℕ) (k : ℕ) → o ≡ name_if is_anchor_text bytes → bytes ≡ given_name k → k < 2 ^ 32 → IsSome o
given_there o bytes k is same small =
    let found : o ≡ Some bytes = is ∙ ap (λ (b : Bool). cond b (Some bytes) None) (ap is_anchor_text same ∙ given_form k small) in
    rw found refl
