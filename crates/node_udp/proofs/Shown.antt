-- An address that is shown is read as itself.
use Rattle.std.proofs.Common.{◌≡◌, ◌∙◌, ℕ, ◌+◌, ◌-◌, ◌*◌, ◌<◌, ◌≤◌, ◌==◌, ◌||◌, true, false, List, [], ◌∷◌, ◌++◌, length, Some, Result, Ok, Err, refl, ap, arith, nat_le, append_assoc, inl, inr}
use Rattle.std.specs.Prelude.{decimal, codes, nat_lt, fold, if◌then◌else◌, not, slice_index}
use Rattle.std.specs.List.{AllByRecursion, list_all, prefix_len}
use Rattle.std.specs.Char.{is_ascii_digit, is_ascii_graphic}
use Rattle.std.proofs.lemmas.List.Folds.{list_all-append}
use Rattle.std.proofs.Math.Seq.{drop-append-add, take-append_seam}
use Rattle.std.proofs.lemmas.Bool.{true≢false}
use Rattle.std.proofs.lemmas.Bool.Decides.{nat_tests}
use Rattle.std.proofs.lemmas.Fmt.{digits_decimal, digits_value-decimal, decimal_nonempty, length-decimal-le}
use Rattle.std.proofs.lemmas.List.{length-append, get_or-append-add}
use Rattle.std.proofs.lemmas.Str.Parse.{IsNumeralModel, numerals_by_fold, IsDigitsTest, FoldsDigits}
use Rattle.pf_addr.specs.declared.addr.Addr.{Addr}
use Rattle.pf_addr.specs.declared.addr.Addr.TheVariants.{V4, V6}
use Rattle.pf_addr.specs.declared.fault.AddrFault.{AddrFault}
use Rattle.pf_addr.specs.Blocks.{FitsAddr}
use Rattle.pf_addr.specs.Shown.{shown4, shown6}
use Rattle.pf_addr.specs.Spelling.{addr_of, has_colon, as_four, as_six, eight_of, quad_of}
use Rattle.pf_addr.proofs.Again.{addr_again}
use Rattle.pf_addr.proofs.Marks.{Apart, apart_from}
use Rattle.pf_addr.proofs.Plain.{IsAddressByte, address_plain, address_some}
use Rattle.pf_rules.specs.Words.{decimal_value, number_of}
use Rattle.node_udp.specs.declared.address.Address.{Address}
use Rattle.node_udp.specs.Addresses.{address_of, four_of, six_of, joined, shown_ip, shown_address}

-- ---- numbers

abbrev IsDigit : ℕ → Type 0
IsDigit b = (48 ≤ b) × (b ≤ 57)

abbrev Digits : List ℕ → Type 0
Digits text = AllByRecursion IsDigit text

digits_test : IsDigitsTest Digits
digits_test = record { empty = tt; parts = λ c cs p. p; more = λ c cs p q. (p, q) }

abbrev value_from : ℕ → List ℕ → ℕ
value_from n text = fold (λ n d. 10 * n + (d - 48)) n text

folds : FoldsDigits value_from
folds = record { empty = λ n. refl; more = λ n c cs h. ap (λ (k : ℕ). value_from k cs) (omega arith) }

model : IsNumeralModel Digits decimal_value
model = numerals_by_fold Digits digits_test value_from folds

digit_is : (b : ℕ) → IsDigit b → is_ascii_digit b ≡ true
digit_is b digit = grind (arith, nat_tests)

digits_all : (text : List ℕ) → Digits text → list_all is_ascii_digit text ≡ true
digits_all [] digits = refl
digits_all (b ∷ text) digits = rw (digit_is b digits.0, digits_all text digits.1) refl

le_is : (m n : ℕ) → m ≤ n → nat_le m n ≡ true
le_is m n h = grind (arith, nat_tests, h)

lt_is : (m n : ℕ) → m < n → nat_lt m n ≡ true
lt_is m n h = grind (arith, nat_tests, h)

port_again : (n : ℕ) → n ≤ 65535 → number_of 5 65535 (decimal n) ≡ Some n
unfolding number_of
port_again n fits =
    rw (
      lt_is 0 (length (decimal n)) (decimal_nonempty n (omega (arith, fits))),
      le_is (length (decimal n)) 5 (length-decimal-le 5 n (omega arith) (omega (arith, fits)) (omega (arith, fits))),
      digits_all (decimal n) (digits_decimal model n (omega (arith, fits))),
      digits_value-decimal model n (omega (arith, fits)),
      le_is n 65535 fits,
    ) refl

-- ---- strings that a mark ends

same_mark : (mark : ℕ) → (mark == mark) ≡ true
same_mark mark = grind (arith, nat_tests)

prefix_mark : (mark : ℕ) (text rest : List ℕ) → Apart mark text → prefix_len (λ b. not (b == mark)) (text ++ mark ∷ rest) ≡ length text
prefix_mark mark [] rest plain = rw (same_mark mark) refl
prefix_mark mark (b ∷ text) rest plain = rw (plain.0, prefix_mark mark text rest plain.1) (omega arith)

not_end : (text rest : List ℕ) (b : ℕ) → (length text == length (text ++ b ∷ rest)) ≡ false
not_end text rest b = let e = length-append text (b ∷ rest) in rw e (grind (arith, nat_tests))

-- the first byte of an address is no opening bracket
no_open : (b : ℕ) → IsAddressByte b → (b == 91) ≡ false
no_open b byte = elim byte [ inl low ↦ let h = low in grind (arith, nat_tests) | inr rest ↦ elim rest [ inl high ↦ let h = high in grind (arith, nat_tests) | inr dot ↦ let h = dot in grind (arith, nat_tests) ] ]

no_close : (b : ℕ) → IsAddressByte b → (b == 93) ≡ false
no_close b byte = elim byte [ inl low ↦ let h = low in grind (arith, nat_tests) | inr rest ↦ elim rest [ inl high ↦ let h = high in grind (arith, nat_tests) | inr dot ↦ let h = dot in grind (arith, nat_tests) ] ]

first_no_open : (text rest : List ℕ) → 0 < length text → AllByRecursion IsAddressByte text → (slice_index (text ++ rest) 0 == 91) ≡ false
first_no_open [] rest some plain = absurd (omega (arith, some))
first_no_open (b ∷ text) rest some plain = no_open b plain.0

-- an IPv4 address has no colon, since a string with one isn't read as IPv4

six_only : (r : Result ℕ AddrFault) (bits : ℕ) → as_six r ≡ Ok (V4 bits) → ⊥
six_only (Ok n) bits e = absurd cc
six_only (Err fault) bits e = absurd cc

no_colons : (text : List ℕ) → has_colon text ≡ false → Apart 58 text
no_colons [] none = tt
no_colons (b ∷ text) none =
    (elim (b == 58) as (λ v. (v || has_colon text) ≡ false → ((v ≡ false) × Apart 58 text)) [
      | true ↦ λ e. absurd (true≢false e)
      | false ↦ λ e. (refl, no_colons text e)
    ]) none

no_colon_in : (text : List ℕ) (bits : ℕ) → addr_of text ≡ Ok (V4 bits) → has_colon text ≡ false
no_colon_in text bits read =
    (elim (has_colon text) as (λ v. (if v then as_six (eight_of text) else as_four (quad_of false text)) ≡ Ok (V4 bits) → v ≡ false) [
      | true ↦ λ e. absurd (six_only (eight_of text) bits e)
      | false ↦ λ e. refl
    ]) read

-- ---- addresses

some_port : (ip : Addr) (port : ℕ) → 1 ≤ port → joined (Some ip) (Some port) ≡ Some (record { ip = ip; port = port })
some_port ip port used = let e : (port == 0) ≡ false = grind (arith, nat_tests, used) in rw e refl

four_again : (text : List ℕ) (bits port : ℕ) → addr_of text ≡ Ok (V4 bits) → 1 ≤ port → port ≤ 65535 →
    four_of (text ++ 58 ∷ decimal port) ≡ Some (record { ip = V4 bits; port = port })
unfolding four_of
four_again text bits port read used fits =
    rw (
      prefix_mark 58 text (decimal port) (no_colons text (no_colon_in text bits read)),
      not_end text (decimal port) 58,
      take-append_seam text (58 ∷ decimal port),
      drop-append-add text (58 ∷ decimal port) 1,
      read,
      port_again port fits,
    ) (some_port (V4 bits) port used)

six_again : (text : List ℕ) (bits port : ℕ) → addr_of text ≡ Ok (V6 bits) → Apart 93 text → 1 ≤ port → port ≤ 65535 →
    six_of (text ++ 93 ∷ 58 ∷ decimal port) ≡ Some (record { ip = V6 bits; port = port })
unfolding six_of
six_again text bits port read apart used fits =
    let two : length text + 1 + 1 ≡ length text + 2 = omega arith in
    rw (
      prefix_mark 93 text (58 ∷ decimal port) apart,
      get_or-append-add text (93 ∷ 58 ∷ decimal port) 1 0,
      two,
      take-append_seam text (93 ∷ 58 ∷ decimal port),
      drop-append-add text (93 ∷ 58 ∷ decimal port) 2,
      read,
      port_again port fits,
    ) (some_port (V6 bits) port used)

parts_again : (ip : Addr) (port : ℕ) → FitsAddr ip → 1 ≤ port → port ≤ 65535 →
    address_of (shown_ip ip ++ (codes ":" ++ decimal port)) ≡ Some (record { ip = ip; port = port })
unfolding address_of
parts_again (V4 bits) port fits used few =
    rw (first_no_open (shown4 bits) (58 ∷ decimal port) (address_some (V4 bits) fits) (address_plain (V4 bits) fits))
    (four_again (shown4 bits) bits port (addr_again (V4 bits) fits) used few)
parts_again (V6 bits) port fits used few =
    ap six_of (append_assoc (shown6 bits) (93 ∷ []) (58 ∷ decimal port))
    ∙ six_again (shown6 bits) bits port (addr_again (V6 bits) fits) (apart_from 93 IsAddressByte no_close (shown6 bits) (address_plain (V6 bits) fits)) used few

pub shown_again : (a : Address) → FitsAddr a.ip → 1 ≤ a.port → a.port ≤ 65535 → address_of (shown_address a) ≡ Some a
shown_again a fits used few = parts_again a.ip a.port fits used few

-- ---- its bytes

address_graphic : (b : ℕ) → IsAddressByte b → is_ascii_graphic b ≡ true
address_graphic b byte = elim byte [ inl low ↦ let h = low in grind (arith, nat_tests) | inr rest ↦ elim rest [ inl high ↦ let h = high in grind (arith, nat_tests) | inr dot ↦ let h = dot in grind (arith, nat_tests) ] ]

digit_graphic : (b : ℕ) → IsDigit b → is_ascii_graphic b ≡ true
digit_graphic b digit = grind (arith, nat_tests)

all_graphic : (P : ℕ → Type 0) → ((b : ℕ) → P b → is_ascii_graphic b ≡ true) → (text : List ℕ) → AllByRecursion P text → list_all is_ascii_graphic text ≡ true
all_graphic P each [] plain = refl
all_graphic P each (b ∷ text) plain = rw (each b plain.0, all_graphic P each text plain.1) refl

port_graphic : (port : ℕ) → port ≤ 65535 → list_all is_ascii_graphic (decimal port) ≡ true
port_graphic port few = all_graphic IsDigit digit_graphic (decimal port) (digits_decimal model port (omega (arith, few)))

parts_graphic : (ip : Addr) (port : ℕ) → FitsAddr ip → port ≤ 65535 → list_all is_ascii_graphic (shown_ip ip ++ (codes ":" ++ decimal port)) ≡ true
parts_graphic (V4 bits) port fits few =
    list_all-append is_ascii_graphic (shown4 bits) (58 ∷ decimal port)
    ∙ rw (all_graphic IsAddressByte address_graphic (shown4 bits) (address_plain (V4 bits) fits), port_graphic port few) refl
parts_graphic (V6 bits) port fits few =
    ap (list_all is_ascii_graphic) (append_assoc (shown6 bits) (93 ∷ []) (58 ∷ decimal port))
    ∙ list_all-append is_ascii_graphic (shown6 bits) (93 ∷ 58 ∷ decimal port)
    ∙ rw (all_graphic IsAddressByte address_graphic (shown6 bits) (address_plain (V6 bits) fits), port_graphic port few) refl

pub shown_word : (a : Address) → FitsAddr a.ip → a.port ≤ 65535 → list_all is_ascii_graphic (shown_address a) ≡ true
shown_word a fits few = parts_graphic a.ip a.port fits few
