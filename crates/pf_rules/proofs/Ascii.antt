-- Names of interfaces are ASCII.
use Rattle.std.proofs.Common.{◌≡◌, ℕ, ◌<◌, ◌||◌, ◌==◌, Bool, true, false, List, get_or, refl, arith}
use Rattle.std.specs.Prelude.{nat_le}
use Rattle.std.specs.List.{list_all}
use Rattle.std.specs.Int.{is_in_range}
use Rattle.std.specs.Str.{IsAscii}
use Rattle.std.proofs.lemmas.Bool.{and_parts, leb-true, eqb-true}
use Rattle.std.proofs.lemmas.List.Sums.{AllPass-from_list_all}
use Rattle.std.proofs.lemmas.Str.Ascii.{IsAscii-from_all}
use Rattle.pf_rules.specs.Words.{is_table_byte, is_anchor_byte, is_interface_text, is_table_text, is_table_name, is_anchor_text}
use Rattle.pf_rules.specs.declared.profile.Profile.{Profile}

either : (x y : Bool) (P : Type 0) → (x ≡ true → P) → (y ≡ true → P) → (x || y) ≡ true → P
either true y P f g e = f refl
either false y P f g e = g e

in_range : (lo hi b : ℕ) → hi < 128 → is_in_range lo hi b ≡ true → b < 128
in_range lo hi b small e = omega (arith, small, leb-true b hi (and_parts (nat_le lo b) (nat_le b hi) e).1)

this_byte : (b n : ℕ) → n < 128 → (b == n) ≡ true → b < 128
this_byte b n small e = omega (arith, small, eqb-true b n e)

-- a byte of a name is ASCII
table_byte_ascii : (b : ℕ) → is_table_byte b ≡ true → b < 128
table_byte_ascii b e =
    either _ _ (b < 128)
    (either _ _ (b < 128) (either _ _ (b < 128) (in_range 48 57 b (omega arith)) (in_range 65 90 b (omega arith))) (in_range 97 122 b (omega arith)))
    (either _ _ (b < 128) (this_byte b 95 (omega arith)) (this_byte b 45 (omega arith))) e

anchor_byte_ascii : (b : ℕ) → is_anchor_byte b ≡ true → b < 128
anchor_byte_ascii b e = either _ _ (b < 128) (table_byte_ascii b) (this_byte b 46 (omega arith)) e

bytes_ascii : (test : ℕ → Bool) → ((b : ℕ) → test b ≡ true → b < 128) → (text : List ℕ) → list_all test text ≡ true → IsAscii text
bytes_ascii test ascii text e = IsAscii-from_all text (λ k d small. ascii (get_or text k d) (AllPass-from_list_all test text e k d small))

pub interface_text_ascii : (text : List ℕ) → is_interface_text text ≡ true → IsAscii text
unfolding is_interface_text
interface_text_ascii text e = bytes_ascii is_anchor_byte anchor_byte_ascii text (and_parts _ _ e).1

pub table_text_ascii : (text : List ℕ) → is_table_text text ≡ true → IsAscii text
unfolding is_table_text
table_text_ascii text e = bytes_ascii is_table_byte table_byte_ascii text (and_parts _ _ e).1

pub anchor_text_ascii : (text : List ℕ) → is_anchor_text text ≡ true → IsAscii text
unfolding is_anchor_text
anchor_text_ascii text e = bytes_ascii is_anchor_byte anchor_byte_ascii text (and_parts _ _ (and_parts _ _ (and_parts _ _ e).0).0).1

pub table_name_ascii : (profile : Profile) (text : List ℕ) → is_table_name profile text ≡ true → IsAscii text
unfolding is_table_name
table_name_ascii profile text e = table_text_ascii text (and_parts _ _ e).0
