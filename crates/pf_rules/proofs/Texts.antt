-- Names of interfaces are short strings.
use Rattle.std.proofs.Common.{◌≡◌, ℕ, ◌≤◌, Bool, true, false, List, length, arith}
use Rattle.std.specs.Prelude.{nat_le}
use Rattle.std.specs.Str.{IsUtf8}
use Rattle.std.proofs.lemmas.Bool.{and_parts, leb-true}
use Rattle.std.proofs.lemmas.Str.{IsUtf8-from_ascii}
use Rattle.pf_rules.specs.Words.{is_interface_text}
use Rattle.pf_rules.proofs.Ascii.{interface_text_ascii}

pub interface_text_short : (text : List ℕ) → is_interface_text text ≡ true → length text ≤ 15
unfolding is_interface_text
interface_text_short text e = leb-true (length text) 15 (and_parts _ _ (and_parts _ _ e).0).1

pub interface_text_utf8 : (text : List ℕ) → is_interface_text text ≡ true → IsUtf8 text
interface_text_utf8 text e = IsUtf8-from_ascii text (interface_text_ascii text e)
