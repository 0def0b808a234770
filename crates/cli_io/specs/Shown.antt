-- A string of others as people see it.
use Rattle.std.specs.Prelude.{if◌then◌else◌, ℕ, false, List, ◌++◌, codes}
use Rattle.std.specs.List.{flat_map}
use Rattle.std.specs.Char.{encode_utf8, is_control}
use Rattle.std.specs.Fmt.{digits}
use Rattle.std.specs.Str.{chars}

-- a character, where it is a control character its number in hexadecimal digits
abbrev pub shown_char : ℕ → List ℕ
shown_char c = if is_control c then codes "\\u{" ++ digits 16 false c ++ codes "}" else encode_utf8 c

-- a string, one character after the other
abbrev pub shown : List ℕ → List ℕ
shown text = flat_map shown_char (chars text)
