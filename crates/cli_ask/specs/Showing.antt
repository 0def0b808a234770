-- Text of others for a terminal.
use Rattle.std.specs.Prelude.{ℕ, ◌==◌, ◌&&◌, Bool, false, List, ◌++◌, Option, option_map, not, codes, if◌then◌else◌}
use Rattle.std.specs.Char.{encode_utf8, is_control}
use Rattle.std.specs.Fmt.{digits}
use Rattle.std.specs.List.{flat_map}
use Rattle.std.specs.Str.{chars}
use Rattle.cli_ask.specs.Replies.{Answer, text_of}

-- a control character but newline and tab
abbrev pub is_hidden : ℕ → Bool
is_hidden c = is_control c && not (c == 10) && not (c == 9)

-- a character; such a one is its number in hexadecimal digits
-- Example: \u{1b} for Escape.
abbrev pub shown_char : ℕ → List ℕ
shown_char c = if is_hidden c then codes "\\u{" ++ digits 16 false c ++ codes "}" else encode_utf8 c

-- characters, one after the other
abbrev pub shown_text : List ℕ → List ℕ
shown_text text = flat_map shown_char (chars text)

-- bytes as characters, none where they aren't UTF-8
abbrev pub shown : List ℕ → Option (List ℕ)
shown bytes = option_map shown_text (text_of bytes)

-- an answer with such a body, none where that is no text
abbrev pub printable : Answer → Option Answer
printable a = option_map (λ text. record a { body = text }) (shown a.body)
