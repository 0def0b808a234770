-- Arguments that are sent as lines: addresses, packets.
use Rattle.std.specs.Prelude.{ℕ, Bool, List, [], ◌∷◌, ◌++◌}
use Rattle.std.specs.Char.{is_control}
use Rattle.std.specs.List.{list_any}
use Rattle.std.specs.Str.{chars}

-- whether a string has a control character: U+0000 to U+001F, U+007F to U+009F
abbrev pub has_control : List ℕ → Bool
has_control text = list_any is_control (chars text)

-- each argument in a line of its own
abbrev pub lines_of : List (List ℕ) → List ℕ
lines_of [] = []
lines_of (w ∷ ws) = w ++ 10 ∷ lines_of ws
