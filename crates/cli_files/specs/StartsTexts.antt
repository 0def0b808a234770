-- The text of a file of starts.
use Rattle.std.specs.Prelude.{ℕ, ◌<◌, ◌^◌, List, [], ◌∷◌, ◌++◌}
use Rattle.std.specs.Int.{w64, to_be_bytes}
use Rattle.std.specs.List.{All}
use Rattle.hex.specs.Hex.{encode_lower}
use Rattle.px_packet.specs.Headers.{start_bytes}
use Rattle.cli_files.specs.declared.known.KnownMember.{KnownMember}

-- `pfx starts 1` and a newline
abbrev pub version : List ℕ
version = 112 ∷ 102 ∷ 120 ∷ 32 ∷ 115 ∷ 116 ∷ 97 ∷ 114 ∷ 116 ∷ 115 ∷ 32 ∷ 49 ∷ 10 ∷ []

-- a member's start, 8 bytes, and its birth, 8
abbrev pub known_bytes : KnownMember → List ℕ
known_bytes m = start_bytes m.start ++ to_be_bytes w64 m.birth

-- these in lower case hexadecimal digits, and a newline
abbrev pub line_of : KnownMember → List ℕ
line_of m = encode_lower (known_bytes m) ++ 10 ∷ []

-- a line for each member
abbrev pub lines_of : List KnownMember → List ℕ
lines_of [] = []
lines_of (m ∷ ms) = line_of m ++ lines_of ms

abbrev pub starts_text : List KnownMember → List ℕ
starts_text ms = version ++ lines_of ms

-- a member's numbers have room in its line
pub record Fits (m : KnownMember) : Type 0 where
  pub number : m.start.number < 2 ^ 32
  pub salt : m.start.salt < 2 ^ 32
  pub birth : m.birth < 2 ^ 64

abbrev pub AreFit : List KnownMember → Type 0
AreFit ms = All Fits ms
