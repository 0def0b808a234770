-- What only code and proofs use beside `Tokens`.
use Rattle.std.specs.Prelude.{ℕ, ◌==◌, ◌&&◌, Bool, false, List}
use Rattle.std.specs.Prelude.{[], ◌∷◌}

-- ---- letters

-- whether the byte is a backslash directly before a newline, with these bytes behind it
abbrev pub continues : ℕ → List ℕ → Bool
continues b [] = false
continues b (c ∷ bytes) = b == 92 && c == 10
