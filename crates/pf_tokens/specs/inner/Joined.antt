-- What only code and proofs use beside `Joined`.
use Rattle.std.specs.Prelude.{ℕ, ◌+◌, ◌==◌, ◌&&◌, ◌||◌, Bool, false, List, [], ◌∷◌}
use Rattle.std.specs.Prelude.{if◌then◌else◌}
use Rattle.pf_tokens.specs.inner.Tokens.{continues}

-- the bytes that stay
abbrev pub joined : List ℕ → List ℕ
joined [] = []
joined (b ∷ []) = b ∷ []
joined (b ∷ c ∷ bytes) = if b == 92 && c == 10 then joined bytes else b ∷ joined (c ∷ bytes)

-- whether any line is continued
abbrev pub is_continued : List ℕ → Bool
is_continued [] = false
is_continued (b ∷ bytes) = continues b bytes || is_continued bytes

-- for each backslash and newline taken out, how many bytes stay before it, that many standing before this text
abbrev pub joints : ℕ → List ℕ → List ℕ
joints at [] = []
joints at (b ∷ []) = []
joints at (b ∷ c ∷ bytes) = if b == 92 && c == 10 then at ∷ joints at bytes else joints (at + 1) (c ∷ bytes)
