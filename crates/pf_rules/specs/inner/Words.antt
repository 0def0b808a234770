-- What only code and proofs use beside `Words`.
use Rattle.std.specs.Prelude.{ℕ, ◌-◌, ◌&&◌, ◌||◌, ◌==◌, Bool, false, List, []}
use Rattle.std.specs.Prelude.{◌∷◌, length, nat_le}
use Rattle.std.specs.Prelude.{get_or}
use Rattle.std.specs.Char.{is_ascii_digit}

-- ---- numbers with names

abbrev pub begins_with_digit : List ℕ → Bool
begins_with_digit [] = false
begins_with_digit (b ∷ bytes) = is_ascii_digit b

-- ---- names

-- a byte that ends a reserved word of a profile
abbrev pub is_reserved_ending : ℕ → Bool
is_reserved_ending b = b == 54 || b == 101 || b == 103 || (nat_le 107 b && nat_le b 112)
    || (nat_le 114 b && nat_le b 116) || b == 121

abbrev pub ends_like_reserved : List ℕ → Bool
ends_like_reserved text = is_reserved_ending (get_or text (length text - 1) 0)
