-- Numbers of 32 bits in decimal digits.
use Rattle.std.specs.Prelude.{ℕ, ◌^◌, Bool, ◌&&◌, List, length, Option, Some, None, nat_lt, option_and_then}
use Rattle.std.specs.Prelude.{if◌then◌else◌}
use Rattle.std.specs.Char.{digit_value}
use Rattle.std.specs.List.{list_all}
use Rattle.std.specs.Str.Parse.{digits_value, without_leading_plus}
use Rattle.clap.specs.Words.{Row, Text, one_of}

-- one decimal digit or more
abbrev pub is_numeral : List ℕ → Bool
is_numeral ds = nat_lt 0 (length ds) && list_all (λ c. nat_lt (digit_value c) 10) ds

abbrev pub number_if : List ℕ → Option ℕ
number_if ds = if is_numeral ds && nat_lt (digits_value 10 ds) (2 ^ 32) then Some (digits_value 10 ds) else None

-- the number that digits write, perhaps behind a plus, none from 2^32 on
abbrev pub number_of : (text : List ℕ) → Option ℕ
number_of text = number_if (without_leading_plus text)

-- the number that an option has, none where it isn't given
abbrev pub number_at : List Row → (id : Text) → Option ℕ
number_at rows id = option_and_then number_of (one_of id rows)
