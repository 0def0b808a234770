-- The query behind a path: its parameters, and the numbers in them.
use Rattle.std.specs.Prelude.{ℕ, ◌^◌, ◌&&◌, ◌||◌, Bool, true, false, not, List, [], ◌∷◌, map, length}
use Rattle.std.specs.Prelude.{Option, Some, None, is_some, nat_lt, nat_le, codes, bytes_eq, if◌then◌else◌}
use Rattle.std.specs.Str.{all_ascii_digits}
use Rattle.std.specs.Str.Parse.{digits_value}
use Rattle.std.specs.Str.Lossy.{utf8_lossy}
use Rattle.form_urlencoded.specs.Form.{raw_pairs, decode}
use Rattle.px_model.specs.Step.{positions}
use Rattle.node_requests.specs.declared.target.Target.{Target}
use Rattle.node_requests.specs.Targets.{takes}

-- ---- numbers

-- decimal digits, and one at least
abbrev pub is_number : List ℕ → Bool
is_number text = nat_lt 0 (length text) && all_ascii_digits text

abbrev pub if_fits : ℕ → Option ℕ
if_fits n = if nat_lt n (2 ^ 64) then Some n else None

-- the number that is spelled by decimal digits alone, below 2 ^ 64
unfoldable pub number_in : List ℕ → Option ℕ
number_in text = if is_number text then if_fits (digits_value 10 text) else None

-- a number of positions: 1,000,000 at most
abbrev pub position_if : Option ℕ → Option ℕ
position_if None = None
position_if (Some n) = if nat_le n positions then Some n else None

abbrev pub position_in : List ℕ → Option ℕ
position_in text = position_if (number_in text)

-- ---- parameters

-- a name or a value, decoded; bytes that aren't UTF-8 are U+FFFD
-- Source: URL Standard, 5.
abbrev pub text_of : List ℕ → List ℕ
text_of bytes = utf8_lossy (decode bytes)

abbrev pub texts_of : List ℕ × List ℕ → List ℕ × List ℕ
texts_of p = (text_of p.0, text_of p.1)

-- the parameters of a query, in order: names and values
abbrev pub parameters : List ℕ → List (List ℕ × List ℕ)
parameters query = map texts_of (raw_pairs query)

-- whether there is one of this name
abbrev pub has_name : List ℕ → List (List ℕ × List ℕ) → Bool
has_name name [] = false
has_name name (p ∷ ps) = if bytes_eq p.0 name then true else has_name name ps

-- the value of the first one of this name
abbrev pub value_of : List ℕ → List (List ℕ × List ℕ) → Option (List ℕ)
value_of name [] = None
value_of name (p ∷ ps) = if bytes_eq p.0 name then Some p.1 else value_of name ps

-- the number of positions in it
abbrev pub position_at : Option (List ℕ) → Option ℕ
position_at None = None
position_at (Some value) = position_in value

abbrev pub position_of : List ℕ → List (List ℕ × List ℕ) → Option ℕ
position_of name ps = position_at (value_of name ps)

-- whether it is a number of positions
abbrev pub is_position : List ℕ → Bool
is_position name = bytes_eq name (codes "at") || (bytes_eq name (codes "from") || bytes_eq name (codes "count"))

-- whether a value has the form that its name asks for
abbrev pub is_value : (name value : List ℕ) → Bool
is_value name value = if is_position name then is_some (position_in value) else true

-- each is one that the path takes, has a value of its form, and no name is given twice
abbrev pub are_parameters : Target → List (List ℕ × List ℕ) → Bool
are_parameters target [] = true
are_parameters target (p ∷ ps) =
    takes target p.0 && (is_value p.0 p.1 && (not (has_name p.0 ps) && are_parameters target ps))
