-- Pieces of datagrams, and their bytes.
use Rattle.std.specs.Prelude.{ℕ, ◌+◌, ◌-◌, ◌*◌, ◌/◌, ◌<◌, ◌≤◌, ◌≡◌, List, ◌∷◌, ◌++◌, length, take, drop, min}
use Rattle.std.specs.Int.{w16, w32, to_be_bytes}

-- how many parts a datagram of n bytes has
abbrev pub count_of : ℕ → ℕ
count_of size = (size + 1159) / 1160

-- the part of a datagram with this number, from 0 on: 1,160 bytes, the last one the rest
abbrev pub part_of : (m : List ℕ) → (k : ℕ) → List ℕ
part_of m k = take 1160 (drop (1160 * k) m)

-- how long the part with this number is
abbrev pub part_length : (size k : ℕ) → ℕ
part_length size k = min (size - 1160 * k) 1160

-- a piece: the name of its datagram, how long that is, the number of the part, and the part
pub record Piece : Type 0 where
  pub name : ℕ
  pub size : ℕ
  pub index : ℕ
  pub part : List ℕ

-- the piece of a datagram with this number
abbrev pub piece_of : (name : ℕ) → (m : List ℕ) → (k : ℕ) → Piece
piece_of name m k = record { name = name; size = length m; index = k; part = part_of m k }

-- its bytes: 4 of the name, 2 of the length, 1 of the number, and the part
abbrev pub piece_bytes : Piece → List ℕ
piece_bytes p = to_be_bytes w32 p.name ++ (to_be_bytes w16 p.size ++ (p.index ∷ p.part))

-- its length, number and part fit together, as those of a datagram that was cut do
pub record IsFormed (p : Piece) : Type 0 where
  pub short : p.size ≤ 33640
  pub inside : 1160 * p.index < p.size
  pub long : length p.part ≡ part_length p.size p.index
