-- Which pieces of a datagram have come.
use Rattle.std.specs.Prelude.{ℕ, ◌+◌, ◌*◌, ◌/◌, ◌%◌, ◌^◌, ◌==◌, Bool, List, [], ◌∷◌, ◌++◌, length, nat_lt}
use Rattle.std.specs.Prelude.{if◌then◌else◌}
use Rattle.std.specs.Int.{w32, to_be_bytes}
use Rattle.px_packet.specs.declared.held.PiecesHeld.{PiecesHeld}

-- whether a part has come: one that hasn't is empty
abbrev pub is_present : List ℕ → Bool
is_present part = nat_lt 0 (length part)

-- a bit for each part, 1 where it has come, the lowest one for the first
abbrev pub bits_of : List (List ℕ) → ℕ
bits_of [] = 0
bits_of (part ∷ parts) = (if is_present part then 1 else 0) + 2 * bits_of parts

-- whether the bit with this number is 1
abbrev pub has_bit : (bits k : ℕ) → Bool
has_bit bits k = bits / 2 ^ k % 2 == 1

-- 4 bytes of the datagram's name, and 4 with the bits
abbrev pub held_bytes : PiecesHeld → List ℕ
held_bytes h = to_be_bytes w32 h.name ++ to_be_bytes w32 h.bits
