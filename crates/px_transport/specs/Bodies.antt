-- What the bodies of packets are read as.
use Rattle.std.specs.Prelude.{ℕ, ◌*◌, ◌==◌, ◌&&◌, Bool, List, length, drop, nat_le, nat_lt, Option, Some, None}
use Rattle.std.specs.Prelude.{slice_index, if◌then◌else◌}
use Rattle.std.specs.Int.{w16, w32}
use Rattle.px_packet.specs.Headers.{number}
use Rattle.px_packet.specs.Pieces.{Piece, part_length}
use Rattle.px_packet.specs.declared.held.PiecesHeld.{PiecesHeld}

-- whether length, number and part of a piece fit together
abbrev pub is_formed : Piece → Bool
is_formed p = nat_le p.size 33640 && (nat_lt (1160 * p.index) p.size && (length p.part == part_length p.size p.index))

-- 4 bytes of the name, 2 of the length, 1 of the number, and the part
abbrev pub fields_in : List ℕ → Piece
fields_in b = record { name = number w32 0 b; size = number w16 4 b; index = slice_index b 6; part = drop 7 b }

-- the piece that a body is; none of one that is no piece
abbrev pub piece_in : List ℕ → Option Piece
piece_in b = if is_formed (fields_in b) then Some (fields_in b) else None

-- 4 bytes of the datagram's name, and 4 with a bit for each piece; nothing of another number of bytes
abbrev pub held_in : List ℕ → Option PiecesHeld
held_in b = if length b == 8 then Some (record { name = number w32 0 b; bits = number w32 4 b }) else None
