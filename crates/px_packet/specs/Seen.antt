-- A piece as a value in code.
use Rattle.px_packet.specs.declared.piece.Piece as declared
use Rattle.px_packet.specs.Pieces.{Piece}

-- the piece that it is
abbrev pub seen : declared.Piece → Piece
seen p = record { name = p.name; size = p.size; index = p.index; part = p.part.now }
