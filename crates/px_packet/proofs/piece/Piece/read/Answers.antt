-- the bytes are those of the fields
use Rattle.std.proofs.Common.{rules, arith}
use Rattle.px_packet.proofs.PieceBytes.{of_piece}
use Rattle.px_packet.proofs.piece.Piece.read.Goals as goal

pub returns-clause-read : goal.returns-clause-read
returns-clause-read c =
    of_piece c.args.bytes.now c.in_ok-name.name.now c.in_ok-name.rest.now c.in_ok-size.size.now
    c.in_ok-size.rest.now c.from_be_bytes-name.result c.from_be_bytes-size.result
    (λ i. omega (arith, c.type_inv.bytes i)) c.in_ok-name.ensures.cases c.in_ok-size.ensures.cases
    (search rules) c.from_be_bytes-name.ensures c.from_be_bytes-size.ensures
