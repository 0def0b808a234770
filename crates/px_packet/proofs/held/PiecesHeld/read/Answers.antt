-- the bytes are those of the two numbers
use Rattle.std.proofs.Common.{rules, arith}
use Rattle.px_packet.proofs.PieceBytes.{two_words}
use Rattle.px_packet.proofs.held.PiecesHeld.read.Goals as goal

pub returns : goal.returns
returns c =
    two_words c.args.bytes.now c.in_ok-name.name.now c.in_ok-name.rest.now c.in_ok-bits.bits.now
    c.in_ok-bits.rest.now c.from_be_bytes.result c.from_be_bytes-2.result
    (λ i. omega (arith, c.type_inv.bytes i)) c.in_ok-name.ensures.cases c.in_ok-bits.ensures.cases
    (search rules) c.from_be_bytes.ensures c.from_be_bytes-2.ensures
