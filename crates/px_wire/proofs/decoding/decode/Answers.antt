use Rattle.std.proofs.Common.{arith}
use Rattle.px_wire.specs.Seen.{message_of}
use Rattle.px_wire.proofs.Datagrams.{found_is}
use Rattle.px_wire.proofs.Again.{only_is}
use Rattle.px_wire.proofs.Members.{comes_is}
use Rattle.px_wire.proofs.decoding.decode.Goals as goal

pub returns-clause-found : goal.returns-clause-found
returns-clause-found c = found_is (λ x. (x.0, message_of x.1)) c.args.m.now c.args.bytes.now c.datagram_of.result (λ i. omega (arith, c.type_inv.bytes i)) c.datagram_of.ensures

pub returns-clause-only : goal.returns-clause-only
returns-clause-only c = λ from message d. only_is (λ x. (x.0, message_of x.1)) c.args.m.now c.args.bytes.now c.datagram_of.result from message (omega arith) c.datagram_of.ensures d

pub returns-clause-fits : goal.returns-clause-fits
returns-clause-fits c = comes_is c.args.m.now c.args.bytes.now c.datagram_of.result (λ i. omega (arith, c.type_inv.bytes i)) (found_is (λ x. (x.0, message_of x.1)) c.args.m.now c.args.bytes.now c.datagram_of.result (λ i. omega (arith, c.type_inv.bytes i)) c.datagram_of.ensures)
