-- the next one is cut to the room and given
use Rattle.std.proofs.Common.{rules, length, refl}
use Rattle.px_transport.proofs.Following.{given_more, is_next, went_given}
use Rattle.px_transport.proofs.memory.MemoryWireWire.recv.Goals as goal

pub returns-clause-next : goal.returns-clause-next
returns-clause-next c =
    let w = c.args.self.now in
    is_next (λ d. d.items) w.coming.items w.next c.put.new.datagram c.in_ok-datagram.datagram.now (length c.args.into.now) _ (search rules) c.in_ok-datagram.ensures.value c.put.ensures.cut c.put.ensures.written

pub returns-clause-gave : goal.returns-clause-gave
returns-clause-gave c =
    let w = c.args.self.now in
    went_given w _ _ (given_more (λ d. d.items) w.coming.items w.next c.put.new.datagram _ (search rules) c.put.ensures.written) refl
