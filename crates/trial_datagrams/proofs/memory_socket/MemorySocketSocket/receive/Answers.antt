-- the next one is cut to the room and comes
use Rattle.std.proofs.Common.{rules, ap, refl, take}
use Rattle.trial_datagrams.proofs.Coming.{came_more, went_came}
use Rattle.trial_datagrams.proofs.memory_socket.MemorySocketSocket.receive.Goals as goal

pub returns-clause-came : goal.returns-clause-came
returns-clause-came c =
    let s = c.args.self.now in
    let from = c.index_mut-came.result.now.0 in
    let d = take c.put-n.result c.put-n.new.into in
    went_came s _ from d
    (came_more (λ x. (x.0, x.1.items)) s.coming.items s.next (from, c.put-n.new.datagram) (from, d) (search rules)
    (ap (λ b. (from, b)) c.put-n.ensures.written)) refl
