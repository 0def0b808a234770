-- what was learned below the front stays
use Rattle.std.proofs.Common.{arith}
use Rattle.px_replica.specs.Replicas.{learned_by}
use Rattle.px_replica.proofs.Called.{received_below, received_front}
use Rattle.pf_node.proofs.Following.{after_kept}
use Rattle.pf_node.proofs.Recording.{recorded_kept}
use Rattle.pf_node.proofs.Places.{within_kept, bounds_kept}
use Rattle.pf_node.proofs.state.Node.receive.Goals as goal

pub invariant_of-self : goal.invariant_of-self
invariant_of-self g c =
    let n = c.args.self.now in
    let h = received_front n.replica c.receive.new.self _ _ _ _ c.receive.ensures.received in
    record {
      configured = after_kept (learned_by n.replica) (learned_by c.receive.new.self) n.applied n.config n.configured n.behind
          (received_below n.replica c.receive.new.self _ _ _ _ c.receive.ensures.received);
      behind = omega (arith, n.behind, h);
      recorded = recorded_kept (learned_by n.replica) (learned_by c.receive.new.self) n.applied n.outcomes.kept.items n.recorded n.behind
          (received_below n.replica c.receive.new.self _ _ _ _ c.receive.ensures.received);
      numbered = within_kept (learned_by n.replica) (learned_by c.receive.new.self) n.numbers.origin n.applied n.numbers.last n.numbered n.behind
          (received_below n.replica c.receive.new.self _ _ _ _ c.receive.ensures.received);
      bounded = bounds_kept (learned_by n.replica) (learned_by c.receive.new.self) n.numbers.origin n.applied n.numbers.bounds.items n.bounded n.stretched n.behind
          (received_below n.replica c.receive.new.self _ _ _ _ c.receive.ensures.received);
      stretched = n.stretched;
    }
