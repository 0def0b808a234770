-- what was learned below the front stays
use Rattle.std.proofs.Common.{arith}
use Rattle.px_replica.specs.Replicas.{learned_by}
use Rattle.pf_node.proofs.Following.{after_kept}
use Rattle.pf_node.proofs.Recording.{recorded_kept}
use Rattle.pf_node.proofs.Places.{within_kept, bounds_kept}
use Rattle.pf_node.proofs.state.Node.tick.Goals as goal

pub invariant_of-self : goal.invariant_of-self
invariant_of-self g c =
    let n = c.bring_up.new.node in
    record {
      configured = after_kept (learned_by n.replica) (learned_by c.tick.new.self) n.applied n.config n.configured n.behind c.tick.ensures.call.below;
      behind = omega (arith, n.behind, c.tick.ensures.call.front);
      recorded = recorded_kept (learned_by n.replica) (learned_by c.tick.new.self) n.applied n.outcomes.kept.items n.recorded n.behind c.tick.ensures.call.below;
      numbered = within_kept (learned_by n.replica) (learned_by c.tick.new.self) n.numbers.origin n.applied n.numbers.last n.numbered n.behind c.tick.ensures.call.below;
      bounded = bounds_kept (learned_by n.replica) (learned_by c.tick.new.self) n.numbers.origin n.applied n.numbers.bounds.items n.bounded n.stretched n.behind c.tick.ensures.call.below;
      stretched = n.stretched;
    }
