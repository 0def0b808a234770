use Rattle.std.proofs.Common.{◌≡◌, ◌-◌, ◌+◌, length}
use Rattle.px_core.specs.Logs.{learned_in}
use Rattle.px_core.proofs.state.Learner.make_room.Given as goal

abbrev pub invariant-loop-self : goal.invariant-loop-self
invariant-loop-self l = record {
  learned : learned_in l.self.learned.items ≡ learned_in l.initial.self.learned.items;
  votes : l.self.votes ≡ l.initial.self.votes;
}

abbrev pub decreases-loop-self : goal.decreases-loop-self
decreases-loop-self l = l.position + 1 - length l.self.learned.items
