-- some of what was kept is, and with each step one fewer
use Rattle.std.proofs.Common.{◌≤◌, ◌-◌, length}
use Rattle.node_loop.specs.Again.{AreAmong}
use Rattle.node_loop.specs.Keeping.{votes_in}
use Rattle.node_loop.proofs.state.Votes.make_room.Given as goal

abbrev pub invariant-loop-vote : goal.invariant-loop-vote
invariant-loop-vote l = record {
  kept : AreAmong (votes_in l.self) (votes_in l.fn.self);
  fewer : length l.self.votes.items ≤ length l.fn.self.votes.items - l._vote;
}
