-- the last is let go, or there is none
use Rattle.std.proofs.Common.{sym, subst, arith}
use Rattle.node_loop.specs.Again.{AreAmong}
use Rattle.node_loop.specs.Keeping.{votes_in}
use Rattle.node_loop.proofs.Among.{among_then}
use Rattle.node_loop.proofs.Kept.{back_among, back_size, popped_few}
use Rattle.node_loop.proofs.state.Votes.clear.Goals as goal
use Rattle.node_loop.proofs.state.Votes.clear.Goals.{in-Some-pop_back, in_default-pop_back}

pub invariant_of-self : goal.invariant_of-self
invariant_of-self c = record {
  few = popped_few _ _ _ c.in-Some-pop_back.ensures.items c.loop-vote.self.few;
  sized = omega (
    arith,
    c.saturating_sub-self.ensures,
    c.len.ensures,
    c.in-Some-pop_back.last.bytes.ok.0,
    back_size _ _ c.in-Some-pop_back.last c.loop-vote.self.size c.in-Some-pop_back.ensures.items c.loop-vote.self.sized,
  );
  small = omega (arith, c.saturating_sub-self.ensures, c.loop-vote.self.small);
}

pub loop-vote-preserved : goal.loop-vote-preserved
loop-vote-preserved c =
    among_then _ (votes_in c.loop-vote.self) _
    (elim c.match-pop_back.branch [
      | in-Some-pop_back w ↦ subst (λ (s : _). AreAmong (votes_in s) (votes_in c.loop-vote.self)) (sym w.self-is)
          (back_among _ _ _ c.pop_back.ensures.items)
      | in_default-pop_back w ↦ subst (λ (s : _). AreAmong (votes_in s) (votes_in c.loop-vote.self)) (sym w.self-is)
          (back_among _ _ _ c.pop_back.ensures.items)
    ]) c.loop-vote.invariant
