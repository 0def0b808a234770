-- it is opened and given back
use Rattle.std.proofs.Common.{inr, inl, refl}
use Rattle.node_loop.proofs.Still.{still}
use Rattle.node_loop.proofs.member.open_member.Goals as goal

pub returns-in-Ok-clause-ran : goal.returns-in-Ok-clause-ran
returns-in-Ok-clause-ran g c w = inr (record {
  begun = c.in-Ok.node;
  done = c.in-Ok.node;
  membership = c.in-Ok.ensures.membership;
  works = c.in-Ok.ensures.works;
  was = c.in-Ok.ensures.was;
  starts = c.in-Ok.ensures.state;
  stop = c.in-Ok.ensures.stop;
  went = still c.in-Ok.node w _ (inr (inl refl));
  closed = c.close.ensures;
})
