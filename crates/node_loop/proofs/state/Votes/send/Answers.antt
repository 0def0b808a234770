-- one more
use Rattle.std.proofs.Common.{◌∙◌, refl}
use Rattle.node_loop.proofs.Among.{for_none, for_then}
use Rattle.node_loop.proofs.state.Votes.send.Goals as goal

pub loop-i-init : goal.loop-i-init
loop-i-init g c = record {
  again = for_none _ _ (g.W.Wire.traffic c.args.wire.now) (g.W.Wire.traffic c.args.wire.now) (λ es h. h);
  same = refl;
}

pub loop-i-preserved : goal.loop-i-preserved
loop-i-preserved g c = record {
  again = for_then _ _ (g.W.Wire.traffic c.args.wire.now) (g.W.Wire.traffic c.loop-i.wire) (g.W.Wire.traffic c.hand.new.wire) c.loop-i.invariant.again c.hand.ensures.again;
  same = c.hand.ensures.same ∙ c.loop-i.invariant.same;
}
