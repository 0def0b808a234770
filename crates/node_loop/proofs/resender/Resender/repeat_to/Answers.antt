-- some of the votes
use Rattle.node_loop.proofs.Among.{among_all, among_back, among_is, among_then, for_again, for_more, hands_more}
use Rattle.node_loop.proofs.resender.Resender.repeat_to.Goals as goal

pub returns-clause-again : goal.returns-clause-again
returns-clause-again g c =
    hands_more _ _ (g.W.Wire.traffic c.args.wire.now) (g.W.Wire.traffic c.send.new.wire) (among_then _ _ _ (among_is _ _ c.walk-votes.ensures) (among_back _ _ _ (among_all _)))
    (for_again _ _ (g.W.Wire.traffic c.args.wire.now) (g.W.Wire.traffic c.send.new.wire) c.send.ensures.again)

pub returns-clause-own : goal.returns-clause-own
returns-clause-own g c =
    for_more _ _ _ (g.W.Wire.traffic c.args.wire.now) (g.W.Wire.traffic c.send.new.wire) (among_then _ _ _ (among_is _ _ c.walk-votes.ensures) (among_back _ _ _ (among_all _))) c.send.ensures.again
