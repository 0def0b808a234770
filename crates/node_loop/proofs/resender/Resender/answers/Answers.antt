-- one of the last proposal
use Rattle.node_loop.proofs.Among.{among_all, among_front, hands_more, at_again}
use Rattle.node_loop.proofs.resender.Resender.answers.Goals as goal

pub returns-clause-again : goal.returns-clause-again
returns-clause-again g c =
    hands_more _ _ (g.W.Wire.traffic c.args.wire.now) (g.W.Wire.traffic c.send.new.wire) (among_front _ _ _ (among_all _))
    (at_again c.in-Some.i _ (g.W.Wire.traffic c.args.wire.now) (g.W.Wire.traffic c.send.new.wire) c.send.ensures.again)

pub returns-clause-vote : goal.returns-clause-vote
returns-clause-vote g c t =
    let v = c.in-Some.ensures.vote in (v.0, c.in-Some.i, v.1, v.2, c.send.ensures.again)
