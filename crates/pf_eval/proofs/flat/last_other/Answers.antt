use Rattle.pf_eval.specs.inner.TwoWalks.{flat_last, hit_of}
use Rattle.pf_eval.proofs.Walks.{rule_back}
use Rattle.pf_eval.proofs.flat.last_other.Goals as goal

pub returns-in-Some : goal.returns-in-Some
returns-in-Some c =
    rule_back (flat_last c.args.packet.now) c.loop-left.left c.args.items.now c.index-items-index.result (hit_of c.in-Some.hit)
    c.loop-left-test.true c.loop-left.invariant.few c.index-items-index.is c.loop-left.invariant.none c.in-Some.ensures
