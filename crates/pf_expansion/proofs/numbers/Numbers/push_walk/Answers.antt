use Rattle.std.proofs.Common.{◌∙◌}
use Rattle.pf_expansion.proofs.Walking.{walk_more}
use Rattle.pf_expansion.proofs.numbers.Numbers.push_walk.Goals as goal

pub loop-name-preserved : goal.loop-name-preserved
loop-name-preserved c = record {
  grows = λ p n k e. c.in_ok-at.ensures.grows p n k (c.loop-name.invariant.grows p n k e);
  found = walk_more c.loop-name.self.steps c.push.new.self.steps c.in_ok-at.ensures.grows c.args.from c.args.names.now c.loop-name.name-index c.loop-name.at c.in_ok-at.at c.name-item.result c.loop-name-test.true c.name-item.is c.loop-name.invariant.found c.in_ok-at.ensures.found;
  kept = c.in_ok-at.ensures.kept ∙ c.loop-name.invariant.kept;
}
