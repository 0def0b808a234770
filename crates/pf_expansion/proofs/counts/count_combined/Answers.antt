use Rattle.pf_statements.specs.ConditionsSeen.{conditions_of}
use Rattle.pf_expansion.proofs.Pairs.{counted}
use Rattle.pf_expansion.proofs.counts.count_combined.Goals as goal

pub returns : goal.returns
returns c = counted (conditions_of c.args.text.now) c.capped_count.result c.requires c.capped_count.ensures
