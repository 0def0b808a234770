use Rattle.pf_dump.proofs.Lists.{paths_decide}
use Rattle.pf_dump.proofs.same.same_paths.Goals as goal

pub returns-clause-same : goal.returns-clause-same
returns-clause-same c = (paths_decide c.args.a.now c.args.b.now c.eq.result c.eq.ensures).0

pub returns-clause-back : goal.returns-clause-back
returns-clause-back c = (paths_decide c.args.a.now c.args.b.now c.eq.result c.eq.ensures).1
