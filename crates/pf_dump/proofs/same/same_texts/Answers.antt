use Rattle.pf_dump.proofs.Lists.{texts_decide}
use Rattle.pf_dump.proofs.same.same_texts.Goals as goal

pub returns-clause-same : goal.returns-clause-same
returns-clause-same c = (texts_decide c.args.a.now c.args.b.now c.eq.result c.eq.ensures).0

pub returns-clause-back : goal.returns-clause-back
returns-clause-back c = (texts_decide c.args.a.now c.args.b.now c.eq.result c.eq.ensures).1
