use Rattle.std.proofs.lemmas.Slice.Eq.{bytes_eq-Decides, slice_eq-Decides}
use Rattle.pf_dump.proofs.same_rules.same_interfaces.Goals as goal

pub returns-clause-same : goal.returns-clause-same
returns-clause-same c = (slice_eq-Decides bytes_eq-Decides _ _ _ c.eq.ensures).0

pub returns-clause-back : goal.returns-clause-back
returns-clause-back c = (slice_eq-Decides bytes_eq-Decides _ _ _ c.eq.ensures).1
