use Rattle.std.proofs.Common.{◌≡◌, ◌++◌, drop}
use Rattle.pf_config.specs.Trees.{shared}
use Rattle.pf_config.proofs.below.shared_kids.Given as goal

abbrev pub invariant-loop-kid : goal.invariant-loop-kid
invariant-loop-kid l = shared l.next.items ++ shared (drop l.kid-index l.kids) ≡ shared l.kids
