use Rattle.std.proofs.Common.{◌≡◌, drop}
use Rattle.pf_config.specs.Trees.{below, shared}
use Rattle.pf_config.specs.inner.Referring.{any_may_shed}
use Rattle.pf_config.proofs.anchor.Anchor.+has_fleeting.Given as goal

abbrev pub invariant-loop-kid : goal.invariant-loop-kid
invariant-loop-kid l = any_may_shed (below (shared (drop l.kid-index l.kid-items))) ≡ any_may_shed (below (shared l.kid-items))
