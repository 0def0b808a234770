use Rattle.std.proofs.Common.{◌≡◌, drop}
use Rattle.pf_config.specs.Trees.{below, shared}
use Rattle.pf_config.specs.inner.Trees.{any_unnamed}
use Rattle.pf_config.proofs.anchor.Anchor.+has_unnamed.Given as goal

abbrev pub invariant-loop-kid : goal.invariant-loop-kid
invariant-loop-kid l = any_unnamed l.path (below (shared (drop l.kid-index l.kid-items))) ≡ any_unnamed l.path (below (shared l.kid-items))
