use Rattle.std.proofs.Common.{◌≡◌, drop}
use Rattle.pf_config.specs.Trees.{below, shared}
use Rattle.pf_config.specs.inner.Trees.{any_sheds}
use Rattle.pf_config.proofs.anchor.Anchor.+has_unused.Given as goal

abbrev pub invariant-loop-kid : goal.invariant-loop-kid
invariant-loop-kid l = any_sheds l.main.anchors (below (shared (drop l.kid-index l.kid-items))) ≡ any_sheds l.main.anchors (below (shared l.kid-items))
