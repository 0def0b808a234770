use Rattle.std.proofs.Common.{◌≡◌, drop}
use Rattle.std.specs.List.{list_any}
use Rattle.pf_rules.specs.Names.{begins_below}
use Rattle.pf_config.specs.Trees.{shared}
use Rattle.pf_config.specs.inner.Trees.{passes}
use Rattle.pf_config.proofs.below.any_unnamed.Given as goal

abbrev pub invariant-loop-kid : goal.invariant-loop-kid
invariant-loop-kid l = list_any (passes begins_below) (shared (drop l.kid-index l.kids)) ≡ list_any (passes begins_below) (shared l.kids)
