use Rattle.std.proofs.Common.{◌≡◌, ◌++◌, drop, map}
use Rattle.pf_config.specs.Map.{paths_in}
use Rattle.pf_config.specs.Trees.{below, shared}
use Rattle.pf_config.proofs.anchor.Anchor.+push_paths.Given as goal

abbrev pub invariant-loop-kid : goal.invariant-loop-kid
invariant-loop-kid l = map (λ p. p.now) l.paths.items ++ paths_in (below (shared (drop l.kid-index l.kid-items))) ≡ map (λ p. p.now) l.initial.paths.items ++ paths_in (below (shared l.kid-items))
