use Rattle.std.proofs.Common.{◌≡◌, ◌++◌, map, drop, filter}
use Rattle.pf_config.specs.Trees.{paths_of, shared}
use Rattle.nft_rules.specs.Rendering.{is_chained}
use Rattle.nft_rules.specs.inner.Rendering.{is_member}
use Rattle.nft_rules.proofs.targets.push_members.Given as goal

abbrev pub invariant-loop-kid : goal.invariant-loop-kid
invariant-loop-kid l = map (λ p. p.now) l.paths.items ++ filter (is_chained l.fn.config) (filter is_member (paths_of (shared (drop l.kid-index l.kids)))) ≡ map (λ p. p.now) l.fn.paths.items ++ filter (is_chained l.fn.config) (filter is_member (paths_of (shared l.fn.kids)))
