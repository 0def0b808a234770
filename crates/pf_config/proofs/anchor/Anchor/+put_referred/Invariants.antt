use Rattle.std.proofs.Common.{drop}
use Rattle.std.specs.List.{list_any}
use Rattle.pf_config.specs.Changes.{refer}
use Rattle.pf_config.specs.Trees.{below, shared}
use Rattle.pf_config.proofs.Referrals.{GainsLeft}
use Rattle.pf_config.proofs.anchor.Anchor.+put_referred.Given as goal

-- with the names of what is left all are there
abbrev pub invariant-loop-kid : goal.invariant-loop-kid
invariant-loop-kid l = GainsLeft l.fn.names (λ n. list_any (refer n) l.self.anchors) (λ n. list_any (refer n) (below (shared (drop l.kid-index l.kid-items)))) l.names
