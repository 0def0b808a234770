use Rattle.std.proofs.Common.{◌≡◌, ◌++◌, map, drop}
use Rattle.nft_rules.specs.Rendering.{forward_chains}
use Rattle.nft_rules.specs.Seen.{chain_name_of}
use Rattle.nft_rules.proofs.targets.push_forward.Given as goal

abbrev pub invariant-loop-path : goal.invariant-loop-path
invariant-loop-path l = map chain_name_of l.chains.items ++ forward_chains (map (λ p. p.now) (drop l.path-index l.paths)) ≡ map chain_name_of l.fn.chains.items ++ forward_chains (map (λ p. p.now) l.fn.paths)
