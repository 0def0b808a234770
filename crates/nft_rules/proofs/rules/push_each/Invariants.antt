use Rattle.std.proofs.Common.{◌≡◌, ◌++◌, map, drop}
use Rattle.nft_rules.specs.Subset.{Jump}
use Rattle.nft_rules.specs.Rendering.{with_statement}
use Rattle.nft_rules.specs.Seen.{chain_name_of, nft_rule_of}
use Rattle.nft_rules.specs.inner.Asked.{alternative_of}
use Rattle.nft_rules.proofs.rules.push_each.Given as goal

abbrev pub invariant-loop-chain : goal.invariant-loop-chain
invariant-loop-chain l = map nft_rule_of l.rules.items ++ map (λ n. with_statement (Jump n) (alternative_of l.fn.alternative)) (map chain_name_of (drop l.chain-index l.chains)) ≡ map nft_rule_of l.fn.rules.items ++ map (λ n. with_statement (Jump n) (alternative_of l.fn.alternative)) (map chain_name_of l.fn.chains)
