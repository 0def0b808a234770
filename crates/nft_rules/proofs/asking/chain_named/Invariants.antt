use Rattle.std.proofs.Common.{◌≡◌, map, drop}
use Rattle.std.specs.Prelude.{find}
use Rattle.nft_rules.specs.Evaluation.{is_chain}
use Rattle.nft_rules.specs.Seen.{chain_name_of, chain_of}
use Rattle.nft_rules.proofs.asking.chain_named.Given as goal

abbrev pub invariant-loop-chain : goal.invariant-loop-chain
invariant-loop-chain l = find (is_chain (chain_name_of l.name)) (map chain_of (drop l.chain-index l.chains)) ≡ find (is_chain (chain_name_of l.fn.name)) (map chain_of l.fn.chains)
