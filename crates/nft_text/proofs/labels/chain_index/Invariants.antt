use Rattle.std.proofs.Common.{◌≡◌, ◌+◌, map, drop}
use Rattle.nft_rules.specs.Seen.{chain_name_of, chain_of}
use Rattle.nft_text.specs.Texts.{chain_index}
use Rattle.nft_text.proofs.labels.chain_index.Given as goal

abbrev pub invariant-loop-chain : goal.invariant-loop-chain
invariant-loop-chain l = record {
  whole : l.index + chain_index (chain_name_of l.name) (map chain_of (drop l.chain-index l.chains)) ≡ chain_index (chain_name_of l.fn.name) (map chain_of l.fn.chains);
  at : l.index ≡ l.chain-index;
}
