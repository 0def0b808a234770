use Rattle.std.proofs.Common.{◌≡◌, ◌++◌, drop, string_bytes, map}
use Rattle.std.specs.List.{flat_map}
use Rattle.nft_rules.specs.Seen.{chain_of, ruleset_of}
use Rattle.nft_text.specs.Texts.{chain_gone}
use Rattle.nft_text.proofs.labels.Whole.push_chains_gone.Given as goal

-- the text so far, and what is left
abbrev pub invariant-loop-chain : goal.invariant-loop-chain
invariant-loop-chain l =
    string_bytes l.out ++ flat_map (chain_gone l.fn.self.position l.fn.self.direction (ruleset_of l.fn.self.parts.now)) (map chain_of (drop l.chain-index l.fn.self.parts.now.chains.items))
    ≡ string_bytes l.fn.out ++ flat_map (chain_gone l.fn.self.position l.fn.self.direction (ruleset_of l.fn.self.parts.now)) (map chain_of l.fn.self.parts.now.chains.items)
