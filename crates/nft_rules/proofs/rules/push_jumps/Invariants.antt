use Rattle.std.proofs.Common.{◌≡◌, ◌++◌, map, drop}
use Rattle.std.specs.List.{flat_map}
use Rattle.nft_rules.specs.Rendering.{jump_each}
use Rattle.nft_rules.specs.Seen.{chain_name_of, nft_rule_of}
use Rattle.nft_rules.specs.inner.Asked.{alternative_of}
use Rattle.nft_rules.proofs.rules.push_jumps.Given as goal

abbrev pub invariant-loop-alternative : goal.invariant-loop-alternative
invariant-loop-alternative l = map nft_rule_of l.rules.items ++ flat_map (jump_each (map chain_name_of l.fn.chains)) (map alternative_of (drop l.alternative-index l.alternatives)) ≡ map nft_rule_of l.fn.rules.items ++ flat_map (jump_each (map chain_name_of l.fn.chains)) (map alternative_of l.fn.alternatives)
