use Rattle.std.proofs.Common.{◌≡◌, ◌++◌, map, drop}
use Rattle.nft_rules.specs.Rendering.{with_statement}
use Rattle.nft_rules.specs.Seen.{statement_of, nft_rule_of}
use Rattle.nft_rules.specs.inner.Asked.{alternative_of}
use Rattle.nft_rules.proofs.rules.push_rules.Given as goal

abbrev pub invariant-loop-alternative : goal.invariant-loop-alternative
invariant-loop-alternative l = map nft_rule_of l.rules.items ++ map (with_statement (statement_of l.fn.statement)) (map alternative_of (drop l.alternative-index l.alternatives)) ≡ map nft_rule_of l.fn.rules.items ++ map (with_statement (statement_of l.fn.statement)) (map alternative_of l.fn.alternatives)
