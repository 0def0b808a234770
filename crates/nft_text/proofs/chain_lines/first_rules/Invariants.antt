use Rattle.std.proofs.Common.{◌≡◌, ◌+◌, map, drop}
use Rattle.nft_rules.specs.Seen.{nft_rule_of}
use Rattle.nft_text.specs.Texts.{first_rules}
use Rattle.nft_text.proofs.chain_lines.first_rules.Given as goal

abbrev pub invariant-loop-rule : goal.invariant-loop-rule
invariant-loop-rule l = record {
  whole : l.count + first_rules (map nft_rule_of (drop l.rule-index l.rules)) ≡ first_rules (map nft_rule_of l.fn.rules);
  at : l.count ≡ l.rule-index;
}
