use Rattle.std.proofs.Common.{◌≡◌, ◌++◌, drop, string_bytes, map}
use Rattle.std.specs.List.{flat_map}
use Rattle.nft_rules.specs.Seen.{nft_rule_of, ruleset_of}
use Rattle.nft_text.specs.Texts.{rule_text}
use Rattle.nft_text.proofs.labels.Whole.push_rules.Given as goal

-- the text so far, and what is left
abbrev pub invariant-loop-rule : goal.invariant-loop-rule
invariant-loop-rule l =
    string_bytes l.out ++ flat_map (rule_text l.fn.self.position l.fn.self.direction (ruleset_of l.fn.self.parts.now)) (map nft_rule_of (drop l.rule-index l.fn.rules))
    ≡ string_bytes l.fn.out ++ flat_map (rule_text l.fn.self.position l.fn.self.direction (ruleset_of l.fn.self.parts.now)) (map nft_rule_of l.fn.rules)
