use Rattle.std.proofs.Common.{◌≡◌, ◌++◌, drop, string_bytes, map}
use Rattle.std.specs.List.{flat_map}
use Rattle.nft_rules.specs.Seen.{match_of, ruleset_of}
use Rattle.nft_text.specs.Texts.{match_text}
use Rattle.nft_text.proofs.labels.Whole.push_rule.Given as goal

-- the text so far, and what is left
abbrev pub invariant-loop-test : goal.invariant-loop-test
invariant-loop-test l =
    string_bytes l.out ++ flat_map (match_text l.fn.self.position l.fn.self.direction (ruleset_of l.fn.self.parts.now)) (map match_of (drop l.test-index l.fn.rule.matches.items))
    ≡ string_bytes l.fn.out ++ flat_map (match_text l.fn.self.position l.fn.self.direction (ruleset_of l.fn.self.parts.now)) (map match_of l.fn.rule.matches.items)
