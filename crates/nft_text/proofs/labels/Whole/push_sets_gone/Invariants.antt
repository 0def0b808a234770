use Rattle.std.proofs.Common.{◌≡◌, ◌++◌, drop, string_bytes, map}
use Rattle.std.specs.List.{flat_map}
use Rattle.nft_rules.specs.Seen.{named_set_of, ruleset_of}
use Rattle.nft_text.specs.Texts.{set_gone}
use Rattle.nft_text.proofs.labels.Whole.push_sets_gone.Given as goal

-- the text so far, and what is left
abbrev pub invariant-loop-set : goal.invariant-loop-set
invariant-loop-set l =
    string_bytes l.out ++ flat_map (set_gone l.fn.self.position (ruleset_of l.fn.self.parts.now)) (map named_set_of (drop l.set-index l.fn.self.parts.now.sets.items))
    ≡ string_bytes l.fn.out ++ flat_map (set_gone l.fn.self.position (ruleset_of l.fn.self.parts.now)) (map named_set_of l.fn.self.parts.now.sets.items)
