use Rattle.std.proofs.Common.{◌≡◌, ◌-◌, map, drop}
use Rattle.nft_rules.specs.Refusing.{asked_in, most_asked}
use Rattle.nft_rules.specs.inner.Left.{minus}
use Rattle.nft_rules.specs.Seen.{chain_name_of, nft_rule_of, ruleset_of}
use Rattle.nft_rules.proofs.asking.+asking.Given as goal

abbrev pub decreases-left_after : goal.decreases-left_after
decreases-left_after l = l.depth

abbrev pub invariant-loop-rule : goal.invariant-loop-rule
invariant-loop-rule l = minus l.now (asked_in (most_asked (l.fn.depth - 1) (ruleset_of l.fn.whole)) (map nft_rule_of (drop l.rule-index l.rule-items)))
    ≡ minus l.fn.left (most_asked l.fn.depth (ruleset_of l.fn.whole) (chain_name_of l.fn.name))
