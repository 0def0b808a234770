use Rattle.std.proofs.Common.{rules, ◌≡◌}
use Rattle.std.proofs.lemmas.Fn.{always_returns_same}
use Rattle.pf_rules.specs.Names.{Name, is_before}
use Rattle.pf_config.proofs.SkippedNames.{before_ranks, rising_sorted, index_sorted}
use Rattle.pf_config.proofs.skipped.Skipped.of.Goals as goal

pub invariant_of-result : goal.invariant_of-result
invariant_of-result c =
    let same : c.in_ok-rising.rising.items ≡ c.args.names.items = search rules in
    let sorted = c.sort_unstable_by.ensures.sorted (λ (x y : Name). is_before x y) before_ranks (always_returns_same _ _ _ (λ a r q k. search rules)) in
    index_sorted c.args.names.items c.in_ok-rising.rising.items c.sort_unstable_by.new.self.items same c.sort_unstable_by.ensures.permutation (rising_sorted c.sort_unstable_by.new.self.items sorted)
