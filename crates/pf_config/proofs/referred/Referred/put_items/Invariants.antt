use Rattle.std.proofs.Common.{drop, map}
use Rattle.std.specs.List.{list_any}
use Rattle.pf_rules.specs.Seen.{rule_of}
use Rattle.pf_config.specs.Changes.{refers}
use Rattle.pf_config.proofs.Referrals.{GainsLeft}
use Rattle.pf_config.proofs.referred.Referred.put_items.Given as goal

-- with the names of what is left all are there
abbrev pub invariant-loop-item : goal.invariant-loop-item
invariant-loop-item l = GainsLeft l.fn.self (λ n. list_any (refers n) (map rule_of l.items)) (λ n. list_any (refers n) (map rule_of (drop l.item-index l.items))) l.self
