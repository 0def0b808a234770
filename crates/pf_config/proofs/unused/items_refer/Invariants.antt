use Rattle.std.proofs.Common.{◌≡◌, drop, map}
use Rattle.std.specs.List.{list_any}
use Rattle.pf_rules.specs.Seen.{rule_of}
use Rattle.pf_config.specs.Changes.{refers}
use Rattle.pf_config.proofs.unused.items_refer.Given as goal

abbrev pub invariant-loop-item : goal.invariant-loop-item
invariant-loop-item l = list_any (refers l.name) (map rule_of (drop l.item-index l.items)) ≡ list_any (refers l.name) (map rule_of l.items)
