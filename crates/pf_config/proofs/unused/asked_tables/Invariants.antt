use Rattle.std.proofs.Common.{◌≡◌, ◌++◌, [], drop, map}
use Rattle.pf_rules.specs.Seen.{rule_of}
use Rattle.pf_config.specs.Changes.{used_tables}
use Rattle.pf_config.proofs.unused.asked_tables.Given as goal

abbrev pub invariant-loop-entry : goal.invariant-loop-entry
invariant-loop-entry l = l.next.items ++ used_tables l.main.anchors (record { path = l.path; rules = map rule_of l.items; tables = [] }) (drop l.entry-index l.entry-items) ≡ used_tables l.main.anchors (record { path = l.path; rules = map rule_of l.items; tables = [] }) l.entry-items
