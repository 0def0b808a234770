use Rattle.std.proofs.Common.{◌∙◌, ap, map}
use Rattle.pf_rules.specs.Seen.{rule_of}
use Rattle.pf_config.specs.Map.{anchor_at, tables_in}
use Rattle.pf_config.proofs.Entries.{main_placed}
use Rattle.pf_config.proofs.changed.with_rules.Goals as goal

pub returns-clause-names : goal.returns-clause-names
returns-clause-names c = (main_placed c.args.main c.in_ok-next.next c.args.path.now (map rule_of c.args.items.value.items) (map rule_of c.in_ok-rules.rules.items.value.items) (tables_in (anchor_at c.args.path.now c.args.main.anchors)) c.in_ok-rules.rules.tables c.requires.names (ap (λ rc. map rule_of rc.value.items) c.in_ok-rules.ensures.rules) (c.in_ok-rules.ensures.tables ∙ c.in_ok-tables_at.ensures) c.in_ok-next.ensures).0

pub returns-clause-map : goal.returns-clause-map
returns-clause-map c = (main_placed c.args.main c.in_ok-next.next c.args.path.now (map rule_of c.args.items.value.items) (map rule_of c.in_ok-rules.rules.items.value.items) (tables_in (anchor_at c.args.path.now c.args.main.anchors)) c.in_ok-rules.rules.tables c.requires.names (ap (λ rc. map rule_of rc.value.items) c.in_ok-rules.ensures.rules) (c.in_ok-rules.ensures.tables ∙ c.in_ok-tables_at.ensures) c.in_ok-next.ensures).1
