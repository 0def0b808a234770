use Rattle.std.proofs.Common.{◌∙◌, ap, map}
use Rattle.pf_rules.specs.Seen.{rule_of}
use Rattle.pf_config.specs.Map.{anchor_at, rules_in}
use Rattle.pf_config.specs.Trees.{AnchorTree}
use Rattle.pf_config.specs.inner.Trees.{placed_in}
use Rattle.pf_config.proofs.Entries.{main_placed}
use Rattle.pf_config.proofs.changed.with_tables.Goals as goal

pub returns-clause-names : goal.returns-clause-names
returns-clause-names c = (main_placed c.args.main.now c.in_ok-next.next c.args.path.now (rules_in (anchor_at c.args.path.now c.args.main.now.anchors)) (map rule_of c.in_ok-rules.rules.items.value.items) c.args.tables c.in_ok-rules.rules.tables c.requires c.in_ok-rules.ensures.rules c.in_ok-rules.ensures.tables (c.in_ok-next.ensures ∙ ap (λ (t : AnchorTree). placed_in t c.args.path.now (map rule_of c.in_ok-rules.rules.items.value.items) c.in_ok-rules.rules.tables) c.in_ok-own.ensures)).0

pub returns-clause-map : goal.returns-clause-map
returns-clause-map c = (main_placed c.args.main.now c.in_ok-next.next c.args.path.now (rules_in (anchor_at c.args.path.now c.args.main.now.anchors)) (map rule_of c.in_ok-rules.rules.items.value.items) c.args.tables c.in_ok-rules.rules.tables c.requires c.in_ok-rules.ensures.rules c.in_ok-rules.ensures.tables (c.in_ok-next.ensures ∙ ap (λ (t : AnchorTree). placed_in t c.args.path.now (map rule_of c.in_ok-rules.rules.items.value.items) c.in_ok-rules.rules.tables) c.in_ok-own.ensures)).1
