use Rattle.std.proofs.Common.{◌≡◌, ◌||◌, [], map, sym, subst, arith}
use Rattle.std.proofs.lemmas.Grind.{common_steps}
use Rattle.pf_rules.specs.Names.{Name}
use Rattle.pf_rules.specs.Seen.{rule_of}
use Rattle.pf_tables.specs.Tables.{TableValue}
use Rattle.pf_config.specs.Map.{AnchorValue}
use Rattle.pf_config.specs.Changes.{is_used, used_tables}
use Rattle.pf_config.specs.Ordered.{AreOrdered}
use Rattle.pf_config.proofs.Ordered.{ordered_filter}
use Rattle.pf_config.proofs.unused.asked_tables.Goals as goal

pub of-requires : goal.of-requires
of-requires c =
    let own : AnchorValue = record { path = c.args.path.now; rules = map rule_of c.args.own.now.items.value.items; tables = [] } in
    let whole : c.loop-entry.next.items ≡ used_tables c.args.main.now.anchors own c.args.own.now.tables = grind (arith, common_steps) in
    subst AreOrdered (sym whole) (ordered_filter (λ (t : Name × TableValue). t.1.persist || is_used c.args.main.now.anchors own t.0) c.args.own.now.tables (subst AreOrdered c.list-entry-items.ensures.value c.list-entry-items.ensures.ordered))
