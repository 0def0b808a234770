use Rattle.std.proofs.Common.{◌≡◌, sym, subst, arith}
use Rattle.std.specs.Prelude.{filter}
use Rattle.std.proofs.lemmas.Grind.{common_steps}
use Rattle.pf_config.specs.inner.Referring.{stays_by}
use Rattle.pf_config.specs.Ordered.{AreOrdered}
use Rattle.pf_config.proofs.Ordered.{ordered_filter}
use Rattle.pf_config.proofs.unused.listed_tables.Goals as goal

pub of-requires : goal.of-requires
of-requires c =
    let whole : c.loop-entry.next.items ≡ filter (stays_by c.args.names.now) c.args.tables.now = grind (arith, common_steps) in
    subst AreOrdered (sym whole) (ordered_filter (stays_by c.args.names.now) c.args.tables.now (subst AreOrdered c.list-entry-items.ensures.value c.list-entry-items.ensures.ordered))
