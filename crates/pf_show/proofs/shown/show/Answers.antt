use Rattle.std.proofs.Common.{arith}
use Rattle.std.proofs.lemmas.Grind.{common_steps}
use Rattle.pf_show.specs.Shown.{shown}
use Rattle.pf_show.proofs.Anchors.{rules_are}
use Rattle.pf_show.proofs.TableSpacing.{tables_are}
use Rattle.pf_show.proofs.shown.show.Goals as goal

pub returns : goal.returns
unfolding shown
returns c = rw (rules_are c.args.rules.now.items.items, tables_are c.args.rules.now.tables.items) (grind (arith, common_steps))
