use Rattle.std.proofs.Common.{arith}
use Rattle.std.proofs.lemmas.Grind.{common_steps}
use Rattle.pf_show.proofs.Anchors.{lines_are}
use Rattle.pf_show.proofs.shown.show_items.Goals as goal

pub returns : goal.returns
returns c = rw (lines_are c.args.items.now) (grind (arith, common_steps))
