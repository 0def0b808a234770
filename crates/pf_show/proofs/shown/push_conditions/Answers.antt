use Rattle.std.proofs.Common.{arith}
use Rattle.std.proofs.lemmas.Grind.{common_steps}
use Rattle.pf_show.proofs.Spacing.{conditions_are}
use Rattle.pf_show.proofs.shown.push_conditions.Goals as goal

pub returns : goal.returns
returns c = rw (conditions_are c.args.c.now) (grind (arith, common_steps))
