use Rattle.std.proofs.Common.{arith}
use Rattle.std.proofs.lemmas.Grind.{common_steps}
use Rattle.pf_show.proofs.Spacing.{rule_line}
use Rattle.pf_show.proofs.shown.push_rule.Goals as goal

pub returns : goal.returns
returns c = rw (rule_line c.args.rule.now) (grind (arith, common_steps))
