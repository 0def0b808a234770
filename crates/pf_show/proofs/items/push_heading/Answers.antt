use Rattle.std.proofs.Common.{arith}
use Rattle.std.proofs.lemmas.Grind.{common_steps}
use Rattle.pf_rules.specs.Seen.{heading_of}
use Rattle.pf_show.proofs.Anchors.{heading_is}
use Rattle.pf_show.proofs.items.push_heading.Goals as goal

pub returns : goal.returns
returns c = rw (heading_is (heading_of c.args.heading.now)) (grind (arith, common_steps))
