use Rattle.std.proofs.Common.{◌∙◌, rules}
use Rattle.pf_config.proofs.Treed.{last_got}
use Rattle.pf_config.proofs.below.last_name.Goals as goal

pub returns-in-Some : goal.returns-in-Some
returns-in-Some c = c.as_bytes.ensures.bytes ∙ last_got c.args.names.now c.in-Some.own.now (search rules)
