use Rattle.std.proofs.Common.{arith, sym, rules}
use Rattle.std.proofs.lemmas.Grind.{common_steps}
use Rattle.nft_rules.specs.Seen.{ruleset_of}
use Rattle.nft_text.proofs.Guarded.{jumps_some}
use Rattle.nft_text.proofs.labels.Whole.push_jumps.Goals as goal

pub returns : goal.returns
returns c =
    rw (sym (jumps_some c.args.self.position c.args.self.direction (ruleset_of c.args.self.parts.now) c.args.members.now (λ e. absurd (search rules)))) (grind (arith, common_steps))
