use Rattle.std.proofs.Common.{arith, sym}
use Rattle.std.proofs.lemmas.Grind.{common_steps}
use Rattle.nft_rules.specs.declared.subset.Side.TheVariants.{Source, Destination}
use Rattle.nft_rules.specs.Guard.{AtMember}
use Rattle.nft_text.proofs.Guarded.{two_parts}
use Rattle.nft_text.proofs.members.Guard.push_datagrams.Goals as goal

pub returns : goal.returns
returns c =
    rw (sym (two_parts (AtMember Source c.args.self.family c.args.self.members.now) (AtMember Destination c.args.self.family c.args.self.members.now))) (grind (arith, common_steps))
