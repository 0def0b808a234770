use Rattle.std.proofs.Common.{arith, sym}
use Rattle.std.proofs.lemmas.Grind.{common_steps}
use Rattle.nft_rules.specs.declared.subset.Side.TheVariants.{Destination}
use Rattle.nft_rules.specs.Guard.{AtHome}
use Rattle.nft_text.proofs.Guarded.{too_big_parts}
use Rattle.nft_text.proofs.members.Guard.push_too_big.Goals as goal

pub returns : goal.returns
returns c =
    rw (sym (too_big_parts c.args.self.family (AtHome Destination c.args.self.family c.args.self.members.now))) (grind (arith, common_steps))
