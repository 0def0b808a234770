use Rattle.std.proofs.Common.{arith, sym}
use Rattle.std.proofs.lemmas.Grind.{common_steps}
use Rattle.nft_rules.specs.declared.subset.Side.TheVariants.{Source, Destination}
use Rattle.nft_rules.specs.Guard.{AtHome}
use Rattle.nft_text.proofs.Guarded.{fragment_parts}
use Rattle.nft_text.proofs.members.Guard.push_fragments.Goals as goal

pub returns : goal.returns
returns c =
    rw (sym (fragment_parts c.args.self.family (AtHome Source c.args.self.family c.args.self.members.now) (AtHome Destination c.args.self.family c.args.self.members.now))) (grind (arith, common_steps))
