use Rattle.nft_rules.proofs.Depths.{rendered_decides}
use Rattle.nft_rules.proofs.laws.rendered_as_judged.Goals as goal

pub returns : goal.returns
returns c = λ conf m k depth back on deep. rendered_decides conf m k depth back on deep
