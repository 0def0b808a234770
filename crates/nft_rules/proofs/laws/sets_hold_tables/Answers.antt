use Rattle.nft_rules.proofs.Cutting.{elements_hold}
use Rattle.nft_rules.proofs.laws.sets_hold_tables.Goals as goal

pub returns : goal.returns
returns c = λ f a entries few. elements_hold f a entries few
