use Rattle.nft_rules.proofs.Guarded.{guard_passes}
use Rattle.nft_rules.proofs.laws.guard_passes_members.Goals as goal

pub returns : goal.returns
returns c = λ ms behind. guard_passes ms behind
