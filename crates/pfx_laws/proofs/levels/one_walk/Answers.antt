use Rattle.pfx_laws.proofs.Depths.{one_walk, judged_so}
use Rattle.pfx_laws.proofs.levels.one_walk.Goals as goal

pub returns : goal.returns
returns c = record { hits = λ conf k at h walk p short. one_walk conf k at h walk p short; judged = λ conf k at h walk. judged_so conf k at h walk }
