use Rattle.pfx_laws.proofs.Depths.{nine_are_all}
use Rattle.pfx_laws.proofs.levels.nine_levels_are_all.Goals as goal

pub returns : goal.returns
returns c = λ conf k h. nine_are_all conf k h
