use Rattle.px_model.specs.Fits.{Passes}
use Rattle.px_model.proofs.AlwaysFits.{nothing_fits, started_fits}
use Rattle.px_model.proofs.laws.starts_fit.Goals as goal

pub returns : goal.returns
returns g c test n me = (nothing_fits (Passes test) n, started_fits (Passes test) n me)
