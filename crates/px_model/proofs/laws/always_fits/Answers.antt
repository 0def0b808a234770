use Rattle.px_model.specs.Fits.{Passes}
use Rattle.px_model.proofs.AlwaysFits.{always_fits}
use Rattle.px_model.proofs.laws.always_fits.Goals as goal

pub returns : goal.returns
returns g c test same n some small events fits = always_fits (Passes test) same n small events fits
