use Rattle.px_model.specs.Fits.{Passes}
use Rattle.px_model.proofs.Fits.{step_fits}
use Rattle.px_model.proofs.laws.steps_fit.Goals as goal

pub returns : goal.returns
returns g c test same n some small me member s fits input comes = step_fits (Passes test) n small me member s fits same input comes
