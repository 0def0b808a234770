use Rattle.px_model.specs.Fits.{Passes}
use Rattle.px_model.proofs.Parts.{parts_fit}
use Rattle.px_model.proofs.laws.parts_fit.Goals as goal

pub returns : goal.returns
returns g c test same n some small me member numbers slot top log v fits input comes =
    parts_fit (Passes test) n me numbers slot top log v fits small member same input comes
