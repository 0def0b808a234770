use Rattle.px_model.proofs.MoreCases.{the_borders_are_exact}
use Rattle.px_model.proofs.worked.the_borders_are_exact.Goals as goal

pub returns : goal.returns
returns c = the_borders_are_exact
