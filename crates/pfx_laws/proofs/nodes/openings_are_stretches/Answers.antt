use Rattle.pfx_laws.proofs.Stretching.{openings_are_stretches}
use Rattle.pfx_laws.proofs.nodes.openings_are_stretches.Goals as goal

pub returns : goal.returns
returns c = openings_are_stretches
