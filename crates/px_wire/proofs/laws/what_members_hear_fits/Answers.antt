use Rattle.px_wire.proofs.Members.{heard_fits}
use Rattle.px_wire.proofs.laws.what_members_hear_fits.Goals as goal

pub returns : goal.returns
returns c = λ g from to message bytes h. heard_fits g from to message bytes h
