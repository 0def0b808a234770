use Rattle.px_transport.proofs.Bounds as lemmas
use Rattle.px_transport.proofs.laws.stays_bounded.Goals as goal

pub returns : goal.returns
returns c = lemmas.stays_bounded c.stays_bounded.ensures
