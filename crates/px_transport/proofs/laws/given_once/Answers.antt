use Rattle.px_transport.proofs.Once as lemmas
use Rattle.px_transport.proofs.laws.given_once.Goals as goal

pub returns : goal.returns
returns c = lemmas.given_once c.heard_once.ensures
