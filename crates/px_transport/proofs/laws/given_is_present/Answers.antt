use Rattle.px_transport.proofs.Once as lemmas
use Rattle.px_transport.proofs.laws.given_is_present.Goals as goal

pub returns : goal.returns
returns c = lemmas.given_is_present
