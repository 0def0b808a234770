use Rattle.pf_grammar.proofs.RoundTrip.{reading_again}
use Rattle.pf_grammar.proofs.laws.reading_again.Goals as goal

pub returns : goal.returns
returns c = reading_again
