use Rattle.px_transport.proofs.Handed as lemmas
use Rattle.px_transport.proofs.laws.given_was_sent.Goals as goal

pub returns : goal.returns
returns c = lemmas.given_was_sent c.joined_was_cut.ensures c.report_keeps.ensures
