use Rattle.px_transport.proofs.Carrying as lemmas
use Rattle.px_transport.proofs.laws.sealed_is_carried.Goals as goal

pub returns : goal.returns
returns c =
    lemmas.sealed_is_carried c.front_was_sealed.ensures c.joined_was_cut.ensures c.report_keeps.ensures c.log_grows.ensures
