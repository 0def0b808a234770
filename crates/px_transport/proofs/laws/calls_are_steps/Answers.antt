use Rattle.px_transport.proofs.Stepping as lemmas
use Rattle.px_transport.proofs.laws.calls_are_steps.Goals as goal

pub returns : goal.returns
returns c = lemmas.calls_are_steps c.named_once.ensures c.cut_is_piece.ensures
