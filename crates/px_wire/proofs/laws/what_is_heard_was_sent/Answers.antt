use Rattle.px_wire.proofs.Members.{heard_as_sent}
use Rattle.px_wire.proofs.laws.what_is_heard_was_sent.Goals as goal

pub returns : goal.returns
returns c = λ n x h. heard_as_sent n x h
