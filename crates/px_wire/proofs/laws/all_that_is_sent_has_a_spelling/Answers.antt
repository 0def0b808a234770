use Rattle.px_wire.proofs.Members.{ever_has}
use Rattle.px_wire.proofs.laws.all_that_is_sent_has_a_spelling.Goals as goal

pub returns : goal.returns
returns c = λ same g some le events asks x there. ever_has same g some le events asks x there
