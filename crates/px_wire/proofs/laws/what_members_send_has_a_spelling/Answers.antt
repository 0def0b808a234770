use Rattle.px_wire.proofs.Members.{sent_has}
use Rattle.px_wire.proofs.laws.what_members_send_has_a_spelling.Goals as goal

pub returns : goal.returns
returns c = λ g x le h. sent_has g x le h
