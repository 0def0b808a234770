use Rattle.cli_follow.proofs.MembersRead.{are_read}
use Rattle.cli_follow.proofs.laws.members_are_read.Goals as goal

pub returns : goal.returns
returns c = λ addresses. are_read c.shown_is_read.ensures.read c.shown_is_read.ensures.word addresses
