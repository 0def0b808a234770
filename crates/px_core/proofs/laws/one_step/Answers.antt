use Rattle.px_core.proofs.Following.{answers_as_a_member, settles_as_a_member}
use Rattle.px_core.proofs.laws.one_step.Goals as goal

pub returns-clause-answers : goal.returns-clause-answers
returns-clause-answers c = answers_as_a_member

pub returns-clause-settles : goal.returns-clause-settles
returns-clause-settles c = settles_as_a_member
