use Rattle.px_core.proofs.Spelled.{spelled_may_come}
use Rattle.px_core.proofs.laws.spelled_may_come.Goals as goal

pub returns : goal.returns
returns c = spelled_may_come
