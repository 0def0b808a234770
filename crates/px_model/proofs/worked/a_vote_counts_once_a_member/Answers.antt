use Rattle.px_model.proofs.WorkedRuns.{a_vote_counts_once_a_member}
use Rattle.px_model.proofs.worked.a_vote_counts_once_a_member.Goals as goal

pub returns : goal.returns
returns c = a_vote_counts_once_a_member
