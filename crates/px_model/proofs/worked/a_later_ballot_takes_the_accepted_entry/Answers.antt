use Rattle.px_model.proofs.WorkedRuns.{a_later_ballot_takes_the_accepted_entry}
use Rattle.px_model.proofs.worked.a_later_ballot_takes_the_accepted_entry.Goals as goal

pub returns : goal.returns
returns c = a_later_ballot_takes_the_accepted_entry
