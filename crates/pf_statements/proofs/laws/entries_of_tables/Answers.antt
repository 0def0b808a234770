use Rattle.pf_statements.proofs.EntriesMet.{entries_met}
use Rattle.pf_statements.proofs.laws.entries_of_tables.Goals as goal

pub returns : goal.returns
returns c = entries_met
