use Rattle.pf_arguments.proofs.Each.{count_read}
use Rattle.pf_arguments.proofs.addresses.entries.Goals as goal

pub returns-clause-count : goal.returns-clause-count
returns-clause-count c = count_read c.read_entries.result c.args.words.now c.read_entries.ensures
