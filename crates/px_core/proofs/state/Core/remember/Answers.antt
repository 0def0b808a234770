use Rattle.std.proofs.Common.{rules}
use Rattle.px_model.specs.Entries.{entry_of}
use Rattle.px_core.specs.Planning.{state_of}
use Rattle.px_core.proofs.Spelled.{remembered_fits}
use Rattle.px_core.proofs.state.Core.remember.Goals as goal

pub returns-clause-fits : goal.returns-clause-fits
unfolding state_of
returns-clause-fits c test fits entry =
    remembered_fits test (state_of c.args.self.now) _ c.args.position (entry_of c.args.entry) c.requires.position c.requires.nothing (search rules) fits entry
