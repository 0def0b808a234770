use Rattle.std.proofs.Common.{inr}
use Rattle.px_store.proofs.Stored.{not_zero}
use Rattle.px_store.proofs.keeper.SqlRecords.keep_floor.Goals as goal

pub keep-requires-clause-bounds : goal.keep-requires-clause-bounds
keep-requires-clause-bounds g c = record { round = c.args.self.now.bounds.round; number = c.args.self.now.bounds.number; floor = inr c.requires.r0 }

pub keep-requires-clause-floor : goal.keep-requires-clause-floor
keep-requires-clause-floor g c = λ e. not_zero c.args.self.now.identity.members c.args.ballot e c.requires.r0

pub returns-clause-rows : goal.returns-clause-rows
returns-clause-rows g c = λ honest none. c.keep.ensures.rows honest none tt tt
