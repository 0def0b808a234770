use Rattle.std.proofs.Common.{arith}
use Rattle.px_store.proofs.keeper.SqlRecords.keep_meta.Goals as goal

pub keep-requires-clause-fits : goal.keep-requires-clause-fits
keep-requires-clause-fits g c = let low = c.requires.r0 in let most = c.requires.r1 in (omega (arith, low), omega (arith, most))

pub keep-requires-clause-bounds : goal.keep-requires-clause-bounds
keep-requires-clause-bounds g c = record { round = c.requires.r0; number = c.requires.r1; floor = c.args.self.now.bounds.floor }

pub returns-clause-rows : goal.returns-clause-rows
returns-clause-rows g c = λ honest none. c.keep.ensures.rows honest none tt tt
