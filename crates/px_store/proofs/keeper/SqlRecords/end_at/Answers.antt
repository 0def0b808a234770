use Rattle.std.proofs.Common.{◌≡◌, rules}
use Rattle.sqlite.specs.Held.{state}
use Rattle.px_records.specs.Records.Place.{LastEntry}
use Rattle.px_store.specs.Seen.{any_row}
use Rattle.px_store.specs.Ready.{IsEntryGood}
use Rattle.px_store.proofs.Ends.{no_end}
use Rattle.px_store.proofs.keeper.SqlRecords.end_at.Goals as goal

pub returns-clause-bad : goal.returns-clause-bad
returns-clause-bad g c = λ honest is good.
    let none : c.look.new.self.failures ≡ 0 = search rules in
    let now = (c.look.ensures.reads.keeps honest none).rows LastEntry good in
    let said_of_row = c.end_in_rows.ensures.bad (c.stored.ensures.bad is) in
    let tree = (state g.S.Store c.look.new.self.conn).committed.trees 3 in
    no_end any_row (IsEntryGood c.look.new.self.identity.members tree) tree _ (c.in_ok-rows.ensures.rows honest) (rw c.as_slice.ensures.value at said_of_row) now
