use Rattle.std.proofs.Common.{◌≡◌, ◌∙◌, sym, rules, true, false}
use Rattle.px_records.specs.Records.Place.{SlotAt}
use Rattle.px_store.proofs.Stored.{not_alike_slot}
use Rattle.px_store.proofs.keeper.SqlRecords.slot_at.Goals as goal

pub returns-clause-bad : goal.returns-clause-bad
returns-clause-bad g c = λ honest is good.
    let none : c.look.new.self.failures ≡ 0 = search rules in
    let now = (c.look.ensures.reads.keeps honest none).rows (SlotAt c.args.position) good in
    let said_of_row = c.slot_in_rows-slot.ensures.bad (c.stored.ensures.bad is) in
    let bad = not_alike_slot c.look.new.self.identity.members c.args.position _ _ (c.in_ok-rows.ensures.rows honest) (rw c.as_slice.ensures.value at said_of_row) in
    let e : false ≡ true = sym bad ∙ now in
    absurd cc
