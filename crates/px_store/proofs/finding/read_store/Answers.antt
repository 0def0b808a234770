use Rattle.std.proofs.Common.{◌≡◌, subst, List}
use Rattle.sqlite_value.specs.Order.{Row}
use Rattle.sqlite.specs.Held.{state}
use Rattle.sqlite.specs.Effect.{Database}
use Rattle.px_store.specs.Seen.{seen, meta_columns, floor_columns}
use Rattle.px_store.specs.inner.Effect.{IsAlike}
use Rattle.px_store.specs.Judging.{has_rows}
use Rattle.px_store.specs.inner.Judging.{rows_in}
use Rattle.px_store.specs.Formats.{trees_at}
use Rattle.px_store.proofs.Adopts.{same_then, still, with_table}
use Rattle.px_store.proofs.Questions.{first_has, second_has}
use Rattle.px_store.proofs.Tops.{last_some}
use Rattle.px_store.specs.Seen.{any_row}
use Rattle.px_store.specs.inner.Seen.{IsLast}
use Rattle.px_store.specs.declared.formats.Format.{Format}
use Rattle.sqlite.specs.Tree.{Trees}
use Rattle.px_store.proofs.finding.read_store.Goals as goal

slot_some : (f : Format) (db : Trees) (rows : List Row) → IsLast any_row (trees_at f db 1) rows → has_rows rows ≡ has_rows (db 1)
slot_some f db rows is = last_some (db 1) rows (subst (λ (t : List Row). IsLast any_row t rows) (with_table 1 f db (second_has f)) is)

pub returns-clause-stays : goal.returns-clause-stays
returns-clause-stays g c = λ clean began.
    let clean1 = c.in_ok-last_entry.ensures.clean clean in
    let clean0 = c.in_ok-last_slot.ensures.clean clean1 in
    let before0 = c.in_ok-floor.ensures.clean clean0 in
    let first = c.in_ok-meta.ensures.stays before0 began in
    let next0 = same_then first (c.in_ok-floor.ensures.stays clean0 (still first began)) in
    let next1 = same_then next0 (c.in_ok-last_slot.ensures.stays clean1 (still next0 began)) in
    same_then next1 (c.in_ok-last_entry.ensures.stays clean (still next1 began))

pub returns-clause-rows : goal.returns-clause-rows
returns-clause-rows g c = λ clean began.
    let clean1 = c.in_ok-last_entry.ensures.clean clean in
    let clean0 = c.in_ok-last_slot.ensures.clean clean1 in
    let before0 = c.in_ok-floor.ensures.clean clean0 in
    subst (λ (t : List Row). IsAlike (seen meta_columns t 1) (rows_in c.in_ok-meta.meta)) (with_table 0 c.args.format (state g.S.Store c.args.conn.now).now.trees (first_has c.args.format)) (c.in_ok-meta.ensures.rows before0 began)

pub returns-clause-floors : goal.returns-clause-floors
returns-clause-floors g c = λ clean began.
    let clean1 = c.in_ok-last_entry.ensures.clean clean in
    let clean0 = c.in_ok-last_slot.ensures.clean clean1 in
    let before0 = c.in_ok-floor.ensures.clean clean0 in
    let first = c.in_ok-meta.ensures.stays before0 began in
    subst (λ (d : Database). IsAlike (seen floor_columns (trees_at c.args.format d.trees 2) 1) (rows_in c.in_ok-floor.floor)) first.now (c.in_ok-floor.ensures.rows clean0 (still first began))

pub returns-clause-slots : goal.returns-clause-slots
returns-clause-slots g c = λ clean began.
    let clean1 = c.in_ok-last_entry.ensures.clean clean in
    let clean0 = c.in_ok-last_slot.ensures.clean clean1 in
    let before0 = c.in_ok-floor.ensures.clean clean0 in
    let first = c.in_ok-meta.ensures.stays before0 began in
    let next0 = same_then first (c.in_ok-floor.ensures.stays clean0 (still first began)) in
    slot_some c.args.format (state g.S.Store c.args.conn.now).now.trees (rows_in c.in_ok-last_slot.last_slot) (subst (λ (d : Database). IsLast any_row (trees_at c.args.format d.trees 1) (rows_in c.in_ok-last_slot.last_slot)) next0.now (c.in_ok-last_slot.ensures.rows clean1 (still next0 began)))

pub returns-clause-entries : goal.returns-clause-entries
returns-clause-entries g c = λ clean began.
    let clean1 = c.in_ok-last_entry.ensures.clean clean in
    let clean0 = c.in_ok-last_slot.ensures.clean clean1 in
    let before0 = c.in_ok-floor.ensures.clean clean0 in
    let first = c.in_ok-meta.ensures.stays before0 began in
    let next0 = same_then first (c.in_ok-floor.ensures.stays clean0 (still first began)) in
    let next1 = same_then next0 (c.in_ok-last_slot.ensures.stays clean1 (still next0 began)) in
    last_some (trees_at c.args.format (state g.S.Store c.args.conn.now).now.trees 3) (rows_in c.in_ok-last_entry.last_entry) (subst (λ (d : Database). IsLast any_row (trees_at c.args.format d.trees 3) (rows_in c.in_ok-last_entry.last_entry)) next1.now (c.in_ok-last_entry.ensures.rows clean (still next1 began)))

pub returns-in_err-meta-clause-crash : goal.returns-in_err-meta-clause-crash
returns-in_err-meta-clause-crash g c = λ clean began. c.in_err-meta.ensures.crash clean began

pub returns-in_err-floor-clause-crash : goal.returns-in_err-floor-clause-crash
returns-in_err-floor-clause-crash g c = λ clean began db left.
    let clean0 = c.in_err-floor.ensures.clean clean in
    let same0 = c.in_ok-meta.ensures.stays clean0 began in
    c.in_ok-meta.ensures.crash clean0 began db (c.in_err-floor.ensures.crash clean (still same0 began) db left)

pub returns-in_err-last_slot-clause-crash : goal.returns-in_err-last_slot-clause-crash
returns-in_err-last_slot-clause-crash g c = λ clean began db left.
    let clean1 = c.in_err-last_slot.ensures.clean clean in
    let clean0 = c.in_ok-floor.ensures.clean clean1 in
    let same0 = c.in_ok-meta.ensures.stays clean0 began in
    let same1 = same_then same0 (c.in_ok-floor.ensures.stays clean1 (still same0 began)) in
    c.in_ok-meta.ensures.crash clean0 began db (c.in_ok-floor.ensures.crash clean1 (still same0 began) db (c.in_err-last_slot.ensures.crash clean (still same1 began) db left))

pub returns-in_err-last_entry-clause-crash : goal.returns-in_err-last_entry-clause-crash
returns-in_err-last_entry-clause-crash g c = λ clean began db left.
    let clean2 = c.in_err-last_entry.ensures.clean clean in
    let clean1 = c.in_ok-last_slot.ensures.clean clean2 in
    let clean0 = c.in_ok-floor.ensures.clean clean1 in
    let same0 = c.in_ok-meta.ensures.stays clean0 began in
    let same1 = same_then same0 (c.in_ok-floor.ensures.stays clean1 (still same0 began)) in
    let same2 = same_then same1 (c.in_ok-last_slot.ensures.stays clean2 (still same1 began)) in
    c.in_ok-meta.ensures.crash clean0 began db (c.in_ok-floor.ensures.crash clean1 (still same0 began) db (c.in_ok-last_slot.ensures.crash clean2 (still same1 began) db (c.in_err-last_entry.ensures.crash clean (still same2 began) db left)))

pub returns-clause-crash : goal.returns-clause-crash
returns-clause-crash g c = λ clean began db left.
    let clean2 = c.in_ok-last_entry.ensures.clean clean in
    let clean1 = c.in_ok-last_slot.ensures.clean clean2 in
    let clean0 = c.in_ok-floor.ensures.clean clean1 in
    let same0 = c.in_ok-meta.ensures.stays clean0 began in
    let same1 = same_then same0 (c.in_ok-floor.ensures.stays clean1 (still same0 began)) in
    let same2 = same_then same1 (c.in_ok-last_slot.ensures.stays clean2 (still same1 began)) in
    c.in_ok-meta.ensures.crash clean0 began db (c.in_ok-floor.ensures.crash clean1 (still same0 began) db (c.in_ok-last_slot.ensures.crash clean2 (still same1 began) db (c.in_ok-last_entry.ensures.crash clean (still same2 began) db left)))
