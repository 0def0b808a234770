use Rattle.std.proofs.Common.{rules, ◌≡◌, ◌∙◌, ◌||◌, ap, sym, subst, Some, Err, inl, inr}
use Rattle.std.specs.Result.{IfErr}
use Rattle.sqlite.specs.Held.{state}
use Rattle.sqlite.specs.Effect.{Database}
use Rattle.px_store.specs.Adopting.{IsVerdict, AreBrought}
use Rattle.px_store.specs.Formats.{trees_at, number_of}
use Rattle.px_store.specs.Judging.{has_rows, refusal, refusal_of}
use Rattle.px_store.specs.inner.Judging.{rows_in}
use Rattle.px_store.specs.Seen.{seen, meta_columns, floor_columns, number_at}
use Rattle.px_store.specs.inner.Making.{Brought}
use Rattle.px_store.proofs.Adopts.{shows_from, whole_from, alike_few, still}
use Rattle.px_store.proofs.Judged.{judged_alike}
use Rattle.px_store.proofs.adopt.bring_at.Goals as goal

pub returns-in_err-found-clause-judged : goal.returns-in_err-found-clause-judged
returns-in_err-found-clause-judged g c = λ clean began.
    let f = c.args.format in
    let db = (state g.S.Store c.args.conn.now).now.trees in
    let read = c.in_ok-read.read in
    let said_of_read = c.in_ok-read.ensures in
    let judged = judged_alike (number_of f) c.args.identity (seen meta_columns (db 0) 1) (rows_in read.meta) (seen floor_columns (trees_at f db 2) 1) (rows_in read.floor) (has_rows (db 1)) (has_rows (trees_at f db 3)) (has_rows (rows_in read.last_slot)) (has_rows (rows_in read.last_entry))
    (said_of_read.rows clean began) (said_of_read.floors clean began) (said_of_read.slots clean began) (said_of_read.entries clean began)
    ∙ ap (λ n. refusal_of n c.args.identity (rows_in read.meta) (rows_in read.floor) (has_rows (rows_in read.last_slot) || has_rows (rows_in read.last_entry))) (sym c.number.ensures) in
    let same : c.from_residual-in_err-found.result ≡ Err c.in_err-found.field-0.0 = search rules in
    subst (λ r. IfErr r (λ e. IsVerdict e → refusal f c.args.identity db ≡ Some e)) (sym same) (λ verdict. judged ∙ c.in_err-found.ensures.refused verdict)

pub returns-then-has_table-clause-adopted : goal.returns-then-has_table-clause-adopted
returns-then-has_table-clause-adopted g c = λ clean began.
    let f = c.args.format in
    let db = (state g.S.Store c.args.conn.now).now.trees in
    let read = c.in_ok-read.read in
    let said_of_read = c.in_ok-read.ensures in
    judged_alike (number_of f) c.args.identity (seen meta_columns (db 0) 1) (rows_in read.meta) (seen floor_columns (trees_at f db 2) 1) (rows_in read.floor) (has_rows (db 1)) (has_rows (trees_at f db 3)) (has_rows (rows_in read.last_slot)) (has_rows (rows_in read.last_entry))
    (said_of_read.rows clean began) (said_of_read.floors clean began) (said_of_read.slots clean began) (said_of_read.entries clean began)
    ∙ ap (λ n. refusal_of n c.args.identity (rows_in read.meta) (rows_in read.floor) (has_rows (rows_in read.last_slot) || has_rows (rows_in read.last_entry))) (sym c.number.ensures) ∙ c.in_ok-found.ensures.adopted

pub returns-in-Ok-clause-adopted : goal.returns-in-Ok-clause-adopted
returns-in-Ok-clause-adopted g c = λ clean began.
    let mid = c.in-Ok.ensures.clean clean in
    let f = c.args.format in
    let db = (state g.S.Store c.args.conn.now).now.trees in
    let read = c.in_ok-read.read in
    let said_of_read = c.in_ok-read.ensures in
    judged_alike (number_of f) c.args.identity (seen meta_columns (db 0) 1) (rows_in read.meta) (seen floor_columns (trees_at f db 2) 1) (rows_in read.floor) (has_rows (db 1)) (has_rows (trees_at f db 3)) (has_rows (rows_in read.last_slot)) (has_rows (rows_in read.last_entry))
    (said_of_read.rows mid began) (said_of_read.floors mid began) (said_of_read.slots mid began) (said_of_read.entries mid began)
    ∙ ap (λ n. refusal_of n c.args.identity (rows_in read.meta) (rows_in read.floor) (has_rows (rows_in read.last_slot) || has_rows (rows_in read.last_entry))) (sym c.number.ensures) ∙ c.in_ok-found.ensures.adopted

pub returns-in-Ok-clause-made : goal.returns-in-Ok-clause-made
returns-in-Ok-clause-made g c = λ clean began.
    let mid = c.in-Ok.ensures.clean clean in
    let f = c.args.format in
    let db = (state g.S.Store c.args.conn.now).now.trees in
    let read = c.in_ok-read.read in
    let said_of_read = c.in_ok-read.ensures in
    let same = said_of_read.stays mid began in
    let next = still same began in
    let found = c.in_ok-found.found in
    let rows = alike_few _ _ (said_of_read.rows mid began) c.in_ok-found.ensures.few in
    let round = ap (number_at 5) rows ∙ c.in_ok-found.ensures.round in
    let number = ap (number_at 6) rows ∙ c.in_ok-found.ensures.number in
    let new = state g.S.Store c.make_rest.new.conn in
    shows_from f c.args.identity db found.round found.number new round number
    (subst (λ (d : Database). Brought c.args.identity found.round found.number (d.trees 1) (trees_at f d.trees 2) (trees_at f d.trees 3) new) same.now (c.in-Ok.ensures.made clean next.schema))

pub returns-in-Ok-clause-stop : goal.returns-in-Ok-clause-stop
returns-in-Ok-clause-stop g c = λ clean began db' left.
    let mid = c.in-Ok.ensures.clean clean in
    let f = c.args.format in
    let db = (state g.S.Store c.args.conn.now).now.trees in
    let read = c.in_ok-read.read in
    let said_of_read = c.in_ok-read.ensures in
    let same = said_of_read.stays mid began in
    let next = still same began in
    let found = c.in_ok-found.found in
    let rows = alike_few _ _ (said_of_read.rows mid began) c.in_ok-found.ensures.few in
    let round = ap (number_at 5) rows ∙ c.in_ok-found.ensures.round in
    let number = ap (number_at 6) rows ∙ c.in_ok-found.ensures.number in
    let adopted = judged_alike (number_of f) c.args.identity (seen meta_columns (db 0) 1) (rows_in read.meta) (seen floor_columns (trees_at f db 2) 1) (rows_in read.floor) (has_rows (db 1)) (has_rows (trees_at f db 3)) (has_rows (rows_in read.last_slot)) (has_rows (rows_in read.last_entry))
    (said_of_read.rows mid began) (said_of_read.floors mid began) (said_of_read.slots mid began) (said_of_read.entries mid began)
    ∙ ap (λ n. refusal_of n c.args.identity (rows_in read.meta) (rows_in read.floor) (has_rows (rows_in read.last_slot) || has_rows (rows_in read.last_entry))) (sym c.number.ensures) ∙ c.in_ok-found.ensures.adopted in
    elim (c.in-Ok.ensures.stop clean next.schema db' left) [
      | inl was ↦ inl (said_of_read.crash mid began db' was)
      | inr is ↦ inr (whole_from f c.args.identity db found.round found.number adopted round number c.in_ok-found.ensures.low c.in_ok-found.ensures.most db'
          (subst (λ (d : Database). AreBrought c.args.identity found.round found.number (d.trees 1) (trees_at f d.trees 2) (trees_at f d.trees 3) db') same.now is))
    ]

pub returns-clause-stop : goal.returns-clause-stop
returns-clause-stop g c = λ clean began db' left.
    let after = c.fault_of.ensures.clean clean in
    let mid = c.in-Err.ensures.clean after in
    let f = c.args.format in
    let db = (state g.S.Store c.args.conn.now).now.trees in
    let read = c.in_ok-read.read in
    let said_of_read = c.in_ok-read.ensures in
    let same = said_of_read.stays mid began in
    let next = still same began in
    let found = c.in_ok-found.found in
    let rows = alike_few _ _ (said_of_read.rows mid began) c.in_ok-found.ensures.few in
    let round = ap (number_at 5) rows ∙ c.in_ok-found.ensures.round in
    let number = ap (number_at 6) rows ∙ c.in_ok-found.ensures.number in
    let adopted = judged_alike (number_of f) c.args.identity (seen meta_columns (db 0) 1) (rows_in read.meta) (seen floor_columns (trees_at f db 2) 1) (rows_in read.floor) (has_rows (db 1)) (has_rows (trees_at f db 3)) (has_rows (rows_in read.last_slot)) (has_rows (rows_in read.last_entry))
    (said_of_read.rows mid began) (said_of_read.floors mid began) (said_of_read.slots mid began) (said_of_read.entries mid began)
    ∙ ap (λ n. refusal_of n c.args.identity (rows_in read.meta) (rows_in read.floor) (has_rows (rows_in read.last_slot) || has_rows (rows_in read.last_entry))) (sym c.number.ensures) ∙ c.in_ok-found.ensures.adopted in
    elim (c.in-Err.ensures.stop after next.schema db' (c.fault_of.ensures.crash clean db' left)) [
      | inl was ↦ inl (said_of_read.crash mid began db' was)
      | inr is ↦ inr (whole_from f c.args.identity db found.round found.number adopted round number c.in_ok-found.ensures.low c.in_ok-found.ensures.most db'
          (subst (λ (d : Database). AreBrought c.args.identity found.round found.number (d.trees 1) (trees_at f d.trees 2) (trees_at f d.trees 3) db') same.now is))
    ]
