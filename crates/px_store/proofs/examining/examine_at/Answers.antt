use Rattle.std.proofs.Common.{◌≡◌, ◌∙◌, ◌||◌, ap, rules, sym, subst, Some, Err}
use Rattle.std.specs.Result.{IfErr}
use Rattle.px_store.specs.Adopting.{IsVerdict}
use Rattle.sqlite.specs.Held.{state}
use Rattle.px_store.specs.Formats.{trees_at, number_of}
use Rattle.px_store.specs.Judging.{has_rows, refusal, refusal_of}
use Rattle.px_store.specs.inner.Judging.{rows_in}
use Rattle.px_store.specs.Seen.{seen, meta_columns, floor_columns}
use Rattle.px_store.proofs.Judged.{judged_alike}
use Rattle.px_store.proofs.examining.examine_at.Goals as goal

pub returns-clause-adopted : goal.returns-clause-adopted
returns-clause-adopted g c = λ clean began.
    let f = c.args.format in
    let db = (state g.S.Store c.args.conn.now).now.trees in
    let read = c.in_ok-read.read in
    let said = c.in_ok-read.ensures in
    judged_alike (number_of f) c.args.identity (seen meta_columns (db 0) 1) (rows_in read.meta) (seen floor_columns (trees_at f db 2) 1) (rows_in read.floor) (has_rows (db 1)) (has_rows (trees_at f db 3)) (has_rows (rows_in read.last_slot)) (has_rows (rows_in read.last_entry))
    (said.rows clean began) (said.floors clean began) (said.slots clean began) (said.entries clean began)
    ∙ ap (λ n. refusal_of n c.args.identity (rows_in read.meta) (rows_in read.floor) (has_rows (rows_in read.last_slot) || has_rows (rows_in read.last_entry))) (sym c.number.ensures) ∙ c.in_ok-_found.ensures.adopted

pub returns-in_err-_found-clause-judged : goal.returns-in_err-_found-clause-judged
returns-in_err-_found-clause-judged g c = λ clean began.
    let f = c.args.format in
    let db = (state g.S.Store c.args.conn.now).now.trees in
    let read = c.in_ok-read.read in
    let said = c.in_ok-read.ensures in
    let judged = judged_alike (number_of f) c.args.identity (seen meta_columns (db 0) 1) (rows_in read.meta) (seen floor_columns (trees_at f db 2) 1) (rows_in read.floor) (has_rows (db 1)) (has_rows (trees_at f db 3)) (has_rows (rows_in read.last_slot)) (has_rows (rows_in read.last_entry))
    (said.rows clean began) (said.floors clean began) (said.slots clean began) (said.entries clean began)
    ∙ ap (λ n. refusal_of n c.args.identity (rows_in read.meta) (rows_in read.floor) (has_rows (rows_in read.last_slot) || has_rows (rows_in read.last_entry))) (sym c.number.ensures) in
    let same : c.from_residual-in_err-_found.result ≡ Err c.in_err-_found.field-0.0 = search rules in
    subst (λ r. IfErr r (λ e. IsVerdict e → refusal f c.args.identity db ≡ Some e)) (sym same) (λ verdict. judged ∙ c.in_err-_found.ensures.refused verdict)
