use Rattle.std.proofs.Common.{◌≡◌, not, ap, true, ◌∙◌, refl}
use Rattle.sqlite.specs.Held.{state}
use Rattle.px_store.proofs.NewRows.{wrote, not_wrote}
use Rattle.px_store.proofs.calls.put.Goals as goal

pub returns-in-Ok-clause-wrote : goal.returns-in-Ok-clause-wrote
returns-in-Ok-clause-wrote g c = λ clean began is_open.
    let auto : c.is_autocommit-settled.result ≡ true = c.is_autocommit-settled.ensures.value ∙ ap not began.auto in
    let begun = c.is_autocommit-settled.ensures.settled (rw auto refl) is_open in
    wrote c.args.identity c.args.row c.args.bytes.now (state g.S.Store c.args.conn.now) (state g.S.Store c.run.new.conn) began begun clean c.in-Ok.ensures.survives _ _ (c.in-Ok.ensures.runs clean)

pub returns-in-Err-clause-wrote : goal.returns-in-Err-clause-wrote
returns-in-Err-clause-wrote g c = λ clean began is_open.
    let auto : c.is_autocommit-settled.result ≡ true = c.is_autocommit-settled.ensures.value ∙ ap not began.auto in
    let begun = c.is_autocommit-settled.ensures.settled (rw auto refl) is_open in
    let mid = c.cause_of.ensures.clean clean in
    not_wrote c.args.identity c.args.row c.args.bytes.now (state g.S.Store c.args.conn.now) (state g.S.Store c.run.new.conn) began begun mid c.in-Err.ensures.survives (state g.S.Store c.cause_of.new.conn) c.in-Err.error _ (c.in-Err.ensures.runs mid) (c.cause_of.ensures.crash clean) (c.cause_of.ensures.serves clean)
