use Rattle.std.proofs.Common.{◌≡◌, not, ap, true, ◌∙◌, refl}
use Rattle.sqlite.specs.Held.{state}
use Rattle.px_store.proofs.Questions.{looked, not_looked}
use Rattle.px_store.proofs.calls.get.Goals as goal

pub returns-in-Ok-clause-looked : goal.returns-in-Ok-clause-looked
returns-in-Ok-clause-looked g c = λ clean f began has.
    let auto : c.is_autocommit-settled.result ≡ true = c.is_autocommit-settled.ensures.value ∙ ap not began.auto in
    let settled = c.is_autocommit-settled.ensures.settled (rw auto refl) in
    looked f c.args.question has (state g.S.Store c.args.conn.now) (state g.S.Store c.ask.new.conn) began settled clean c.in-Ok.ensures.survives c.in-Ok.rows (c.in-Ok.ensures.ok clean)

pub returns-in-Err-clause-looked : goal.returns-in-Err-clause-looked
returns-in-Err-clause-looked g c = λ clean f began has.
    let auto : c.is_autocommit-settled.result ≡ true = c.is_autocommit-settled.ensures.value ∙ ap not began.auto in
    let settled = c.is_autocommit-settled.ensures.settled (rw auto refl) in
    let mid = c.cause_of.ensures.clean clean in
    not_looked f c.args.question has (state g.S.Store c.args.conn.now) (state g.S.Store c.ask.new.conn) began settled mid c.in-Err.ensures.survives (state g.S.Store c.cause_of.new.conn) c.in-Err.error _ (c.in-Err.ensures.err mid) (c.cause_of.ensures.crash clean) (c.cause_of.ensures.serves clean)

pub returns-in-Err-clause-unanswered : goal.returns-in-Err-clause-unanswered
returns-in-Err-clause-unanswered g c = λ clean.
    (c.ask.new.conn, (c.in-Err.error, c.in-Err.ensures.err (c.cause_of.ensures.clean clean)))
