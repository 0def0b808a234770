use Rattle.std.proofs.Common.{◌≡◌, Err, rules, refl, subst, inl, inr, false}
use Rattle.px_store.specs.inner.Adopting.{IsRefused}
use Rattle.sqlite.specs.Held.{state}
use Rattle.px_model.specs.World.{nothing_stored}
use Rattle.px_store.specs.Tables.{no_schema}
use Rattle.px_store.specs.Formats.{record_at}
use Rattle.px_store.proofs.Owned.{judged_own, never_own, shows_tables, on_ok}
use Rattle.px_store.proofs.adopt.bring.Goals as goal

pub returns-then-has_none-clause-known : goal.returns-then-has_none-clause-known
returns-then-has_none-clause-known g c =
    let none : (state g.S.Store c.args.conn.now).now.schema ≡ no_schema = search rules in
    let auto : (state g.S.Store c.args.conn.now).in_transaction ≡ false = search rules in
    on_ok c.bring_none.result (inl none, auto)

pub returns-then-has_none-clause-unknown : goal.returns-then-has_none-clause-unknown
returns-then-has_none-clause-unknown g c = λ unknown auto.
    let none : (state g.S.Store c.args.conn.now).now.schema ≡ no_schema = search rules in
    absurd (unknown (inl none))

pub returns-then-has_none-clause-tables : goal.returns-then-has_none-clause-tables
returns-then-has_none-clause-tables g c = λ clean.
    let none : (state g.S.Store c.args.conn.now).now.schema ≡ no_schema = search rules in
    let auto : (state g.S.Store c.args.conn.now).in_transaction ≡ false = search rules in
    shows_tables c.bring_none.result nothing_stored (state g.S.Store c.bring_none.new.conn) (c.bring_none.ensures.made clean none auto)

pub returns-then-has_none-clause-unfound : goal.returns-then-has_none-clause-unfound
returns-then-has_none-clause-unfound g c = λ clean own. never_own c.bring_none.result c.bring_none.ensures.never

pub returns-in_err-format-clause-unknown : goal.returns-in_err-format-clause-unknown
returns-in_err-format-clause-unknown g c = λ unknown auto.
    let e = c.in_err-format.ensures.unknown auto (λ f is. unknown (inr (f, is))) in
    let same : c.from_residual.result ≡ Err c.in_err-format.field-0.0 = search rules in
    (cc, refl)

pub returns-in_err-format-clause-refused : goal.returns-in_err-format-clause-refused
returns-in_err-format-clause-refused g c = λ clean refused.
    let same : c.from_residual.result ≡ Err c.in_err-format.field-0.0 = search rules in
    record { now = refl; auto = c.in_err-format.ensures.settled (subst IsRefused same refused) }

pub returns-clause-known : goal.returns-clause-known
returns-clause-known g c =
    let began = c.in_ok-format.ensures.known in
    on_ok c.bring_at.result (inr (c.in_ok-format.format, began.schema), began.auto)

pub returns-clause-unknown : goal.returns-clause-unknown
returns-clause-unknown g c = λ unknown auto. absurd (unknown (inr (c.in_ok-format.format, (c.in_ok-format.ensures.known).schema)))

pub returns-clause-refused : goal.returns-clause-refused
returns-clause-refused g c = λ clean refused. c.bring_at.ensures.refused clean c.in_ok-format.ensures.known refused

pub returns-clause-tables : goal.returns-clause-tables
returns-clause-tables g c = λ clean.
    let s = state g.S.Store c.args.conn.now in
    shows_tables c.bring_at.result (record_at c.in_ok-format.format s.now.trees) (state g.S.Store c.bring_at.new.conn) (c.bring_at.ensures.made clean c.in_ok-format.ensures.known)

pub returns-clause-unfound : goal.returns-clause-unfound
returns-clause-unfound g c = λ clean own.
    let s = state g.S.Store c.args.conn.now in
    judged_own c.bring_at.result c.in_ok-format.format c.args.identity s.now.trees (c.bring_at.ensures.judged clean c.in_ok-format.ensures.known) own
