use Rattle.std.proofs.Common.{◌≡◌, ◌∙◌, Err, ap, true, false, refl, rules, sym, subst}
use Rattle.px_store.specs.declared.fault.AdoptFault.TheVariants.{Failed}
use Rattle.std.specs.Result.{IfErr}
use Rattle.sqlite.specs.Held.{state}
use Rattle.px_store.specs.Adopting.{IsVerdict, IsSame}
use Rattle.px_store.proofs.examining.owner_in.Goals as goal

pub returns-in_err-format-clause-unknown : goal.returns-in_err-format-clause-unknown
returns-in_err-format-clause-unknown g c = λ auto unknown.
    let e = c.in_err-format.ensures.unknown auto unknown in
    let same : c.from_residual.result ≡ Err c.in_err-format.field-0.0 = search rules in
    (cc, refl)

pub returns-in_err-format-clause-as_it_was : goal.returns-in_err-format-clause-as_it_was
returns-in_err-format-clause-as_it_was g c = λ clean.
    let same : c.from_residual.result ≡ Err c.in_err-format.field-0.0 = search rules in
    let s = state g.S.Store c.args.conn.now in
    subst (λ r. IfErr r (λ e. IsVerdict e → IsSame s s)) (sym same) (λ verdict. record { now = refl; auto = c.in_err-format.ensures.settled verdict })

pub returns-in_err-format-clause-unread : goal.returns-in_err-format-clause-unread
returns-in_err-format-clause-unread g c = λ clean auto is.
    let same : c.from_residual.result ≡ Err c.in_err-format.field-0.0 = search rules in
    let e = sym same ∙ is in
    let why : c.in_err-format.field-0.0 ≡ Failed = cc in
    let no : true ≡ false = sym (c.in_err-format.ensures.within (ap Err why)) ∙ auto in
    absurd cc

pub returns-in_err-rows-clause-unknown : goal.returns-in_err-rows-clause-unknown
returns-in_err-rows-clause-unknown g c = λ auto unknown. absurd (unknown c.in_ok-format.format (c.in_ok-format.ensures.known).schema)

pub returns-clause-unknown : goal.returns-clause-unknown
returns-clause-unknown g c = λ auto unknown. absurd (unknown c.in_ok-format.format (c.in_ok-format.ensures.known).schema)
