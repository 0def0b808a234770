use Rattle.std.proofs.Common.{◌≡◌, ◌∙◌, ◌⊎◌, Err, false, inl, refl, rules, sym, subst}
use Rattle.std.specs.Result.{IfErr}
use Rattle.sqlite.specs.Held.{state}
use Rattle.px_store.specs.Adopting.{Began, IsVerdict}
use Rattle.px_store.specs.Judging.{has_rows}
use Rattle.px_store.specs.Seen.{seen, meta_columns}
use Rattle.px_store.specs.declared.fault.AdoptFault.TheVariants.{StoreVersion, BadStore}
use Rattle.px_store.specs.declared.formats.Format.{Format}
use Rattle.px_store.specs.inner.Adopting.{IsRefused}
use Rattle.px_store.proofs.finding.refuse_lost.Goals as goal

pub returns-in_err-format-clause-unknown : goal.returns-in_err-format-clause-unknown
returns-in_err-format-clause-unknown g c = λ auto unknown.
    let e = c.in_err-format.ensures.unknown auto unknown in
    let same : c.from_residual.result ≡ Err c.in_err-format.field-0.0 = search rules in
    (cc, refl)

pub returns-in_err-format-clause-as_it_was : goal.returns-in_err-format-clause-as_it_was
returns-in_err-format-clause-as_it_was g c = λ clean refused.
    let same : c.from_residual.result ≡ Err c.in_err-format.field-0.0 = search rules in
    record { now = refl; auto = c.in_err-format.ensures.settled (subst IsRefused same refused) }

pub returns-in_err-format-clause-refused : goal.returns-in_err-format-clause-refused
returns-in_err-format-clause-refused g c = λ clean.
    let same : c.from_residual.result ≡ Err c.in_err-format.field-0.0 = search rules in
    let s = state g.S.Store c.args.conn.now in
    subst (λ r. IfErr r (λ e. IsVerdict e → ((e ≡ StoreVersion) × ((f : Format) → Began f s → ⊥)) ⊎ ((e ≡ BadStore) × (has_rows (seen meta_columns (s.now.trees 0) 1) ≡ false))))
    (sym same) (λ verdict. inl (c.in_err-format.ensures.version verdict, c.in_err-format.ensures.none verdict))

pub returns-in_err-rows-clause-unknown : goal.returns-in_err-rows-clause-unknown
returns-in_err-rows-clause-unknown g c = λ auto unknown. absurd (unknown c.in_ok-format.format (c.in_ok-format.ensures.known).schema)

pub returns-then-not-has_rows-clause-unknown : goal.returns-then-not-has_rows-clause-unknown
returns-then-not-has_rows-clause-unknown g c = λ auto unknown. absurd (unknown c.in_ok-format.format (c.in_ok-format.ensures.known).schema)

pub returns-clause-unknown : goal.returns-clause-unknown
returns-clause-unknown g c = λ auto unknown. absurd (unknown c.in_ok-format.format (c.in_ok-format.ensures.known).schema)
