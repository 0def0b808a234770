use Rattle.std.proofs.Common.{◌≡◌, ◌∙◌, ap, subst, sym, refl, inl, inr}
use Rattle.sqlite.specs.Held.{state}
use Rattle.sqlite.specs.Effect.{Database}
use Rattle.px_store.specs.Seen.{record_in}
use Rattle.px_store.specs.Adopting.{Began}
use Rattle.px_store.specs.declared.formats.Format.{Format}
use Rattle.px_store.specs.declared.formats.Format.TheVariants.{Three}
use Rattle.sqlite.specs.Tree.{Trees}
use Rattle.px_store.specs.inner.Ready.{IsMeta}
use Rattle.px_store.proofs.NewRows.{meta_named}
use Rattle.px_store.proofs.Owned.{own_three}
use Rattle.px_store.proofs.keeper.SqlRecords.adopt.Goals as goal

pub returns-in-Ok-clause-stop : goal.returns-in-Ok-clause-stop
returns-in-Ok-clause-stop g c = λ clean f began db left.
    c.in_default.ensures.stop (c.in-Ok.ensures.clean clean) f began db (c.in-Ok.ensures.left clean db left)

pub returns-in-Err-read_again-clause-stop : goal.returns-in-Err-read_again-clause-stop
returns-in-Err-read_again-clause-stop g c = λ clean f began db left.
    c.in_default.ensures.stop (c.in-Err-read_again.ensures.clean clean) f began db (c.in-Err-read_again.ensures.left clean db left)

pub returns-in-Ok-clause-found : goal.returns-in-Ok-clause-found
returns-in-Ok-clause-found g c = λ clean own some.
    let mid = c.in-Ok.ensures.clean clean in
    let s = state g.S.Store c.args.conn in
    elim c.in_default.ensures.known.0 [
      | inl none ↦ absurd (some none)
      | inr known ↦
          let began : Began known.0 s = record { schema = known.1; auto = c.in_default.ensures.known.1 } in
          let three : known.0 ≡ Three = own_three known.0 c.args.identity s.now.trees own (c.in_default.ensures.adopted mid known.0 began) in
          let shows = c.in_default.ensures.made mid Three (subst (λ (f : Format). Began f s) three began) in
          (clean, ap (λ (d : Database). record_in d.trees) (c.in-Ok.ensures.stays clean) ∙ shows.is)
    ]

pub invariant_of-result : goal.invariant_of-result
invariant_of-result g c = record {
  bounds = c.in-Ok.ensures.bounds;
  ready = c.in-Ok.ensures.ready;
  ahead_is = λ none clean. c.none.ensures _;
  owned = λ clean db left.
      let r = c.in-Ok.ensures.ready refl clean in
      let same = g.met.S.Store.settled c.read_again.new.conn.store db r.1.1.0 left in
      meta_named c.args.identity c.in-Ok.meta db (subst (λ (t : Trees). IsMeta c.args.identity c.in-Ok.meta t) (sym same) r.1.1.1);
}
