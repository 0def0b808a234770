use Rattle.std.proofs.Common.{◌≡◌, rules, sym, subst, Err, Result}
use Rattle.px_model.specs.Node.{Record}
use Rattle.px_model.specs.Spelling.{Bytes}
use Rattle.px_store.specs.inner.Store.{with_entry, Changed}
use Rattle.px_store.proofs.Promises.{read_then, not_read}
use Rattle.px_store.specs.inner.NewRows.{IsGoodRow}
use Rattle.px_store.specs.declared.calls.Identity.{Identity}
use Rattle.px_store.specs.declared.calls.NewRow.TheVariants.{Learned}
use Rattle.px_records.specs.declared.records.StoreFault.{StoreFault}
use Rattle.px_store.specs.View.{view_of}
use Rattle.px_store.proofs.keeper.SqlRecords.learn.Goals as goal

pub returns-clause-changed : goal.returns-clause-changed
returns-clause-changed g c = λ honest.
    let none : c.good_entry.new.self.failures ≡ 0 = search rules in
    let mid = c.keep.ensures.was honest in
    read_then (λ (d : Record Bytes). with_entry d c.args.position c.args.entry.now)
    (view_of g.S.Store c.args.self.now) (view_of g.S.Store c.good_entry.new.self) (view_of g.S.Store c.keep.new.self) c.keep.result
    (c.in_ok-good_entry.ensures.reads.keeps mid none) (c.in_ok-good_entry.ensures.reads.leaves mid) (c.keep.ensures.changed honest (c.in_ok-good_entry.ensures.good mid))

pub returns-in_err-good_entry-clause-changed : goal.returns-in_err-good_entry-clause-changed
returns-in_err-good_entry-clause-changed g c = λ honest.
    let why = c.in_err-good_entry.field-0.0 in
    let same : c.from_residual.result ≡ Err why = search rules in
    subst (λ (r : Result (Unit {0}) StoreFault). Changed (with_entry (view_of g.S.Store c.args.self.now).kept c.args.position c.args.entry.now) r (view_of g.S.Store c.args.self.now) (view_of g.S.Store c.good_entry.new.self)) (sym same)
    (not_read _ (view_of g.S.Store c.args.self.now) (view_of g.S.Store c.good_entry.new.self) why c.in_err-good_entry.ensures.reads honest (λ memory. let none : c.good_entry.new.self.failures ≡ 0 = search rules in none))

pub returns-clause-rows : goal.returns-clause-rows
returns-clause-rows g c = λ honest none within entry x was.
    let before : c.good_entry.new.self.failures ≡ 0 = search rules in
    let mid = c.keep.ensures.was honest in
    c.keep.ensures.rows honest none (c.in_ok-good_entry.ensures.good mid)
    (subst (λ (i : Identity). IsGoodRow i.members (Learned c.args.position) c.args.entry.now (view_of g.S.Store c.good_entry.new.self).kept) (sym c.in_ok-good_entry.ensures.same_identity) (within, entry))
    x ((c.in_ok-good_entry.ensures.reads.keeps mid before).rows x was)

pub returns-in_err-good_entry-clause-rows : goal.returns-in_err-good_entry-clause-rows
returns-in_err-good_entry-clause-rows g c = λ honest none within entry x was. (c.in_err-good_entry.ensures.reads.keeps honest none).rows x was
