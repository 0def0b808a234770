use Rattle.std.proofs.Common.{◌≡◌, rules, sym, subst, Err, Result}
use Rattle.px_model.specs.Node.{Record}
use Rattle.px_model.specs.Spelling.{Bytes}
use Rattle.px_store.specs.inner.Store.{with_slot, Changed}
use Rattle.px_store.proofs.Promises.{read_then, not_read, accepted_good}
use Rattle.px_store.proofs.Stored.{not_zero}
use Rattle.px_store.specs.inner.NewRows.{IsGoodRow}
use Rattle.px_store.specs.declared.calls.Identity.{Identity}
use Rattle.px_store.specs.declared.calls.NewRow.TheVariants.{Slot}
use Rattle.px_records.specs.declared.records.StoreFault.{StoreFault}
use Rattle.px_store.specs.View.{view_of}
use Rattle.px_store.proofs.keeper.SqlRecords.accept.Goals as goal

pub keep-requires-clause-fits : goal.keep-requires-clause-fits
keep-requires-clause-fits g c = (c.requires.range, c.requires.range)

pub returns-clause-changed : goal.returns-clause-changed
returns-clause-changed g c = λ honest.
    let none : c.good_slot.new.self.failures ≡ 0 = search rules in
    let mid = c.keep.ensures.was honest in
    read_then (λ (d : Record Bytes). with_slot d c.args.position c.args.ballot c.args.ballot c.args.entry.now)
    (view_of g.S.Store c.args.self.now) (view_of g.S.Store c.good_slot.new.self) (view_of g.S.Store c.keep.new.self) c.keep.result
    (c.in_ok-_slot.ensures.reads.keeps mid none) (c.in_ok-_slot.ensures.reads.leaves mid) (c.keep.ensures.changed honest (c.in_ok-_slot.ensures.good mid))

pub returns-in_err-_slot-clause-changed : goal.returns-in_err-_slot-clause-changed
returns-in_err-_slot-clause-changed g c = λ honest.
    let why = c.in_err-_slot.field-0.0 in
    let same : c.from_residual.result ≡ Err why = search rules in
    subst (λ (r : Result (Unit {0}) StoreFault). Changed (with_slot (view_of g.S.Store c.args.self.now).kept c.args.position c.args.ballot c.args.ballot c.args.entry.now) r (view_of g.S.Store c.args.self.now) (view_of g.S.Store c.good_slot.new.self)) (sym same)
    (not_read _ (view_of g.S.Store c.args.self.now) (view_of g.S.Store c.good_slot.new.self) why c.in_err-_slot.ensures.reads honest (λ memory. let none : c.good_slot.new.self.failures ≡ 0 = search rules in none))

pub returns-clause-rows : goal.returns-clause-rows
returns-clause-rows g c = λ honest none within is entry x was.
    let before : c.good_slot.new.self.failures ≡ 0 = search rules in
    let mid = c.keep.ensures.was honest in
    let n = c.args.self.now.identity.members in
    let fit : IsGoodRow n (Slot c.args.position c.args.ballot c.args.ballot) c.args.entry.now (view_of g.S.Store c.good_slot.new.self).kept =
    (within, (accepted_good n c.args.ballot c.args.entry.now is entry, λ zero. absurd (not_zero n c.args.ballot zero is))) in
    c.keep.ensures.rows honest none (c.in_ok-_slot.ensures.good mid)
    (subst (λ (i : Identity). IsGoodRow i.members (Slot c.args.position c.args.ballot c.args.ballot) c.args.entry.now (view_of g.S.Store c.good_slot.new.self).kept) (sym c.in_ok-_slot.ensures.same_identity) fit)
    x ((c.in_ok-_slot.ensures.reads.keeps mid before).rows x was)

pub returns-in_err-_slot-clause-rows : goal.returns-in_err-_slot-clause-rows
returns-in_err-_slot-clause-rows g c = λ honest none within is entry x was. (c.in_err-_slot.ensures.reads.keeps honest none).rows x was
