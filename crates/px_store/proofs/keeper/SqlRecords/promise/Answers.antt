use Rattle.std.proofs.Common.{◌≡◌, ◌≤◌, ◌∙◌, rules, sym, ap, subst, Err, Result}
use Rattle.px_model.specs.Node.{Record, Slot}
use Rattle.px_model.specs.Spelling.{Bytes}
use Rattle.px_store.specs.inner.Seen.{slot_with}
use Rattle.px_store.specs.inner.Store.{with_promise, Changed}
use Rattle.px_store.proofs.Promises.{read_then, not_read, promise_is, slot_range, raised, none_accepted}
use Rattle.px_store.specs.inner.NewRows.{IsGoodRow}
use Rattle.px_store.specs.declared.calls.Identity.{Identity}
use Rattle.px_store.specs.declared.calls.NewRow.TheVariants.{Slot as Put}
use Rattle.px_records.specs.declared.records.StoreFault.{StoreFault}
use Rattle.px_store.specs.View.{view_of}
use Rattle.px_store.proofs.keeper.SqlRecords.promise.Goals as goal

pub keep-requires-clause-fits : goal.keep-requires-clause-fits
keep-requires-clause-fits g c = (c.requires.range, slot_range c.args.self.now.identity.members c.in_ok-slot.slot.promised c.in_ok-slot.slot.ballot c.in_ok-slot.slot.entry.items c.in_ok-slot.ensures.fits)

pub returns-clause-changed : goal.returns-clause-changed
returns-clause-changed g c = λ honest.
    let none : c.good_slot.new.self.failures ≡ 0 = search rules in
    let mid = c.keep.ensures.was honest in
    let m = view_of g.S.Store c.good_slot.new.self in
    let same : c.as_slice.result.now ≡ c.in_ok-slot.slot.entry.items = c.as_slice.ensures.value in
    let read = subst (λ e. slot_with c.in_ok-slot.slot.promised c.in_ok-slot.slot.ballot e ≡ m.kept.slots c.args.position) (sym same) (c.in_ok-slot.ensures.value mid) in
    let is = promise_is m.kept c.args.position c.args.ballot c.in_ok-slot.slot.promised c.in_ok-slot.slot.ballot c.as_slice.result.now read in
    read_then (λ (d : Record Bytes). with_promise d c.args.position c.args.ballot)
    (view_of g.S.Store c.args.self.now) (view_of g.S.Store c.good_slot.new.self) (view_of g.S.Store c.keep.new.self) c.keep.result
    (c.in_ok-slot.ensures.reads.keeps mid none) (c.in_ok-slot.ensures.reads.leaves mid) (subst (λ (d : Record Bytes). Changed d c.keep.result m (view_of g.S.Store c.keep.new.self)) is (c.keep.ensures.changed honest (c.in_ok-slot.ensures.good mid)))

pub returns-in_err-slot-clause-changed : goal.returns-in_err-slot-clause-changed
returns-in_err-slot-clause-changed g c = λ honest.
    let why = c.in_err-slot.field-0.0 in
    let same : c.from_residual.result ≡ Err why = search rules in
    subst (λ (r : Result (Unit {0}) StoreFault). Changed (with_promise (view_of g.S.Store c.args.self.now).kept c.args.position c.args.ballot) r (view_of g.S.Store c.args.self.now) (view_of g.S.Store c.good_slot.new.self)) (sym same)
    (not_read _ (view_of g.S.Store c.args.self.now) (view_of g.S.Store c.good_slot.new.self) why c.in_err-slot.ensures.reads honest (λ memory. let none : c.good_slot.new.self.failures ≡ 0 = search rules in none))

pub returns-clause-rows : goal.returns-clause-rows
returns-clause-rows g c = λ honest none within is up x was.
    let before : c.good_slot.new.self.failures ≡ 0 = search rules in
    let mid = c.keep.ensures.was honest in
    let n = c.args.self.now.identity.members in
    let m = view_of g.S.Store c.good_slot.new.self in
    let s = c.in_ok-slot.slot in
    let same : c.as_slice.result.now ≡ s.entry.items = c.as_slice.ensures.value in
    let keeps = c.in_ok-slot.ensures.reads.keeps mid before in
    let read = c.in_ok-slot.ensures.value mid in
    let promised : ((view_of g.S.Store c.args.self.now).kept.slots c.args.position).promised ≡ s.promised =
    ap (λ (d : Record Bytes). (d.slots c.args.position).promised) (sym keeps.same) ∙ sym (ap (λ (t : Slot Bytes). t.promised) read) in
    let low : s.promised ≤ c.args.ballot = subst (λ k. k ≤ c.args.ballot) promised up in
    let fit : IsGoodRow n (Put c.args.position c.args.ballot s.ballot) s.entry.items m.kept =
    (within, (raised n s.promised c.args.ballot s.ballot s.entry.items c.in_ok-slot.ensures.fits is low, none_accepted m.kept c.args.position s.promised s.ballot s.entry.items read)) in
    c.keep.ensures.rows honest none (c.in_ok-slot.ensures.good mid)
    (subst (λ (i : Identity). IsGoodRow i.members (Put c.args.position c.args.ballot s.ballot) c.as_slice.result.now m.kept) (sym c.in_ok-slot.ensures.same_identity)
    (subst (λ e. IsGoodRow n (Put c.args.position c.args.ballot s.ballot) e m.kept) (sym same) fit))
    x (keeps.rows x was)

pub returns-in_err-slot-clause-rows : goal.returns-in_err-slot-clause-rows
returns-in_err-slot-clause-rows g c = λ honest none within is up x was. (c.in_err-slot.ensures.reads.keeps honest none).rows x was
