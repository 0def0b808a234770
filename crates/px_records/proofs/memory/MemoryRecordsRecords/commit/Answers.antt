use Rattle.std.proofs.Common.{◌∙◌, ◌≡◌, ◌≤◌, ℕ, max, arith, sym, refl, subst, inl, inr}
use Rattle.px_model.specs.Bounds.{AnyCommand}
use Rattle.px_model.specs.Node.{Record}
use Rattle.px_model.specs.Spelling.{Bytes}
use Rattle.px_model.specs.Entries.{entry_of}
use Rattle.px_model.specs.Fits.{RecordFits}
use Rattle.px_model.proofs.Ranges.{new_promise_fits, new_accepted_fits, new_learned_fits}
use Rattle.px_records.proofs.Peaks.{same_top, raised_to}
use Rattle.px_records.proofs.Maps.{slots_same, slots_put, log_same, log_put, end_put, end_same, either}
use Rattle.px_records.specs.Memory.{slots_in, learned_in, record_of}
use Rattle.px_records.specs.inner.Memory.{accepted_with}
use Rattle.px_records.proofs.memory.MemoryRecordsRecords.commit.Goals as goal

raise : {a b m : ℕ} → m ≡ max a b → (a ≤ b → m ≡ b) × (b ≤ a → m ≡ a)
raise is = (λ le. omega (arith, is, le), λ le. omega (arith, is, le))

pub returns-in_err-accept-in-Accepted-clause-stop : goal.returns-in_err-accept-in-Accepted-clause-stop
returns-in_err-accept-in-Accepted-clause-stop c = λ _ d left.
    inl (left ∙ slots_same c.args.self.now.meta c.accept.new.slots c.args.self.now.slots c.args.self.now.learned c.in_err-accept-in-Accepted.ensures.refused)

pub returns-in_err-learn-in-Learned-clause-stop : goal.returns-in_err-learn-in-Learned-clause-stop
returns-in_err-learn-in-Learned-clause-stop c = λ _ d left.
    inl (left ∙ log_same c.args.self.now.meta c.args.self.now.slots c.learn.new.learned c.args.self.now.learned c.in_err-learn-in-Learned.ensures.refused)

pub returns-in_err-promise-in-Promised-clause-stop : goal.returns-in_err-promise-in-Promised-clause-stop
returns-in_err-promise-in-Promised-clause-stop c = λ _ d left.
    inl (left ∙ slots_same c.args.self.now.meta c.promise.new.slots c.args.self.now.slots c.args.self.now.learned c.in_err-promise-in-Promised.ensures.refused)

pub returns-in_ok-promise-in-Promised-clause-stop : goal.returns-in_ok-promise-in-Promised-clause-stop
returns-in_ok-promise-in-Promised-clause-stop c = λ _ d left.
    inr (rw c.in-Promised.is (left ∙ slots_put c.args.self.now.meta c.promise.new.slots c.args.self.now.slots c.args.self.now.learned c.in-Promised.position _ c.in_ok-promise-in-Promised.ensures.done))

pub returns-in_ok-accept-in-Accepted-clause-stop : goal.returns-in_ok-accept-in-Accepted-clause-stop
returns-in_ok-accept-in-Accepted-clause-stop c = λ _ d left.
    inr (rw c.in-Accepted.is (left ∙ slots_put c.args.self.now.meta c.accept.new.slots c.args.self.now.slots c.args.self.now.learned c.in-Accepted.position _ c.in_ok-accept-in-Accepted.ensures.done))

pub returns-in_ok-learn-in-Learned-clause-stop : goal.returns-in_ok-learn-in-Learned-clause-stop
returns-in_ok-learn-in-Learned-clause-stop c = λ _ d left.
    inr (rw c.in-Learned.is (left ∙ log_put c.args.self.now.meta c.args.self.now.slots c.learn.new.learned c.args.self.now.learned c.in-Learned.position _ c.in_ok-learn-in-Learned.ensures.done))

pub invariant_of-self-in-Promised : goal.invariant_of-self-in-Promised
invariant_of-self-in-Promised c =
    let old = record_of c.args.self.now.meta c.args.self.now.slots c.args.self.now.learned in
    let fits = rw c.in-Promised.is at c.requires.fits in
    let rises = rw c.in-Promised.is at c.requires.rises tt in
    record {
      top_is = c.args.self.now.top_is ∙ sym (same_top (slots_in c.promise.new.slots) (slots_in c.args.self.now.slots) c.promise.ensures.same);
      end_is = c.args.self.now.end_is;
      fits = elim (either c.promise.result c.promise.ensures.done c.promise.ensures.refused) [
        | inl done ↦
            subst (λ (d : Record Bytes). RecordFits AnyCommand c.args.self.now.members d)
            (sym (slots_put c.args.self.now.meta c.promise.new.slots c.args.self.now.slots c.args.self.now.learned c.in-Promised.position _ done))
            (new_promise_fits AnyCommand c.args.self.now.members old c.args.self.now.fits c.in-Promised.position c.in-Promised.ballot fits.1 rises)
        | inr refused ↦
            subst (λ (d : Record Bytes). RecordFits AnyCommand c.args.self.now.members d)
            (sym (slots_same c.args.self.now.meta c.promise.new.slots c.args.self.now.slots c.args.self.now.learned refused))
            c.args.self.now.fits
      ];
    }

pub invariant_of-self-in-Accepted : goal.invariant_of-self-in-Accepted
invariant_of-self-in-Accepted c =
    let old = record_of c.args.self.now.meta c.args.self.now.slots c.args.self.now.learned in
    let fits = rw c.in-Accepted.is at c.requires.fits in
    let entry = entry_of c.in-Accepted.entry in
    let done = c.in_ok-accept-in-Accepted.ensures.done in
    record {
      top_is = raised_to (slots_in c.args.self.now.slots) (slots_in c.accept.new.slots) c.in-Accepted.position (accepted_with c.in-Accepted.ballot entry) _ refl done fits.0 c.args.self.now.top c.args.self.now.top_is _ (raise c.max-self.ensures);
      end_is = c.args.self.now.end_is;
      fits = subst (λ (d : Record Bytes). RecordFits AnyCommand c.args.self.now.members d)
          (sym (slots_put c.args.self.now.meta c.accept.new.slots c.args.self.now.slots c.args.self.now.learned c.in-Accepted.position _ done))
          (new_accepted_fits AnyCommand c.args.self.now.members old c.args.self.now.fits c.in-Accepted.position c.in-Accepted.ballot entry fits.0 fits.1 fits.2);
    }

pub invariant_of-self-in-Break-branch-3 : goal.invariant_of-self-in-Break-branch-3
invariant_of-self-in-Break-branch-3 c =
    let refused = c.in_err-learn-in-Learned.ensures.refused in
    record {
      top_is = c.args.self.now.top_is;
      end_is = end_same (learned_in c.args.self.now.learned) (learned_in c.learn.new.learned) refused c.args.self.now.end c.args.self.now.end_is;
      fits = subst (λ (d : Record Bytes). RecordFits AnyCommand c.args.self.now.members d)
          (sym (log_same c.args.self.now.meta c.args.self.now.slots c.learn.new.learned c.args.self.now.learned refused))
          c.args.self.now.fits;
    }

pub invariant_of-self-in-Learned : goal.invariant_of-self-in-Learned
invariant_of-self-in-Learned c =
    let old = record_of c.args.self.now.meta c.args.self.now.slots c.args.self.now.learned in
    let fits = rw c.in-Learned.is at c.requires.fits in
    let entry = entry_of c.in-Learned.entry in
    let done = c.in_ok-learn-in-Learned.ensures.done in
    record {
      top_is = c.args.self.now.top_is;
      end_is = end_put (learned_in c.args.self.now.learned) (learned_in c.learn.new.learned) c.in-Learned.position entry done c.args.self.now.end c.args.self.now.end_is _ (raise c.max-self-in-Learned.ensures);
      fits = subst (λ (d : Record Bytes). RecordFits AnyCommand c.args.self.now.members d)
          (sym (log_put c.args.self.now.meta c.args.self.now.slots c.learn.new.learned c.args.self.now.learned c.in-Learned.position _ done))
          (new_learned_fits AnyCommand c.args.self.now.members old c.args.self.now.fits c.in-Learned.position entry fits.0 fits.1);
    }
