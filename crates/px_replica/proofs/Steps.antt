-- What a committed step leaves.
use Rattle.std.proofs.Common.{◌≡◌, ◌↔◌, ℕ, zero, suc, ◌≤◌, ◌<◌, inl, inr, Option, Some, None, refl, subst, arith}
use Rattle.std.specs.Prelude.{IfSome, Result, Ok, Err, max}
use Rattle.std.proofs.Math.Nat.{le-max_right}
use Rattle.px_model.specs.Node.{Record, Change, Plan, Input}
use Rattle.px_model.specs.Node.Change.{NewRound, NewNumber, NewFloor, NewPromise, NewAccepted, NewLearned}
use Rattle.px_model.specs.Node.Answer.{Planned}
use Rattle.px_model.specs.Step.{commit}
use Rattle.px_model.specs.World.{NodeState}
use Rattle.px_model.specs.Rising as model
use Rattle.px_model.specs.Fits.{Passes, ChangeFits}
use Rattle.px_model.specs.Spelling.{Bytes}
use Rattle.px_model.proofs.Ranges.{new_round_fits, new_number_fits, new_floor_fits, new_promise_fits, new_accepted_fits, new_learned_fits}
use Rattle.px_model.proofs.Rising.{steps_rise}
use Rattle.px_records.specs.Records.{Rises, IsStoresFault}
use Rattle.px_records.specs.declared.records.StoreFault.{StoreFault}
use Rattle.px_records.specs.declared.records.StoreFault.TheVariants as store
use Rattle.px_wire.specs.Sent.{is_command}
use Rattle.px_replica.specs.Faults.{IsOfStore}
use Rattle.px_replica.specs.inner.Faults.{fault_of_store}
use Rattle.px_replica.specs.Made.{same, answer}
use Rattle.px_replica.specs.Seen.{IsSound}
use Rattle.px_replica.specs.declared.fault.NodeFault.{NodeFault}

-- a promise that rises is above the slot's
rises_kept : (d : Record Bytes) (x : Change Bytes) → model.Rises d x → Rises x d
rises_kept d (NewRound r) h = tt
rises_kept d (NewNumber k) h = tt
rises_kept d (NewFloor b) h = tt
rises_kept d (NewPromise p b) h =
    let above : (d.slots p).promised ≤ max d.meta.floor (d.slots p).promised =
    le-max_right d.meta.floor (d.slots p).promised in
    omega (arith, above, h)
rises_kept d (NewAccepted p b e) h = tt
rises_kept d (NewLearned p e) h = tt

some_rises : (d : Record Bytes) (x : Option (Change Bytes)) → IfSome x (λ y. model.Rises d y) → IfSome x (λ y. Rises y d)
some_rises d None h = tt
some_rises d (Some x) h = rises_kept d x h

-- what a plan changes rises
pub plan_rises : (n me : ℕ) (s : NodeState Bytes) (x : Input Bytes) (plan : Plan Bytes) →
    answer n me s x ≡ Planned plan → IfSome plan.change (λ y. Rises y s.stored)
plan_rises n me s x plan steps = some_rises s.stored plan.change (steps_rise same n me s x plan steps)

change_sound : (n : ℕ) (d : Record Bytes) (x : Change Bytes) → IsSound n d → ChangeFits (Passes is_command) n x →
    Rises x d → IsSound n (commit (Some x) d)
change_sound n d (NewRound r) sound fits rises = new_round_fits (Passes is_command) n d sound r fits
change_sound n d (NewNumber k) sound fits rises = new_number_fits (Passes is_command) n d sound k fits
change_sound n d (NewFloor b) sound fits rises = new_floor_fits (Passes is_command) n d sound b fits
change_sound n d (NewPromise p b) sound fits rises = new_promise_fits (Passes is_command) n d sound p b fits.1 rises
change_sound n d (NewAccepted p b e) sound fits rises =
    new_accepted_fits (Passes is_command) n d sound p b e fits.0 fits.1 fits.2
change_sound n d (NewLearned p e) sound fits rises = new_learned_fits (Passes is_command) n d sound p e fits.0 fits.1

-- a sound record stays sound
pub commit_sound : (n : ℕ) (d : Record Bytes) (x : Option (Change Bytes)) → IsSound n d →
    IfSome x (λ y. ChangeFits (Passes is_command) n y) → IfSome x (λ y. Rises y d) → IsSound n (commit x d)
commit_sound n d None sound fits rises = sound
commit_sound n d (Some x) sound fits rises = change_sound n d x sound fits rises

-- a commit fails where the store does
pub why_failed : {X : Type 0} (f : StoreFault) (result : NodeFault) → result ≡ fault_of_store f →
    (f ≡ store.Failed → X) → (f ≡ store.BadStore → ⊥) → IsOfStore result → X
why_failed store.Memory result is failed bad of = absurd (subst IsOfStore is of)
why_failed store.Failed result is failed bad of = failed refl
why_failed store.BadStore result is failed bad of = absurd (bad refl)

-- a call on the record that succeeds leaves no failure
pub none_failed : {X : Type 0} (n : ℕ) (x : X) → ((Ok x ≡ Err store.Failed) ↔ (0 < n)) → n ≡ 0
none_failed zero x counts = refl
none_failed (suc n) x counts = let e : Ok x ≡ Err store.Failed = counts.1 (omega arith) in cc

-- whichever call it is that the store refuses
pub stores_fault : {X Y : Type 0} (f : StoreFault) → IsStoresFault {X = X} (Err f) → IsStoresFault {X = Y} (Err f)
stores_fault store.Memory (inl e) = absurd cc
stores_fault store.Memory (inr e) = absurd cc
stores_fault store.Failed e = inl refl
stores_fault store.BadStore e = inr refl

-- whichever call it is that finds a bad row
pub bad_row : {X Y : Type 0} (f : StoreFault) → ◌≡◌ {A = Result X StoreFault} (Err f) (Err store.BadStore) →
    ◌≡◌ {A = Result Y StoreFault} (Err f) (Err store.BadStore)
bad_row store.Memory e = absurd cc
bad_row store.Failed e = absurd cc
bad_row store.BadStore e = refl
