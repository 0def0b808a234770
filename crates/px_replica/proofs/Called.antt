-- Calls, from one form to another.
use Rattle.std.proofs.Common.{◌≡◌, ◌∙◌, ◌↔◌, ◌<◌, ◌≤◌, ℕ, suc, List, [], Option, Result, Err, refl, sym, ap, subst, inl, inr, arith}
use Rattle.px_model.specs.Node.Input.{Asks}
use Rattle.px_model.specs.Spelling.{Bytes}
use Rattle.px_model.specs.Step.{front}
use Rattle.px_records.specs.Records.{IsRead, IsStoresFault}
use Rattle.px_records.specs.declared.records.Records.{Ghosts}
use Rattle.px_records.specs.declared.records.StoreFault.{StoreFault}
use Rattle.px_records.specs.declared.records.StoreFault.TheVariants as store
use Rattle.px_wire.specs.Message.{group}
use Rattle.px_replica.specs.Calls.{Call, Receives, HasBadEntry, OpenRefused}
use Rattle.px_replica.specs.Faults.{IsOfStore, IsOpenFault, SomeFails}
use Rattle.px_replica.specs.inner.Faults.{fault_of_store}
use Rattle.px_replica.specs.Replicas.{learned_by, membership_of, state_in}
use Rattle.px_replica.specs.Seen.{IsSound}
use Rattle.px_replica.specs.declared.datagram.Datagram.{Datagram}
use Rattle.px_replica.specs.declared.fault.NodeFault.{NodeFault}
use Rattle.px_replica.specs.declared.fault.NodeFault.TheVariants as fault
use Rattle.px_replica.specs.declared.receiving.Received.{Received}
use Rattle.px_replica.specs.declared.state.Replica.{Replica}
use Rattle.px_replica.proofs.Heard.{ask_makes}

-- what is sent for a command that is asked by a call is nothing
pub ask_call : {R : Type 0} {G : Ghosts R} (s t : Replica R G) (command : Bytes) (old new : List Datagram)
    (answered : Option NodeFault) → Call s t (Asks command) old new answered → Call s t (Asks command) [] [] answered
ask_call s t command old new answered c = record {
  was = c.was;
  made = λ honest none. ask_makes (group (membership_of s)) (membership_of s).me (state_in s) (state_in t) command old new (c.made honest none);
  refused = c.refused;
  silent = λ some. refl;
  volatile = c.volatile;
  stays = c.stays;
  stop = c.stop;
  failed = c.failed;
  still = c.still;
  fails = c.fails;
  counts = c.counts;
  bad = c.bad;
  reported = c.reported;
  why = c.why;
  sound = c.sound;
  below = c.below;
  front = c.front;
  few = λ none. omega arith;
  membership = c.membership;
}

-- ---- openings

-- 70 is a failure of the record
store_failed : (f : StoreFault) (e : NodeFault) → e ≡ fault_of_store f → e ≡ fault.Store → f ≡ store.Failed
store_failed store.Memory e is h = absurd cc
store_failed store.Failed e is h = refl
store_failed store.BadStore e is h = absurd cc

store_bad : (f : StoreFault) (e : NodeFault) → e ≡ fault_of_store f → e ≡ fault.BadStore → f ≡ store.BadStore
store_bad store.Memory e is h = absurd cc
store_bad store.Failed e is h = absurd cc
store_bad store.BadStore e is h = refl

err_failed : {X : Type 0} (f : StoreFault) → ◌≡◌ {A = Result X StoreFault} (Err f) (Err store.Failed) → f ≡ store.Failed
err_failed store.Memory h = absurd cc
err_failed store.Failed h = refl
err_failed store.BadStore h = absurd cc

of_store : {X : Type 0} (f : StoreFault) (e : NodeFault) → e ≡ fault_of_store f → IsOfStore e → IsStoresFault {X = X} (Err f)
of_store store.Memory e is h = absurd (subst IsOfStore is h)
of_store store.Failed e is h = inl refl
of_store store.BadStore e is h = inr refl

open_fault : (f : StoreFault) (e : NodeFault) → e ≡ fault_of_store f → IsOpenFault e
open_fault store.Memory e is = subst IsOpenFault (sym is) tt
open_fault store.Failed e is = subst IsOpenFault (sym is) tt
open_fault store.BadStore e is = subst IsOpenFault (sym is) tt

zero_or : (n : ℕ) → ((0 < n) → ⊥) → n ≡ 0
zero_or ℕ.zero h = refl
zero_or (suc n) h = absurd (h (omega arith))

pub open_refused : {R X : Type 0} (G : Ghosts R) (members : ℕ) (given back : R) (f : StoreFault) (e : NodeFault) →
    e ≡ fault_of_store f → IsRead G.is_honest G.stored G.may_leave G.failed G.is_good given back →
    (◌≡◌ {A = Result X StoreFault} (Err f) (Err store.Failed) ↔ (0 < G.failed back)) →
    (G.is_honest back → ◌≡◌ {A = Result X StoreFault} (Err f) (Err store.BadStore) → HasBadEntry G given members) →
    (G.is_honest back → IsSound members (G.stored given) → IsStoresFault {X = X} (Err f) → SomeFails G.may_fail) →
    G.members back ≡ G.members given → OpenRefused G members given e back
open_refused {R} {X} G members given back f e is read counts bad why same = record {
  was = read.was;
  stays = λ honest other. read.stays honest (zero_or (G.failed back) (λ h. other (is ∙ ap fault_of_store (err_failed {X = X} f (counts.1 h)))));
  stop = read.leaves;
  counts = λ none. (
    λ h. counts.0 (ap {B = Result X StoreFault} (λ (z : StoreFault). Err z) (store_failed f e is h)),
    λ h. is ∙ ap fault_of_store (err_failed {X = X} f (counts.1 h)),
  );
  bad = λ honest h. bad honest (ap {B = Result X StoreFault} (λ (z : StoreFault). Err z) (store_bad f e is h));
  why = λ honest sound h. why honest sound (of_store f e is h);
  same = same;
  few = open_fault f e is;
}

-- ---- what was learned

unmoved : {R : Type 0} {G : Ghosts R} (s t : Replica R G) → t ≡ s → (p : ℕ) → learned_by t p ≡ learned_by s p
unmoved {R} {G} s t is p = ap (λ (r : Replica R G). learned_by r p) is

-- what was learned below the first gap stays, whatever becomes of a datagram
pub received_below : {R : Type 0} {G : Ghosts R} (s t : Replica R G) (bytes : Bytes) (old new : List Datagram)
    (result : Result Received NodeFault) → Receives s t bytes old new result →
    (p : ℕ) → p < front (learned_by s) → learned_by t p ≡ learned_by s p
received_below s t bytes old new result (inl lost) p h = unmoved s t lost.still p
received_below s t bytes old new result (inr (inl passed)) p h = unmoved s t passed.still p
received_below s t bytes old new result (inr (inr handled)) p h = handled.call.below p h

pub received_front : {R : Type 0} {G : Ghosts R} (s t : Replica R G) (bytes : Bytes) (old new : List Datagram)
    (result : Result Received NodeFault) → Receives s t bytes old new result →
    front (learned_by s) ≤ front (learned_by t)
received_front {R} {G} s t bytes old new result (inl lost) =
    subst (λ (r : Replica R G). front (learned_by s) ≤ front (learned_by r)) (sym lost.still) (omega arith)
received_front {R} {G} s t bytes old new result (inr (inl passed)) =
    subst (λ (r : Replica R G). front (learned_by s) ≤ front (learned_by r)) (sym passed.still) (omega arith)
received_front s t bytes old new result (inr (inr handled)) = handled.call.front
