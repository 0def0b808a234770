-- What a call on a member with its record did, by what it answered.
use Rattle.std.specs.Prelude.{◌≡◌, ◌≢◌, ◌⊎◌, ◌↔◌, ◌<◌, ◌≤◌, ◌+◌, ℕ, true, false, List, length, Result, Ok, Err}
use Rattle.std.specs.Prelude.{Option, Some, None, IsSome, IfOk, IfErr, IfSome}
use Rattle.px_model.specs.Node as node
use Rattle.px_model.specs.Node.{Record, Input}
use Rattle.px_model.specs.Node.Input.{Comes}
use Rattle.px_model.specs.Step.{front}
use Rattle.px_model.specs.Fits.{Passes, SlotFits, EntryFits}
use Rattle.px_model.specs.Spelling.{Bytes}
use Rattle.px_model.specs.Seen.{reads_of}
use Rattle.px_model.specs.declared.message.Reads.{Reads}
use Rattle.px_model.specs.declared.message.Reads.TheVariants as reads
use Rattle.px_records.specs.declared.records.Records.{Ghosts}
use Rattle.px_records.specs.Records.{IsEnd}
use Rattle.px_records.specs.Records.Place.{SlotAt, EntryAt, LastSlot, LastEntry}
use Rattle.px_core.specs.declared.limits.TheConstants.{MEMBERS}
use Rattle.px_wire.specs.declared.fault.WireFault.{WireFault}
use Rattle.px_wire.specs.Fields.{WireFaultAt}
use Rattle.px_wire.specs.Message.{group, DatagramBytes}
use Rattle.px_wire.specs.Members.{as_sent, Passing}
use Rattle.px_wire.specs.Sent.{is_command}
use Rattle.px_replica.specs.Faults.{fault_of, IsRefusedBy, IsOfStore, IsOfTheStore, IsReceiveFault, IsOpenFault}
use Rattle.px_replica.specs.Faults.{IsOfBadRow, SomeFails}
use Rattle.px_replica.specs.Made.{answer, Makes, LeavesOne}
use Rattle.px_replica.specs.Replicas.{records_of, learned_by, membership_of, has_failed, state_in, IsUnspelled}
use Rattle.px_replica.specs.Seen.{IsSound}
use Rattle.px_replica.specs.declared.datagram.Datagram.{Datagram}
use Rattle.px_replica.specs.declared.fault.NodeFault.{NodeFault}
use Rattle.px_replica.specs.declared.fault.NodeFault.TheVariants as fault
use Rattle.px_replica.specs.declared.receiving.Received.{Received}
use Rattle.px_replica.specs.declared.receiving.Received.TheVariants as received
use Rattle.px_replica.specs.declared.state.Replica.{Replica}

-- ---- bad rows

-- the slot's row is none that a commit writes, or its entry has no spelling
abbrev pub IsBadSlot : {R : Type 0} → Ghosts R → R → (members position : ℕ) → Type 0
IsBadSlot G r n p = (G.is_good r (SlotAt p) → ⊥) ⊎ (SlotFits (Passes is_command) n ((G.stored r).slots p) → ⊥)

-- the row of what was learned there is none that a commit writes, or its entry has no spelling
abbrev pub IsBadEntry : {R : Type 0} → Ghosts R → R → (members position : ℕ) → Type 0
IsBadEntry G r n p =
    (G.is_good r (EntryAt p) → ⊥) ⊎ (IfSome ((G.stored r).learned p) (λ e. EntryFits (Passes is_command) n e) → ⊥)

-- of the rows of what was learned the last one is bad, or one up to there
abbrev pub HasBadEntry : {R : Type 0} → Ghosts R → R → (members : ℕ) → Type 0
HasBadEntry G r n =
    (G.is_good r LastEntry → ⊥) ⊎
    ((end : ℕ) × IsEnd (G.stored r).learned end × ((p : ℕ) × (p < end) × IsBadEntry G r n p))

-- among the rows that are read is a bad one
abbrev pub AreBad : {R : Type 0} → Ghosts R → R → (members : ℕ) → Reads → Type 0
AreBad G r n reads.Nothing = ⊥
AreBad G r n (reads.Slot p) = IsBadSlot G r n p
AreBad G r n (reads.SlotAndTop p) = IsBadSlot G r n p ⊎ (G.is_good r LastSlot → ⊥)

-- ---- calls

-- A call for an input, from one state of the member to another; `old` is what was to be sent before it, `new` what is
-- after it; `answered` is the fault, if there is one. Clauses on values hold where the record is honest as the
-- call ends.
pub record Call {R : Type 0} {G : Ghosts R} (s t : Replica R G) (x : Input Bytes) (old new : List Datagram)
    (answered : Option NodeFault) : Type 0 where
  -- an honest record was honest before
  pub was : G.is_honest (records_of t) → G.is_honest (records_of s)
  -- without a fault the step of the model was made, and its messages are to be sent
  pub made : G.is_honest (records_of t) → answered ≡ None →
      Makes (group (membership_of s)) (membership_of s).me (state_in s) (state_in t) x old new
  -- a refusal is the model's
  pub refused : G.is_honest (records_of t) → IfSome answered
      (λ e. IsRefusedBy e (answer (membership_of s).members (membership_of s).me (state_in s) x))
  -- after a fault nothing is sent, and all is as it was; but after a failure the record may have the change
  pub silent : IsSome answered → new ≡ old
  pub volatile : IsSome answered → (state_in t).volatile ≡ (state_in s).volatile
  pub stays : G.is_honest (records_of t) → IsSome answered → answered ≢ Some fault.Store → state_in t ≡ state_in s
  -- whenever the member stops meanwhile, its record is left as it was, or with the change of the step
  pub stop : has_failed s ≡ false → G.is_honest (records_of t) → (left : Record Bytes) →
      G.may_leave (records_of t) left →
      LeavesOne (membership_of s).members (membership_of s).me (state_in s) x left
  -- 80 comes from a failed member and from no other, and nothing changes then
  pub failed : (answered ≡ Some fault.Failed) ↔ (has_failed s ≡ true)
  pub still : has_failed s ≡ true → t ≡ s
  -- 70 and 72 make it a failed one: 70 comes where a call on the record failed and nowhere else, 72 only where a bad
  -- row was read; where a row that the input reads is bad, the answer is one of these, or out of memory
  pub fails : has_failed s ≡ false → ((has_failed t ≡ true) ↔ IsOfTheStore answered)
  pub counts : has_failed s ≡ false → ((answered ≡ Some fault.Store) ↔ (0 < G.failed (records_of t)))
  pub bad : G.is_honest (records_of t) → answered ≡ Some fault.BadStore →
      AreBad G (records_of s) (membership_of s).members (reads_of x)
  pub reported : has_failed s ≡ false → G.is_honest (records_of t) →
      AreBad G (records_of s) (membership_of s).members (reads_of x) → IsOfBadRow answered
  pub why : G.is_honest (records_of t) → IsSound (membership_of s).members (G.stored (records_of s)) →
      IsOfTheStore answered → SomeFails G.may_fail
  -- a record of which every row can be spelled stays one
  pub sound : G.is_honest (records_of t) → IsSound (membership_of s).members (G.stored (records_of s)) →
      answered ≡ None → IsSound (membership_of s).members (G.stored (records_of t))
  -- what was learned below the first gap stays, and the gap doesn't fall back
  pub below : (p : ℕ) → p < front (learned_by s) → learned_by t p ≡ learned_by s p
  pub front : front (learned_by s) ≤ front (learned_by t)
  -- a call sends to each member once at most
  pub few : answered ≡ None → length new ≤ length old + MEMBERS
  pub membership : membership_of t ≡ membership_of s

-- ---- datagrams

-- the member has failed before, and returns that
pub record IsLost {R : Type 0} {G : Ghosts R} (s t : Replica R G) (old new : List Datagram)
    (result : Result Received NodeFault) : Type 0 where
  pub failed : has_failed s ≡ true
  pub answered : result ≡ Err fault.Failed
  pub still : t ≡ s
  pub silent : new ≡ old

-- nobody's datagram is passed over, and its first fault is reported: nothing changes, and nothing is sent
pub record IsPassedOver {R : Type 0} {G : Ghosts R} (s t : Replica R G) (bytes : Bytes) (old new : List Datagram)
    (result : Result Received NodeFault) : Type 0 where
  pub works : has_failed s ≡ false
  pub unspelled : IsUnspelled (group (membership_of s)) (membership_of s).me bytes
  pub fault : WireFault
  pub reported : WireFaultAt (membership_of s) bytes fault.code fault.offset
  pub answered : result ≡ Ok (received.Ignored fault)
  pub still : t ≡ s
  pub silent : new ≡ old

-- the datagram spells a message of somebody to this member, which is called for it; no message is refused
pub record IsHandled {R : Type 0} {G : Ghosts R} (s t : Replica R G) (bytes : Bytes) (old new : List Datagram)
    (result : Result Received NodeFault) : Type 0 where
  pub works : has_failed s ≡ false
  pub sender : ℕ
  pub message : node.Message Bytes
  pub passes : Passing (membership_of s).members sender (membership_of s).me message
  pub spelled : DatagramBytes (group (membership_of s)) sender (membership_of s).me (as_sent message) bytes
  pub call : Call s t (Comes sender message) old new (fault_of result)
  pub answered : IfOk result (λ r. r ≡ received.Done)
  pub unrefused : G.is_honest (records_of t) → IfErr result IsReceiveFault

-- what became of a datagram
abbrev pub Receives : {R : Type 0} {G : Ghosts R} → (s t : Replica R G) → Bytes → (old new : List Datagram) →
    Result Received NodeFault → Type 0
Receives s t bytes old new result =
    IsLost s t old new result ⊎ (IsPassedOver s t bytes old new result ⊎ IsHandled s t bytes old new result)

-- ---- openings

-- A record isn't opened, and is given back: as it was, but where a call on it failed. Nothing is committed: a stop
-- leaves what it could leave before.
pub record OpenRefused {R : Type 0} (G : Ghosts R) (members : ℕ) (given : R) (e : NodeFault) (back : R) : Type 0 where
  pub was : G.is_honest back → G.is_honest given
  pub stays : G.is_honest back → e ≢ fault.Store → G.stored back ≡ G.stored given
  pub stop : G.is_honest back → (left : Record Bytes) → G.may_leave back left → G.may_leave given left
  -- 70 comes where a call on the record failed and nowhere else, 72 only for a bad row, and no fault but these and out
  -- of memory
  pub counts : G.failed given ≡ 0 → ((e ≡ fault.Store) ↔ (0 < G.failed back))
  pub bad : G.is_honest back → e ≡ fault.BadStore → HasBadEntry G given members
  pub why : G.is_honest back → IsSound members (G.stored given) → IsOfStore e → SomeFails G.may_fail
  pub same : G.members back ≡ G.members given
  pub few : IsOpenFault e
