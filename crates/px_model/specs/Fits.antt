-- What can be spelled: the ranges that datagrams have for the numbers of messages, and what a member's parts
-- must be so that it sends no others. n is the number of members, me the node.
-- Bytes are left to the caller. IsSpelled holds for a command that has a spelling; the definitions for entries take it
-- as an argument.
use Rattle.std.specs.Prelude.{◌≡◌, ℕ, ◌%◌, ◌^◌, ◌<◌, ◌≤◌, Bool, true, ◌⊎◌, List, []}
use Rattle.std.specs.Prelude.{length, Option, Some, None, IfSome}
use Rattle.px_model.specs.Node as node
use Rattle.px_model.specs.Node.{Entry, Proposal, Slot, Meta, Log, Record, Change, Phase, Attempt, Lead, Volatile}
use Rattle.px_model.specs.Node.{Message, Envelope, Input, Answer, round_of, client}
use Rattle.px_model.specs.Node.Change.{NewRound, NewNumber, NewFloor, NewPromise, NewAccepted, NewLearned}
use Rattle.px_model.specs.Node.Phase.{Preparing, Accepting}
use Rattle.px_model.specs.Node.Message.{Prepare, Promise, PrepareAll, PromiseAll, Accept, Vote, Nack, Need, Learned}
use Rattle.px_model.specs.Node.Message.{Asked, AskRefused}
use Rattle.px_model.specs.Node.Input.{Asks, Ticks, Comes}
use Rattle.px_model.specs.Node.Answer.{Refused, Planned}
use Rattle.px_model.specs.Step.{positions, commit, front, step}
use Rattle.px_model.specs.World.{NodeState, World, Action, Event, nothing_stored, step_of, follows, started}
use Rattle.px_model.specs.World.Action.{Ask, AskFrom, Tick, Deliver}
use Rattle.px_model.specs.World.Event.{Runs, StopBefore, StopAfter, Restart}
use Rattle.px_model.specs.Law.{Among, world_after}

-- ---- numbers

-- rounds, tokens and the numbers of entries have six bytes
abbrev pub IsNumber : ℕ → Type 0
IsNumber k = k < 2 ^ 48

-- positions are 0 to 999,999
abbrev pub IsPosition : ℕ → Type 0
IsPosition p = p < positions

-- the member that made the ballot
abbrev pub member_of : (ballot : ℕ) → ℕ
member_of ballot = ballot % 256

-- a ballot that one of the members made: its round is 1 to 2^48-1
pub record IsBallot (n b : ℕ) : Type 0 where
  pub begun : 1 ≤ round_of b
  pub round : IsNumber (round_of b)
  pub member : member_of b < n

-- this member's ballot
abbrev pub IsBallotOf : (n member b : ℕ) → Type 0
IsBallotOf n m b = IsBallot n b × (member_of b ≡ m)

-- what is promised: a ballot, or 0 for none
abbrev pub IsPromise : (n b : ℕ) → Type 0
IsPromise n b = (b ≡ 0) ⊎ IsBallot n b

-- ---- entries and messages

-- an entry whose command was submitted to a member
pub record EntryFits {C : Type 0} (IsSpelled : C → Type 0) (n : ℕ) (e : Entry C) : Type 0 where
  pub origin : e.origin < n
  pub number : IsNumber e.number
  pub command : IsSpelled e.command

-- an accepted proposal
pub record ProposalFits {C : Type 0} (IsSpelled : C → Type 0) (n : ℕ) (x : Proposal C) : Type 0 where
  pub ballot : IsBallot n x.ballot
  pub entry : EntryFits IsSpelled n x.entry

-- what a promise of ballot b reports: nothing, or a proposal of a lower ballot
abbrev pub ReportFits : {C : Type 0} → (C → Type 0) → (n b : ℕ) → Option (Proposal C) → Type 0
ReportFits IsSpelled n b a = IfSome a (λ x. ProposalFits IsSpelled n x × (x.ballot < b))

-- what a message reports, by its kind: what proposes has the sender's ballot, what answers it the addressee's,
-- a vote any member's
abbrev pub MessageFits : {C : Type 0} → (C → Type 0) → (n from to : ℕ) → Message C → Type 0
MessageFits S n from to (Prepare b p) = IsBallotOf n from b × IsPosition p
MessageFits S n from to (Promise b p a) = IsBallotOf n to b × IsPosition p × ReportFits S n b a
MessageFits S n from to (PrepareAll b p) = IsBallotOf n from b × IsPosition p
MessageFits S n from to (PromiseAll b p top a) =
    IsBallotOf n to b × IsPosition p × (top ≤ positions) × ReportFits S n b a
MessageFits S n from to (Accept b p e) = IsBallotOf n from b × IsPosition p × EntryFits S n e
MessageFits S n from to (Vote b p e) = IsBallot n b × IsPosition p × EntryFits S n e
MessageFits S n from to (Nack b p q) = IsBallotOf n to b × IsPosition p × IsBallot n q × (b ≤ q)
MessageFits S n from to (Need p) = IsPosition p
MessageFits S n from to (Learned p e) = IsPosition p × EntryFits S n e
MessageFits S n from to (node.Message.Ask token c) = IsNumber token × S c
MessageFits S n from to (Asked token k) = IsNumber token × IsNumber k
MessageFits S n from to (AskRefused token code) = IsNumber token × ((code ≡ 60) ⊎ (code ≡ 62))

-- who sends it to whom: a client only asks, and is only answered
abbrev pub IsBetween : {C : Type 0} → (n from to : ℕ) → Message C → Type 0
IsBetween n from to (node.Message.Ask token c) = (from ≡ client) × (to < n)
IsBetween n from to (Asked token k) = (from < n) × (to ≡ client)
IsBetween n from to (AskRefused token code) = (from < n) × (to ≡ client)
IsBetween n from to _ = (from < n) × (to < n)

-- a message on its way that can be spelled
pub record EnvelopeFits {C : Type 0} (IsSpelled : C → Type 0) (n : ℕ) (x : Envelope C) : Type 0 where
  pub between : IsBetween n x.sender x.addressee x.message
  pub message : MessageFits IsSpelled n x.sender x.addressee x.message

-- What may reach a member: a command that has a spelling, its clock, what a datagram to it spells.
abbrev pub InputFits : {C : Type 0} → (C → Type 0) → (n me : ℕ) → Input C → Type 0
InputFits S n me (Asks c) = S c
InputFits S n me Ticks = Unit {0}
InputFits S n me (Comes from x) = EnvelopeFits S n (record { sender = from; addressee = me; message = x })

-- ---- what a member keeps, and one change of it

-- a record's numbers: the round used, the next request number, the floor
pub record MetaFits (n : ℕ) (meta : Meta) : Type 0 where
  -- no ballot has a later round
  pub round : IsNumber meta.round
  -- 2^48 where all are spent
  pub number : meta.number ≤ 2 ^ 48
  -- a refusal reports it
  pub floor : IsPromise n meta.floor

-- a slot: what is promised there, and a proposal accepted in a ballot not above that
pub record SlotFits {C : Type 0} (IsSpelled : C → Type 0) (n : ℕ) (slot : Slot C) : Type 0 where
  -- a refusal reports it
  pub promised : IsPromise n slot.promised
  -- a promise reports it, and its ballot is above all that was promised
  pub accepted : IfSome slot.accepted (λ x. ProposalFits IsSpelled n x × (x.ballot ≤ slot.promised))

-- a client that asks what was learned is answered
abbrev pub LogFits : {C : Type 0} → (C → Type 0) → (n : ℕ) → Log C → Type 0
LogFits {C} IsSpelled n log = (p : ℕ) (e : Entry C) → log p ≡ Some e → IsPosition p × EntryFits IsSpelled n e

-- a record: its numbers, each of its slots, and all that was learned
pub record RecordFits {C : Type 0} (IsSpelled : C → Type 0) (n : ℕ) (d : Record C) : Type 0 where
  pub meta : MetaFits n d.meta
  pub slots : (p : ℕ) → SlotFits IsSpelled n (d.slots p)
  -- nothing was accepted past the last position, so no top is reported too low
  pub last : (p : ℕ) → positions ≤ p → (d.slots p).accepted ≡ None
  pub learned : LogFits IsSpelled n d.learned

-- what a change writes
abbrev pub ChangeFits : {C : Type 0} → (C → Type 0) → (n : ℕ) → Change C → Type 0
ChangeFits S n (NewRound r) = IsNumber r
ChangeFits S n (NewNumber k) = k ≤ 2 ^ 48
ChangeFits S n (NewFloor b) = IsBallot n b
ChangeFits S n (NewPromise p b) = IsPosition p × IsBallot n b
ChangeFits S n (NewAccepted p b e) = IsPosition p × IsBallot n b × EntryFits S n e
ChangeFits S n (NewLearned p e) = IsPosition p × EntryFits S n e

-- ---- what a restart loses

-- at a majority the best report's entry is proposed, and the ballot leads from the top on
abbrev pub PhaseFits : {C : Type 0} → (C → Type 0) → (n : ℕ) → Phase C → Type 0
PhaseFits S n (Preparing counted top best) = (top ≤ positions) × IfSome best (λ x. ProposalFits S n x)
PhaseFits S n (Accepting e) = EntryFits S n e

-- an attempt: at the front, in a ballot of the member's own
pub record AttemptFits {C : Type 0} (IsSpelled : C → Type 0) (n me front : ℕ) (x : Attempt C) : Type 0 where
  -- where something is learned there, the attempt ends
  pub at_front : x.position ≡ front
  pub position : IsPosition x.position
  -- its messages report it
  pub ballot : IsBallotOf n me x.ballot
  pub phase : PhaseFits IsSpelled n x.phase

-- a lead: a ballot of the member's own, and where it may be used from, 1,000,000 at most
pub record LeadFits (n me : ℕ) (x : Lead) : Type 0 where
  -- proposals report it
  pub ballot : IsBallotOf n me x.ballot
  -- 1,000,000 where no position is left
  pub from : x.from ≤ positions

-- front is that of the member's record
pub record VolatileFits {C : Type 0} (IsSpelled : C → Type 0) (n me front : ℕ) (v : Volatile C) : Type 0 where
  pub room : length v.waiting ≤ 64
  -- its own, to be proposed
  pub waiting : (e : Entry C) → Among v.waiting e → EntryFits IsSpelled n e × (e.origin ≡ me)
  pub attempt : IfSome v.attempt (λ x. AttemptFits IsSpelled n me front x)
  pub lead : IfSome v.lead (λ x. LeadFits n me x)
  -- the round of a ballot that a refusal reported
  pub seen : IsNumber v.seen

-- a member: its record, and its volatile part at the record's front
pub record NodeFits {C : Type 0} (IsSpelled : C → Type 0) (n me : ℕ) (s : NodeState C) : Type 0 where
  pub stored : RecordFits IsSpelled n s.stored
  pub volatile : VolatileFits IsSpelled n me (front s.stored.learned) s.volatile

-- ---- what a member does

-- each is the member's own message, and can be spelled
abbrev pub SendsFit : {C : Type 0} → (C → Type 0) → (n me : ℕ) → List (Envelope C) → Type 0
SendsFit {C} IsSpelled n me sends =
    (x : Envelope C) → Among sends x → (x.sender ≡ me) × EnvelopeFits IsSpelled n x

-- all that is sent, to clients too; a refusal sends nothing
abbrev pub sends_of : {C : Type 0} → Answer C → List (Envelope C)
sends_of (Refused code) = []
sends_of (Planned plan) = plan.sends

-- a refusal changes nothing
abbrev pub change_of : {C : Type 0} → Answer C → Option (Change C)
change_of (Refused code) = None
change_of (Planned plan) = plan.change

-- the member after its answer; what is refused leaves it as it was
abbrev pub state_with : {C : Type 0} → NodeState C → Answer C → NodeState C
state_with s (Refused code) = s
state_with s (Planned plan) = follows s plan

-- what is written and sent fits, and the member fits afterwards
pub record AnswerFits {C : Type 0} (IsSpelled : C → Type 0) (n me : ℕ) (s : NodeState C) (a : Answer C) : Type
    0 where
  pub change : IfSome (change_of a) (λ x. ChangeFits IsSpelled n x)
  pub sends : SendsFit IsSpelled n me (sends_of a)
  pub state : NodeFits IsSpelled n me (state_with s a)

-- ---- a step of which only what it reads is known

-- what a step reads: the record's numbers, the slot of the input's position, a top, what was learned
pub record PartsFit {C : Type 0} (IsSpelled : C → Type 0) (n me : ℕ) (numbers : Meta) (slot : Slot C) (top : ℕ)
    (log : Log C) (v : Volatile C) : Type 0 where
  pub meta : MetaFits n numbers
  pub here : SlotFits IsSpelled n slot
  pub top_within : top ≤ positions
  pub learned : LogFits IsSpelled n log
  pub volatile : VolatileFits IsSpelled n me (front log) v

-- a record with these parts, after the answer's change
abbrev pub parts_with : {C : Type 0} → Meta → Slot C → Log C → Answer C → Record C
parts_with numbers slot log a = commit (change_of a) (record { meta = numbers; slots = λ p. slot; learned = log })

-- the volatile part after the answer; what is refused leaves it as it was
abbrev pub volatile_with : {C : Type 0} → Volatile C → Answer C → Volatile C
volatile_with v (Refused code) = v
volatile_with v (Planned plan) = plan.volatile

-- what is written and sent fits, and so do numbers, log and volatile part afterwards
pub record PartsAnswerFits {C : Type 0} (IsSpelled : C → Type 0) (n me : ℕ) (numbers : Meta) (slot : Slot C)
    (log : Log C) (v : Volatile C) (a : Answer C) : Type 0 where
  pub change : IfSome (change_of a) (λ x. ChangeFits IsSpelled n x)
  pub sends : SendsFit IsSpelled n me (sends_of a)
  pub meta : MetaFits n (parts_with numbers slot log a).meta
  pub learned : LogFits IsSpelled n (parts_with numbers slot log a).learned
  pub volatile : VolatileFits IsSpelled n me (front (parts_with numbers slot log a).learned) (volatile_with v a)

-- ---- events

-- what is asked has a spelling
abbrev pub ActionFits : {C : Type 0} → (C → Type 0) → Action C → Type 0
ActionFits S (Ask m c) = S c
ActionFits S (AskFrom m token c) = IsNumber token × S c
ActionFits S (Tick m) = Unit {0}
ActionFits S (Deliver k) = Unit {0}

-- what the event asks, if it asks anything, has a spelling
abbrev pub EventFits : {C : Type 0} → (C → Type 0) → Event C → Type 0
EventFits S (Runs a) = ActionFits S a
EventFits S (StopBefore a) = ActionFits S a
EventFits S (StopAfter a) = ActionFits S a
EventFits S (Restart m) = Unit {0}

-- every member fits, and every message ever sent to a member
pub record WorldFits {C : Type 0} (IsSpelled : C → Type 0) (n : ℕ) (w : World C) : Type 0 where
  pub nodes : (m : ℕ) → m < n → NodeFits IsSpelled n m (w.nodes m)
  pub sent : (x : Envelope C) → Among w.sent x → EnvelopeFits IsSpelled n x

-- ---- the laws: for 1 to 15 members, and any test of which commands have a spelling

-- the command passes the test
abbrev pub Passes : {C : Type 0} → (C → Bool) → C → Type 0
Passes test c = test c ≡ true

-- a step of a member that fits, on an input that fits
abbrev pub StepsFit : (C : Type 0) → Type 0
StepsFit C =
    (test : C → Bool) (same : C → C → Bool) (n : ℕ) → 1 ≤ n → n ≤ 15 →
    (me : ℕ) → me < n → (s : NodeState C) → NodeFits (Passes test) n me s →
    (input : Input C) → InputFits (Passes test) n me input →
    AnswerFits (Passes test) n me s (step_of same n me s input)

-- the same, whatever else is stored
abbrev pub PartsStepsFit : (C : Type 0) → Type 0
PartsStepsFit C =
    (test : C → Bool) (same : C → C → Bool) (n : ℕ) → 1 ≤ n → n ≤ 15 → (me : ℕ) → me < n →
    (numbers : Meta) (slot : Slot C) (top : ℕ) (log : Log C) (v : Volatile C) →
    PartsFit (Passes test) n me numbers slot top log v →
    (input : Input C) → InputFits (Passes test) n me input →
    PartsAnswerFits (Passes test) n me numbers slot log v (step same n me numbers slot top log v input)

-- a member that starts with a record that fits; a member's first record is one
abbrev pub StartsFit : (C : Type 0) → Type 0
StartsFit C =
    (test : C → Bool) (n me : ℕ) → RecordFits (Passes test) n (nothing_stored {C = C}) ×
    ((d : Record C) → RecordFits (Passes test) n d →
    NodeFits (Passes test) n me (started d))

-- every world that is reached, where what is asked has a spelling
abbrev pub AlwaysFits : (C : Type 0) → Type 0
AlwaysFits C =
    (test : C → Bool) (same : C → C → Bool) (n : ℕ) → 1 ≤ n → n ≤ 15 →
    (events : List (Event C)) → ((e : Event C) → Among events e → EventFits (Passes test) e) →
    WorldFits (Passes test) n (world_after same n events)
