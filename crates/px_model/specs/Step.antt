-- One step of a node, which is proposer, acceptor and learner (Paxos Made Simple, 2.2, 2.3, 2.5 and 3).
-- n is the number of members, me the node, same the equality of commands. A case reads one slot of the record.
use Rattle.std.specs.Prelude.{ℕ, zero, suc, ◌+◌, ◌*◌, ◌^◌, ◌<◌, Bool, true, false, ◌&&◌, List, []}
use Rattle.std.specs.Prelude.{◌∷◌, ◌++◌, length, Option, Some, None, max, if◌then◌else◌, nat_lt, nat_le}
use Rattle.std.specs.Prelude.{nat_eq, is_none}
use Rattle.px_model.specs.Node.{Entry, Proposal, Slot, Meta, Log, Record, Change, Phase, Attempt, Lead, Volatile}
use Rattle.px_model.specs.Node.{Message, Envelope, Input, Plan, Answer, same_entry, ballot_of, round_of, client}
use Rattle.px_model.specs.Node.Change.{NewRound, NewNumber, NewFloor, NewPromise, NewAccepted, NewLearned}
use Rattle.px_model.specs.Node.Phase.{Preparing, Accepting}
use Rattle.px_model.specs.Node.Message.{Prepare, Promise, PrepareAll, PromiseAll, Accept, Vote, Nack, Need, Learned}
use Rattle.px_model.specs.Node.Message.{Ask, Asked, AskRefused}
use Rattle.px_model.specs.Node.Input.{Asks, Ticks, Comes}
use Rattle.px_model.specs.Node.Answer.{Refused, Planned}

-- ---- majorities and maps

-- how many of the members below n pass the test
abbrev pub count : (n : ℕ) → (ℕ → Bool) → ℕ
count zero test = 0
count (suc n) test = if test n then suc (count n test) else count n test

-- A majority of n members: any two of them have a member in common (2.2).
abbrev pub IsMajority : (n : ℕ) → (ℕ → Bool) → Type 0
IsMajority n set = n < 2 * count n set

-- the same, as a test
abbrev pub is_majority : (n : ℕ) → (ℕ → Bool) → Bool
is_majority n set = nat_lt n (2 * count n set)

-- the map with this value at this place
abbrev pub put : {X : Type 0} → (ℕ → X) → ℕ → X → ℕ → X
put map place value q = if nat_eq q place then value else map q

-- ---- the record

-- positions are 0 to 999,999
abbrev pub positions : ℕ
positions = 1_000_000

-- the greatest ballot promised at a position, there or at all positions
abbrev pub promised_at : {C : Type 0} → Meta → Slot C → ℕ
promised_at meta slot = max meta.floor slot.promised

-- the record after a change
abbrev pub commit : {C : Type 0} → Option (Change C) → Record C → Record C
commit None d = d
commit (Some (NewRound r)) d = record d { meta = record d.meta { round = r } }
commit (Some (NewNumber k)) d = record d { meta = record d.meta { number = k } }
commit (Some (NewFloor b)) d = record d { meta = record d.meta { floor = b } }
commit (Some (NewPromise p b)) d = record d {
  slots = put d.slots p (record { promised = b; accepted = (d.slots p).accepted });
}
commit (Some (NewAccepted p b e)) d = record d {
  slots = put d.slots p (record { promised = b; accepted = Some (record { ballot = b; entry = e }) });
}
commit (Some (NewLearned p e)) d = record d { learned = put d.learned p (Some e) }

-- one more than the last of the first n positions with an accepted proposal, else 0
unfoldable pub top_below : {C : Type 0} → (ℕ → Slot C) → (n : ℕ) → ℕ
top_below slots zero = 0
top_below slots (suc n) = elim (slots n).accepted [ None ↦ top_below slots n | Some x ↦ suc n ]

-- from here on nothing was accepted
unfoldable pub top : {C : Type 0} → (ℕ → Slot C) → ℕ
top slots = top_below slots positions

-- the first of the k positions from p on where nothing is learned, else the position after them
unfoldable pub first_gap : {X : Type 0} → (ℕ → Option X) → (p k : ℕ) → ℕ
first_gap learned p zero = p
first_gap learned p (suc k) = elim (learned p) [ None ↦ p | Some e ↦ first_gap learned (suc p) k ]

-- the least position not learned, 1,000,000 if there is none
unfoldable pub front : {X : Type 0} → (ℕ → Option X) → ℕ
front learned = first_gap learned 0 positions

-- the positions whose votes are kept: 64 from the front on
abbrev pub in_window : (front position : ℕ) → Bool
in_window front p = nat_le front p && (nat_lt p (front + 64) && nat_lt p positions)

-- ---- plans

-- the volatile part of a node that has just started
abbrev pub nothing_volatile : {C : Type 0} → Volatile C
nothing_volatile = record { waiting = []; attempt = None; lead = None; seen = 0; kept = λ p m. 0 }

-- no change and no message
abbrev pub idle : {C : Type 0} → Volatile C → Plan C
idle v = record { change = None; volatile = v; sends = [] }

-- the message to each member, in the order of their numbers
abbrev pub to_all : {C : Type 0} → (n me : ℕ) → Message C → List (Envelope C)
to_all zero me x = []
to_all (suc n) me x = to_all n me x ++ record { sender = me; addressee = n; message = x } ∷ []

-- a change, and one message in answer
abbrev pub answered : {C : Type 0} → Option (Change C) → Volatile C → (me to : ℕ) → Message C → Plan C
answered change v me to x = record {
  change = change;
  volatile = v;
  sends = record { sender = me; addressee = to; message = x } ∷ [];
}

-- ---- a command is asked: it gets a number, which is recorded first (own; 2.5 for what is recorded)

-- the entry that the node makes of a command
abbrev pub entry_for : {C : Type 0} → (me : ℕ) → Meta → C → Entry C
entry_for me meta c = record { origin = me; number = meta.number; command = c }

-- the number is recorded, and the entry waits behind the others
abbrev pub queued : {C : Type 0} → (me : ℕ) → Meta → Volatile C → C → Plan C
queued me meta v c = record {
  change = Some (NewNumber (meta.number + 1));
  volatile = record v { waiting = v.waiting ++ entry_for me meta c ∷ [] };
  sends = [];
}

-- a command is asked: refused with 60 where 64 wait, with 62 where positions or numbers are spent, else accepted
unfoldable pub on_ask : {C : Type 0} → (me : ℕ) → Meta → Log C → Volatile C → C → Answer C
on_ask me meta learned v c =
    if nat_le 64 (length v.waiting) then Refused 60
    else if nat_eq (front learned) positions then Refused 62
    else if nat_le (2 ^ 48) meta.number then Refused 62
    else Planned (queued me meta v c)

-- the client is answered with the number that the entry got, or the refusal
abbrev pub ask_answered : {C : Type 0} → (me token number : ℕ) → Volatile C → Answer C → Plan C
ask_answered me token number v (Refused code) = answered None v me client (AskRefused token code)
ask_answered me token number v (Planned plan) = answered plan.change plan.volatile me client (Asked token number)

-- ---- the proposer begins (2.2, phase 1a; section 3 where a majority has promised for all positions)

-- above each round used or heard of; recorded before its ballot is used, so that no ballot is used twice (2.5)
abbrev pub next_round : {C : Type 0} → Meta → Volatile C → ℕ
next_round meta v = max meta.round v.seen + 1

-- a new ballot, and a prepare request with it to every member
unfoldable pub new_round : {C : Type 0} → (n me : ℕ) → Meta → (front : ℕ) → Volatile C → Answer C
new_round n me meta front v =
    if nat_lt (next_round meta v) (2 ^ 48)
    then Planned (record {
      change = Some (NewRound (next_round meta v));
      volatile = record v {
        attempt = Some (record {
          position = front;
          ballot = ballot_of (next_round meta v) me;
          phase = Preparing (λ m. false) 0 None;
        });
        lead = None;
      };
      sends = to_all n me (PrepareAll (ballot_of (next_round meta v) me) front);
    })
    else Refused 61

-- the lead's ballot needs no phase 1 at its next position
unfoldable pub use_lead : {C : Type 0} → (n me front : ℕ) → Volatile C → Entry C → Lead → Plan C
use_lead n me front v e lead = record {
  change = None;
  volatile = record v {
    attempt = Some (record { position = front; ballot = lead.ballot; phase = Accepting e });
    lead = Some (record { ballot = lead.ballot; from = front + 1 });
  };
  sends = to_all n me (Accept lead.ballot front e);
}

-- e waits: by the lead if it has reached the front, else by a new ballot
abbrev pub propose : {C : Type 0} → (n me : ℕ) → Meta → (front : ℕ) → Volatile C → Entry C →
    Option Lead →
    Answer C
propose n me meta front v e None = new_round n me meta front v
propose n me meta front v e (Some lead) =
    if nat_le lead.from front then Planned (use_lead n me front v e lead) else new_round n me meta front v

-- with nothing to propose, what is missing is asked for
abbrev pub tick_for : {C : Type 0} → (n me : ℕ) → Meta → (front : ℕ) → Volatile C → List (Entry C) →
    Answer C
tick_for n me meta front v [] =
    Planned (record { change = None; volatile = v; sends = to_all n me (Need front) })
tick_for n me meta front v (e ∷ rest) = propose n me meta front v e v.lead

-- the clock ticks: with positions left, the lead is used for what waits first, or a new ballot begun, 61 where none is
-- left; where nothing waits, what is missing is asked for
unfoldable pub on_tick : {C : Type 0} → (n me : ℕ) → Meta → Log C → Volatile C → Answer C
on_tick n me meta learned v =
    if nat_eq (front learned) positions
    then Planned (idle v)
    else tick_for n me meta (front learned) v v.waiting

-- ---- the acceptor (2.2, phases 1b and 2b)

-- a prepare request for one position: promised, with what was accepted, where the ballot is above what was promised
unfoldable pub on_prepare : {C : Type 0} → (me : ℕ) → Meta → Slot C → Volatile C →
    (from b p : ℕ) → Plan C
on_prepare me meta slot v from b p =
    if nat_lt (promised_at meta slot) b
    then answered (Some (NewPromise p b)) v me from (Promise b p slot.accepted)
    else answered None v me from (Nack b p (promised_at meta slot))

-- for all positions: beside what it accepted at p it reports from where on it accepted nothing (section 3)
unfoldable pub on_prepare_all : {C : Type 0} → (me : ℕ) → Meta → Slot C → (top : ℕ) → Volatile C →
    (from b p : ℕ) → Plan C
on_prepare_all me meta slot top v from b p =
    if nat_lt (promised_at meta slot) b
    then answered (Some (NewFloor b)) v me from (PromiseAll b p top slot.accepted)
    else answered None v me from (Nack b p (promised_at meta slot))

-- it accepts unless it promised a higher ballot, and informs each learner
unfoldable pub on_accept : {C : Type 0} → (n me : ℕ) → Meta → Slot C → Volatile C → (from b p : ℕ) →
    Entry C → Plan C
on_accept n me meta slot v from b p e =
    if nat_le (promised_at meta slot) b
    then record { change = Some (NewAccepted p b e); volatile = v; sends = to_all n me (Vote b p e) }
    else answered None v me from (Nack b p (promised_at meta slot))

-- ---- the proposer goes on (2.2, phase 2a)

-- the proposal of the higher ballot, the first of two equal ones
abbrev pub better : {C : Type 0} → Option (Proposal C) → Option (Proposal C) → Option (Proposal C)
better a None = a
better None (Some y) = Some y
better (Some x) (Some y) = if nat_lt x.ballot y.ballot then Some y else Some x

-- the entry of the highest-numbered proposal reported, or the proposer's own choice where there is none
abbrev pub choice : {C : Type 0} → Option (Proposal C) → List (Entry C) → Option (Entry C)
choice (Some x) waiting = Some x.entry
choice None [] = None
choice None (e ∷ rest) = Some e

-- phase 2 begins with this entry, or with none the attempt ends; the ballot may be used from here on
abbrev pub phase_two : {C : Type 0} → (n me : ℕ) → Volatile C → (b p from : ℕ) → Option (Entry C) → Plan C
phase_two n me v b p from None =
    idle (record v { attempt = None; lead = Some (record { ballot = b; from = from }) })
phase_two n me v b p from (Some e) = record {
  change = None;
  volatile = record v {
    attempt = Some (record { position = p; ballot = b; phase = Accepting e });
    lead = Some (record { ballot = b; from = from });
  };
  sends = to_all n me (Accept b p e);
}

-- with these members counted, this greatest top and this best: phase 2 at a majority
unfoldable pub gathered : {C : Type 0} → (n me : ℕ) → Volatile C → (b p : ℕ) → (counted : ℕ → Bool) →
    (top : ℕ) →
    Option (Proposal C) → Plan C
gathered n me v b p counted top best =
    if is_majority n counted
    then phase_two n me v b p (max (p + 1) top) (choice best v.waiting)
    else idle (record v {
      attempt = Some (record { position = p; ballot = b; phase = Preparing counted top best });
    })

-- a member counts once, and its top with it
abbrev pub promise_in : {C : Type 0} → (n me : ℕ) → Volatile C → (from b p t : ℕ) → Option (Proposal C) →
    Phase C → Plan C
promise_in n me v from b p t a (Accepting e) = idle v
promise_in n me v from b p t a (Preparing counted top best) =
    gathered n me v b p (put counted from true) (if counted from then top else max top t) (better best a)

-- the promise counts for an attempt with this ballot at this position, and for no other
abbrev pub promise_to : {C : Type 0} → (n me : ℕ) → Volatile C → (from b p t : ℕ) → Option (Proposal C) →
    Option (Attempt C) → Plan C
promise_to n me v from b p t a None = idle v
promise_to n me v from b p t a (Some x) =
    if nat_eq x.ballot b && nat_eq x.position p then promise_in n me v from b p t a x.phase else idle v

-- a promise for all positions comes: it counts for the attempt under way, if it is for that one
unfoldable pub on_promise_all : {C : Type 0} → (n me : ℕ) → Volatile C → (from b p t : ℕ) →
    Option (Proposal C) → Plan C
on_promise_all n me v from b p t a = promise_to n me v from b p t a v.attempt

-- ---- the learner (2.3)

-- the entries without this one
abbrev pub without : {C : Type 0} → (C → C → Bool) → Entry C → List (Entry C) → List (Entry C)
without same e [] = []
without same e (w ∷ ws) = if same_entry same w e then without same e ws else w ∷ without same e ws

-- the attempt, if it isn't below the front
abbrev pub not_below : {C : Type 0} → (front : ℕ) → Option (Attempt C) → Option (Attempt C)
not_below front None = None
not_below front (Some x) = if nat_lt x.position front then None else Some x

-- e was learned and the front is now here: e waits no more, and what is below the front is let go
abbrev pub on_learning : {C : Type 0} → (C → C → Bool) → (front : ℕ) → Entry C → Volatile C → Volatile C
on_learning same front e v = record {
  waiting = without same e v.waiting;
  attempt = not_below front v.attempt;
  lead = v.lead;
  seen = v.seen;
  kept = λ p m. if nat_lt p front then 0 else v.kept p m;
}

-- e is learned at p: that is recorded, e waits no more, and what is below the new front is let go
unfoldable pub learn : {C : Type 0} → (C → C → Bool) → Log C → Volatile C → ℕ → Entry C → Plan C
learn same learned v p e = record {
  change = Some (NewLearned p e);
  volatile = on_learning same (front (put learned p (Some e))) e v;
  sends = [];
}

-- the kept ballots with m's at p raised to b
abbrev pub keep : ((position member : ℕ) → ℕ) → (p m b : ℕ) → (position member : ℕ) → ℕ
keep kept p m b q k = if nat_eq q p then (if nat_eq k m then max (kept q k) b else kept q k) else kept q k

-- learned where the members whose kept ballot is b are a majority
unfoldable pub with_vote : {C : Type 0} → (C → C → Bool) → (n : ℕ) → Log C → Volatile C →
    (b p : ℕ) →
    Entry C → Plan C
with_vote same n learned v b p e =
    if is_majority n (λ m. nat_eq (v.kept p m) b) then learn same learned v p e else idle v

-- a vote comes: in the window, where nothing is learned, it is kept, and e learned if that makes a majority
unfoldable pub on_vote : {C : Type 0} → (C → C → Bool) → (n : ℕ) → Log C → Volatile C →
    (from b p : ℕ) →
    Entry C → Plan C
on_vote same n learned v from b p e =
    if is_none (learned p) && in_window (front learned) p
    then with_vote same n learned (record v { kept = keep v.kept p from b }) b p e
    else idle v

-- a member reports that an entry was chosen
unfoldable pub on_learned : {C : Type 0} → (C → C → Bool) → Log C → Volatile C → ℕ → Entry C → Plan C
on_learned same learned v p e =
    if is_none (learned p) && in_window (front learned) p then learn same learned v p e else idle v

-- the client is answered with the entry, if there is one
abbrev pub need_of : {C : Type 0} → (me : ℕ) → Volatile C → (from p : ℕ) → Option (Entry C) → Plan C
need_of me v from p None = idle v
need_of me v from p (Some e) = answered None v me from (Learned p e)

-- asked for what it learned at a position
unfoldable pub on_need : {C : Type 0} → (me : ℕ) → Log C → Volatile C → (from p : ℕ) → Plan C
on_need me learned v from p = need_of me v from p (learned p)

-- ---- a refusal names a higher ballot (2.2, last paragraph)

-- the attempt, unless it is that with this ballot at this position
abbrev pub drop_attempt : {C : Type 0} → (b p : ℕ) → Option (Attempt C) → Option (Attempt C)
drop_attempt b p None = None
drop_attempt b p (Some x) = if nat_eq x.ballot b && nat_eq x.position p then None else Some x

-- the lead, unless it has this ballot
abbrev pub drop_lead : (b : ℕ) → Option Lead → Option Lead
drop_lead b None = None
drop_lead b (Some x) = if nat_eq x.ballot b then None else Some x

-- a refusal: the attempt with b at p and the lead with b are dropped, and the round of the promised q remembered
unfoldable pub on_nack : {C : Type 0} → Volatile C → (b p q : ℕ) → Plan C
on_nack v b p q = idle (record v {
  attempt = drop_attempt b p v.attempt;
  lead = drop_lead b v.lead;
  seen = max v.seen (round_of q);
})

-- ---- all cases

-- the position whose slot an input reads
abbrev pub position_of : {C : Type 0} → Input C → ℕ
position_of (Comes from (Prepare b p)) = p
position_of (Comes from (PrepareAll b p)) = p
position_of (Comes from (Accept b p e)) = p
position_of _ = 0

-- the plan for a message, by its kind; Promise, Asked and AskRefused do nothing
abbrev pub on_message : {C : Type 0} → (C → C → Bool) → (n me : ℕ) → Meta → Slot C → (top : ℕ) →
    Log C →
    Volatile C → (from : ℕ) → Message C → Plan C
on_message same n me meta slot top log v from (Prepare b p) = on_prepare me meta slot v from b p
on_message same n me meta slot top log v from (Promise b p a) = idle v
on_message same n me meta slot top log v from (PrepareAll b p) = on_prepare_all me meta slot top v from b p
on_message same n me meta slot top log v from (PromiseAll b p t a) = on_promise_all n me v from b p t a
on_message same n me meta slot top log v from (Accept b p e) = on_accept n me meta slot v from b p e
on_message same n me meta slot top log v from (Vote b p e) = on_vote same n log v from b p e
on_message same n me meta slot top log v from (Nack b p q) = on_nack v b p q
on_message same n me meta slot top log v from (Need p) = on_need me log v from p
on_message same n me meta slot top log v from (Learned p e) = on_learned same log v p e
on_message same n me meta slot top log v from (Ask t c) = ask_answered me t meta.number v (on_ask me meta log v c)
on_message same n me meta slot top log v from (Asked t k) = idle v
on_message same n me meta slot top log v from (AskRefused t k) = idle v

-- A node's answer to an input: slot is that of the input's position, top that of the whole record.
unfoldable pub step : {C : Type 0} → (C → C → Bool) → (n me : ℕ) → Meta → Slot C → (top : ℕ) →
    Log C →
    Volatile C → Input C → Answer C
step same n me meta slot top log v (Asks c) = on_ask me meta log v c
step same n me meta slot top log v Ticks = on_tick n me meta log v
step same n me meta slot top log v (Comes from x) =
    Planned (on_message same n me meta slot top log v from x)
