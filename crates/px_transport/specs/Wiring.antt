-- What a wire of packets does.
use Rattle.std.specs.Prelude.{◌≡◌, ℕ, zero, suc, ◌-◌, ◌^◌, ◌≤◌, min, Bool, true, false, List, [], ◌∷◌, ◌++◌, length}
use Rattle.std.specs.Prelude.{take, drop, replicate, Option, Some, None, IsTrue, ◌&&◌, ◌⊎◌, if◌then◌else◌}
use Rattle.std.specs.List.{range_with_len, flat_map}
use Rattle.px_transport.specs.Wires.{WireEvent, Handed, Counts, gives, one_more, within}
use Rattle.px_packet.specs.declared.start.Start.{Start}
use Rattle.px_packet.specs.declared.header.Header.{Header}
use Rattle.px_packet.specs.declared.fault.PacketFault.{PacketFault}
use Rattle.px_packet.specs.Headers.{header_in}
use Rattle.px_packet.specs.Keyed as keyed
use Rattle.px_packet.specs.Packets.{front_of, packet_fault}
use Rattle.px_packet.specs.declared.arrival.Arrival.{Arrival}
use Rattle.px_packet.specs.declared.arrival.Arrival.TheVariants as arrivals
use Rattle.px_packet.specs.declared.held.PiecesHeld.{PiecesHeld}
use Rattle.px_packet.specs.Reassembling.{due_held}
use Rattle.px_transport.specs.declared.coming.Coming.{Coming}
use Rattle.px_transport.specs.declared.coming.Coming.TheVariants as coming
use Rattle.px_transport.specs.declared.receiver.Receiver.{Receiver}
use Rattle.px_transport.specs.declared.packet_wire.PacketWire.{PacketWire}
use Rattle.px_transport.specs.Receiving.{Heard, Given, Whole, Joined, Held, Nothing, Dropped, Memory, Hears, of_member}
use Rattle.px_transport.specs.Receiving.{unheard, heard_after, given_by, reported_of, due_of}
use Rattle.px_transport.specs.Sending.{is_other, can_be_cut, ToMember, Sealer, Unsealed, SendsUpTo, states, stated_for}
use Rattle.px_transport.specs.Sending.{report, again, packets_of, kept_with, HasName, to_member, new_to, next_state}
use Rattle.px_transport.specs.Sending.{refilled_for}
use Rattle.px_transport.specs.Senders as senders

-- ---- a wire in code

-- the wire below
abbrev pub inner_of : {W C : Type 0} → PacketWire W C → W
inner_of w = w.inner

-- who seals what is sent
abbrev pub sealer_of : {W C : Type 0} → PacketWire W C → Sealer
sealer_of w = senders.sealer_of w.sender

-- the keys of packets that are opened
abbrev pub keys_of : {W C : Type 0} → PacketWire W C → List (List ℕ)
keys_of w = keyed.keys_of w.sender.keys

-- what was sent to each member
abbrev pub outgoing_of : {W C : Type 0} → PacketWire W C → List ToMember
outgoing_of w = senders.outgoing_of w.sender

-- what hears packets
abbrev pub receiver_of : {W C : Type 0} → PacketWire W C → Receiver
receiver_of w = w.receiver

-- how many sends and receives failed, up to 2^64 - 1
abbrev pub failures_of : {W C : Type 0} → PacketWire W C → ℕ
failures_of w = w.failures

-- how many packets weren't heard, up to 2^64 - 1
abbrev pub dropped_of : {W C : Type 0} → PacketWire W C → ℕ
dropped_of w = w.dropped

-- and how many of those were of a copied or restored machine
abbrev pub copies_of : {W C : Type 0} → PacketWire W C → ℕ
copies_of w = w.copies

-- ---- what a wire knows, and does of its own

-- what went over the wire below, what was sent to each member, what was heard of each, and how many sends failed
pub record WireState : Type 0 where
  pub traffic : List WireEvent
  pub outgoing : List ToMember
  pub heard : List Heard
  pub failures : ℕ

-- this is so, where that went over the wire below
pub record IsWireState {W C : Type 0} (below : List WireEvent → Type 0) (k : WireState) (w : PacketWire W C) :
    Type 0 where
  pub traffic_is : below k.traffic
  pub outgoing_is : outgoing_of w ≡ k.outgoing
  pub heard_is : Hears (sealer_of w).start k.heard w.receiver
  pub failures_is : w.failures ≡ k.failures

-- the state of a wire: `es` went over the wire below, and `hs` was heard
abbrev pub state_of : {W C : Type 0} → (es : List WireEvent) → (hs : List Heard) → PacketWire W C → WireState
state_of es hs w = record { traffic = es; outgoing = outgoing_of w; heard = hs; failures = w.failures }

-- whatever went over the wire below and was heard, the wire gets to a state of which this holds
abbrev pub Leads : {W C : Type 0} → (traffic : W → List WireEvent → Type 0) → (w w' : PacketWire W C) →
    (how : (k k' : WireState) → Type 0) → Type 0
Leads traffic w w' how =
    (hs : List Heard) → Hears (sealer_of w).start hs (receiver_of w) → (es : List WireEvent) → traffic (inner_of w) es →
    (k : WireState) × how (state_of es hs w) k × IsWireState (traffic (inner_of w')) k w'

-- it stays this member's, with these keys
pub record IsSameMember {W C : Type 0} (w w' : PacketWire W C) : Type 0 where
  pub sealer_is : sealer_of w' ≡ sealer_of w
  pub keys_is : keys_of w' ≡ keys_of w

-- no packet is counted
pub record IsSameCount {W C : Type 0} (w w' : PacketWire W C) : Type 0 where
  pub dropped_is : w'.dropped ≡ w.dropped
  pub copies_is : w'.copies ≡ w.copies

-- the start of a member as it was last heard
abbrev pub start_of : List Heard → ℕ → Start
start_of hs m = (of_member hs m).known.start

-- what a wire sends of its own
pub data Duty : Type 0 where
  -- a packet of kind state to a member, if it is due
  State : (to : ℕ) → Duty
  -- to a member which pieces of a datagram of it have come, if that is due
  Report : (to : ℕ) → Duty
  -- to a member the pieces that it lacks of a datagram
  Again : (to : ℕ) → PiecesHeld → Duty

-- of a report that is due: the packet
abbrev pub reports : (to : ℕ) → (echo : Start) → Option PiecesHeld → List Unsealed
reports to echo None = []
reports to echo (Some held) = report to echo held ∷ []

-- the packets
abbrev pub packets_for : (now : ℕ) → WireState → Duty → List Unsealed
packets_for now k (State to) = states k.outgoing to (start_of k.heard to) now
packets_for now k (Report to) =
    reports to (start_of k.heard to) (due_held now (of_member k.heard to).unfinished)
packets_for now k (Again to held) = again (refilled_for k.outgoing to now) to (start_of k.heard to) held

-- the state as they go out: that the state was sent, or that it was reported
abbrev pub state_for : (now : ℕ) → WireState → Duty → WireState
state_for now k (State to) = record k { outgoing = stated_for k.outgoing to (start_of k.heard to) now }
state_for now k (Report to) = record k { heard = reported_of k.heard to now }
state_for now k (Again to held) = record k { outgoing = refilled_for k.outgoing to now }

-- a duty is done: its packets are sent, or one of them isn't, no later ones are, and that is counted
pub record Does (s : Sealer) (now : ℕ) (d : Duty) (k k' : WireState) : Type 0 where
  pub is_all : Bool
  pub sends : SendsUpTo s is_all (packets_for now k d) (λ more. k'.traffic ≡ k.traffic ++ more)
      (state_for now k d).outgoing k'.outgoing
  pub heard_is : k'.heard ≡ (state_for now k d).heard
  pub counts : Counts is_all k.failures k'.failures

-- duties one after another
abbrev pub DoesAll : Sealer → (now : ℕ) → List Duty → (k k' : WireState) → Type 0
DoesAll s now [] k k' = k' ≡ k
DoesAll s now (d ∷ ds) k k' = (between : WireState) × Does s now d k between × DoesAll s now ds between k'

-- those towards a member: its state, and at most 8 reports; none towards itself
abbrev pub duties : Sealer → (m : ℕ) → List Duty
duties s m = if is_other s m then State m ∷ replicate 8 (Report m) else []

-- those towards members, in order
abbrev pub duties_to : Sealer → List ℕ → List Duty
duties_to s ms = flat_map (duties s) ms

-- those before each receive and each wait
abbrev pub upkeep : Sealer → List Duty
upkeep s = duties_to s (range_with_len 0 s.members)

-- when a member is to be sent a packet of kind state next; never where it is this one
abbrev pub state_due : Sealer → List ToMember → List Heard → (m : ℕ) → ℕ
state_due s os hs m = if is_other s m then next_state (to_member os m) (start_of hs m) else 2 ^ 64 - 1

-- when a report is due first, if any is
abbrev pub report_due : Option ℕ → ℕ
report_due None = 2 ^ 64 - 1
report_due (Some t) = t

-- when a report or the state of one of the first n members is due first
abbrev pub due_of_first : Sealer → List ToMember → List Heard → (n : ℕ) → ℕ
due_of_first s os hs zero = report_due (due_of hs)
due_of_first s os hs (suc n) = min (due_of_first s os hs n) (state_due s os hs n)

-- when something is due first, in milliseconds since the wire was made
abbrev pub next_due : Sealer → List ToMember → List Heard → ℕ
next_due s os hs = due_of_first s os hs s.members

-- ---- what comes

-- header and body, where there is no fault
abbrev pub opened_as : Option PacketFault → List ℕ → Option (Header × List ℕ)
opened_as None b = Some (header_in (front_of b), drop 37 (front_of b))
opened_as (Some fault) b = None

-- header and body of a packet that is opened; nothing of one that isn't
abbrev pub opened : (keys : List (List ℕ)) → Sealer → List ℕ → Option (Header × List ℕ)
opened keys s b = opened_as (packet_fault keys s.cluster s.members s.me b) b

-- what the receiver gives of it
abbrev pub given_of : (mine : Start) → Memory → List Heard → Option (Header × List ℕ) → (now : ℕ) → Option Given
given_of mine m hs None now = None
given_of mine m hs (Some p) now = Some (given_by mine m hs p.0 p.1 now)

-- what is heard of each member then
abbrev pub heard_with : (mine : Start) → Memory → List Heard → Option (Header × List ℕ) → (now : ℕ) → List Heard
heard_with mine m hs None now = hs
heard_with mine m hs (Some p) now = heard_after mine m hs p.0 p.1 now

-- the datagram that is given; an empty one where it is none
abbrev pub datagram_of : Option Given → List ℕ
datagram_of None = []
datagram_of (Some (Whole m)) = m
datagram_of (Some (Joined m)) = m
datagram_of (Some (Held held)) = []
datagram_of (Some Nothing) = []
datagram_of (Some (Dropped a)) = []

-- what is to be done then: where its sender reports which pieces it has, it is sent those that it lacks
abbrev pub duties_of : Option (Header × List ℕ) → Option Given → List Duty
duties_of None g = []
duties_of (Some p) None = []
duties_of (Some p) (Some (Whole m)) = []
duties_of (Some p) (Some (Joined m)) = []
duties_of (Some p) (Some (Held held)) = Again p.0.from held ∷ []
duties_of (Some p) (Some Nothing) = []
duties_of (Some p) (Some (Dropped a)) = []

-- whether it isn't heard
abbrev pub is_dropped : Option Given → Bool
is_dropped None = true
is_dropped (Some (Whole m)) = false
is_dropped (Some (Joined m)) = false
is_dropped (Some (Held held)) = false
is_dropped (Some Nothing) = false
is_dropped (Some (Dropped a)) = true

abbrev pub is_other_machine : Arrival → Bool
is_other_machine arrivals.OtherMachine = true
is_other_machine arrivals.Accepted = false
is_other_machine arrivals.OldStart = false
is_other_machine arrivals.OtherEcho = false
is_other_machine arrivals.Repeated = false

-- whether it is of a copied or restored machine
abbrev pub is_copy : Option Given → Bool
is_copy None = false
is_copy (Some (Whole m)) = false
is_copy (Some (Joined m)) = false
is_copy (Some (Held held)) = false
is_copy (Some Nothing) = false
is_copy (Some (Dropped a)) = is_other_machine a

-- a count, one more where that is so
abbrev pub more_if : Bool → ℕ → ℕ
more_if b n = if b then one_more n else n

-- what comes of a packet in code
abbrev pub Comes : Option (Header × List ℕ) → Option Given → (room : ℕ) → Coming → (into : List ℕ) → Type 0
Comes p g room (coming.Given n) into =
    (n ≤ length into) × (take n into ≡ within room (datagram_of g)) × (duties_of p g ≡ []) × (is_dropped g ≡ false) ×
    (is_copy g ≡ false)
Comes p g room (coming.Held from held) into =
    (datagram_of g ≡ []) × (duties_of p g ≡ Again from held ∷ []) × (is_dropped g ≡ false) × (is_copy g ≡ false)
Comes p g room coming.Dropped into =
    (datagram_of g ≡ []) × (duties_of p g ≡ []) × (is_dropped g ≡ true) × (is_copy g ≡ false)
Comes p g room coming.OtherMachine into =
    (datagram_of g ≡ []) × (duties_of p g ≡ []) × (is_dropped g ≡ true) × (is_copy g ≡ true)

-- what is given is within the room
abbrev pub IsWithin : Coming → (into : List ℕ) → Type 0
IsWithin (coming.Given n) into = n ≤ length into
IsWithin (coming.Held from held) into = Unit {0}
IsWithin coming.Dropped into = Unit {0}
IsWithin coming.OtherMachine into = Unit {0}

-- bytes that came are heard: what is given of them, where there is room for it, and what is counted then
pub record Takes (keys : List (List ℕ)) (s : Sealer) (now : ℕ) (came : List ℕ) (room : ℕ) (given : List ℕ)
    (k k' : WireState) (dropped dropped' copies copies' : ℕ) : Type 0 where
  pub memory : Memory
  pub given_is :
      given ≡ within room (datagram_of (given_of s.start memory k.heard (opened keys s came) now))
  pub does :
      DoesAll s now (duties_of (opened keys s came) (given_of s.start memory k.heard (opened keys s came) now))
      (record k { heard = heard_with s.start memory k.heard (opened keys s came) now }) k'
  pub dropped_is : dropped' ≡ more_if (is_dropped (given_of s.start memory k.heard (opened keys s came) now)) dropped
  pub copies_is : copies' ≡ more_if (is_copy (given_of s.start memory k.heard (opened keys s came) now)) copies

-- the same of what the wire below received, if anything
abbrev pub TakesAny : (keys : List (List ℕ)) → Sealer → (now : ℕ) → (came : Option (List ℕ)) → (room : ℕ) →
    (given : Option (List ℕ)) → (k k' : WireState) → (dropped dropped' copies copies' : ℕ) → Type 0
TakesAny keys s now None room given k k' dropped dropped' copies copies' =
    (given ≡ None) × (k' ≡ k) × (dropped' ≡ dropped) × (copies' ≡ copies)
TakesAny keys s now (Some b) room None k k' dropped dropped' copies copies' = ⊥
TakesAny keys s now (Some b) room (Some g) k k' dropped dropped' copies copies' =
    Takes keys s now b room g k k' dropped dropped' copies copies'

-- a receive: first what is due is done; then the wire below is asked, which may fail; then what came is heard
pub record Received (keys : List (List ℕ)) (s : Sealer) (room : ℕ) (given : Option (List ℕ)) (k k' : WireState)
    (dropped dropped' copies copies' : ℕ) : Type 0 where
  pub now : ℕ
  pub before : WireState
  pub does : DoesAll s now (upkeep s) k before
  pub came : Option (List ℕ)
  pub failed : ℕ
  pub counts : before.failures ≤ failed
  pub takes : TakesAny keys s now came room given
      (record before { traffic = before.traffic ++ gives came; failures = failed }) k' dropped dropped' copies copies'

-- a wait: what is due is done, and the wire below is waited for, which may fail
pub record Waited (s : Sealer) (k k' : WireState) : Type 0 where
  pub now : ℕ
  pub before : WireState
  pub does : DoesAll s now (upkeep s) k before
  pub failed : ℕ
  pub counts : before.failures ≤ failed
  pub after : k' ≡ record before { failures = failed }

-- whether a datagram for a member can be sent: it is for another member, isn't empty, and isn't too long to be cut
abbrev pub can_send : Sealer → (to : ℕ) → List ℕ → Bool
can_send s to m = is_other s to && can_be_cut m

-- a send: the packets of the datagram were handed over and sent; or they were up to one that wasn't sent; or nothing
-- was, as where it can't be sent, or is to be cut and no name is left
pub record IsSent (s : Sealer) (to : ℕ) (m : List ℕ) (sent : Bool) (k k' : WireState) : Type 0 where
  pub now : ℕ
  pub can : IsTrue sent → can_send s to m ≡ true
  pub cannot : can_send s to m ≡ false →
      (k'.traffic ≡ k.traffic) × (k'.outgoing ≡ refilled_for k.outgoing to now)
  pub sends :
      ((sent ≡ false) × (k'.traffic ≡ k.traffic) × (k'.outgoing ≡ refilled_for k.outgoing to now)) ⊎
      (HasName (refilled_for k.outgoing to now) to m ×
      SendsUpTo s sent (packets_of (refilled_for k.outgoing to now) to (start_of k.heard to) m)
      (λ more. k'.traffic ≡ k.traffic ++ more) (kept_with (refilled_for k.outgoing to now) to m) k'.outgoing)
  pub heard_is : k'.heard ≡ k.heard

-- ---- traffic

-- a wire that is new, over one that is new
pub record IsNew (s : Sealer) (k : WireState) : Type 0 where
  pub traffic_is : k.traffic ≡ []
  pub outgoing_is : k.outgoing ≡ replicate s.members new_to
  pub heard_is : k.heard ≡ replicate s.members unheard

-- a call: a receive, which may give a datagram; a wait; or a send
pub data Call (keys : List (List ℕ)) (s : Sealer) (k k' : WireState) (more : List WireEvent) : Type 0 where
  Receive : (room : ℕ) (given : Option (List ℕ)) (dropped dropped' copies copies' : ℕ) →
      Received keys s room given k k' dropped dropped' copies copies' → more ≡ gives given → Call keys s k k' more
  Wait : Waited s k k' → more ≡ [] → Call keys s k k' more
  Send : (to : ℕ) (m : List ℕ) (sent : Bool) → IsSent s to m sent k k' → more ≡ Handed to m ∷ [] →
      Call keys s k k' more

-- n calls of a new wire, one after another, lead to this state, and this went over the wire in them, in order
abbrev pub Calls : (keys : List (List ℕ)) → Sealer → (n : ℕ) → (k : WireState) → (es : List WireEvent) → Type 0
Calls keys s zero k es = IsNew s k × (es ≡ [])
Calls keys s (suc n) k es =
    (j : WireState) × (before more : List WireEvent) × Calls keys s n j before × Call keys s j k more ×
    (es ≡ before ++ more)

-- this went over a wire of packets, where that is what went over the wire below
pub record WentSealed {W C : Type 0} (below : List WireEvent → Type 0) (w : PacketWire W C) (es : List WireEvent) :
    Type 0 where
  pub calls : ℕ
  pub state : WireState
  pub made : Calls (keys_of w) (sealer_of w) calls state es
  pub state_is : IsWireState below state w
