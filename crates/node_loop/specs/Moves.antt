-- A node's trace in its turns, in the terms of the law of nodes, and what goes over its wire meanwhile.
use Rattle.std.specs.Prelude.{◌≡◌, ◌≢◌, ◌⊎◌, ℕ, Bool, true, false, List, [], ◌∷◌, ◌++◌, Option, None, Some}
use Rattle.px_model.specs.Law.{Among}
use Rattle.px_model.specs.Node as node
use Rattle.px_model.specs.Node.{Record, Input}
use Rattle.px_model.specs.Node.Input.{Asks, Ticks, Comes}
use Rattle.px_model.specs.Spelling.{Bytes}
use Rattle.px_model.specs.World.{NodeState}
use Rattle.px_records.specs.declared.records.Records.{Ghosts}
use Rattle.px_wire.specs.Message.{Group, group, DatagramBytes}
use Rattle.px_wire.specs.Members.{as_sent}
use Rattle.px_transport.specs.Wires.{WireEvent, Gave, Handed, given_in, handed_in, gives, hands}
use Rattle.px_replica.specs.Traces.{TraceEvent, IsInput, Traced}
use Rattle.px_replica.specs.Traces.TraceEvent.{Calls, Stops, Opens}
use Rattle.px_replica.specs.Made.{LeavesOne}
use Rattle.px_replica.specs.Replicas.{records_of, membership_of, has_failed, state_in}
use Rattle.px_replica.specs.declared.datagram.Datagram.{Datagram}
use Rattle.px_replica.specs.declared.fault.NodeFault.{NodeFault}
use Rattle.px_replica.specs.declared.fault.NodeFault.TheVariants as fault
use Rattle.node_loop.specs.Again.{AreAmong}
use Rattle.node_loop.specs.Hosting.{Hosted}
use Rattle.node_loop.specs.Resending.{IsPassedOver, came_in}
use Rattle.node_loop.specs.Turns.{LoopState, Served, handed_over}

-- ---- what comes

-- a message with its sender
abbrev pub Heard : Type 0
Heard = ℕ × node.Message Bytes

-- the message that an input is, if it is one
abbrev pub message_in : Input Bytes → List Heard
message_in (Asks command) = []
message_in Ticks = []
message_in (Comes sender message) = (sender, message) ∷ []

-- the messages that the member received, in order: in calls that returned, and in those that a stop cut short
abbrev pub messages_of : List TraceEvent → List Heard
messages_of [] = []
messages_of (Calls x t out ∷ ds) = message_in x ++ messages_of ds
messages_of (Stops x left ∷ ds) = message_in x ++ messages_of ds
messages_of (Opens ∷ ds) = messages_of ds

-- each of them came from a member: none is an ask from outside
abbrev pub AllFromMembers : List TraceEvent → Type 0
AllFromMembers ds = (x : Heard) → Among (messages_of ds) x → x.0 ≢ 255

-- each of the messages is spelled by one of the datagrams
abbrev pub AreBrought : Group → (me : ℕ) → (gave : List Bytes) → List Heard → Type 0
AreBrought g me gave xs =
    (x : Heard) → Among xs x → (bytes : Bytes) × Among gave bytes × DatagramBytes g x.0 me (as_sent x.1) bytes

-- ---- what is sent

-- what the member's calls handed out, as its wire is handed it, in order
abbrev pub sent_by : List TraceEvent → List (ℕ × Bytes)
sent_by [] = []
sent_by (Calls x t out ∷ ds) = handed_over out ++ sent_by ds
sent_by (Stops x left ∷ ds) = sent_by ds
sent_by (Opens ∷ ds) = sent_by ds

-- ---- what a member does with its wire

-- what it does, one thing after another
pub data Move : Type 0 where
  -- a call answers, for a datagram that the wire gave or for none; then the wire is handed what is to be sent
  Does : (came : Option Bytes) (input : Input Bytes) (then : NodeState Bytes) (out : List Datagram) → Move
  -- a datagram is given and passed over
  Passes : (bytes : Bytes) → Move
  -- a datagram is handed over again
  Repeats : (to : ℕ) (bytes : Bytes) → Move

-- its calls
abbrev pub trace_of : List Move → List TraceEvent
trace_of [] = []
trace_of (Does came input then out ∷ ms) = Calls input then out ∷ trace_of ms
trace_of (Passes bytes ∷ ms) = trace_of ms
trace_of (Repeats to bytes ∷ ms) = trace_of ms

-- what goes over the wire
abbrev pub events_of : List Move → List WireEvent
events_of [] = []
events_of (Does came input then out ∷ ms) = (gives came ++ hands (handed_over out)) ++ events_of ms
events_of (Passes bytes ∷ ms) = Gave bytes ∷ events_of ms
events_of (Repeats to bytes ∷ ms) = Handed to bytes ∷ events_of ms

-- what the wire gives
abbrev pub came_by : List Move → List Bytes
came_by [] = []
came_by (Does came input then out ∷ ms) = came_in came ++ came_by ms
came_by (Passes bytes ∷ ms) = bytes ∷ came_by ms
came_by (Repeats to bytes ∷ ms) = came_by ms

-- the input is the message that the datagram spells; or there is no datagram, and it is none
abbrev pub IsBrought : Group → (me : ℕ) → (came : Option Bytes) → Input Bytes → Type 0
IsBrought g me None (Asks command) = Unit {0}
IsBrought g me None Ticks = Unit {0}
IsBrought g me None (Comes sender message) = ⊥
IsBrought g me (Some bytes) (Asks command) = ⊥
IsBrought g me (Some bytes) Ticks = ⊥
IsBrought g me (Some bytes) (Comes sender message) = DatagramBytes g sender me (as_sent message) bytes

-- Each message that comes is spelled by the datagram in its place; what is passed over is no message to the member, or
-- known; and what is handed over again was kept or handed over before. These came before, and these are kept.
abbrev pub AreMoves : Group → (me : ℕ) → (hears_asks : Bool) → List Move → (before : List Bytes) →
    (kept : List (ℕ × Bytes)) → Type 0
AreMoves g me hears [] before kept = Unit {0}
AreMoves g me hears (Does came input then out ∷ ms) before kept =
    IsBrought g me came input × AreMoves g me hears ms (before ++ came_in came) (kept ++ handed_over out)
AreMoves g me hears (Passes bytes ∷ ms) before kept =
    IsPassedOver g me hears before bytes × AreMoves g me hears ms (before ++ bytes ∷ []) kept
AreMoves g me hears (Repeats to bytes ∷ ms) before kept =
    Among kept (to, bytes) × AreMoves g me hears ms before kept

-- ---- a run

-- What a stop leaves of a member: its record, or with the change of one step more. If that step is for a message, one
-- of these datagrams brought it.
abbrev pub LeavesThere : Group → (me : ℕ) → (gave : List Bytes) → NodeState Bytes → Record Bytes → Type 0
LeavesThere g me gave s left =
    (x : Input Bytes) × IsInput g me x × AreBrought g me gave (message_in x) × LeavesOne g.members me s x left

-- The member made steps of the model, one after the other, up to the call that failed, if one did. Its state is the one
-- after them, unless a call on its record failed; and whenever it stops it leaves its record as it was then, or with
-- the change of the next step.
-- Its moves are what went over its wire: each message that it received was given in its place, and what each step sends
-- was handed over after it, each datagram once, in order. And then, where a call failed, what came for that call and
-- after it, and what was handed over again.
pub record HasTrace {R : Type 0} {G : Ghosts R} (x z : LoopState G) (answered : Option NodeFault) : Type 0 where
  pub moves : List Move
  pub then : NodeState Bytes
  pub traced : Traced (group (membership_of x.replica)) (membership_of x.replica).me (state_in x.replica)
      (trace_of moves) then
  pub up : then.is_up ≡ true
  -- the wire
  pub are : AreMoves (group (membership_of x.replica)) (membership_of x.replica).me x.hears_asks moves x.requests x.kept
  pub members : x.hears_asks ≡ false → AllFromMembers (trace_of moves)
  pub last : List WireEvent
  pub went : z.traffic ≡ x.traffic ++ (events_of moves ++ last)
  pub again : AreAmong (handed_in last) (x.kept ++ sent_by (trace_of moves))
  -- the buffers
  pub kept : AreAmong z.kept (x.kept ++ sent_by (trace_of moves))
  pub requests : AreAmong z.requests (x.requests ++ (came_by moves ++ given_in last))
  pub hears : z.hears_asks ≡ x.hears_asks
  -- the end
  pub stays : G.failed (records_of z.replica) ≡ 0 → state_in z.replica ≡ then
  pub stop : (left : Record Bytes) → G.may_leave (records_of z.replica) left →
      LeavesThere (group (membership_of x.replica)) (membership_of x.replica).me (given_in last) then left
  -- runs can follow one another: where no call failed, all that the wire gave has come
  pub whole : answered ≡ None → last ≡ []
  pub membership : membership_of z.replica ≡ membership_of x.replica

-- Any turns of a node, over a record that is honest when they end, are steps of the model at that member, its trace;
-- and no call on its record failed, unless they end with a fault of the store.
abbrev pub TurnsAreTraces : {R : Type 0} → Ghosts R → Type 0
TurnsAreTraces G =
    (x z : LoopState G) (answered : Option NodeFault) → G.is_honest (records_of z.replica) →
    has_failed x.replica ≡ false → Served x z answered →
    HasTrace x z answered × (answered ≢ Some fault.Store → G.failed (records_of z.replica) ≡ 0)

-- The same of turns with commands asked between them.
abbrev pub HostingsAreTraces : {R : Type 0} → Ghosts R → Type 0
HostingsAreTraces G =
    (x z : LoopState G) (answered : Option NodeFault) → G.is_honest (records_of z.replica) →
    has_failed x.replica ≡ false → Hosted x z answered → HasTrace x z answered
