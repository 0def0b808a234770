-- A member's run at its socket: its trace, and what went over the socket meanwhile.
use Rattle.std.specs.Prelude.{◌≡◌, ℕ, Bool, true, false, List, [], ◌++◌}
use Rattle.std.specs.List.{AllByRecursion}
use Rattle.px_model.specs.Node.{Record}
use Rattle.px_model.specs.Spelling.{Bytes}
use Rattle.px_model.specs.World.{NodeState, started}
use Rattle.px_records.specs.declared.records.Records.{Ghosts}
use Rattle.px_wire.specs.Message.{Group, group}
use Rattle.px_wire.specs.declared.membership.Membership.{Membership}
use Rattle.px_replica.specs.Traces.{TraceEvent, Traced}
use Rattle.px_transport.specs.Wires.{WireEvent, given_in, handed_in, hands}
use Rattle.px_transport.specs.Loopback as loopback
use Rattle.px_transport.specs.Loopback.{Loop, IsQueue}
use Rattle.px_transport.specs.Sending.{Sealer}
use Rattle.px_transport.specs.Steps as steps
use Rattle.px_transport.specs.Steps.{Step, AreSteps}
use Rattle.node_loop.specs.Again.{AreAmong}
use Rattle.node_loop.specs.Moves.{Move, LeavesThere, trace_of, events_of, sent_by, AllFromMembers, AreMoves}
use Rattle.node_udp.specs.Members.{route_of}
use Rattle.node_udp.specs.Sockets as sockets
use Rattle.node_udp.specs.Sockets.{SocketEvent, Passage, IsSound}
use Rattle.node_udp.specs.declared.address.Address.{Address}

-- A member of the group ran from this record: this is its trace, and this its state at the end. Over its wire went its
-- moves, and then, where a call failed, what came for that call and after it, and what was handed over again. Of what
-- was to be handed over, the end may be lost; of what was given, nothing is.
-- So any prefix of a run is one, too, wherever it ends. If that is in a call, what came for the call is
-- unanswered, and of the record is left what a stop may leave. If it is after a call, before all that this sends was
-- handed over, the rest is lost. Each layer below is a list of steps up to then, so a prefix of it is one: a datagram
-- of which some packets were put counts as sent, and its other packets are no steps; one that the wire wasn't
-- handed yet is lost here; and what the wire kept of the member's own is what it keeps then. A packet that came when
-- nothing was made of it yet is given, and unanswered.
pub record Ran (g : Group) (m : ℕ) (first : Record Bytes) (events : List WireEvent) (trace : List TraceEvent)
    (end : NodeState Bytes) (unanswered : List Bytes) : Type 0 where
  pub moves : List Move
  pub does : trace ≡ trace_of moves
  pub traced : Traced g m (started first) (trace_of moves) end
  pub up : end.is_up ≡ true
  pub hears : Bool
  pub are : AreMoves g m hears moves [] []
  pub last : List WireEvent
  pub came : unanswered ≡ given_in last
  -- what was still to be handed over when it stopped
  pub lost : List (ℕ × Bytes)
  pub went : events ++ hands lost ≡ events_of moves ++ last
  pub again : AreAmong (handed_in last) (sent_by (trace_of moves))

-- The same over a wire that keeps what the member sends to itself: this went over the wire below.
pub record RanAbove (g : Group) (m : ℕ) (first : Record Bytes) (events : List WireEvent) (trace : List TraceEvent)
    (end : NodeState Bytes) (unanswered : List Bytes) : Type 0 where
  pub loops : List Loop
  pub kept : List Bytes
  pub queue : IsQueue loops [] kept
  pub below_is : events ≡ loopback.below_in loops
  pub ran : Ran g m first (loopback.above_in m loops) trace end unanswered

-- The same over a wire with a socket, without a key: this went over the socket.
pub record RanAt (g : Group) (m : ℕ) (first : Record Bytes) (events : List SocketEvent) (trace : List TraceEvent)
    (end : NodeState Bytes) (unanswered : List Bytes) : Type 0 where
  pub addresses : List Address
  pub me : ℕ
  pub passages : List Passage
  pub sound : AllByRecursion (IsSound addresses me) passages
  pub below_is : events ≡ sockets.below_in passages
  pub ran : RanAbove g m first (sockets.above_in passages) trace end unanswered

-- The same with a key, over a wire of packets that are opened with these keys and sealed so: this went over the socket.
pub record RanSealed (g : Group) (keys : List (List ℕ)) (s : Sealer) (m : ℕ) (first : Record Bytes)
    (events : List SocketEvent) (trace : List TraceEvent) (end : NodeState Bytes) (unanswered : List Bytes)
    : Type 0 where
  pub addresses : List Address
  pub me : ℕ
  pub passages : List Passage
  pub sound : AllByRecursion (IsSound addresses me) passages
  pub below_is : events ≡ sockets.below_in passages
  pub made : List Step
  pub packets_are : steps.below_in made ≡ sockets.above_in passages
  pub are : AreSteps keys s made []
  pub ran : RanAbove g m first (steps.above_in made) trace end unanswered

-- The member's record after its trace: it is that of the end, unless a call on it failed; and what a stop leaves of it
-- is that, or that with the change of one step more.
pub record Leaves {R : Type 0} (G : Ghosts R) (m : Membership) (back : R) (end : NodeState Bytes)
    (unanswered : List Bytes) : Type 0 where
  pub stays : G.failed back ≡ 0 → G.stored back ≡ end.stored
  pub stop : (left : Record Bytes) → G.may_leave back left → LeavesThere (group m) m.me unanswered end left

-- A run over a record, without a key, that ended: what went over its socket. All was handed over.
pub record RunsAt {R : Type 0} (G : Ghosts R) (m : Membership) (given back : R) (events : List SocketEvent) :
    Type 0 where
  pub trace : List TraceEvent
  pub end : NodeState Bytes
  pub unanswered : List Bytes
  pub ran : RanAt (group m) m.me (G.stored given) events trace end unanswered
  pub whole : ran.ran.ran.lost ≡ []
  pub leaves : Leaves G m back end unanswered

-- the same with a key
pub record RunsSealed {R : Type 0} (G : Ghosts R) (m : Membership) (keys : List (List ℕ)) (s : Sealer)
    (given back : R) (events : List SocketEvent) : Type 0 where
  pub trace : List TraceEvent
  pub end : NodeState Bytes
  pub unanswered : List Bytes
  pub ran : RanSealed (group m) keys s m.me (G.stored given) events trace end unanswered
  pub whole : ran.ran.ran.lost ≡ []
  pub leaves : Leaves G m back end unanswered

-- ---- asks from outside

-- A run without a key, of which what is sent goes to these addresses, as this member's. Where asks from outside aren't
-- heard, no step is for one.
abbrev pub RunsAtHearing : {R : Type 0} → Ghosts R → Membership → (hears : Bool) → (route : List (List ℕ) × ℕ) →
    (given back : R) → List SocketEvent → Type 0
RunsAtHearing G m hears route given back events =
    (run : RunsAt G m given back events) × (hears ≡ false → AllFromMembers run.trace)
    × (route_of run.ran.addresses run.ran.me ≡ route)

-- the same with a key
abbrev pub RunsSealedHearing : {R : Type 0} → Ghosts R → Membership → (hears : Bool) → (route : List (List ℕ) × ℕ) →
    (keys : List (List ℕ)) → Sealer → (given back : R) → List SocketEvent → Type 0
RunsSealedHearing G m hears route keys s given back events =
    (run : RunsSealed G m keys s given back events) × (hears ≡ false → AllFromMembers run.trace)
    × (route_of run.ran.addresses run.ran.me ≡ route)
