-- A member's run over its record and its wire.
use Rattle.std.specs.Prelude.{◌≡◌, ◌≢◌, ◌⊎◌, ℕ, Bool, true, false, List, [], ◌∷◌, ◌++◌, Option, Some, None}
use Rattle.px_model.specs.Node.{Record, Input}
use Rattle.px_model.specs.Step.{front}
use Rattle.px_model.specs.Spelling.{Bytes}
use Rattle.px_model.specs.World.{NodeState, started}
use Rattle.px_records.specs.declared.records.Records.{Ghosts}
use Rattle.px_transport.specs.Wires.{WireEvent, given_in, handed_in}
use Rattle.px_wire.specs.Message.{Group, group}
use Rattle.px_wire.specs.declared.membership.Membership.{Membership}
use Rattle.px_replica.specs.Calls.{OpenRefused}
use Rattle.px_replica.specs.Traces.{TraceEvent, Traced}
use Rattle.px_replica.specs.Traces.TraceEvent.{Stops, Opens}
use Rattle.node_loop.specs.Again.{AreAmong}
use Rattle.px_replica.specs.declared.fault.NodeFault.{NodeFault}
use Rattle.px_replica.specs.declared.fault.NodeFault.TheVariants as fault
use Rattle.pf_node.specs.Nodes.{replica_of, records_of, learned_by, membership_of, has_failed, state_in, applied_of}
use Rattle.pf_node.specs.declared.state.Node.{Node}
use Rattle.node_loop.specs.Turns.{LoopState, Served}
use Rattle.node_loop.specs.Hosting.{Hosted}
use Rattle.node_loop.specs.Moves.{message_in, AllFromMembers, AreBrought, sent_by, LeavesThere}
use Rattle.node_loop.specs.Moves.{Move, trace_of, events_of, AreMoves}
use Rattle.node_loop.specs.declared.ended.Ended.{Ended}
use Rattle.node_loop.specs.declared.ended.Ended.TheVariants.{Front, Stopped, Fault, NoWire, NoControlSocket, NoPort}

-- ---- a run

-- the buffers of a run: what may be handed to the wire again, the requests that are known where they come again, and
-- whether asks from outside are heard
pub record Buffers : Type 0 where
  pub kept : List (ℕ × Bytes)
  pub requests : List Bytes
  pub hears_asks : Bool

-- those with which a run begins
abbrev pub new_buffers : (hears_asks : Bool) → Buffers
new_buffers hears = record { kept = []; requests = []; hears_asks = hears }

-- a node with what went over its wire, and its buffers
abbrev pub run_state : {R : Type 0} {G : Ghosts R} → Node R G → (traffic : List WireEvent) → Buffers → LoopState G
run_state n traffic b = record {
  replica = replica_of n;
  traffic = traffic;
  kept = b.kept;
  requests = b.requests;
  hears_asks = b.hears_asks;
}

-- The end of turns after which n positions are learned without a gap and this many are applied: these two numbers, or
-- the fault. Where there is no wire, or it is out of memory before the first turn, none is made.
abbrev pub Reports : (front applied : ℕ) → (answered : Option NodeFault) → Ended → Type 0
Reports n applied None ended = (ended ≡ Front n applied) ⊎ ((ended ≡ NoWire) ⊎ (ended ≡ Fault fault.Memory))
Reports n applied (Some e) ended = ended ≡ Fault e

-- this holds where all turns were made
abbrev pub OnFront : Ended → (holds : Type 0) → Type 0
OnFront (Front n applied) holds = holds
OnFront (Stopped n applied) holds = Unit {0}
OnFront (Fault e) holds = Unit {0}
OnFront NoWire holds = Unit {0}
OnFront NoControlSocket holds = Unit {0}
OnFront NoPort holds = Unit {0}

-- so ends the run of a member that has no wire: with that, or with the fault for which its record isn't opened
abbrev pub EndsWireless : Ended → Type 0
EndsWireless ended = (ended ≡ NoWire) ⊎ ((e : NodeFault) × (ended ≡ Fault e))

-- turns of the node and nothing else led from one to the other; the first list went over its wire before, the second
-- by the end
pub record Serves {R : Type 0} {G : Ghosts R} (s t : Node R G) (w v : List WireEvent) (ended : Ended) : Type 0 where
  pub answered : Option NodeFault
  pub hears : Bool
  pub buffers : Buffers
  pub served : Served (run_state s w (new_buffers hears)) (run_state t v buffers) answered
  pub reported : Reports (front (learned_by t)) (applied_of t) answered ended

-- The same where commands are asked between turns, as at a control socket, and the end too. If that socket or its port
-- is missing, no turn is made.
abbrev pub HostReports : (front applied : ℕ) → (answered : Option NodeFault) → Ended → Type 0
HostReports n applied None ended =
    Reports n applied None ended ⊎ ((ended ≡ Stopped n applied) ⊎ ((ended ≡ NoControlSocket) ⊎ (ended ≡ NoPort)))
HostReports n applied (Some e) ended = Reports n applied (Some e) ended

-- turns of the node, and commands asked of it between them, led from one to the other, and these went over its wire;
-- asks from outside were heard or weren't
pub record Hosts {R : Type 0} {G : Ghosts R} (s t : Node R G) (w v : List WireEvent) (hears : Bool) (ended : Ended) :
    Type 0 where
  pub answered : Option NodeFault
  pub buffers : Buffers
  pub hosted : Hosted (run_state s w (new_buffers hears)) (run_state t v buffers) answered
  pub reported : HostReports (front (learned_by t)) (applied_of t) answered ended

-- A record is opened, the node goes on in some way, and the record is given back.
pub record OneRun {R : Type 0} (G : Ghosts R) (How : (s t : Node R G) → Type 0) (m : Membership) (given back : R) :
    Type 0 where
  pub begun : Node R G
  pub done : Node R G
  -- it is opened
  pub membership : membership_of begun ≡ m
  pub works : has_failed begun ≡ false
  pub was : G.is_honest (records_of begun) → G.is_honest given
  pub starts : G.is_honest (records_of begun) → state_in begun ≡ started (G.stored given)
  pub stop : G.is_honest (records_of begun) → (left : Record Bytes) → G.may_leave (records_of begun) left →
      G.may_leave given left
  -- it goes on
  pub went : How begun done
  -- it is given back
  pub closed : back ≡ records_of done

-- a record isn't opened, and nothing goes over the wire
abbrev pub IsUnopened : {R : Type 0} → (G : Ghosts R) → Membership → (given : R) → (w v : List WireEvent) → Ended →
    (back : R) → Type 0
IsUnopened G m given w v ended back =
    (e : NodeFault) × (ended ≡ Fault e) × OpenRefused G m.members given e back × (v ≡ w)

-- it isn't opened; or it is, and turns are made over the wire and nothing else is done
abbrev pub Runs : {R : Type 0} → (G : Ghosts R) → Membership → (given : R) → (w v : List WireEvent) → Ended →
    (back : R) → Type 0
Runs G m given w v ended back =
    IsUnopened G m given w v ended back ⊎ OneRun G (λ s t. Serves s t w v ended) m given back

-- the same where commands are asked between turns, and asks from outside are heard or aren't
abbrev pub HostedRuns : {R : Type 0} → (G : Ghosts R) → Membership → (hears : Bool) → (given : R) →
    (w v : List WireEvent) → Ended → (back : R) → Type 0
HostedRuns G m hears given w v ended back =
    IsUnopened G m given w v ended back ⊎ OneRun G (λ s t. Hosts s t w v hears ended) m given back

-- ---- a run

-- The member made steps of the model, one after the other, from what its record held on, up to the call that failed, if
-- one did. That is what the record holds then, unless a call on it failed; and what a stop leaves of it is that, or
-- that with the change of the next step.
-- What went over the wire meanwhile are the member's moves: each message that came was given in its place, and what
-- each step sends was handed over after it, each datagram once, in order; and last what came for the call that failed
-- and after it, and what was handed over again.
pub record TracedOver {R : Type 0} (G : Ghosts R) (m : Membership) (given back : R) (w v : List WireEvent) :
    Type 0 where
  pub moves : List Move
  pub then : NodeState Bytes
  pub traced : Traced (group m) m.me (started (G.stored given)) (trace_of moves) then
  pub up : then.is_up ≡ true
  pub hears : Bool
  pub are : AreMoves (group m) m.me hears moves [] []
  pub members : hears ≡ false → AllFromMembers (trace_of moves)
  pub last : List WireEvent
  pub went : v ≡ w ++ (events_of moves ++ last)
  pub again : AreAmong (handed_in last) (sent_by (trace_of moves))
  pub stays : G.failed back ≡ 0 → G.stored back ≡ then.stored
  pub stop : (left : Record Bytes) → G.may_leave back left → LeavesThere (group m) m.me (given_in last) then left

-- a run over a record that is honest when it is given back is a trace of the model; and no call on the record failed,
-- unless the run ends with a fault of the store
abbrev pub RunsAreTraces : {R : Type 0} → Ghosts R → Type 0
RunsAreTraces {R} G =
    (m : Membership) (given back : R) (w v : List WireEvent) (ended : Ended) → G.is_honest back →
    OneRun G (λ s t. Serves s t w v ended) m given back →
    TracedOver G m given back w v × (ended ≢ Fault fault.Store → G.failed back ≡ 0)

-- the same of runs with commands asked between turns, as at a control socket; asks from outside are heard where the run
-- hears them
abbrev pub HostedRunsAreTraces : {R : Type 0} → Ghosts R → Type 0
HostedRunsAreTraces {R} G =
    (m : Membership) (given back : R) (w v : List WireEvent) (hears : Bool) (ended : Ended) → G.is_honest back →
    OneRun G (λ s t. Hosts s t w v hears ended) m given back → (l : TracedOver G m given back w v) × (l.hears ≡ hears)

-- ---- one trace of several runs

-- A run begins the member's trace; or before it a stop cut a call short, for a message that one of these datagrams
-- brought if it was for one, and the member was opened.
abbrev pub IsStart : Group → (me : ℕ) → (gave : List Bytes) → List TraceEvent → Type 0
IsStart g me gave ds =
    (ds ≡ []) ⊎ ((input : Input Bytes) × (left : Record Bytes) × AreBrought g me gave (message_in input) ×
    (ds ≡ Stops input left ∷ Opens ∷ []))

-- In these runs, the latest first, each over a wire of its own, this is the member's trace, and these events are the
-- last ones, since a call failed in the latest. A run is what went over its wire in it: the member's moves, and then,
-- where a call failed, what came for it and after it, and what was handed over again.
abbrev pub AreOver : Group → (me : ℕ) → (runs : List (List WireEvent)) → List TraceEvent → (last : List WireEvent) →
    Type 0
AreOver g me [] ds last = (ds ≡ []) × (last ≡ [])
AreOver g me (es ∷ runs) ds last =
    (before : List TraceEvent) × (lost : List WireEvent) × (start : List TraceEvent) × (hears : Bool) ×
    (moves : List Move) ×
    AreOver g me runs before lost × IsStart g me (given_in lost) start × AreMoves g me hears moves [] [] ×
    (es ≡ events_of moves ++ last) × AreAmong (handed_in last) (sent_by (trace_of moves)) ×
    (ds ≡ before ++ (start ++ trace_of moves))

-- Steps of the model at this member, one after the other, from an opening of this record on, through these runs, the
-- latest first.
pub record RunTrace {R : Type 0} (G : Ghosts R) (m : Membership) (first : Record Bytes) (back : R)
    (runs : List (List WireEvent)) : Type 0 where
  pub trace : List TraceEvent
  pub then : NodeState Bytes
  pub traced : Traced (group m) m.me (started first) trace then
  pub up : then.is_up ≡ true
  pub last : List WireEvent
  pub over : AreOver (group m) m.me runs trace last
  pub stays : G.failed back ≡ 0 → G.stored back ≡ then.stored
  pub stop : (left : Record Bytes) → G.may_leave back left → LeavesThere (group m) m.me (given_in last) then left

-- A run is one trace. Where the next one finds what a stop may have left, both are one trace: so are all that follow
-- one another over one store, each over a wire over which nothing went before.
pub record RunsGoOn {R : Type 0} (G : Ghosts R) : Type 0 where
  pub one : (m : Membership) (given back : R) (es : List WireEvent) → TracedOver G m given back [] es →
      RunTrace G m (G.stored given) back (es ∷ [])
  pub next : (m : Membership) (first : Record Bytes) (back given end : R) (runs : List (List WireEvent))
      (es : List WireEvent) → RunTrace G m first back runs → G.may_leave back (G.stored given) →
      TracedOver G m given end [] es → RunTrace G m first end (es ∷ runs)
