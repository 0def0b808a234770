-- One turn of a node, and several in a row.
use Rattle.std.specs.Prelude.{◌≡◌, ◌≢◌, ◌⊎◌, ℕ, zero, suc, Bool, true, false, List, [], ◌∷◌, ◌++◌, map}
use Rattle.std.specs.Prelude.{Option, Some, None, Result}
use Rattle.px_model.specs.Law.{Among}
use Rattle.px_model.specs.Node.Input.{Ticks}
use Rattle.px_model.specs.Spelling.{Bytes}
use Rattle.px_records.specs.declared.records.Records.{Ghosts}
use Rattle.px_replica.specs.Calls.{Call, Receives}
use Rattle.px_replica.specs.Faults.{fault_of}
use Rattle.px_replica.specs.declared.datagram.Datagram.{Datagram}
use Rattle.px_replica.specs.declared.fault.NodeFault.{NodeFault}
use Rattle.px_replica.specs.declared.receiving.Received.{Received}
use Rattle.px_replica.specs.declared.state.Replica.{Replica}
use Rattle.px_transport.specs.Wires.{WireEvent, Gave, Handed, gives, hands}
use Rattle.px_wire.specs.Message.{Message, group, DatagramBytes}
use Rattle.px_replica.specs.Replicas.{membership_of}
use Rattle.node_loop.specs.Again.{AreAmong}
use Rattle.node_loop.specs.Resends.{kept_of, requests_of}
use Rattle.node_loop.specs.Resending.{IsKnown, came_in}
use Rattle.node_loop.specs.declared.turn_buffers.TurnBuffers.{TurnBuffers}
use Rattle.pf_node.specs.Nodes.{replica_of}
use Rattle.pf_node.specs.declared.state.Node.{Node}

-- What a node does in a turn: its clock ticks where nothing came, else what came is received.
abbrev pub Acts : {R : Type 0} {G : Ghosts R} → (s t : Replica R G) → (came : Option Bytes) → (out : List Datagram) →
    (answered : Option NodeFault) → Type 0
Acts s t None out answered = Call s t Ticks [] out answered
Acts s t (Some bytes) out answered =
    (received : Result Received NodeFault) × Receives s t bytes [] out received × (fault_of received ≡ answered)

-- the datagrams, as a wire is handed them
abbrev pub handed_over : List Datagram → List (ℕ × Bytes)
handed_over out = map (λ d. (d.to, d.bytes.items)) out

-- A member of a cluster with its wire and its buffers: its state; what went over the wire so far; what may be
-- handed to it again; the requests that are known where they come again; and whether asks from outside are heard.
pub record LoopState {R : Type 0} (G : Ghosts R) : Type 0 where
  pub replica : Replica R G
  pub traffic : List WireEvent
  pub kept : List (ℕ × Bytes)
  pub requests : List Bytes
  pub hears_asks : Bool

-- a node with its buffers, and what went over its wire
abbrev pub in_loop : {R : Type 0} {G : Ghosts R} → Node R G → (traffic : List WireEvent) → TurnBuffers → LoopState G
in_loop n traffic buffers = record {
  replica = replica_of n;
  traffic = traffic;
  kept = kept_of buffers.resender;
  requests = requests_of buffers.resender;
  hears_asks = buffers.hears_asks;
}

-- A turn is one call, for what the wire gave; then the wire was handed what is to be sent, each datagram once, in
-- order. After a fault nothing is to be sent.
pub record Turned {R : Type 0} {G : Ghosts R} (x y : LoopState G) (answered : Option NodeFault) : Type 0 where
  pub came : Option Bytes
  pub out : List Datagram
  pub acts : Acts x.replica y.replica came out answered
  pub went : y.traffic ≡ x.traffic ++ (gives came ++ hands (handed_over out))
  pub kept : AreAmong y.kept (x.kept ++ handed_over out)
  pub requests : AreAmong y.requests (x.requests ++ came_in came)
  pub hears : y.hears_asks ≡ x.hears_asks

-- where asks from outside aren't heard, what came, if it spells a message to the member, is of a member
abbrev pub IsHeard : {R : Type 0} {G : Ghosts R} → LoopState G → (came : Option Bytes) → Type 0
IsHeard x None = Unit {0}
IsHeard x (Some bytes) =
    x.hears_asks ≡ false → (from : ℕ) (message : Message) →
    DatagramBytes (group (membership_of x.replica)) from (membership_of x.replica).me message bytes → from ≢ 255

-- a turn for what is heard
abbrev pub HeardTurn : {R : Type 0} {G : Ghosts R} → (x y : LoopState G) → (answered : Option NodeFault) → Type 0
HeardTurn x y answered = (turn : Turned x y answered) × IsHeard x turn.came

-- A turn of the clock: nothing is received.
pub record Ticked {R : Type 0} {G : Ghosts R} (x y : LoopState G) (answered : Option NodeFault) : Type 0 where
  pub out : List Datagram
  pub call : Call x.replica y.replica Ticks [] out answered
  pub went : y.traffic ≡ x.traffic ++ hands (handed_over out)
  pub kept : AreAmong y.kept (x.kept ++ handed_over out)
  pub requests : y.requests ≡ x.requests
  pub hears : y.hears_asks ≡ x.hears_asks

-- A turn for a datagram that the wire gave.
pub record Took {R : Type 0} {G : Ghosts R} (x y : LoopState G) (answered : Option NodeFault) : Type 0 where
  pub bytes : Bytes
  pub out : List Datagram
  pub acts : Acts x.replica y.replica (Some bytes) out answered
  pub went : y.traffic ≡ x.traffic ++ (Gave bytes ∷ hands (handed_over out))
  pub kept : AreAmong y.kept (x.kept ++ handed_over out)
  pub requests : AreAmong y.requests (x.requests ++ came_in (Some bytes))
  pub hears : y.hears_asks ≡ x.hears_asks

-- nothing is done
pub record Same {R : Type 0} {G : Ghosts R} (x y : LoopState G) : Type 0 where
  pub replica : y.replica ≡ x.replica
  pub traffic : y.traffic ≡ x.traffic
  pub kept : y.kept ≡ x.kept
  pub requests : y.requests ≡ x.requests
  pub hears : y.hears_asks ≡ x.hears_asks

-- Nothing is done but that the wire is handed again some of what is kept.
pub record Resent {R : Type 0} {G : Ghosts R} (x y : LoopState G) : Type 0 where
  pub replica : y.replica ≡ x.replica
  pub again : List (ℕ × Bytes)
  pub among : AreAmong again x.kept
  pub went : y.traffic ≡ x.traffic ++ hands again
  pub kept : y.kept ≡ x.kept
  pub requests : y.requests ≡ x.requests
  pub hears : y.hears_asks ≡ x.hears_asks

-- the datagram is known to the member
abbrev pub IsKnownTo : {R : Type 0} {G : Ghosts R} → LoopState G → Bytes → Type 0
IsKnownTo x bytes =
    IsKnown (group (membership_of x.replica)) (membership_of x.replica).me x.hears_asks x.requests bytes

-- The wire gave a datagram that the node isn't shown, since it is known; some of what is kept may answer it.
pub record Passed {R : Type 0} {G : Ghosts R} (x y : LoopState G) : Type 0 where
  pub replica : y.replica ≡ x.replica
  pub bytes : Bytes
  pub known : IsKnownTo x bytes
  pub again : List (ℕ × Bytes)
  pub among : AreAmong again x.kept
  pub went : y.traffic ≡ x.traffic ++ (Gave bytes ∷ hands again)
  pub kept : y.kept ≡ x.kept
  pub requests : y.requests ≡ x.requests
  pub hears : y.hears_asks ≡ x.hears_asks

-- a datagram is given that is known, or one is handed over again that is kept
abbrev pub IsIdle : {R : Type 0} {G : Ghosts R} → LoopState G → WireEvent → Type 0
IsIdle x (Gave bytes) = IsKnownTo x bytes
IsIdle x (Handed to bytes) = Among x.kept (to, bytes)

-- Between two turns: the wire gave datagrams that are known, and was handed again some of what is kept.
pub record Between {R : Type 0} {G : Ghosts R} (x y : LoopState G) : Type 0 where
  pub replica : y.replica ≡ x.replica
  pub events : List WireEvent
  pub idle : (e : WireEvent) → Among events e → IsIdle x e
  pub went : y.traffic ≡ x.traffic ++ events
  pub kept : y.kept ≡ x.kept
  pub requests : y.requests ≡ x.requests
  pub hears : y.hears_asks ≡ x.hears_asks

-- the clock ticks if that is due
abbrev pub TickedIf : {R : Type 0} {G : Ghosts R} → Bool → (x y : LoopState G) → Type 0
TickedIf true x y = Ticked x y None
TickedIf false x y = Same x y

-- n turns without a fault, one after the other
abbrev pub Turns : {R : Type 0} {G : Ghosts R} → (turns : ℕ) → (x y : LoopState G) → Type 0
Turns zero x y = Between x y
Turns {G = G} (suc n) x z = (y : LoopState G) × (w : LoopState G) × Turns n x y × HeardTurn y w None × Between w z

-- nothing more is done, or a last turn ends with the fault
abbrev pub Ends : {R : Type 0} {G : Ghosts R} → (x y : LoopState G) → (answered : Option NodeFault) → Type 0
Ends x y None = Between x y
Ends x y (Some e) = HeardTurn x y (Some e)

-- Turns of the node lead from one to the other, however many, and between them nothing but what is sent again and what
-- is known; a fault is that of the last of them.
pub record Served {R : Type 0} {G : Ghosts R} (x z : LoopState G) (answered : Option NodeFault) : Type 0 where
  pub turns : ℕ
  pub then : LoopState G
  pub made : Turns turns x then
  pub last : Ends then z answered
