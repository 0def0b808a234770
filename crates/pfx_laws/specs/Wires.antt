-- The traces of members with their wires, in the order of their events, and what is required of the network.
use Rattle.std.specs.Prelude.{◌⊎◌, ◌<◌, ℕ, List, [], ◌∷◌, ◌++◌, map, nat_eq, if◌then◌else◌}
use Rattle.px_model.specs.Law.{Among}
use Rattle.px_model.specs.World.{NodeState, nothing_stored, started}
use Rattle.px_model.specs.Spelling.{Bytes}
use Rattle.px_wire.specs.Message.{Group}
use Rattle.px_replica.specs.Traces.{TraceEvent, stopped}
use Rattle.node_loop.specs.Moves.{messages_of, AreBrought, sent_by}
use Rattle.node_loop.specs.Resending.{IsOutside}
use Rattle.pfx_laws.specs.Clusters.{ClusterEvent}

-- A stretch of a member's trace: one event or several, and the datagrams that its wire gave meanwhile. What the wire
-- was handed meanwhile is what the member sent (`sent_by`), and some of that again.
pub record Stretch : Type 0 where
  pub member : ℕ
  pub trace : List TraceEvent
  pub gave : List Bytes

-- the trace of this member, over all stretches
abbrev pub trace_in : (member : ℕ) → List Stretch → List TraceEvent
trace_in m [] = []
trace_in m (x ∷ xs) = if nat_eq m x.member then x.trace ++ trace_in m xs else trace_in m xs

-- a member's state after this trace
abbrev pub led_to : NodeState Bytes → List TraceEvent → NodeState Bytes
led_to s [] = s
led_to s (TraceEvent.Calls x t out ∷ ds) = led_to t ds
led_to s (TraceEvent.Stops x left ∷ ds) = led_to (stopped left) ds
led_to s (TraceEvent.Opens ∷ ds) = led_to (started s.stored) ds

-- a member's state after these stretches, of one that began with an empty record
abbrev pub end_state : List Stretch → (member : ℕ) → NodeState Bytes
end_state stretches m = led_to (started nothing_stored) (trace_in m stretches)

-- each stretch is one of a member, and each message that it received there its wire gave it there, in a datagram
abbrev pub AreStretches : Group → List Stretch → Type 0
AreStretches g [] = Unit {0}
AreStretches g (x ∷ xs) =
    (x.member < g.members) × AreBrought g x.member x.gave (messages_of x.trace) × AreStretches g xs

-- ---- the network

-- The datagram was handed to some member's wire, for this member, at any time before and however often it is given. Or
-- it is no member's message to this member: what it spells, if anything, is a request from outside. So are garbage, a
-- datagram of another cluster, and the empty one that a wire gives in place of one that it drops.
abbrev pub IsCarried : Group → (handed : List (ℕ × Bytes)) → (member : ℕ) → Bytes → Type 0
IsCarried g handed m bytes = Among handed (m, bytes) ⊎ IsOutside g m bytes

-- So is each datagram that a wire gave in a stretch, by what wires were handed before that stretch began; these were
-- handed already.
abbrev pub AreCarried : Group → List Stretch → (handed : List (ℕ × Bytes)) → Type 0
AreCarried g [] handed = Unit {0}
AreCarried g (x ∷ xs) handed =
    ((bytes : Bytes) → Among x.gave bytes → IsCarried g handed x.member bytes) ×
    AreCarried g xs (handed ++ sent_by x.trace)

-- ---- the events of the cluster

-- an event of this member
abbrev pub cluster_event : (member : ℕ) → TraceEvent → ClusterEvent
cluster_event m (TraceEvent.Calls x t out) = ClusterEvent.Calls m x t out
cluster_event m (TraceEvent.Stops x left) = ClusterEvent.Stops m x left
cluster_event m TraceEvent.Opens = ClusterEvent.Opens m

-- the events of the members in these stretches, in order
abbrev pub history_of : List Stretch → List ClusterEvent
history_of [] = []
history_of (x ∷ xs) = map (cluster_event x.member) x.trace ++ history_of xs
