-- From the trace of each member to a history of all.
use Rattle.std.specs.Prelude.{◌<◌, ℕ, List, [], ◌∷◌, ◌++◌, nat_eq, if◌then◌else◌}
use Rattle.px_model.specs.Spelling.{Bytes}
use Rattle.px_model.specs.World.{NodeState, nothing_stored, started}
use Rattle.px_wire.specs.Message.{Group}
use Rattle.px_replica.specs.Traces.{TraceEvent, Traced}
use Rattle.px_replica.specs.Spelled.{for_members}
use Rattle.px_replica.specs.declared.datagram.Datagram.{Datagram}
use Rattle.pfx_laws.specs.Clusters.{ClusterEvent, IsDelivered, MayAllHappen, begun}

-- the member of an event
abbrev pub member_of : ClusterEvent → ℕ
member_of (ClusterEvent.Calls m x t out) = m
member_of (ClusterEvent.Stops m x left) = m
member_of (ClusterEvent.Opens m) = m

-- an event of the cluster, as one of its member
abbrev pub trace_event : ClusterEvent → TraceEvent
trace_event (ClusterEvent.Calls m x t out) = TraceEvent.Calls x t out
trace_event (ClusterEvent.Stops m x left) = TraceEvent.Stops x left
trace_event (ClusterEvent.Opens m) = TraceEvent.Opens

-- of all events, those of this member
abbrev pub trace_of : (m : ℕ) → List ClusterEvent → List TraceEvent
trace_of m [] = []
trace_of m (h ∷ hs) = if nat_eq m (member_of h) then trace_event h ∷ trace_of m hs else trace_of m hs

-- the events are of members alone
abbrev pub AreOfMembers : Group → List ClusterEvent → Type 0
AreOfMembers g [] = Unit {0}
AreOfMembers g (h ∷ hs) = (member_of h < g.members) × AreOfMembers g hs

-- Each datagram that a member received was handed out to it before, or asks from outside; these were handed out
-- already.
abbrev pub AreDelivered : Group → List ClusterEvent → (sent : List Datagram) → Type 0
AreDelivered g [] sent = Unit {0}
AreDelivered g (ClusterEvent.Calls m x t out ∷ hs) sent =
    IsDelivered g sent m x × AreDelivered g hs (sent ++ for_members out)
AreDelivered g (ClusterEvent.Stops m x left ∷ hs) sent = IsDelivered g sent m x × AreDelivered g hs sent
AreDelivered g (ClusterEvent.Opens m ∷ hs) sent = AreDelivered g hs sent

-- Any traces of members, each from an empty record, make a history, in any order of their events in which each datagram
-- that one received had been handed out to it before.
abbrev pub TracesAreHistories : Type 0
TracesAreHistories =
    (g : Group) (history : List ClusterEvent) → AreOfMembers g history →
    ((m : ℕ) → m < g.members → (t : NodeState Bytes) × Traced g m (started nothing_stored) (trace_of m history) t) →
    AreDelivered g history [] → MayAllHappen g history begun
