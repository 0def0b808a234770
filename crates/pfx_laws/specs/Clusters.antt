-- Nodes over any records, and their possible events, in the terms of a node's contracts.
use Rattle.std.specs.Prelude.{◌≡◌, ◌⊎◌, ◌<◌, ℕ, true, List, [], ◌∷◌, ◌++◌, Option, None, Some}
use Rattle.std.specs.Prelude.{slice_get, nat_eq, if◌then◌else◌}
use Rattle.px_model.specs.Node as node
use Rattle.px_model.specs.Node.{Record, Input, Entry, client}
use Rattle.px_model.specs.Node.Input.{Asks, Ticks, Comes}
use Rattle.px_model.specs.Step.{put}
use Rattle.px_model.specs.World.{NodeState, nothing_stored, started, command_of}
use Rattle.px_model.specs.Spelling.{Bytes}
use Rattle.px_wire.specs.Message.{Group, DatagramBytes}
use Rattle.px_wire.specs.Members.{as_sent}
use Rattle.px_replica.specs.Traces.{stopped, IsInput}
use Rattle.px_replica.specs.Made.{Makes, LeavesOne}
use Rattle.px_replica.specs.Spelled.{for_members}
use Rattle.px_replica.specs.declared.datagram.Datagram.{Datagram}

-- The members' records and volatile parts, all datagrams that were ever handed out to members, in order, and all
-- entries whose commands were ever asked and accepted, the last one first.
pub record Cluster : Type 0 where
  pub nodes : (member : ℕ) → NodeState Bytes
  pub sent : List Datagram
  pub asked : List (Entry Bytes)

-- nodes that were opened with empty records
abbrev pub begun : Cluster
begun = record { nodes = λ m. started nothing_stored; sent = []; asked = [] }

-- A command that is asked of a member is accepted where the member's next number goes up: its entry has the number that
-- was the next one.
abbrev pub asked_of : (m : ℕ) → (before after : Record Bytes) → Option Bytes → List (Entry Bytes)
asked_of m d e None = []
asked_of m d e (Some command) =
    if nat_eq e.meta.number d.meta.number then [] else
    (record { origin = m; number = d.meta.number; command = command } ∷ [])

-- An event of a member.
pub data ClusterEvent : Type 0 where
  -- a call on it returned Ok: this is its state then, and it handed out these datagrams
  Calls : (member : ℕ) (input : Input Bytes) (after : NodeState Bytes) (out : List Datagram) → ClusterEvent
  -- it stopped at some moment of a call, or its store failed, and the record was left so
  Stops : (member : ℕ) (input : Input Bytes) (left : Record Bytes) → ClusterEvent
  -- it was opened with the record that was left
  Opens : (member : ℕ) → ClusterEvent

-- The message comes in a datagram that was handed out to the member: at any time, and as often as it likes.
pub record WasSent (g : Group) (sent : List Datagram) (m sender : ℕ) (message : node.Message Bytes) : Type 0 where
  pub place : ℕ
  pub datagram : Datagram
  pub there : slice_get sent place ≡ Some datagram
  pub to_it : datagram.to ≡ m
  pub spelled : DatagramBytes g sender m (as_sent message) datagram.bytes.items

-- what comes as a datagram was handed out to the member, or is a request from outside
abbrev pub IsDelivered : Group → List Datagram → (m : ℕ) → Input Bytes → Type 0
IsDelivered g sent m (Asks command) = Unit {0}
IsDelivered g sent m Ticks = Unit {0}
IsDelivered g sent m (Comes sender message) = WasSent g sent m sender message ⊎ (sender ≡ client)

-- What may reach a member: a command that is asked, its clock, a message that was sent to it, or a request from
-- outside.
abbrev pub MayCome : Group → List Datagram → (m : ℕ) → Input Bytes → Type 0
MayCome g sent m x = IsInput g m x × IsDelivered g sent m x

-- a member that runs
pub record Runs (g : Group) (c : Cluster) (m : ℕ) : Type 0 where
  pub below : m < g.members
  pub is_up : (c.nodes m).is_up ≡ true

-- When it may happen. A call that answers Ok made a step of the model (the clause `made` of `ask`, `tick` and
-- `receive`), and whatever cut a call short left the record as it was, or with the change of its step (the clause
-- `stop`). A call that is refused, and a datagram that is ignored, change nothing.
abbrev pub MayHappen : Group → Cluster → ClusterEvent → Type 0
MayHappen g c (Calls m x t out) = Runs g c m × (MayCome g c.sent m x × Makes g m (c.nodes m) t x [] out)
MayHappen g c (Stops m x left) = Runs g c m × (MayCome g c.sent m x × LeavesOne g.members m (c.nodes m) x left)
MayHappen g c (Opens m) = m < g.members

-- the cluster's state then
abbrev pub next : Cluster → ClusterEvent → Cluster
next c (Calls m x t out) = record {
  nodes = put c.nodes m t;
  sent = c.sent ++ for_members out;
  asked = asked_of m (c.nodes m).stored t.stored (command_of x) ++ c.asked;
}
next c (Stops m x left) = record {
  nodes = put c.nodes m (stopped left);
  sent = c.sent;
  asked = asked_of m (c.nodes m).stored left (command_of x) ++ c.asked;
}
next c (Opens m) = record c { nodes = put c.nodes m (started (c.nodes m).stored) }

-- one after the other
abbrev pub after : List ClusterEvent → Cluster → Cluster
after [] c = c
after (h ∷ hs) c = after hs (next c h)

-- each may happen in its turn
abbrev pub MayAllHappen : Group → List ClusterEvent → Cluster → Type 0
MayAllHappen g [] c = Unit {0}
MayAllHappen g (h ∷ hs) c = MayHappen g c h × MayAllHappen g hs (next c h)
