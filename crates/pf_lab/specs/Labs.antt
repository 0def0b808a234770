-- When a lab is a world.
use Rattle.std.specs.Prelude.{◌≡◌, ℕ, true, false, List, length, slice_get, Some}
use Rattle.px_model.specs.World.{World, NodeState}
use Rattle.px_model.specs.Spelling.{Bytes}
use Rattle.px_wire.specs.declared.membership.Membership.{Membership}
use Rattle.px_wire.specs.Message.{Group, group}
use Rattle.px_replica.specs.Spelled.{AreSpelled}
use Rattle.px_replica.specs.declared.datagram.Datagram.{Datagram}
use Rattle.px_replica.specs.Seen.{IsSound}
use Rattle.px_records.specs.declared.records.Records.{Ghosts}
use Rattle.pf_node.specs.declared.state.Node.{Node}
use Rattle.pf_node.specs.Nodes.{state_in, membership_of, learned_by, has_failed, records_of}
use Rattle.pf_lab.specs.declared.host.Host.{Host}
use Rattle.pf_lab.specs.declared.state.Lab.{Lab}

-- the member of the world that a host is
abbrev pub state_of : Host → NodeState Bytes
state_of s = record { is_up = s.is_up; stored = (state_in s.node).stored; volatile = (state_in s.node).volatile }

-- the membership of the node of a host
abbrev pub group_of : Host → Membership
group_of s = membership_of s.node

-- a member of the lab is the m-th of the world
pub record IsHost (w : World Bytes) (g : Group) (m : ℕ) (s : NodeState Bytes) (p : Membership) : Type 0 where
  pub here : w.nodes m ≡ s
  pub group : group p ≡ g
  pub me : p.me ≡ m

-- These members and these datagrams are the world: the members are the world's, and its messages, in order, are
-- spelled.
pub record AreWorld {M : Type 0} (members : List M) (state_of : M → NodeState Bytes) (group_of : M → Membership)
    (g : Group) (sent : List Datagram) (w : World Bytes) : Type 0 where
  pub count : length members ≡ g.members
  pub hosts : (m : ℕ) (x : M) → slice_get members m ≡ Some x → IsHost w g m (state_of x) (group_of x)
  pub is_spelled : AreSpelled g w.sent sent

-- the nodes of the hosts, with the datagrams sent, are the world's
abbrev pub HostsAre : List Host → Group → List Datagram → World Bytes → Type 0
HostsAre hosts g sent w = AreWorld hosts state_of group_of g sent w

-- the lab is the world
abbrev pub IsWorld : Lab → Group → World Bytes → Type 0
IsWorld lab g w = HostsAre lab.hosts.items g lab.sent.items w

-- A node shows a member that runs: its record, what it learned, and that the record is sound.
pub record IsShown {R : Type 0} {G : Ghosts R} (s : NodeState Bytes) (n : Node R G) : Type 0 where
  pub up : s.is_up ≡ true
  pub stored : s.stored ≡ (state_in n).stored
  pub learned : s.stored.learned ≡ learned_by n
  pub works : has_failed n ≡ false
  pub honest : G.is_honest (records_of n)
  pub sound : IsSound (membership_of n).members s.stored

-- a lab's cluster of that many members
abbrev pub cluster_of : ℕ → Group
cluster_of n = record { cluster = 0; members = n }
