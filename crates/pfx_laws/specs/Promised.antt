-- What is promised of nodes over any records.
use Rattle.std.specs.Prelude.{◌≡◌, ℕ, ◌≤◌, false, List, ◌++◌, Some}
use Rattle.px_model.specs.Node.{Entry}
use Rattle.px_model.specs.World.{World, Event}
use Rattle.px_model.specs.Law.{Among, NoneTwice, Agree, Once, Kept, world_after}
use Rattle.px_model.specs.Spelling.{Bytes}
use Rattle.px_records.specs.declared.records.Records.{Ghosts}
use Rattle.px_wire.specs.Message.{Group}
use Rattle.px_replica.specs.Made.{same}
use Rattle.px_replica.specs.Spelled.{AreSpelled}
use Rattle.pf_eval.specs.Verdicts.{judgement}
use Rattle.pf_eval.specs.declared.packet.Packet.{Packet}
use Rattle.pf_node.specs.declared.state.Node.{Node}
use Rattle.pf_node.specs.Nodes.{applied_of, config_of, has_failed, records_of, state_in}
use Rattle.pfx_laws.specs.Clusters.{Cluster, ClusterEvent, begun, after, MayAllHappen}

-- The cluster is this world: its members are the world's, its datagrams spell the world's messages, in order, and what
-- was asked is what was asked in the world.
pub record IsWorld (g : Group) (c : Cluster) (w : World Bytes) : Type 0 where
  pub nodes : w.nodes ≡ c.nodes
  pub sent : AreSpelled g w.sent c.sent
  pub asked : w.asked ≡ c.asked

-- a cluster has 1 to 15 members
pub record IsGroup (g : Group) : Type 0 where
  pub some : 1 ≤ g.members
  pub few : g.members ≤ 15

-- the cluster is the world after these events
pub record IsRun (g : Group) (c : Cluster) : Type 0 where
  pub events : List (Event Bytes)
  pub world : IsWorld g c (world_after same g.members events)

-- whatever happens is a run of the world
abbrev pub HistoriesAreRuns : Type 0
HistoriesAreRuns =
    (g : Group) → IsGroup g → (history : List ClusterEvent) → MayAllHappen g history begun →
    IsRun g (after history begun)

-- whatever happens, the members agree, each entry acts once, and nothing learned is lost
abbrev pub NodesAgree : Type 0
NodesAgree =
    (g : Group) → IsGroup g → (history : List ClusterEvent) → MayAllHappen g history begun →
    (r : IsRun g (after history begun)) × Agree g.members (world_after same g.members r.events) ×
    Once (world_after same g.members r.events) × Kept (world_after same g.members r.events)

-- the member of the cluster has the entry as learned
abbrev pub HasLearned : Cluster → (member position : ℕ) → Entry Bytes → Type 0
HasLearned c m p e = (c.nodes m).stored.learned p ≡ Some e

-- Whatever happens: what a member has as learned was asked and accepted before, and no entry was accepted twice; two
-- that were, with one origin and one number, are one.
abbrev pub LearnWhatWasAsked : Type 0
LearnWhatWasAsked =
    (g : Group) → IsGroup g → (history : List ClusterEvent) → MayAllHappen g history begun →
    ((m p : ℕ) (e : Entry Bytes) → HasLearned (after history begun) m p e → Among (after history begun).asked e) ×
    NoneTwice (after history begun).asked ×
    ((e f : Entry Bytes) → Among (after history begun).asked e → Among (after history begun).asked f →
    e.origin ≡ f.origin → e.number ≡ f.number → e ≡ f)

-- At a moment one member has an entry as learned, at that moment or later another has one: at one position they are one
-- entry, and one entry is at one position.
abbrev pub NeverDiffer : Type 0
NeverDiffer =
    (g : Group) → IsGroup g → (before more : List ClusterEvent) → MayAllHappen g (before ++ more) begun →
    (i j p q : ℕ) (e f : Entry Bytes) →
    HasLearned (after before begun) i p e → HasLearned (after (before ++ more) begun) j q f →
    (p ≡ q → e ≡ f) × (e ≡ f → p ≡ q)

-- The node is this member of the cluster. Its record is honest: it answers what was written, and nobody else writes.
pub record IsNode {R : Type 0} {G : Ghosts R} (x : Node R G) (c : Cluster) (m : ℕ) : Type 0 where
  pub works : has_failed x ≡ false
  pub honest : G.is_honest (records_of x)
  pub state : c.nodes m ≡ state_in x

-- At a moment and then or later: nodes that have applied equally many positions have one configuration, and give every
-- packet one verdict.
abbrev pub EquallyApplied : {R Q : Type 0} → Ghosts R → Ghosts Q → Type 0
EquallyApplied {R} {Q} G H =
    (g : Group) → IsGroup g → (before more : List ClusterEvent) → MayAllHappen g (before ++ more) begun →
    (i j : ℕ) (x : Node R G) (y : Node Q H) →
    IsNode x (after before begun) i → IsNode y (after (before ++ more) begun) j → applied_of x ≡ applied_of y →
    (config_of x ≡ config_of y) × ((p : Packet) → judgement (config_of x) p ≡ judgement (config_of y) p)
