-- What is promised of members whose wires give no member's message but those that wires were handed, and requests.
use Rattle.std.specs.Prelude.{◌≡◌, ◌<◌, ℕ, false, List, [], ◌++◌, Some}
use Rattle.px_model.specs.Law.{Among, NoneTwice}
use Rattle.px_model.specs.Node.{Entry}
use Rattle.px_model.specs.Spelling.{Bytes}
use Rattle.px_model.specs.World.{NodeState, nothing_stored, started}
use Rattle.px_records.specs.declared.records.Records.{Ghosts}
use Rattle.px_wire.specs.Message.{Group}
use Rattle.px_replica.specs.Traces.{Traced}
use Rattle.pf_eval.specs.Verdicts.{judgement}
use Rattle.pf_eval.specs.declared.packet.Packet.{Packet}
use Rattle.pf_node.specs.declared.state.Node.{Node}
use Rattle.pf_node.specs.Nodes.{applied_of, config_of, has_failed, records_of, state_in}
use Rattle.pfx_laws.specs.Clusters.{MayAllHappen, after, begun}
use Rattle.pfx_laws.specs.Promised.{IsGroup}
use Rattle.pfx_laws.specs.Wires.{Stretch, AreStretches, AreCarried, trace_in, end_state, history_of}

-- These are stretches of members' traces in a cluster, in this order. The events of each member in its own, one after
-- another, are steps of the model from an empty record on. And the network gave a member no datagram but those that had
-- been handed to some wire for that member before, requests from outside, and what is no member's message to it.
pub record Goes (g : Group) (stretches : List Stretch) : Type 0 where
  pub group : IsGroup g
  pub are : AreStretches g stretches
  pub traced : (m : ℕ) → m < g.members → Traced g m (started nothing_stored) (trace_in m stretches)
      (end_state stretches m)
  pub carried : AreCarried g stretches []

-- the members' events are a history of the cluster, which leaves each of them in the state after its stretches
abbrev pub WiresAreHistories : Type 0
WiresAreHistories =
    (g : Group) (stretches : List Stretch) → Goes g stretches →
    MayAllHappen g (history_of stretches) begun ×
    ((m : ℕ) → (after (history_of stretches) begun).nodes m ≡ end_state stretches m)

-- a member in this state has the entry as learned
abbrev pub HasLearned : NodeState Bytes → (position : ℕ) → Entry Bytes → Type 0
HasLearned s p e = s.stored.learned p ≡ Some e

-- At a moment one member has an entry as learned, at that moment or later another has one: at one position they are one
-- entry, and one entry is at one position.
abbrev pub WiresNeverDiffer : Type 0
WiresNeverDiffer =
    (g : Group) (before more : List Stretch) → Goes g (before ++ more) →
    (i j p q : ℕ) (e f : Entry Bytes) → HasLearned (end_state before i) p e →
    HasLearned (end_state (before ++ more) j) q f →
    (p ≡ q → e ≡ f) × (e ≡ f → p ≡ q)

-- the entries whose commands were asked of members and accepted
abbrev pub asked_in : List Stretch → List (Entry Bytes)
asked_in stretches = (after (history_of stretches) begun).asked

-- What a member has as learned was asked and accepted before, and no entry was accepted twice; two that were, with one
-- origin and one number, are one.
abbrev pub WiresLearnWhatWasAsked : Type 0
WiresLearnWhatWasAsked =
    (g : Group) (stretches : List Stretch) → Goes g stretches →
    ((m p : ℕ) (e : Entry Bytes) → HasLearned (end_state stretches m) p e → Among (asked_in stretches) e) ×
    NoneTwice (asked_in stretches) ×
    ((e f : Entry Bytes) → Among (asked_in stretches) e → Among (asked_in stretches) f →
    e.origin ≡ f.origin → e.number ≡ f.number → e ≡ f)

-- the node is the member in this state; its record is honest: it returns what was written, and nobody else writes
pub record HasState {R : Type 0} {G : Ghosts R} (x : Node R G) (s : NodeState Bytes) : Type 0 where
  pub works : has_failed x ≡ false
  pub honest : G.is_honest (records_of x)
  pub state : s ≡ state_in x

-- At a moment and then or later: nodes that have applied equally many positions have one configuration, and give every
-- packet one verdict.
abbrev pub EquallyAppliedOverWires : {R Q : Type 0} → Ghosts R → Ghosts Q → Type 0
EquallyAppliedOverWires {R} {Q} G H =
    (g : Group) (before more : List Stretch) → Goes g (before ++ more) →
    (i j : ℕ) (x : Node R G) (y : Node Q H) →
    HasState x (end_state before i) → HasState y (end_state (before ++ more) j) → applied_of x ≡ applied_of y →
    (config_of x ≡ config_of y) × ((p : Packet) → judgement (config_of x) p ≡ judgement (config_of y) p)
