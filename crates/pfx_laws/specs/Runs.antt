-- Runs of members over their wires, as stretches of their traces.
use Rattle.std.specs.Prelude.{◌≡◌, ◌<◌, ℕ, List, [], ◌∷◌, ◌++◌, Option}
use Rattle.px_model.specs.Node.{Record, Input}
use Rattle.px_model.specs.Spelling.{Bytes}
use Rattle.px_model.specs.World.{NodeState, nothing_stored, started}
use Rattle.px_records.specs.declared.records.Records.{Ghosts}
use Rattle.px_wire.specs.Message.{Group, group}
use Rattle.px_replica.specs.Traces.{Traced}
use Rattle.px_replica.specs.Traces.TraceEvent.{Stops, Opens}
use Rattle.px_replica.specs.Replicas.{records_of, membership_of, state_in}
use Rattle.px_replica.specs.declared.fault.NodeFault.{NodeFault}
use Rattle.node_loop.specs.Turns.{LoopState}
use Rattle.px_transport.specs.Wires.{given_in}
use Rattle.node_loop.specs.Moves.{messages_of, trace_of, came_by, AreBrought, HasTrace}
use Rattle.pfx_laws.specs.Promised.{IsGroup}
use Rattle.pfx_laws.specs.Wires.{Stretch, AreStretches, AreCarried, trace_in, led_to, end_state}
use Rattle.pfx_laws.specs.Carried.{Goes}

-- ---- from a trace to a stretch

-- The member of the group made steps of the model, one after the other, from there on; and each message that it
-- received its wire gave it in a datagram.
pub record IsStretch (g : Group) (from : NodeState Bytes) (x : Stretch) : Type 0 where
  pub below : x.member < g.members
  pub traced : Traced g x.member from x.trace (led_to from x.trace)
  pub brought : AreBrought g x.member x.gave (messages_of x.trace)

-- the stretch of its trace, up to the call that failed, if one did
abbrev pub stretch_of : {R : Type 0} {G : Ghosts R} (x z : LoopState G) (answered : Option NodeFault) →
    HasTrace x z answered → Stretch
stretch_of x z answered l = record {
  member = (membership_of x.replica).me;
  trace = trace_of l.moves;
  gave = came_by l.moves;
}

-- the stretch of its trace in which it stopped, in a call for this input
abbrev pub stretch_to : {R : Type 0} {G : Ghosts R} (x z : LoopState G) (answered : Option NodeFault) →
    HasTrace x z answered → Input Bytes → Record Bytes → Stretch
stretch_to x z answered l input left = record {
  member = (membership_of x.replica).me;
  trace = trace_of l.moves ++ Stops input left ∷ [];
  gave = came_by l.moves ++ given_in l.last;
}

-- A member's trace is a stretch from where it began, and leads to its state. And whatever a stop in the end may leave
-- of its record, there is a stretch of it that ends with that stop.
abbrev pub TracesAreStretches : {R : Type 0} → Ghosts R → Type 0
TracesAreStretches G =
    (x z : LoopState G) (answered : Option NodeFault) (l : HasTrace x z answered) →
    (membership_of x.replica).me < (membership_of x.replica).members →
    IsStretch (group (membership_of x.replica)) (state_in x.replica) (stretch_of x z answered l) ×
    (l.then ≡ led_to (state_in x.replica) (trace_of l.moves)) ×
    ((left : Record Bytes) → G.may_leave (records_of z.replica) left →
    (input : Input Bytes) ×
    IsStretch (group (membership_of x.replica)) (state_in x.replica) (stretch_to x z answered l input left))

-- the same stretch, begun by an opening of what the record was left as
abbrev pub opened : Stretch → Stretch
opened x = record x { trace = Opens ∷ x.trace }

-- the trace of a member from an opening on is a stretch from any state before, running or stopped
abbrev pub OpeningsAreStretches : Type 0
OpeningsAreStretches =
    (g : Group) (s : NodeState Bytes) (x : Stretch) → IsStretch g (started s.stored) x → IsStretch g s (opened x)

-- ---- members that run side by side

-- the member of this number, in this group, which was opened with an empty record
pub record IsNew {R : Type 0} {G : Ghosts R} (g : Group) (m : ℕ) (x : LoopState G) : Type 0 where
  pub cluster : group (membership_of x.replica) ≡ g
  pub me : (membership_of x.replica).me ≡ m
  pub empty : state_in x.replica ≡ started nothing_stored

-- Members run side by side, each over a record of its own from empty on; their traces are cut into stretches of one
-- event or several, in some order; and of what their wires gave and were handed in these the network is such a one.
-- Then the promises for stretches hold, and the state of each member is the one after its stretches.
abbrev pub TracesGo : {R : Type 0} → Ghosts R → Type 0
TracesGo G =
    (g : Group) → IsGroup g → (from to : (m : ℕ) → LoopState G) (answered : (m : ℕ) → Option NodeFault)
    (all_traced : (m : ℕ) → m < g.members → HasTrace (from m) (to m) (answered m)) →
    ((m : ℕ) → m < g.members → IsNew g m (from m)) →
    (stretches : List Stretch) → ((m : ℕ) (it : m < g.members) → trace_in m stretches ≡ trace_of (all_traced m it).moves) →
    AreStretches g stretches → AreCarried g stretches [] →
    Goes g stretches × ((m : ℕ) (it : m < g.members) → end_state stretches m ≡ (all_traced m it).then)
