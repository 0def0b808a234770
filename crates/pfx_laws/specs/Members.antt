-- Members that stop and start again: the trace of each, run after run.
use Rattle.std.specs.Prelude.{◌≡◌, ◌<◌, ℕ, List, [], ◌∷◌, ◌++◌, map, nat_eq, if◌then◌else◌}
use Rattle.px_model.specs.Law.{Among, NoneTwice}
use Rattle.px_model.specs.Node.{Record, Input, Entry}
use Rattle.px_model.specs.Spelling.{Bytes}
use Rattle.px_model.specs.World.{NodeState, nothing_stored, started}
use Rattle.px_records.specs.declared.records.Records.{Ghosts}
use Rattle.px_wire.specs.Message.{Group}
use Rattle.px_replica.specs.Traces.{TraceEvent}
use Rattle.px_replica.specs.Traces.TraceEvent.{Stops, Opens}
use Rattle.node_loop.specs.Moves.{LeavesThere}
use Rattle.pf_eval.specs.Verdicts.{judgement}
use Rattle.pf_eval.specs.declared.packet.Packet.{Packet}
use Rattle.pf_node.specs.declared.state.Node.{Node}
use Rattle.pf_node.specs.Nodes.{applied_of, config_of}
use Rattle.pfx_laws.specs.Wires.{Stretch, trace_in, end_state}
use Rattle.pfx_laws.specs.Carried.{Goes, HasLearned, HasState, asked_in}

-- ---- runs

-- an event at a member: a run starts, with a key or none, or something goes over its wire or its socket in that run
pub data RunEvent (K X : Type 0) : Type 0 where
  Starts : (key : K) → RunEvent K X
  During : (event : X) → RunEvent K X

-- of events at members, each with its member, those at this member
abbrev pub events_at : {X : Type 0} → (member : ℕ) → List (ℕ × X) → List X
events_at m [] = []
events_at m (x ∷ xs) = if nat_eq m x.0 then x.1 ∷ events_at m xs else events_at m xs

-- A run of a member: its key, if there is one; the record with which it is opened; its trace; its state at the end; and
-- what came for the call that failed there, if one did, and after it.
pub record Run (K : Type 0) : Type 0 where
  pub key : K
  pub first : Record Bytes
  pub trace : List TraceEvent
  pub end : NodeState Bytes
  pub unanswered : List Bytes

-- the runs of each member, in order
abbrev pub Runs : (K : Type 0) → Type 0
Runs K = (member : ℕ) → List (Run K)

-- Runs of a member one after another, and the events in them. The first is opened with such a record, and each next
-- one with what a stop may have left of the member's state at the end of the one before.
abbrev pub AreRuns : {K X : Type 0} → Group → (m : ℕ) → (Is : Run K → List X → Type 0) →
    (IsLeft : Record Bytes → Type 0) → List (Run K) → List (RunEvent K X) → Type 0
AreRuns g m Is IsLeft [] events = events ≡ []
AreRuns {K} {X} g m Is IsLeft (r ∷ rs) events =
    IsLeft r.first × (own : List X) × (later : List (RunEvent K X)) × Is r own ×
    (events ≡ Starts r.key ∷ (map (λ x. During x) own ++ later)) ×
    AreRuns g m Is (LeavesThere g m r.unanswered r.end) rs later

-- the record of a new store
abbrev pub IsEmpty : Record Bytes → Type 0
IsEmpty d = d ≡ nothing_stored

-- a member's state after runs; before its first one it has a new store
abbrev pub final_state_from : {K : Type 0} → NodeState Bytes → List (Run K) → NodeState Bytes
final_state_from s [] = s
final_state_from s (r ∷ rs) = final_state_from r.end rs

abbrev pub final_state : {K : Type 0} → Runs K → (m : ℕ) → NodeState Bytes
final_state runs m = final_state_from (started nothing_stored) (runs m)

-- a member's trace in runs behind another one: before each a stop, at some moment of a call, and the opening of what
-- that left
abbrev pub IsLaterTrace : {K : Type 0} → List (Run K) → List TraceEvent → Type 0
IsLaterTrace [] trace = trace ≡ []
IsLaterTrace (r ∷ rs) trace =
    (x : Input Bytes) × (later : List TraceEvent) × (trace ≡ Stops x r.first ∷ (Opens ∷ (r.trace ++ later))) ×
    IsLaterTrace rs later

-- a member's trace in all its runs
abbrev pub IsTrace : {K : Type 0} → List (Run K) → List TraceEvent → Type 0
IsTrace [] trace = trace ≡ []
IsTrace (r ∷ rs) trace = (later : List TraceEvent) × (trace ≡ r.trace ++ later) × IsLaterTrace rs later

-- ---- what is promised of them

-- The members' traces are these stretches, one after another, which leave each of them in its state. So what is
-- promised of stretches is promised of them.
pub record InStretches {K : Type 0} (g : Group) (runs : Runs K) (stretches : List Stretch) : Type 0 where
  pub goes : Goes g stretches
  pub happened : (m : ℕ) → m < g.members → IsTrace (runs m) (trace_in m stretches)
  pub leaves : (m : ℕ) → m < g.members → end_state stretches m ≡ final_state runs m

-- in the end of one of its runs a member had the entry as learned
abbrev pub EverLearned : {K : Type 0} → List (Run K) → (position : ℕ) → Entry Bytes → Type 0
EverLearned {K} rs p e = (r : Run K) × Among rs r × HasLearned r.end p e

-- No two members ever had different entries as learned at a position, nor one entry at two positions.
abbrev pub NeverDiffer : {K : Type 0} → Group → Runs K → Type 0
NeverDiffer g runs =
    (i j p q : ℕ) (e f : Entry Bytes) → i < g.members → j < g.members →
    EverLearned (runs i) p e → EverLearned (runs j) q f → (p ≡ q → e ≡ f) × (e ≡ f → p ≡ q)

-- What a member ever had as learned was asked of a member in these stretches and accepted, and nothing was accepted
-- twice.
abbrev pub LearnWhatWasAsked : {K : Type 0} → Group → Runs K → List Stretch → Type 0
LearnWhatWasAsked g runs stretches =
    ((m p : ℕ) (e : Entry Bytes) → m < g.members → EverLearned (runs m) p e → Among (asked_in stretches) e) ×
    NoneTwice (asked_in stretches)

-- the node is a member in its state at the end of one of its runs
abbrev pub EverHad : {K R : Type 0} {G : Ghosts R} → Node R G → List (Run K) → Type 0
EverHad {K} {R} {G} x rs = (r : Run K) × Among rs r × HasState x r.end

-- Two nodes that are members, and have applied equally many positions, have one configuration, and give every packet
-- one verdict.
abbrev pub EquallyApplied : {R Q K : Type 0} → Ghosts R → Ghosts Q → Group → Runs K → Type 0
EquallyApplied {R} {Q} {K} G H g runs =
    (i j : ℕ) (x : Node R G) (y : Node Q H) → i < g.members → j < g.members →
    EverHad x (runs i) → EverHad y (runs j) → applied_of x ≡ applied_of y →
    (config_of x ≡ config_of y) × ((p : Packet) → judgement (config_of x) p ≡ judgement (config_of y) p)
