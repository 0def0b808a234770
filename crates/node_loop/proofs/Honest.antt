-- What became of a record in a run, in the terms of the model.
use Rattle.std.proofs.Common.{◌≡◌, ◌≢◌, ◌∙◌, ℕ, Bool, List, [], ◌∷◌, ◌++◌, Option, Some, None, refl, sym, ap, subst, inl, inr}
use Rattle.px_model.specs.Node.{Record}
use Rattle.px_model.specs.Spelling.{Bytes}
use Rattle.px_model.specs.World.{NodeState, started}
use Rattle.px_records.specs.declared.records.Records.{Ghosts}
use Rattle.px_wire.specs.Message.{group}
use Rattle.px_wire.specs.declared.membership.Membership.{Membership}
use Rattle.px_replica.specs.Traces.{Traced}
use Rattle.px_replica.specs.Traces.TraceEvent.{Stops, Opens}
use Rattle.px_replica.specs.declared.fault.NodeFault.{NodeFault}
use Rattle.px_replica.specs.declared.fault.NodeFault.TheVariants as fault
use Rattle.pf_node.specs.Nodes.{records_of, state_in}
use Rattle.pf_node.specs.declared.state.Node.{Node}
use Rattle.px_transport.specs.Wires.{WireEvent, given_in}
use Rattle.node_loop.specs.Moves.{trace_of, AreMoves, LeavesThere, HasTrace, TurnsAreTraces, HostingsAreTraces}
use Rattle.node_loop.proofs.Runs.{traced_then, served_before}
use Rattle.node_loop.proofs.Hosting.{hosted_before}
use Rattle.node_loop.specs.Runs.{Buffers, new_buffers, run_state, Reports, Serves, Hosts, OneRun, TracedOver, RunsAreTraces, HostedRunsAreTraces, RunTrace, RunsGoOn}
use Rattle.node_loop.specs.declared.ended.Ended.{Ended}
use Rattle.node_loop.specs.declared.ended.Ended.TheVariants.{Fault}

-- ---- one run

module _ {R : Type 0} (G : Ghosts R) (How : (s t : Node R G) → Type 0)
    (before : (s t : Node R G) → How s t → G.is_honest (records_of t) → G.is_honest (records_of s)) where
  -- it was honest as it was opened, if it is as it is given back
  pub at_start : (m : Membership) (given back : R) → G.is_honest back → (l : OneRun G How m given back) → G.is_honest (records_of l.begun)
  at_start m given back honest l =
      before l.begun l.done l.went (subst (λ (r : R). G.is_honest r) l.closed honest)

  -- a trace from where the node began is one from what its record held, and hears asks from outside where that does
  pub run_traced : (m : Membership) (given back : R) (w v : List WireEvent) (a : Option NodeFault) → G.is_honest back → (l : OneRun G How m given back) →
      (hears : Bool) (buffers : Buffers) → HasTrace (run_state l.begun w (new_buffers hears)) (run_state l.done v buffers) a →
      (over : TracedOver G m given back w v) × (over.hears ≡ hears)
  run_traced m given back w v a honest l hears buffers has_trace =
      let began = l.starts (at_start m given back honest l) in (
        record {
          moves = has_trace.moves;
          then = has_trace.then;
          traced = subst (λ (b : NodeState Bytes). Traced (group m) m.me b (trace_of has_trace.moves) has_trace.then) began
              (subst (λ (n : Membership). Traced (group n) n.me (state_in l.begun) (trace_of has_trace.moves) has_trace.then) l.membership has_trace.traced);
          up = has_trace.up;
          hears = hears;
          are = subst (λ (n : Membership). AreMoves (group n) n.me hears has_trace.moves [] []) l.membership has_trace.are;
          members = has_trace.members;
          last = has_trace.last;
          went = has_trace.went;
          again = has_trace.again;
          stays = λ none. ap G.stored l.closed
              ∙ ap (λ (t : NodeState Bytes). t.stored) (has_trace.stays (sym (ap G.failed l.closed) ∙ none));
          stop = λ left may. subst (λ (n : Membership). LeavesThere (group n) n.me (given_in has_trace.last) has_trace.then left) l.membership
              (has_trace.stop left (subst (λ (r : R). G.may_leave r left) l.closed may));
        },
        refl,
      )

-- a run that doesn't end with a fault of the store has none
not_store : (n k : ℕ) (a : Option NodeFault) (ended : Ended) → Reports n k a ended → ended ≢ Fault fault.Store → a ≢ Some fault.Store
not_store n k None ended reported other h = absurd cc
not_store n k (Some e) ended reported other h = other (reported ∙ ap (λ (o : Option NodeFault). Fault (of o)) h)
  where
    of : Option NodeFault → NodeFault
    of None = fault.Store
    of (Some e) = e

pub runs_traced : {R : Type 0} (G : Ghosts R) → TurnsAreTraces G → RunsAreTraces G
runs_traced {R} G law m given back w v ended honest l =
    let s = l.went in
    let before = λ (x y : Node R G) (k : Serves x y w v ended) (h : G.is_honest (records_of y)).
    served_before (run_state x w (new_buffers k.hears)) (run_state y v k.buffers) k.answered k.served h in
    let at_end = subst (λ (r : R). G.is_honest r) l.closed honest in
    let all_traced = law (run_state l.begun w (new_buffers s.hears)) (run_state l.done v s.buffers) s.answered at_end l.works s.served in (
      (run_traced G (λ x y. Serves x y w v ended) before m given back w v s.answered honest l s.hears s.buffers all_traced.0).0,
      λ other. ap G.failed l.closed ∙ all_traced.1 (not_store _ _ s.answered ended s.reported other),
    )

pub hosted_runs_traced : {R : Type 0} (G : Ghosts R) → HostingsAreTraces G → HostedRunsAreTraces G
hosted_runs_traced {R} G law m given back w v hears ended honest l =
    let s = l.went in
    let before = λ (x y : Node R G) (k : Hosts x y w v hears ended) (h : G.is_honest (records_of y)).
    hosted_before (run_state x w (new_buffers hears)) (run_state y v k.buffers) k.answered k.hosted h in
    let at_end = subst (λ (r : R). G.is_honest r) l.closed honest in
    run_traced G (λ x y. Hosts x y w v hears ended) before m given back w v s.answered honest l hears s.buffers
    (law (run_state l.begun w (new_buffers hears)) (run_state l.done v s.buffers) s.answered at_end l.works s.hosted)

-- ---- several runs

run_trace : {R : Type 0} (G : Ghosts R) (m : Membership) (given back : R) (es : List WireEvent) → TracedOver G m given back [] es →
    RunTrace G m (G.stored given) back (es ∷ [])
run_trace G m given back es l = record {
  trace = trace_of l.moves;
  then = l.then;
  traced = l.traced;
  up = l.up;
  last = l.last;
  over = ([], [], [], l.hears, l.moves, (refl, refl), inl refl, l.are, l.went, l.again, refl);
  stays = l.stays;
  stop = l.stop;
}

next_run : {R : Type 0} (G : Ghosts R) (m : Membership) (first : Record Bytes) (back given end : R) (runs : List (List WireEvent))
    (es : List WireEvent) → RunTrace G m first back runs → G.may_leave back (G.stored given) → TracedOver G m given end [] es →
    RunTrace G m first end (es ∷ runs)
next_run G m first back given end runs es a may b =
    let g = group m in
    let left = G.stored given in
    let s = a.stop left may in
    let start = Stops s.0 left ∷ Opens ∷ [] in
    record {
      trace = a.trace ++ (start ++ trace_of b.moves);
      then = b.then;
      traced = traced_then g m.me (started first) a.then b.then a.trace (start ++ trace_of b.moves) a.traced (a.up, s.1, s.3, b.traced);
      up = b.up;
      last = b.last;
      over = (a.trace, a.last, start, b.hears, b.moves, a.over, inr (s.0, left, s.2, refl), b.are, b.went, b.again, refl);
      stays = b.stays;
      stop = b.stop;
    }

pub runs_go_on : {R : Type 0} (G : Ghosts R) → RunsGoOn G
runs_go_on G = record { one = run_trace G; next = next_run G }
