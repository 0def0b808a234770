-- What follows from a history for members with their wires.
use Rattle.std.proofs.Common.{◌≡◌, ◌∙◌, sym, ap, subst, refl, ℕ, Bool, true, false, cond, nat_eq, List, [], ◌∷◌, ◌++◌, append_assoc}
use Rattle.std.specs.Prelude.{map}
use Rattle.px_model.specs.Spelling.{Bytes}
use Rattle.px_model.specs.World.{NodeState, nothing_stored, started}
use Rattle.px_records.specs.declared.records.Records.{Ghosts}
use Rattle.px_wire.specs.Message.{Group}
use Rattle.px_replica.specs.Traces.{TraceEvent, Traced}
use Rattle.pf_node.specs.declared.state.Node.{Node}
use Rattle.node_loop.specs.Moves.{sent_by}
use Rattle.pfx_laws.specs.Clusters.{Cluster, ClusterEvent, MayAllHappen, after, begun}
use Rattle.pfx_laws.specs.Promised.{IsNode}
use Rattle.pfx_laws.specs.Wires.{Stretch, AreStretches, AreCarried, trace_in, end_state, cluster_event, history_of}
use Rattle.pfx_laws.specs.Carried.{Goes, WiresNeverDiffer, WiresLearnWhatWasAsked, EquallyAppliedOverWires, HasState}
use Rattle.pfx_laws.proofs.Agreeing.{never_differ, learn_what_was_asked, equally_applied}
use Rattle.pfx_laws.proofs.Carrying.{wires_are_histories, traced_front}

-- ---- the first stretches alone

are_first : (g : Group) (xs ys : List Stretch) → AreStretches g (xs ++ ys) → AreStretches g xs
are_first g [] ys a = tt
are_first g (x ∷ xs) ys a = (a.0, a.1, are_first g xs ys a.2)

carried_first : (g : Group) (xs ys : List Stretch) (handed : List (ℕ × Bytes)) → AreCarried g (xs ++ ys) handed → AreCarried g xs handed
carried_first g [] ys handed c = tt
carried_first g (x ∷ xs) ys handed c = (c.0, carried_first g xs ys (handed ++ sent_by x.trace) c.1)

trace_more : (m : ℕ) (x : Stretch) (xs ys : List Stretch) (b : Bool) → trace_in m (xs ++ ys) ≡ trace_in m xs ++ trace_in m ys →
    cond b (x.trace ++ trace_in m (xs ++ ys)) (trace_in m (xs ++ ys)) ≡ cond b (x.trace ++ trace_in m xs) (trace_in m xs) ++ trace_in m ys
trace_more m x xs ys true e =
    ap (λ (ds : List TraceEvent). x.trace ++ ds) e ∙ sym (append_assoc x.trace (trace_in m xs) (trace_in m ys))
trace_more m x xs ys false e = e

trace_then : (m : ℕ) (xs ys : List Stretch) → trace_in m (xs ++ ys) ≡ trace_in m xs ++ trace_in m ys
trace_then m [] ys = refl
trace_then m (x ∷ xs) ys = trace_more m x xs ys (nat_eq m x.member) (trace_then m xs ys)

goes_first : (g : Group) (xs ys : List Stretch) → Goes g (xs ++ ys) → Goes g xs
goes_first g xs ys goes = record {
  group = goes.group;
  are = are_first g xs ys goes.are;
  traced = λ m below.
      let s = started nothing_stored in
      traced_front g m s (end_state (xs ++ ys) m) (trace_in m xs) (trace_in m ys)
      (subst (λ (ds : List TraceEvent). Traced g m s ds (end_state (xs ++ ys) m)) (trace_then m xs ys) (goes.traced m below));
  carried = carried_first g xs ys [] goes.carried;
}

history_then : (xs ys : List Stretch) → history_of (xs ++ ys) ≡ history_of xs ++ history_of ys
history_then [] ys = refl
history_then (x ∷ xs) ys =
    ap (λ (hs : List ClusterEvent). map (cluster_event x.member) x.trace ++ hs) (history_then xs ys)
    ∙ sym (append_assoc (map (cluster_event x.member) x.trace) (history_of xs) (history_of ys))

-- ---- two moments

-- at both the history leaves the members in the state in which they are
record Both (g : Group) (before more : List Stretch) : Type 0 where
  may : MayAllHappen g (history_of before ++ history_of more) begun
  early : (m : ℕ) → (after (history_of before) begun).nodes m ≡ end_state before m
  late : (m : ℕ) → (after (history_of before ++ history_of more) begun).nodes m ≡ end_state (before ++ more) m

both : (g : Group) (before more : List Stretch) → Goes g (before ++ more) → Both g before more
both g before more goes =
    let one = wires_are_histories g before (goes_first g before more goes) in
    let all = wires_are_histories g (before ++ more) goes in
    let is = history_then before more in
    record {
      may = subst (λ (hs : List ClusterEvent). MayAllHappen g hs begun) is all.0;
      early = one.1;
      late = λ m. ap (λ (hs : List ClusterEvent). (after hs begun).nodes m) (sym is) ∙ all.1 m;
    }

pub wires_never_differ : WiresNeverDiffer
wires_never_differ g before more goes i j p q e f mine theirs =
    let b = both g before more goes in
    never_differ g goes.group (history_of before) (history_of more) b.may i j p q e f
    (ap (λ (s : NodeState Bytes). s.stored.learned p) (b.early i) ∙ mine)
    (ap (λ (s : NodeState Bytes). s.stored.learned q) (b.late j) ∙ theirs)

pub wires_learn_what_was_asked : WiresLearnWhatWasAsked
wires_learn_what_was_asked g xs goes =
    let all = wires_are_histories g xs goes in
    let learn = learn_what_was_asked g goes.group (history_of xs) all.0 in
    (λ m p e has. learn.0 m p e (ap (λ (s : NodeState Bytes). s.stored.learned p) (all.1 m) ∙ has), learn.1, learn.2)

node_of : {R : Type 0} {G : Ghosts R} (x : Node R G) (c : Cluster) (m : ℕ) (s : NodeState Bytes) → c.nodes m ≡ s → HasState x s → IsNode x c m
node_of x c m s is so = record { works = so.works; honest = so.honest; state = is ∙ so.state }

pub equally_applied_over_wires : {R Q : Type 0} (G : Ghosts R) (H : Ghosts Q) → EquallyAppliedOverWires G H
equally_applied_over_wires G H g before more goes i j x y mine theirs equal =
    let b = both g before more goes in
    equally_applied G H g goes.group (history_of before) (history_of more) b.may i j x y
    (node_of x (after (history_of before) begun) i (end_state before i) (b.early i) mine)
    (node_of y (after (history_of before ++ history_of more) begun) j (end_state (before ++ more) j) (b.late j) theirs) equal
