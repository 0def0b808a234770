-- Members' traces make a history.
use Rattle.std.proofs.Common.{sym, subst, refl, ℕ, ◌<◌, nat_eq, List, [], ◌∷◌, inl, inr}
use Rattle.std.proofs.lemmas.Bool.{cond-true, cond-false, eq-eqb}
use Rattle.std.proofs.lemmas.Bool.Decides.{eqb_tells}
use Rattle.px_model.specs.Step.{put}
use Rattle.px_model.specs.World.{NodeState, started}
use Rattle.px_model.specs.Spelling.{Bytes}
use Rattle.px_wire.specs.Message.{Group}
use Rattle.px_replica.specs.Traces.{TraceEvent, Traced, stopped}
use Rattle.pfx_laws.specs.Clusters as clusters
use Rattle.pfx_laws.specs.Clusters.{Cluster, ClusterEvent, MayAllHappen, next}
use Rattle.pfx_laws.specs.Clusters.ClusterEvent.{Calls, Stops, Opens}
use Rattle.pfx_laws.specs.Traces.{member_of, trace_event, trace_of, AreOfMembers, AreDelivered, TracesAreHistories}

-- the members' states, and the trace of each from there on
abbrev Live : Group → (ℕ → NodeState Bytes) → List ClusterEvent → Type 0
Live g nodes hs = (m : ℕ) → m < g.members → (t : NodeState Bytes) × Traced g m (nodes m) (trace_of m hs) t

-- the first event of a member's trace is its first event in the history
own : (g : Group) (nodes : ℕ → NodeState Bytes) (h : ClusterEvent) (hs : List ClusterEvent) → member_of h < g.members → Live g nodes (h ∷ hs) →
    (t : NodeState Bytes) × Traced g (member_of h) (nodes (member_of h)) (trace_event h ∷ trace_of (member_of h) hs) t
own g nodes h hs below live =
    let m = member_of h in
    let l = live m below in (
      l.0,
      subst (λ (ds : List TraceEvent). Traced g m (nodes m) ds l.0)
          (cond-true (nat_eq m m) (trace_event h ∷ trace_of m hs) (trace_of m hs) (eq-eqb m m refl)) l.1,
    )

-- the other members' states don't change
on : (g : Group) (nodes : ℕ → NodeState Bytes) (h : ClusterEvent) (hs : List ClusterEvent) (s t : NodeState Bytes) →
    Live g nodes (h ∷ hs) → Traced g (member_of h) s (trace_of (member_of h) hs) t → Live g (put nodes (member_of h) s) hs
on g nodes h hs s t live mine m below =
    let k = member_of h in
    let yes = trace_event h ∷ trace_of m hs in
    let none = trace_of m hs in
    elim (eqb_tells m k) [
      | inl is ↦ (
        t,
        subst (λ (z : NodeState Bytes). Traced g m z none t) (sym (cond-true (nat_eq m k) s (nodes m) is.0))
            (subst (λ (j : ℕ). Traced g j s (trace_of j hs) t) (sym is.1) mine),
      )
      | inr other ↦ (
          let l = live m below in (
            l.0,
            subst (λ (z : NodeState Bytes). Traced g m z none l.0) (sym (cond-false (nat_eq m k) s (nodes m) other.0))
                (subst (λ (ds : List TraceEvent). Traced g m (nodes m) ds l.0) (cond-false (nat_eq m k) yes none other.0) l.1),
          ))
    ]

all_may : (g : Group) (hs : List ClusterEvent) (c : Cluster) → AreOfMembers g hs → Live g c.nodes hs → AreDelivered g hs c.sent →
    MayAllHappen g hs c
all_may g [] c below live delivered = tt
all_may g (Calls m x t out ∷ hs) c below live delivered =
    let o = own g c.nodes (Calls m x t out) hs below.0 live in
    let l = o.1 in (
      (record { below = below.0; is_up = l.0 }, ((l.1, delivered.0), l.2)),
      all_may g hs (next c (Calls m x t out)) below.1 (on g c.nodes (Calls m x t out) hs t o.0 live l.3) delivered.1,
    )
all_may g (Stops m x left ∷ hs) c below live delivered =
    let o = own g c.nodes (Stops m x left) hs below.0 live in
    let l = o.1 in (
      (record { below = below.0; is_up = l.0 }, ((l.1, delivered.0), l.2)),
      all_may g hs (next c (Stops m x left)) below.1 (on g c.nodes (Stops m x left) hs (stopped left) o.0 live l.3) delivered.1,
    )
all_may g (Opens m ∷ hs) c below live delivered =
    let o = own g c.nodes (Opens m) hs below.0 live in (
      below.0,
      all_may g hs (next c (Opens m)) below.1 (on g c.nodes (Opens m) hs (started (c.nodes m).stored) o.0 live o.1) delivered,
    )

pub traces_are_histories : TracesAreHistories
traces_are_histories g history below live delivered = all_may g history clusters.begun below live delivered
