-- The traces of members with their wires are a history of the cluster.
use Rattle.std.proofs.Common.{◌≡◌, ◌≢◌, ◌∙◌, ◌⊎◌, sym, ap, subst, refl, ℕ, zero, suc, ◌<◌, ◌≤◌, Bool, true, false, not, cond, nat_eq, List, [], ◌∷◌, ◌++◌, Some, slice_get, inl, inr, arith, append_assoc, eq-eqb, ne_eqb}
use Rattle.std.specs.Prelude.{map}
use Rattle.std.proofs.lemmas.Bool.{cond-true, cond-false}
use Rattle.std.proofs.lemmas.Bool.Decides.{eqb_tells}
use Rattle.px_model.proofs.Basics.{among_left, among_right, among_cases}
use Rattle.px_model.specs.Law.{Among}
use Rattle.px_model.specs.Node as node
use Rattle.px_model.specs.Node.{Input, client}
use Rattle.px_model.specs.Node.Input.{Asks, Ticks, Comes}
use Rattle.px_model.specs.Step.{put}
use Rattle.px_model.specs.World.{NodeState, started}
use Rattle.px_model.specs.Spelling.{Bytes}
use Rattle.px_wire.specs.Message.{Group, DatagramBytes}
use Rattle.px_wire.specs.Members.{as_sent}
use Rattle.px_replica.specs.Traces.{TraceEvent, Traced, stopped}
use Rattle.px_replica.specs.Spelled.{for_members}
use Rattle.px_replica.specs.declared.datagram.Datagram.{Datagram}
use Rattle.node_loop.specs.Turns.{handed_over}
use Rattle.node_loop.specs.Moves.{Heard, message_in, messages_of, AreBrought, sent_by}
use Rattle.pfx_laws.specs.Clusters.{Cluster, ClusterEvent, IsDelivered, WasSent, MayAllHappen, next, after, begun}
use Rattle.pfx_laws.specs.Wires.{Stretch, AreStretches, IsCarried, AreCarried, trace_in, led_to, cluster_event, history_of}
use Rattle.pfx_laws.specs.Carried.{WiresAreHistories}
use Rattle.pfx_laws.specs.Runs.{IsStretch}
use Rattle.node_loop.proofs.Runs.{traced_then}
use Rattle.pfx_laws.proofs.Following.{after_both}

-- ---- what was handed to wires is among what was handed out

-- each datagram that a wire was handed for a member some node handed out to it
abbrev Holds : (handed : List (ℕ × Bytes)) → (sent : List Datagram) → Type 0
Holds handed sent =
    (m : ℕ) (b : Bytes) → m ≢ client → Among handed (m, b) →
    (d : Datagram) × Among sent d × (d.to ≡ m) × (d.bytes.items ≡ b)

-- one that goes to a member is kept
kept : (d e : Datagram) (ds : List Datagram) (b : Bool) → Among ds e → Among (cond (not b) (d ∷ ds) ds) e
kept d e ds true h = h
kept d e ds false h = inr h

first_kept : (d : Datagram) (ds : List Datagram) (b : Bool) → b ≡ false → Among (cond (not b) (d ∷ ds) ds) d
first_kept d ds true is = absurd (cc)
first_kept d ds false is = inl refl

over : (out : List Datagram) → Holds (handed_over out) (for_members out)
over [] m b other among = absurd among
over (d ∷ out) m b other (inl is) =
    let to : d.to ≡ m = ap (λ (p : ℕ × Bytes). p.0) is in
    let other' : d.to ≢ client = λ same. other (sym to ∙ same) in (
      d,
      first_kept d (for_members out) (nat_eq d.to client) (ne_eqb d.to client other'),
      to,
      ap (λ (p : ℕ × Bytes). p.1) is,
    )
over (d ∷ out) m b other (inr later) =
    let r = over out m b other later in (r.0, kept d r.0 (for_members out) (nat_eq d.to client) r.1, r.2, r.3)

holds_then : (hs ks : List (ℕ × Bytes)) (ds es : List Datagram) → Holds hs ds → Holds ks es → Holds (hs ++ ks) (ds ++ es)
holds_then hs ks ds es a b m bytes other among =
    elim (among_cases hs ks (m, bytes) among) [
      | inl here ↦ (let r = a m bytes other here in (r.0, among_left ds es r.0 r.1, r.2, r.3))
      | inr there ↦ (let r = b m bytes other there in (r.0, among_right ds es r.0 r.1, r.2, r.3))
    ]

-- ---- what comes was sent

among_place : (xs : List Datagram) (d : Datagram) → Among xs d → (k : ℕ) × (slice_get xs k ≡ Some d)
among_place [] d h = absurd h
among_place (e ∷ xs) d (inl is) = (zero, ap Some is)
among_place (e ∷ xs) d (inr later) = let r = among_place xs d later in (suc r.0, r.1)

get_more : (xs ys : List Datagram) (k : ℕ) (d : Datagram) → slice_get xs k ≡ Some d → slice_get (xs ++ ys) k ≡ Some d
get_more [] ys k d h = absurd (cc)
get_more (e ∷ xs) ys zero d h = h
get_more (e ∷ xs) ys (suc k) d h = get_more xs ys k d h

message_delivered : (g : Group) (handed : List (ℕ × Bytes)) (sent : List Datagram) (m sender : ℕ) (message : node.Message Bytes) (bytes : Bytes) →
    m ≢ client → Holds handed sent → IsCarried g handed m bytes → DatagramBytes g sender m (as_sent message) bytes →
    WasSent g sent m sender message ⊎ (sender ≡ client)
message_delivered g handed sent m sender message bytes other holds (inl among) spelled =
    let r = holds m bytes other among in
    let found = among_place sent r.0 r.1 in
    inl (record {
      place = found.0;
      datagram = r.0;
      there = found.1;
      to_it = r.2;
      spelled = subst (λ (b : Bytes). DatagramBytes g sender m (as_sent message) b) (sym r.3) spelled;
    })
message_delivered g handed sent m sender message bytes other holds (inr outside) spelled =
    inr (outside sender (as_sent message) spelled)

one_delivered : (g : Group) (handed : List (ℕ × Bytes)) (sent : List Datagram) (m : ℕ) (gave : List Bytes) (x : Input Bytes) →
    m ≢ client → Holds handed sent → ((b : Bytes) → Among gave b → IsCarried g handed m b) → AreBrought g m gave (message_in x) →
    IsDelivered g sent m x
one_delivered g handed sent m gave (Asks command) other holds carried brought = tt
one_delivered g handed sent m gave Ticks other holds carried brought = tt
one_delivered g handed sent m gave (Comes sender message) other holds carried brought =
    let b = brought (sender, message) (inl refl) in
    message_delivered g handed sent m sender message b.0 other holds (carried b.0 b.1) b.2

-- each message that came in this trace was sent
abbrev AreDelivered : Group → (sent : List Datagram) → (m : ℕ) → List TraceEvent → Type 0
AreDelivered g sent m [] = Unit {0}
AreDelivered g sent m (TraceEvent.Calls x t out ∷ ds) = IsDelivered g sent m x × AreDelivered g sent m ds
AreDelivered g sent m (TraceEvent.Stops x left ∷ ds) = IsDelivered g sent m x × AreDelivered g sent m ds
AreDelivered g sent m (TraceEvent.Opens ∷ ds) = AreDelivered g sent m ds

brought_first : (g : Group) (m : ℕ) (gave : List Bytes) (xs ys : List Heard) → AreBrought g m gave (xs ++ ys) → AreBrought g m gave xs
brought_first g m gave xs ys b x among = b x (among_left xs ys x among)

brought_rest : (g : Group) (m : ℕ) (gave : List Bytes) (xs ys : List Heard) → AreBrought g m gave (xs ++ ys) → AreBrought g m gave ys
brought_rest g m gave xs ys b x among = b x (among_right xs ys x among)

all_delivered : (g : Group) (handed : List (ℕ × Bytes)) (sent : List Datagram) (m : ℕ) (gave : List Bytes) (ds : List TraceEvent) →
    m ≢ client → Holds handed sent → ((b : Bytes) → Among gave b → IsCarried g handed m b) → AreBrought g m gave (messages_of ds) →
    AreDelivered g sent m ds
all_delivered g handed sent m gave [] other holds carried brought = tt
all_delivered g handed sent m gave (TraceEvent.Calls x t out ∷ ds) other holds carried brought = (
  one_delivered g handed sent m gave x other holds carried (brought_first g m gave (message_in x) (messages_of ds) brought),
  all_delivered g handed sent m gave ds other holds carried (brought_rest g m gave (message_in x) (messages_of ds) brought),
)
all_delivered g handed sent m gave (TraceEvent.Stops x left ∷ ds) other holds carried brought = (
  one_delivered g handed sent m gave x other holds carried (brought_first g m gave (message_in x) (messages_of ds) brought),
  all_delivered g handed sent m gave ds other holds carried (brought_rest g m gave (message_in x) (messages_of ds) brought),
)
all_delivered g handed sent m gave (TraceEvent.Opens ∷ ds) other holds carried brought =
    all_delivered g handed sent m gave ds other holds carried brought

-- what was sent stays sent
delivered_more : (g : Group) (sent more : List Datagram) (m : ℕ) (x : Input Bytes) → IsDelivered g sent m x → IsDelivered g (sent ++ more) m x
delivered_more g sent more m (Asks command) h = tt
delivered_more g sent more m Ticks h = tt
delivered_more g sent more m (Comes sender message) (inl was) = inl (record {
  place = was.place;
  datagram = was.datagram;
  there = get_more sent more was.place was.datagram was.there;
  to_it = was.to_it;
  spelled = was.spelled;
})
delivered_more g sent more m (Comes sender message) (inr asks) = inr asks

all_more : (g : Group) (sent more : List Datagram) (m : ℕ) (ds : List TraceEvent) → AreDelivered g sent m ds → AreDelivered g (sent ++ more) m ds
all_more g sent more m [] h = tt
all_more g sent more m (TraceEvent.Calls x t out ∷ ds) h = (delivered_more g sent more m x h.0, all_more g sent more m ds h.1)
all_more g sent more m (TraceEvent.Stops x left ∷ ds) h = (delivered_more g sent more m x h.0, all_more g sent more m ds h.1)
all_more g sent more m (TraceEvent.Opens ∷ ds) h = all_more g sent more m ds h

-- ---- one stretch

put_here : (nodes : ℕ → NodeState Bytes) (m : ℕ) (t : NodeState Bytes) → put nodes m t m ≡ t
put_here nodes m t = cond-true (nat_eq m m) t (nodes m) (eq-eqb m m refl)

traced_from : (g : Group) (nodes : ℕ → NodeState Bytes) (m : ℕ) (s t : NodeState Bytes) (ds : List TraceEvent) → Traced g m s ds t →
    Traced g m (put nodes m s m) ds t
traced_from g nodes m s t ds l = subst (λ (z : NodeState Bytes). Traced g m z ds t) (sym (put_here nodes m s)) l

trace_may : (g : Group) (m : ℕ) (ds : List TraceEvent) (c : Cluster) (t : NodeState Bytes) → m < g.members → Traced g m (c.nodes m) ds t →
    AreDelivered g c.sent m ds → MayAllHappen g (map (cluster_event m) ds) c
trace_may g m [] c t below l delivered = tt
trace_may g m (TraceEvent.Calls x u out ∷ ds) c t below l delivered = (
  (record { below = below; is_up = l.0 }, ((l.1, delivered.0), l.2)),
  trace_may g m ds (next c (ClusterEvent.Calls m x u out)) t below (traced_from g c.nodes m u t ds l.3)
      (all_more g c.sent (for_members out) m ds delivered.1),
)
trace_may g m (TraceEvent.Stops x left ∷ ds) c t below l delivered = (
  (record { below = below; is_up = l.0 }, ((l.1, delivered.0), l.2)),
  trace_may g m ds (next c (ClusterEvent.Stops m x left)) t below (traced_from g c.nodes m (stopped left) t ds l.3) delivered.1,
)
trace_may g m (TraceEvent.Opens ∷ ds) c t below l delivered = (
  below,
  trace_may g m ds (next c (ClusterEvent.Opens m)) t below (traced_from g c.nodes m (started (c.nodes m).stored) t ds l) delivered,
)

-- its member is in the state after its trace
final_here : (g : Group) (m : ℕ) (ds : List TraceEvent) (c : Cluster) (t : NodeState Bytes) → Traced g m (c.nodes m) ds t →
    (after (map (cluster_event m) ds) c).nodes m ≡ t
final_here g m [] c t l = sym l
final_here g m (TraceEvent.Calls x u out ∷ ds) c t l =
    final_here g m ds (next c (ClusterEvent.Calls m x u out)) t (traced_from g c.nodes m u t ds l.3)
final_here g m (TraceEvent.Stops x left ∷ ds) c t l =
    final_here g m ds (next c (ClusterEvent.Stops m x left)) t (traced_from g c.nodes m (stopped left) t ds l.3)
final_here g m (TraceEvent.Opens ∷ ds) c t l =
    final_here g m ds (next c (ClusterEvent.Opens m)) t (traced_from g c.nodes m (started (c.nodes m).stored) t ds l)

-- the others are in the states in which they were
final_else : (m k : ℕ) (ds : List TraceEvent) (c : Cluster) → nat_eq k m ≡ false → (after (map (cluster_event m) ds) c).nodes k ≡ c.nodes k
final_else m k [] c other = refl
final_else m k (TraceEvent.Calls x u out ∷ ds) c other =
    final_else m k ds (next c (ClusterEvent.Calls m x u out)) other ∙ cond-false (nat_eq k m) u (c.nodes k) other
final_else m k (TraceEvent.Stops x left ∷ ds) c other =
    final_else m k ds (next c (ClusterEvent.Stops m x left)) other ∙ cond-false (nat_eq k m) (stopped left) (c.nodes k) other
final_else m k (TraceEvent.Opens ∷ ds) c other =
    final_else m k ds (next c (ClusterEvent.Opens m)) other ∙ cond-false (nat_eq k m) (started (c.nodes m).stored) (c.nodes k) other

-- the cluster's state, member by member
abbrev FinalStates : Cluster → (ℕ → NodeState Bytes) → Type 0
FinalStates c nodes = (k : ℕ) → c.nodes k ≡ nodes k

final_then : (g : Group) (m : ℕ) (ds : List TraceEvent) (c : Cluster) (nodes : ℕ → NodeState Bytes) (t : NodeState Bytes) →
    FinalStates c nodes → Traced g m (c.nodes m) ds t → FinalStates (after (map (cluster_event m) ds) c) (put nodes m t)
final_then g m ds c nodes t final_state l k =
    let d = after (map (cluster_event m) ds) c in
    elim (eqb_tells k m) [
      | inl is ↦ ap (λ (j : ℕ). d.nodes j) is.1 ∙ final_here g m ds c t l ∙ sym (cond-true (nat_eq k m) t (nodes k) is.0)
      | inr other ↦ final_else m k ds c other.0 ∙ final_state k ∙ sym (cond-false (nat_eq k m) t (nodes k) other.0)
    ]

holds_all : (handed : List (ℕ × Bytes)) (x : ℕ × Bytes) → Among (handed ++ []) x → Among handed x
holds_all handed x among = elim (among_cases handed [] x among) [ inl here ↦ here | inr none ↦ absurd none ]

-- what its wire was handed it handed out
holds_after : (m : ℕ) (ds : List TraceEvent) (c : Cluster) (handed : List (ℕ × Bytes)) → Holds handed c.sent →
    Holds (handed ++ sent_by ds) (after (map (cluster_event m) ds) c).sent
holds_after m [] c handed holds = λ k b other among. holds k b other (holds_all handed (k, b) among)
holds_after m (TraceEvent.Calls x u out ∷ ds) c handed holds =
    subst (λ (hs : List (ℕ × Bytes)). Holds hs (after (map (cluster_event m) ds) (next c (ClusterEvent.Calls m x u out))).sent)
    (append_assoc handed (handed_over out) (sent_by ds))
    (holds_after m ds (next c (ClusterEvent.Calls m x u out)) (handed ++ handed_over out)
    (holds_then handed (handed_over out) c.sent (for_members out) holds (over out)))
holds_after m (TraceEvent.Stops x left ∷ ds) c handed holds = holds_after m ds (next c (ClusterEvent.Stops m x left)) handed holds
holds_after m (TraceEvent.Opens ∷ ds) c handed holds = holds_after m ds (next c (ClusterEvent.Opens m)) handed holds

-- ---- traces, and parts of them

led_then : (s : NodeState Bytes) (xs ys : List TraceEvent) → led_to s (xs ++ ys) ≡ led_to (led_to s xs) ys
led_then s [] ys = refl
led_then s (TraceEvent.Calls x t out ∷ xs) ys = led_then t xs ys
led_then s (TraceEvent.Stops x left ∷ xs) ys = led_then (stopped left) xs ys
led_then s (TraceEvent.Opens ∷ xs) ys = led_then (started s.stored) xs ys

-- its state is the one after its trace
pub traced_to : (g : Group) (me : ℕ) (s t : NodeState Bytes) (xs : List TraceEvent) → Traced g me s xs t → t ≡ led_to s xs
traced_to g me s t [] l = l
traced_to g me s t (TraceEvent.Calls x u out ∷ xs) l = traced_to g me u t xs l.3
traced_to g me s t (TraceEvent.Stops x left ∷ xs) l = traced_to g me (stopped left) t xs l.3
traced_to g me s t (TraceEvent.Opens ∷ xs) l = traced_to g me (started s.stored) t xs l

pub traced_front : (g : Group) (me : ℕ) (s t : NodeState Bytes) (xs ys : List TraceEvent) → Traced g me s (xs ++ ys) t → Traced g me s xs (led_to s xs)
traced_front g me s t [] ys l = refl
traced_front g me s t (TraceEvent.Calls x u out ∷ xs) ys l = (l.0, l.1, l.2, traced_front g me u t xs ys l.3)
traced_front g me s t (TraceEvent.Stops x left ∷ xs) ys l = (l.0, l.1, l.2, traced_front g me (stopped left) t xs ys l.3)
traced_front g me s t (TraceEvent.Opens ∷ xs) ys l = traced_front g me (started s.stored) t xs ys l

traced_back : (g : Group) (me : ℕ) (s t : NodeState Bytes) (xs ys : List TraceEvent) → Traced g me s (xs ++ ys) t → Traced g me (led_to s xs) ys t
traced_back g me s t [] ys l = l
traced_back g me s t (TraceEvent.Calls x u out ∷ xs) ys l = traced_back g me u t xs ys l.3
traced_back g me s t (TraceEvent.Stops x left ∷ xs) ys l = traced_back g me (stopped left) t xs ys l.3
traced_back g me s t (TraceEvent.Opens ∷ xs) ys l = traced_back g me (started s.stored) t xs ys l

-- how the members are behind a stretch
abbrev pub put_on : (ℕ → NodeState Bytes) → Stretch → ℕ → NodeState Bytes
put_on nodes x = put nodes x.member (led_to (nodes x.member) x.trace)

-- each member's trace from there on
abbrev pub Live : Group → (ℕ → NodeState Bytes) → List Stretch → Type 0
Live g nodes xs = (m : ℕ) → m < g.members → Traced g m (nodes m) (trace_in m xs) (led_to (nodes m) (trace_in m xs))

-- the trace of this stretch's member begins with the stretch's trace
own_trace : (m : ℕ) (x : Stretch) (xs : List Stretch) → nat_eq m x.member ≡ true → trace_in m (x ∷ xs) ≡ x.trace ++ trace_in m xs
own_trace m x xs is = cond-true (nat_eq m x.member) (x.trace ++ trace_in m xs) (trace_in m xs) is

other_trace : (m : ℕ) (x : Stretch) (xs : List Stretch) → nat_eq m x.member ≡ false → trace_in m (x ∷ xs) ≡ trace_in m xs
other_trace m x xs is = cond-false (nat_eq m x.member) (x.trace ++ trace_in m xs) (trace_in m xs) is

put_own : (nodes : ℕ → NodeState Bytes) (x : Stretch) (k : ℕ) → nat_eq k x.member ≡ true → k ≡ x.member →
    put_on nodes x k ≡ led_to (nodes k) x.trace
put_own nodes x k is same =
    cond-true (nat_eq k x.member) (led_to (nodes x.member) x.trace) (nodes k) is
    ∙ ap (λ (j : ℕ). led_to (nodes j) x.trace) (sym same)

put_other : (nodes : ℕ → NodeState Bytes) (x : Stretch) (k : ℕ) → nat_eq k x.member ≡ false → put_on nodes x k ≡ nodes k
put_other nodes x k is = cond-false (nat_eq k x.member) (led_to (nodes x.member) x.trace) (nodes k) is

-- where each member is led
pub led_on : (nodes : ℕ → NodeState Bytes) (x : Stretch) (xs : List Stretch) (k : ℕ) →
    led_to (put_on nodes x k) (trace_in k xs) ≡ led_to (nodes k) (trace_in k (x ∷ xs))
led_on nodes x xs k = elim (eqb_tells k x.member) [
  | inl is ↦ ap (λ (s : NodeState Bytes). led_to s (trace_in k xs)) (put_own nodes x k is.0 is.1)
      ∙ sym (led_then (nodes k) x.trace (trace_in k xs))
      ∙ ap (led_to (nodes k)) (sym (own_trace k x xs is.0))
  | inr other ↦ ap (λ (s : NodeState Bytes). led_to s (trace_in k xs)) (put_other nodes x k other.0)
      ∙ ap (led_to (nodes k)) (sym (other_trace k x xs other.0))
]

abbrev Leads : Group → (m : ℕ) → NodeState Bytes → List TraceEvent → Type 0
Leads g m s ds = Traced g m s ds (led_to s ds)

leads_back : (g : Group) (m : ℕ) (s : NodeState Bytes) (xs ys : List TraceEvent) → Leads g m s (xs ++ ys) → Leads g m (led_to s xs) ys
leads_back g m s xs ys l =
    subst (λ (t : NodeState Bytes). Traced g m (led_to s xs) ys t) (led_then s xs ys) (traced_back g m s (led_to s (xs ++ ys)) xs ys l)

leads_then : (g : Group) (m : ℕ) (s : NodeState Bytes) (xs ys : List TraceEvent) → Leads g m s xs → Leads g m (led_to s xs) ys → Leads g m s (xs ++ ys)
leads_then g m s xs ys a b =
    subst (λ (t : NodeState Bytes). Traced g m s (xs ++ ys) t) (sym (led_then s xs ys))
    (traced_then g m s (led_to s xs) (led_to (led_to s xs) ys) xs ys a b)

-- after a stretch each member's trace goes on
live_on : (g : Group) (nodes : ℕ → NodeState Bytes) (x : Stretch) (xs : List Stretch) → Live g nodes (x ∷ xs) → Live g (put_on nodes x) xs
live_on g nodes x xs live k below = elim (eqb_tells k x.member) [
  | inl is ↦ subst (λ (s : NodeState Bytes). Leads g k s (trace_in k xs)) (sym (put_own nodes x k is.0 is.1))
      (leads_back g k (nodes k) x.trace (trace_in k xs)
      (subst (λ (ds : List TraceEvent). Leads g k (nodes k) ds) (own_trace k x xs is.0) (live k below)))
  | inr other ↦ subst (λ (s : NodeState Bytes). Leads g k s (trace_in k xs)) (sym (put_other nodes x k other.0))
      (subst (λ (ds : List TraceEvent). Leads g k (nodes k) ds) (other_trace k x xs other.0) (live k below))
]

-- a stretch first
pub live_first : (g : Group) (nodes : ℕ → NodeState Bytes) (x : Stretch) (xs : List Stretch) → IsStretch g (nodes x.member) x →
    Live g (put_on nodes x) xs → Live g nodes (x ∷ xs)
live_first g nodes x xs first live k below = elim (eqb_tells k x.member) [
  | inl is ↦
      (let mine : Leads g k (nodes k) x.trace =
      subst (λ (j : ℕ). Leads g j (nodes j) x.trace) (sym is.1) first.traced in
      subst (λ (ds : List TraceEvent). Leads g k (nodes k) ds) (sym (own_trace k x xs is.0))
      (leads_then g k (nodes k) x.trace (trace_in k xs) mine
      (subst (λ (s : NodeState Bytes). Leads g k s (trace_in k xs)) (put_own nodes x k is.0 is.1) (live k below))))
  | inr other ↦ subst (λ (ds : List TraceEvent). Leads g k (nodes k) ds) (sym (other_trace k x xs other.0))
      (subst (λ (s : NodeState Bytes). Leads g k s (trace_in k xs)) (put_other nodes x k other.0) (live k below))
]

-- ---- all stretches

may_then : (g : Group) (hs more : List ClusterEvent) (c : Cluster) → MayAllHappen g hs c → MayAllHappen g more (after hs c) →
    MayAllHappen g (hs ++ more) c
may_then g [] more c a b = b
may_then g (h ∷ hs) more c a b = (a.0, may_then g hs more (next c h) a.1 b)

no_client : (n m : ℕ) → n ≤ 15 → m < n → m ≢ client
no_client n m few below is = let is' : m ≡ 255 = is in omega (arith, few, below, is')

goes_on : (g : Group) (xs : List Stretch) (c : Cluster) (nodes : ℕ → NodeState Bytes) (handed : List (ℕ × Bytes)) → g.members ≤ 15 →
    FinalStates c nodes → Holds handed c.sent → AreStretches g xs → Live g nodes xs → AreCarried g xs handed →
    MayAllHappen g (history_of xs) c × ((k : ℕ) → (after (history_of xs) c).nodes k ≡ led_to (nodes k) (trace_in k xs))
goes_on g [] c nodes handed few final_state holds are live carried = (tt, final_state)
goes_on g (x ∷ xs) c nodes handed few final_state holds are live carried =
    let m = x.member in
    let hs = map (cluster_event m) x.trace in
    let then = led_to (nodes m) x.trace in
    let mine : Traced g m (nodes m) x.trace then =
    traced_front g m (nodes m) (led_to (nodes m) (trace_in m (x ∷ xs))) x.trace (trace_in m xs)
    (subst (λ (ds : List TraceEvent). Traced g m (nodes m) ds (led_to (nodes m) (trace_in m (x ∷ xs)))) (own_trace m x xs (eq-eqb m m refl)) (live m are.0)) in
    let from : Traced g m (c.nodes m) x.trace then =
    subst (λ (z : NodeState Bytes). Traced g m z x.trace then) (sym (final_state m)) mine in
    let other = no_client g.members m few are.0 in
    let delivered = all_delivered g handed c.sent m x.gave x.trace other holds carried.0 are.1 in
    let rest = goes_on g xs (after hs c) (put_on nodes x) (handed ++ sent_by x.trace) few
    (final_then g m x.trace c nodes then final_state from) (holds_after m x.trace c handed holds) are.2 (live_on g nodes x xs live) carried.1 in (
      may_then g hs (history_of xs) c (trace_may g m x.trace c then are.0 from delivered) rest.0,
      λ k. ap (λ (d : Cluster). d.nodes k) (after_both hs (history_of xs) c) ∙ rest.1 k ∙ led_on nodes x xs k,
    )

pub wires_are_histories : WiresAreHistories
wires_are_histories g xs goes =
    goes_on g xs begun begun.nodes [] goes.group.few (λ k. refl) (λ m b other among. absurd among) goes.are goes.traced goes.carried
