-- Turns of a node, and commands asked of it between them, are steps of the model.
use Rattle.std.proofs.Common.{◌≡◌, ◌∙◌, ◌⊎◌, ℕ, zero, suc, Bool, true, false, List, [], ◌++◌, Option, Some, None, refl, sym, ap, ap₂, subst, inl, inr}
use Rattle.std.proofs.lemmas.List.{append-nil}
use Rattle.px_model.specs.Node.{Record}
use Rattle.px_model.specs.Node.Input.{Asks}
use Rattle.px_model.specs.Spelling.{Bytes}
use Rattle.px_records.specs.declared.records.Records.{Ghosts}
use Rattle.px_replica.specs.Calls.{Call}
use Rattle.px_replica.specs.Replicas.{records_of, membership_of, has_failed, state_in}
use Rattle.px_replica.specs.declared.fault.NodeFault.{NodeFault}
use Rattle.px_replica.specs.declared.state.Replica.{Replica}
use Rattle.px_model.specs.Law.{Among}
use Rattle.px_model.proofs.Basics.{among_cases}
use Rattle.px_wire.specs.Message.{group}
use Rattle.px_wire.specs.declared.membership.Membership.{Membership}
use Rattle.px_transport.specs.Wires.{WireEvent}
use Rattle.px_replica.specs.Traces.{TraceEvent, Traced}
use Rattle.node_loop.specs.Again.{AreAmong}
use Rattle.node_loop.proofs.Among.{among_is, among_then, among_front, among_none}
use Rattle.node_loop.specs.Turns.{LoopState, Same, IsIdle, Between, Served}
use Rattle.node_loop.specs.Hosting.{AskedOnce, AskedTimes, Goes, Steps, Stops, Hosted}
use Rattle.node_loop.specs.Moves.{sent_by, AllFromMembers, LeavesThere, trace_of, events_of, came_by, AreMoves, HasTrace, HostingsAreTraces}
use Rattle.node_loop.proofs.Traffic.{none_brought, among_chain, among_nil, trace_then, events_then, came_then, moves_then, idly, idle_trace, idle_events, idle_moves}
use Rattle.node_loop.proofs.Chains.{same_is, idle_from, between_all, went_then}
use Rattle.node_loop.proofs.Runs.{Led, called, idles_in, led_between, led_then, served_before, served_led, served_ended, Ended, failed_call, between_lost, broken_served, broken_between, ended_more, led_has_trace, ended_has_trace}

-- ---- one thing behind the other

steps_then : {R : Type 0} {G : Ghosts R} (m n : ℕ) (x y z : LoopState G) → Steps m x y → Steps n y z → (k : ℕ) × Steps k x z
steps_then {R} {G} m zero x y z a e = (m, subst (λ (w : LoopState G). Steps m x w) (sym e) a)
steps_then m (suc n) x y z a (w, b, g) = let c = steps_then m n x y w a b in (suc c.0, (w, c.1, g))

-- one run behind the other
pub hosted_then : {R : Type 0} {G : Ghosts R} (x y z : LoopState G) (a : Option NodeFault) → Hosted x y None → Hosted y z a → Hosted x z a
hosted_then {R} {G} x y z a s t =
    let b : Steps t.steps s.then t.then = subst (λ (w : LoopState G). Steps t.steps w t.then) s.last t.made in
    let c = steps_then s.steps t.steps x s.then t.then s.made b in
    record { steps = c.0; then = t.then; made = c.1; last = t.last }

pub hosted_none : {R : Type 0} {G : Ghosts R} (x y : LoopState G) → y ≡ x → Hosted x y None
hosted_none x y e = record { steps = zero; then = x; made = refl; last = e }

-- turns alone
pub hosted_served : {R : Type 0} {G : Ghosts R} (x y : LoopState G) (a : Option NodeFault) → Served x y a → Hosted x y a
hosted_served x y None r = record { steps = suc zero; then = y; made = (x, refl, inl r); last = refl }
hosted_served x y (Some e) r = record { steps = zero; then = x; made = refl; last = r }

asked_steps : {R : Type 0} {G : Ghosts R} (n : ℕ) (x : LoopState G) (t : Replica R G) → AskedTimes n x.replica t → Steps n x (record x { replica = t })
asked_steps {R} {G} zero x t e = ap (λ (r : Replica R G). record x { replica = r }) e
asked_steps (suc n) x t (u, a, k) =
    (record x { replica = u }, asked_steps n x u a, inr (record { asked = k; rest = refl }))

-- asks alone
pub hosted_asked : {R : Type 0} {G : Ghosts R} (n : ℕ) (x : LoopState G) (t : Replica R G) → AskedTimes n x.replica t →
    Hosted x (record x { replica = t }) None
hosted_asked n x t a = record { steps = n; then = record x { replica = t }; made = asked_steps n x t a; last = refl }

-- the wire and the buffers are as they were
unchanged : {R : Type 0} {G : Ghosts R} (y z : LoopState G) → z.traffic ≡ y.traffic → z.kept ≡ y.kept →
    z.requests ≡ y.requests → z.hears_asks ≡ y.hears_asks → z ≡ record y { replica = z.replica }
unchanged y z t k q e =
    same_is (record y { replica = z.replica }) z (record { replica = refl; traffic = t; kept = k; requests = q; hears = e })

-- and then asks, with a wire and buffers that are left alone
pub hosted_on : {R : Type 0} {G : Ghosts R} (x y z : LoopState G) (n : ℕ) → Hosted x y None → AskedTimes n y.replica z.replica →
    z.traffic ≡ y.traffic → z.kept ≡ y.kept → z.requests ≡ y.requests → z.hears_asks ≡ y.hears_asks → Hosted x z None
hosted_on {R} {G} x y z n a b t k q e =
    subst (λ (w : LoopState G). Hosted x w None) (sym (unchanged y z t k q e))
    (hosted_then x y (record y { replica = z.replica }) None a (hosted_asked n y z.replica b))

once_before : {R : Type 0} {G : Ghosts R} (s t : Replica R G) → AskedOnce s t → G.is_honest (records_of t) → G.is_honest (records_of s)
once_before s t (command, f, call) honest = call.was honest

goes_before : {R : Type 0} {G : Ghosts R} (x y : LoopState G) → Goes x y → G.is_honest (records_of y.replica) → G.is_honest (records_of x.replica)
goes_before x y (inl ran) honest = served_before x y None ran honest
goes_before x y (inr asked) honest = once_before x.replica y.replica asked.asked honest

-- ---- a member that works, and one whose store failed in a request

-- The request after which it works no more is its last event. Since then nothing but what is idle is
-- done.
record Broken {R : Type 0} {G : Ghosts R} (x z : LoopState G) : Type 0 where
  stood : LoopState G
  fault : NodeFault
  led : Led (membership_of x.replica) x stood
  ended : Ended stood z fault
  idle : (e : WireEvent) → Among ended.last e → IsIdle stood e
  asked : AreAmong z.requests stood.requests
  stop : (left : Record Bytes) → G.may_leave (records_of z.replica) left →
      LeavesThere (group (membership_of stood.replica)) (membership_of stood.replica).me [] (state_in stood.replica) left
  failed : has_failed z.replica ≡ true

abbrev GoesOn : {R : Type 0} {G : Ghosts R} → (x z : LoopState G) → Type 0
GoesOn x z = Led (membership_of x.replica) x z ⊎ Broken x z

-- a member that works no more does nothing
lost_on : {R : Type 0} {G : Ghosts R} (x y z : LoopState G) → Broken x y → Between y z → Broken x z
unfolding ended_more between_lost
lost_on {R} {G} x y z b d = record {
  stood = b.stood;
  fault = b.fault;
  led = b.led;
  ended = ended_more b.stood y z b.fault b.ended (between_lost y z d);
  idle = λ e m. elim (among_cases b.ended.last d.events e m) [
    | inl here ↦ b.idle e here
    | inr later ↦ idle_from b.stood y e b.ended.membership b.asked b.ended.hears b.ended.kept (d.idle e later)
  ];
  asked = among_then z.requests y.requests b.stood.requests (among_is z.requests y.requests d.requests) b.asked;
  stop = λ left may. b.stop left (subst (λ (r : Replica R G). G.may_leave (records_of r) left) d.replica may);
  failed = ap (λ (r : Replica R G). has_failed r) d.replica ∙ b.failed;
}

-- a refused ask changes nothing, or makes it a failed one
refused : {R : Type 0} {G : Ghosts R} (x y z : LoopState G) (command : Bytes) (e : NodeFault) (b : Bool) → has_failed z.replica ≡ b →
    Led (membership_of x.replica) x y → G.is_honest (records_of z.replica) →
    Call y.replica z.replica (Asks command) [] [] (Some e) → z ≡ record y { replica = z.replica } → GoesOn x z
unfolding failed_call
refused {R} {G} x y z command e true is l honest call rest =
    let kept : z.kept ≡ y.kept = ap (λ (s : LoopState G). s.kept) rest in
    let requests : z.requests ≡ y.requests = ap (λ (s : LoopState G). s.requests) rest in
    let d = failed_call y z (Asks command) None [] e l.works honest tt (none_brought _ _ []) call
    (ap (λ (s : LoopState G). s.traffic) rest ∙ sym (append-nil y.traffic))
    (among_nil z.kept y.kept (among_is z.kept y.kept kept)) (among_nil z.requests y.requests (among_is z.requests y.requests requests))
    (ap (λ (s : LoopState G). s.hears_asks) rest) in
    inr (record {
      stood = y;
      fault = e;
      led = l;
      ended = d;
      idle = λ e m. absurd m;
      asked = among_is z.requests y.requests requests;
      stop = λ left may. d.stop left may;
      failed = is;
    })
refused {R} {G} x y z command e false is l honest call rest =
    let kept : z.kept ≡ y.kept = ap (λ (s : LoopState G). s.kept) rest in
    let requests : z.requests ≡ y.requests = ap (λ (s : LoopState G). s.requests) rest in
    let went : z.traffic ≡ y.traffic ++ [] = ap (λ (s : LoopState G). s.traffic) rest ∙ sym (append-nil y.traffic) in
    let d = failed_call y z (Asks command) None [] e l.works honest tt (none_brought _ _ []) call went
    (among_nil z.kept y.kept (among_is z.kept y.kept kept)) (among_nil z.requests y.requests (among_is z.requests y.requests requests))
    (ap (λ (s : LoopState G). s.hears_asks) rest) in
    let on : Led (membership_of y.replica) y z = record {
      moves = [];
      traced = d.stays (z.replica.works is);
      are = tt;
      members = λ off h m. absurd m;
      went = went;
      kept = among_nil z.kept y.kept (among_is z.kept y.kept kept);
      requests = among_nil z.requests y.requests (among_is z.requests y.requests requests);
      hears = ap (λ (s : LoopState G). s.hears_asks) rest;
      was = call.was;
      works = is;
      membership = call.membership;
    } in
    inl (led_then (membership_of x.replica) x y z l on)

asks : {R : Type 0} {G : Ghosts R} (x y z : LoopState G) → Led (membership_of x.replica) x y → G.is_honest (records_of z.replica) →
    AskedOnce y.replica z.replica → z ≡ record y { replica = z.replica } → GoesOn x z
asks {R} {G} x y z l honest (command, None, call) rest =
    inl (led_then (membership_of x.replica) x y z l
    (called y z (Asks command) None [] l.works honest tt tt (λ off h m. absurd m) call
    (ap (λ (s : LoopState G). s.traffic) rest ∙ sym (append-nil y.traffic))
    (among_nil z.kept y.kept (among_is z.kept y.kept (ap (λ (s : LoopState G). s.kept) rest)))
    (among_nil z.requests y.requests (among_is z.requests y.requests (ap (λ (s : LoopState G). s.requests) rest)))
    (ap (λ (s : LoopState G). s.hears_asks) rest)))
asks x y z l honest (command, Some e, call) rest =
    refused x y z command e (has_failed z.replica) refl l honest call rest

asks_broken : {R : Type 0} {G : Ghosts R} (x y z : LoopState G) → Broken x y → AskedOnce y.replica z.replica →
    z ≡ record y { replica = z.replica } → Broken x z
asks_broken {R} {G} x y z b (command, f, call) rest =
    let is : z ≡ y = rest ∙ ap {B = LoopState G} (λ (r : Replica R G). record y { replica = r }) (call.still b.failed) in
    subst (λ (w : LoopState G). Broken x w) (sym is) b

-- ---- one thing after another

goes : {R : Type 0} {G : Ghosts R} (x y z : LoopState G) → G.is_honest (records_of z.replica) →
    GoesOn x y → Goes y z → GoesOn x z
goes x y z honest (inl l) (inl ran) =
    inl (led_then (membership_of x.replica) x y z l (served_led y z ran l.works honest))
goes x y z honest (inl l) (inr asked) =
    asks x y z l honest asked.asked asked.rest
goes x y z honest (inr b) (inl ran) =
    inr (lost_on x y z b (broken_between y z b.failed ran))
goes x y z honest (inr b) (inr asked) =
    inr (asks_broken x y z b asked.asked asked.rest)

steps : {R : Type 0} {G : Ghosts R} (n : ℕ) (x z : LoopState G) → has_failed x.replica ≡ false →
    G.is_honest (records_of z.replica) → Steps n x z → GoesOn x z
steps {R} {G} zero x z works honest is =
    subst (λ (y : LoopState G). GoesOn x y) (sym is)
    (inl (led_between x x (between_all x) works))
steps (suc n) x z works honest (y, made, one) =
    goes x y z honest (steps n x y works (goes_before y z one honest) made) one

stops_before : {R : Type 0} {G : Ghosts R} (y z : LoopState G) (a : Option NodeFault) → Stops y z a → G.is_honest (records_of z.replica) →
    G.is_honest (records_of y.replica)
stops_before {R} {G} y z None is honest = subst (λ (p : LoopState G). G.is_honest (records_of p.replica)) is honest
stops_before y z (Some e) ran honest = served_before y z (Some e) ran honest

steps_before : {R : Type 0} {G : Ghosts R} (n : ℕ) (x z : LoopState G) → Steps n x z → G.is_honest (records_of z.replica) →
    G.is_honest (records_of x.replica)
steps_before {R} {G} zero x z is honest = subst (λ (p : LoopState G). G.is_honest (records_of p.replica)) is honest
steps_before (suc n) x z (y, made, one) honest = steps_before n x y made (goes_before y z one honest)

-- a record that is honest in the end was honest at first
pub hosted_before : {R : Type 0} {G : Ghosts R} (x z : LoopState G) (a : Option NodeFault) → Hosted x z a →
    G.is_honest (records_of z.replica) → G.is_honest (records_of x.replica)
hosted_before x z a o honest = steps_before o.steps x o.then o.made (stops_before o.then z a o.last honest)

module _ {R : Type 0} (G : Ghosts R)
    (settled : (r : R) → G.is_honest r → G.failed r ≡ 0 → (d : Record Bytes) → G.may_leave r d → d ≡ G.stored r) where
  -- Where the call that failed was an ask, nothing but what is idle was done since.
  broken_has_trace : (x z : LoopState G) → Broken x z → HasTrace x z None
  broken_has_trace x z b =
      let l = b.led in
      let d = b.ended in
      let m = membership_of x.replica in
      let on = idly d.last in
      let still : AreMoves (group m) m.me x.hears_asks on b.stood.requests b.stood.kept =
      subst (λ (h : Bool). AreMoves (group m) m.me h on b.stood.requests b.stood.kept) l.hears
      (subst (λ (n : Membership). AreMoves (group n) n.me b.stood.hears_asks on b.stood.requests b.stood.kept) l.membership
      (idle_moves (group (membership_of b.stood.replica)) (membership_of b.stood.replica).me b.stood.hears_asks d.last b.stood.requests b.stood.kept
      (λ e n. idles_in b.stood e (b.idle e n)))) in
      let same : trace_of (l.moves ++ on) ≡ trace_of l.moves =
      trace_then l.moves on ∙ ap (λ (ds : List TraceEvent). trace_of l.moves ++ ds) (idle_trace d.last) ∙ append-nil (trace_of l.moves) in
      record {
        moves = l.moves ++ on;
        then = state_in b.stood.replica;
        traced = subst (λ (ds : List TraceEvent). Traced (group m) m.me (state_in x.replica) ds (state_in b.stood.replica)) (sym same) l.traced;
        up = refl;
        are = moves_then (group m) m.me x.hears_asks l.moves on x.requests b.stood.requests x.kept b.stood.kept l.are still l.requests l.kept;
        members = λ off. subst (λ (ds : List TraceEvent). AllFromMembers ds) (sym same) (l.members off);
        last = [];
        went = went_then x.traffic b.stood.traffic z.traffic (events_of l.moves) d.last l.went d.went
            ∙ ap (λ (es : List WireEvent). x.traffic ++ (events_of l.moves ++ es)) (sym (idle_events d.last))
            ∙ ap (λ (es : List WireEvent). x.traffic ++ es) (sym (events_then l.moves on) ∙ sym (append-nil (events_of (l.moves ++ on))));
        again = among_none (x.kept ++ sent_by (trace_of (l.moves ++ on)));
        kept = subst (λ (ds : List TraceEvent). AreAmong z.kept (x.kept ++ sent_by ds)) (sym same)
            (among_then z.kept b.stood.kept (x.kept ++ sent_by (trace_of l.moves)) d.kept l.kept);
        requests = subst (λ (bs : List Bytes). AreAmong z.requests (x.requests ++ bs))
            (sym (append-nil (came_by (l.moves ++ on)) ∙ came_then l.moves on))
            (among_chain x.requests b.stood.requests z.requests (came_by l.moves) (came_by on) l.requests
            (among_front z.requests b.stood.requests (came_by on) b.asked));
        hears = d.hears ∙ l.hears;
        stays = d.stays;
        stop = λ left may. subst (λ (n : Membership). LeavesThere (group n) n.me [] (state_in b.stood.replica) left) l.membership (b.stop left may);
        whole = λ none. refl;
        membership = d.membership ∙ l.membership;
      }

  stops : (x y z : LoopState G) (a : Option NodeFault) → G.is_honest (records_of z.replica) →
      GoesOn x y → Stops y z a → HasTrace x z a
  stops x y z None honest (inl l) is =
      subst (λ (p : LoopState G). HasTrace x p None) (sym is)
      (led_has_trace G settled x y (subst (λ (p : LoopState G). G.is_honest (records_of p.replica)) is honest) l)
  stops x y z None honest (inr b) is =
      subst (λ (p : LoopState G). HasTrace x p None) (sym is)
      (broken_has_trace x y b)
  stops x y z (Some e) honest (inl l) ran =
      let s = served_ended y z e ran l.works honest in
      ended_has_trace G settled x s.0 z e (Some e) (led_then (membership_of x.replica) x y s.0 l s.1) s.2
      (λ is. absurd (let h : Some e ≡ None = is in cc))
  stops x y z (Some e) honest (inr b) ran =
      ended_has_trace G settled x b.stood z b.fault (Some e) b.led
      (ended_more b.stood y z b.fault b.ended (broken_served y z (Some e) b.failed ran))
      (λ is. absurd (let h : Some e ≡ None = is in cc))

  pub hostings_traced : HostingsAreTraces G
  hostings_traced x z answered honest works o =
      stops x o.then z answered honest
      (steps o.steps x o.then works (stops_before o.then z answered o.last honest) o.made) o.last
