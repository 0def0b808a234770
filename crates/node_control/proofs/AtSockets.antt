-- A member's run over its wire is one at its socket.
use Rattle.std.proofs.Common.{◌≡◌, ◌∙◌, ◌⊎◌, sym, ap, subst, refl, ℕ, Bool, false, ◌<◌, List, [], ◌++◌, Option, Some, inl, inr, arith}
use Rattle.std.proofs.lemmas.List.{append-nil}
use Rattle.px_model.specs.Node.{Record}
use Rattle.px_model.specs.Node.Input.{Ticks}
use Rattle.px_model.specs.Spelling.{Bytes}
use Rattle.px_model.specs.World.{NodeState, started}
use Rattle.px_records.specs.declared.records.Records.{Ghosts}
use Rattle.px_wire.specs.Message.{Group, group}
use Rattle.px_wire.specs.declared.membership.Membership.{Membership}
use Rattle.px_replica.specs.Traces.{TraceEvent}
use Rattle.px_transport.specs.Identities.{Identity, with_me}
use Rattle.px_transport.specs.Loopback as loopback
use Rattle.px_transport.specs.Loopback.{Looped}
use Rattle.px_transport.specs.Sending.{Sealer}
use Rattle.px_transport.specs.Steps.{CallsAreSteps}
use Rattle.px_transport.specs.Wires.{WireEvent, given_in}
use Rattle.px_transport.specs.Wiring as wiring
use Rattle.px_transport.specs.Wiring.{WentSealed}
use Rattle.px_transport.specs.declared.loopback.LoopbackWire.{LoopbackWire}
use Rattle.px_transport.specs.declared.packet_wire.PacketWire.{PacketWire}
use Rattle.node_loop.specs.Runs.{HostedRuns, HostedRunsAreTraces, TracedOver}
use Rattle.node_loop.specs.Moves.{trace_of, AllFromMembers}
use Rattle.node_loop.specs.declared.ended.Ended.{Ended}
use Rattle.node_udp.specs.Members.{peers_of, me_of, route_of, socket_of}
use Rattle.node_udp.specs.Sockets as sockets
use Rattle.node_udp.specs.Sockets.{SocketEvent, WentOver}
use Rattle.node_udp.specs.declared.socket.Socket as socket
use Rattle.node_udp.specs.declared.udp.UdpWire.{UdpWire}
use Rattle.node_control.specs.Sockets.{Ran, RanAbove, RanAt, RanSealed, Leaves, RunsAtHearing, RunsSealedHearing}
use Rattle.node_control.specs.inner.Looping.{WentLooped}

-- a run that handed over all
abbrev AllRan : (g : Group) (m : ℕ) (first : Record Bytes) (es : List WireEvent) (trace : List TraceEvent) (end : NodeState Bytes)
    (unanswered : List Bytes) → Type 0
AllRan g m first es trace end unanswered = (r : Ran g m first es trace end unanswered) × (r.lost ≡ [])

abbrev AllRanAbove : (g : Group) (m : ℕ) (first : Record Bytes) (es : List WireEvent) (trace : List TraceEvent) (end : NodeState Bytes)
    (unanswered : List Bytes) → Type 0
AllRanAbove g m first es trace end unanswered = (r : RanAbove g m first es trace end unanswered) × (r.ran.lost ≡ [])

abbrev AllRanSealed : (g : Group) (keys : List (List ℕ)) (s : Sealer) (m : ℕ) (first : Record Bytes) (es : List SocketEvent)
    (trace : List TraceEvent) (end : NodeState Bytes) (unanswered : List Bytes) → Type 0
AllRanSealed g keys s m first es trace end unanswered =
    (r : RanSealed g keys s m first es trace end unanswered) × (r.ran.ran.lost ≡ [])

-- the trace of a run is that of a member that ran
ran : {R : Type 0} (G : Ghosts R) (m : Membership) (given back : R) (es : List WireEvent) (l : TracedOver G m given back [] es) →
    AllRan (group m) m.me (G.stored given) es (trace_of l.moves) l.then (given_in l.last)
ran G m given back es l = (
  record {
    moves = l.moves;
    does = refl;
    traced = l.traced;
    up = l.up;
    hears = l.hears;
    are = l.are;
    last = l.last;
    came = refl;
    lost = [];
    went = append-nil es ∙ l.went;
    again = l.again;
  },
  refl,
)

-- it has no events
idle : (g : Group) (m : ℕ) (first : Record Bytes) (es : List WireEvent) → es ≡ [] → AllRan g m first es [] (started first) []
idle g m first es none = (
  record {
    moves = [];
    does = refl;
    traced = refl;
    up = refl;
    hears = false;
    are = tt;
    last = [];
    came = refl;
    lost = [];
    went = append-nil es ∙ none;
    again = λ d n. n;
  },
  refl,
)

-- while no call on a record has failed, a stop leaves it as it is
abbrev pub Settles : {R : Type 0} → Ghosts R → Type 0
Settles {R} G =
    (r : R) → G.is_honest r → G.failed r ≡ 0 → (d : Record Bytes) → G.may_leave r d → d ≡ G.stored r

-- a run over a record, over some wire: the member's trace, and its record
record RunsOver {R : Type 0} (G : Ghosts R) (m : Membership) (hears : Bool) (given back : R) (es : List WireEvent) : Type 0 where
  pub trace : List TraceEvent
  pub end : NodeState Bytes
  pub unanswered : List Bytes
  pub ran : AllRan (group m) m.me (G.stored given) es trace end unanswered
  pub leaves : Leaves G m back end unanswered
  pub members : hears ≡ false → AllFromMembers trace

runs_over : {R : Type 0} (G : Ghosts R) → Settles G → HostedRunsAreTraces G → (m : Membership) (hears : Bool) (given back : R)
    (es : List WireEvent) (ended : Ended) → G.is_honest back → G.failed given ≡ 0 → HostedRuns G m hears given [] es ended back →
    RunsOver G m hears given back es
runs_over G settles law m hears given back es ended honest fresh (inr run) =
    let over = law m given back [] es hears ended honest run in
    let l = over.0 in record {
      trace = trace_of l.moves;
      end = l.then;
      unanswered = given_in l.last;
      ran = ran G m given back es l;
      leaves = record { stays = l.stays; stop = l.stop };
      members = λ off. l.members (over.1 ∙ off);
    }
runs_over G settles law m hears given back es ended honest fresh (inl (e, is, refused, same)) = record {
  trace = [];
  end = started (G.stored given);
  unanswered = [];
  ran = idle (group m) m.me (G.stored given) es same;
  leaves = record {
    stays = λ none. refused.stays honest (λ store. let above = (refused.counts fresh).0 store in omega (arith, none, above));
    stop = λ left may.
        (Ticks, tt, λ x none. absurd none, inl (settles given (refused.was honest) fresh left (refused.stop honest left may)));
  };
  members = λ off x m. absurd m;
}

-- the same over the wire below
above : {W : Type 0} (g : Group) (m : ℕ) (first : Record Bytes) (below : List WireEvent → Type 0) (w : LoopbackWire W)
    (es : List WireEvent) (trace : List TraceEvent) (end : NodeState Bytes) (unanswered : List Bytes) (looped : Looped below w es) →
    loopback.me_of w ≡ m → AllRan g m first es trace end unanswered →
    AllRanAbove g m first (loopback.below_in looped.loops) trace end unanswered
above g m first below w es trace end unanswered looped me r =
    let own = subst (λ (fs : List WireEvent). AllRan g m first fs trace end unanswered)
    (looped.above_is ∙ ap (λ (k : ℕ). loopback.above_in k looped.loops) me) r in (
      record {
        loops = looped.loops;
        kept = loopback.kept_of w;
        queue = looped.queue;
        below_is = refl;
        ran = own.0;
      },
      own.1,
    )

-- at the socket
pub runs_at : {R S C : Type 0} (G : Ghosts R) (H : socket.Ghosts S) → Settles G → HostedRunsAreTraces G → (m : Membership) (hears : Bool)
    (given back : R) (ended : Ended) (wire : UdpWire S C) → G.is_honest back → G.failed given ≡ 0 →
    WentLooped (λ (u : UdpWire S C). WentOver (H.traffic (socket_of u)) u) m.me wire (λ es. HostedRuns G m hears given [] es ended back) →
    (events : List SocketEvent) × H.traffic (socket_of wire) events ×
    RunsAtHearing G m hears (route_of (peers_of wire) (me_of wire)) given back events
runs_at {R} {S} {C} G H settles law m hears given back ended wire honest fresh (w, es, is, me, looped, hosted) =
    let r = runs_over G settles law m hears given back es ended honest fresh hosted in
    let o = looped.below_is in
    let own = subst (λ (fs : List WireEvent). AllRanAbove (group m) m.me (G.stored given) fs r.trace r.end r.unanswered) o.above_is
    (above (group m) m.me (G.stored given) (WentOver (H.traffic (socket_of (loopback.below_of w))) (loopback.below_of w)) w es
    r.trace r.end r.unanswered looped me r.ran) in (
      sockets.below_in o.passages,
      subst (λ (u : UdpWire S C). H.traffic (socket_of u) (sockets.below_in o.passages)) is o.below_is,
      (
        record {
          trace = r.trace;
          end = r.end;
          unanswered = r.unanswered;
          ran = record {
            addresses = peers_of (loopback.below_of w);
            me = me_of (loopback.below_of w);
            passages = o.passages;
            sound = o.sound;
            below_is = refl;
            ran = own.0;
          };
          whole = own.1;
          leaves = r.leaves;
        },
        r.members,
        ap (λ (u : UdpWire S C). route_of (peers_of u) (me_of u)) is,
      ),
    )

-- the same with a key
pub runs_sealed : {R S C D : Type 0} (G : Ghosts R) (H : socket.Ghosts S) → Settles G → CallsAreSteps → HostedRunsAreTraces G →
    (m : Membership) (hears : Bool) (given back : R) (ended : Ended) (wire : PacketWire (UdpWire S C) D) → G.is_honest back → G.failed given ≡ 0 →
    WentLooped (λ (p : PacketWire (UdpWire S C) D). WentSealed (WentOver (H.traffic (socket_of (wiring.inner_of p))) (wiring.inner_of p)) p)
    m.me wire (λ es. HostedRuns G m hears given [] es ended back) →
    (events : List SocketEvent) × H.traffic (socket_of (wiring.inner_of wire)) events ×
    RunsSealedHearing G m hears (route_of (peers_of (wiring.inner_of wire)) (me_of (wiring.inner_of wire)))
    (wiring.keys_of wire) (wiring.sealer_of wire) given back events
runs_sealed {R} {S} {C} {D} G H settles are_steps law m hears given back ended wire honest fresh (w, es, is, me, looped, hosted) =
    let r = runs_over G settles law m hears given back es ended honest fresh hosted in
    let p = loopback.below_of w in
    let sealed = looped.below_is in
    let o = sealed.state_is.traffic_is in
    let events = sockets.below_in o.passages in
    let made = are_steps (wiring.keys_of p) (wiring.sealer_of p) sealed.calls sealed.state (loopback.below_in looped.loops) sealed.made in
    let own = subst (λ (fs : List WireEvent). AllRanAbove (group m) m.me (G.stored given) fs r.trace r.end r.unanswered) (sym made.2)
    (above (group m) m.me (G.stored given) (WentSealed (WentOver (H.traffic (socket_of (wiring.inner_of p))) (wiring.inner_of p)) p)
    w es r.trace r.end r.unanswered looped me r.ran) in
    let all = subst (λ (u : PacketWire (UdpWire S C) D). (a : AllRanSealed (group m) (wiring.keys_of u) (wiring.sealer_of u) m.me
    (G.stored given) events r.trace r.end r.unanswered) ×
    (route_of a.0.addresses a.0.me ≡ route_of (peers_of (wiring.inner_of u)) (me_of (wiring.inner_of u)))) is (
      (
        record {
          addresses = peers_of (wiring.inner_of p);
          me = me_of (wiring.inner_of p);
          passages = o.passages;
          sound = o.sound;
          below_is = refl;
          made = made.0;
          packets_are = made.1 ∙ o.above_is;
          are = made.3;
          ran = own.0;
        },
        own.1,
      ),
      refl,
    ) in (
      events,
      subst (λ (u : PacketWire (UdpWire S C) D). H.traffic (socket_of (wiring.inner_of u)) events) is o.below_is,
      (
        record {
          trace = r.trace;
          end = r.end;
          unanswered = r.unanswered;
          ran = all.0.0;
          whole = all.0.1;
          leaves = r.leaves;
        },
        r.members,
        all.1,
      ),
    )

-- with the addresses of another wire, which are the same
pub runs_at_by : {R : Type 0} (G : Ghosts R) (m : Membership) (hears : Bool) (given back : R) (events : List SocketEvent)
    (x y : List (List ℕ) × ℕ) → x ≡ y → RunsAtHearing G m hears x given back events → RunsAtHearing G m hears y given back events
runs_at_by G m hears given back events x y e r = subst (λ (z : List (List ℕ) × ℕ). RunsAtHearing G m hears z given back events) e r

-- the same, with the keys and the sealer too
pub runs_sealed_by : {R : Type 0} (G : Ghosts R) (m : Membership) (hears : Bool) (given back : R) (events : List SocketEvent)
    (x y : List (List ℕ) × ℕ) (keys keys' : List (List ℕ)) (s s' : Sealer) → x ≡ y → keys ≡ keys' → s ≡ s' →
    RunsSealedHearing G m hears x keys s given back events → RunsSealedHearing G m hears y keys' s' given back events
runs_sealed_by G m hears given back events x y keys keys' s s' d e f r =
    subst (λ (t : Sealer). RunsSealedHearing G m hears y keys' t given back events) f
    (subst (λ (ks : List (List ℕ)). RunsSealedHearing G m hears y ks s given back events) e
    (subst (λ (z : List (List ℕ) × ℕ). RunsSealedHearing G m hears z keys s given back events) d r))

-- ---- whose wire it is

some_is : {X : Type 0} (x y : X) → Some x ≡ Some y → x ≡ y
some_is x y e = cc

pub me_is : (m k : ℕ) (i j : Identity) → with_me m i ≡ with_me k j → m ≡ k
me_is m k i j e = some_is m k (ap (λ (x : Identity). x.me) e)

pub below_is : (m k : ℕ) (i j : Identity) → with_me m i ≡ with_me k j → i.sealing ≡ j.sealing
below_is m k i j e = ap (λ (x : Identity). x.sealing) e

pub route_below : (m k : ℕ) (i j : Identity) → with_me m i ≡ with_me k j → i.route ≡ j.route
route_below m k i j e = ap (λ (x : Identity). x.route) e

pub route_is : (x y : List (List ℕ) × ℕ) → ◌≡◌ {A = Option (List (List ℕ) × ℕ)} (Some x) (Some y) → x ≡ y
route_is x y e = some_is {X = List (List ℕ) × ℕ} x y e

pub sealing_is : (keys keys' : List (List ℕ)) (s s' : Sealer) →
    ◌≡◌ {A = Option (List (List ℕ) × Sealer)} (Some (keys, s)) (Some (keys', s')) → (keys ≡ keys') × (s ≡ s')
sealing_is keys keys' s s' e =
    let p = some_is {X = List (List ℕ) × Sealer} (keys, s) (keys', s') e in
    (ap (λ (q : List (List ℕ) × Sealer). q.0) p, ap (λ (q : List (List ℕ) × Sealer). q.1) p)
