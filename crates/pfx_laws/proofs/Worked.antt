-- What a network may carry, worked on small cases. No law rests on these.
use Rattle.std.proofs.Common.{◌≡◌, ◌≢◌, ap, subst, refl, ℕ, ◌<◌, false, nat_eq, List, [], ◌∷◌, ◌++◌, map, Option, Some, None, inl, inr, arith}
use Rattle.std.proofs.lemmas.Bool.{cond-true, eq-eqb}
use Rattle.std.specs.Prelude.{slice_index}
use Rattle.px_model.specs.Node.{Record}
use Rattle.px_model.specs.Node.Input.{Ticks}
use Rattle.px_model.specs.Spelling.{Bytes}
use Rattle.px_model.specs.World.{NodeState, nothing_stored, started}
use Rattle.px_wire.specs.Message.{Group, group, Message, DatagramBytes}
use Rattle.px_replica.specs.Traces.TraceEvent.{Calls, Stops, Opens}
use Rattle.node_loop.specs.Resending.{IsOutside}
use Rattle.px_replica.specs.declared.datagram.Datagram.{Datagram}
use Rattle.std.specs.declared.net.socket_addr.SocketAddr.{SocketAddr}
use Rattle.node_udp.specs.Sockets.{SocketEvent, Came, Went}
use Rattle.px_transport.specs.Sending.{Sealer}
use Rattle.px_transport.specs.Wiring.{opened}
use Rattle.px_records.specs.declared.records.Records.{Ghosts}
use Rattle.px_wire.specs.declared.membership.Membership.{Membership}
use Rattle.node_control.specs.Sockets.{RanAt, RunsAt, RunsSealed}
use Rattle.pfx_laws.specs.Wires.{AreCarried}
use Rattle.pfx_laws.specs.Members.{Starts, During, Run, AreRuns, IsEmpty, IsTrace}
use Rattle.pfx_laws.specs.Sockets.{SocketsCarry, IsRun}
use Rattle.pfx_laws.specs.Sealed.{Keyed, IsUnopened, PacketsCarry, IsSealed}

empty_is_nobodys : (g : Group) (m : ℕ) → IsOutside g m []
empty_is_nobodys g m from x spelled = let e : 0 ≡ 0x50 = ap (λ (b : Bytes). slice_index b 0) spelled.spelled in absurd cc

-- Member 0's clock ticks, and it hands out one datagram for member 1. Member 1's wire gives it twice; member 2's gives
-- a request from outside that nobody handed over, and an empty datagram in place of one that it dropped. A network may
-- carry all of this.
pub may_be_carried : (g : Group) (t u v : NodeState Bytes) (d : Datagram) (ask : Bytes) → d.to ≡ 1 → IsOutside g 2 ask →
    AreCarried g (record { member = 0; trace = Calls Ticks t (d ∷ []) ∷ []; gave = [] }
    ∷ record { member = 1; trace = []; gave = d.bytes.items ∷ d.bytes.items ∷ [] }
    ∷ record { member = 2; trace = []; gave = ask ∷ [] ∷ [] } ∷ []) []
may_be_carried g t u v d ask to asks = (
  λ bytes among. absurd among,
  (
    λ bytes among. elim among [
      | inl is ↦ inl (inl (cc))
      | inr later ↦ (elim later [ inl is ↦ inl (inl (cc)) | inr none ↦ absurd none ])
    ],
    (
      λ bytes among. elim among [
        | inl is ↦ inr (subst (λ (b : Bytes). IsOutside g 2 b) is asks)
        | inr later ↦ (elim later [ inl is ↦ inr (subst (λ (b : Bytes). IsOutside g 2 b) is (empty_is_nobodys g 2)) | inr none ↦ absurd none ])
      ],
      tt,
    ),
  ),
)

-- A member's message to this member that nobody handed over it may not bring.
pub forged_is_not : (g : Group) (m sender : ℕ) (x : Message) (forged : Bytes) → DatagramBytes g sender m x forged → sender ≢ 255 →
    AreCarried g (record { member = m; trace = []; gave = forged ∷ [] } ∷ []) [] → ⊥
forged_is_not g m sender x forged spelled other carried =
    elim (carried.0 forged (inl refl)) [
      | inl none ↦ none
      | inr outside ↦ other (outside sender x spelled)
    ]

-- Nor one that was handed over for another member, and is a message to this one.
pub misled_is_not : (g : Group) (t : NodeState Bytes) (d : Datagram) (sender : ℕ) (x : Message) → d.to ≡ 1 →
    DatagramBytes g sender 2 x d.bytes.items → sender ≢ 255 →
    AreCarried g (record { member = 0; trace = Calls Ticks t (d ∷ []) ∷ []; gave = [] }
    ∷ record { member = 2; trace = []; gave = d.bytes.items ∷ [] } ∷ []) [] → ⊥
misled_is_not g t d sender x to spelled other carried = elim (carried.1.0 d.bytes.items (inl refl)) [
  | inl among ↦ (elim among [
    | inl is ↦ (let one : d.to ≡ 2 = ap (λ (p : ℕ × Bytes). p.0) is in cc)
    | inr none ↦ none
  ])
  | inr outside ↦ other (outside sender x spelled)
]

-- ---- at sockets, wherever members start again

-- Member 0's socket is handed a datagram, which member 1 receives; member 0 starts again, and member 1 receives the
-- datagram again. Member 2 receives a request from outside, and an empty datagram. Sockets may carry all of this.
pub may_come : (g : Group) (there from : SocketAddr) (d ask : Bytes) → 2 < g.members → IsOutside g 2 ask →
    SocketsCarry g ((0, Starts tt) ∷ (1, Starts tt) ∷ (2, Starts tt) ∷ (0, During (Went there d)) ∷ (1, During (Came from d)) ∷ (0, Starts tt)
    ∷ (1, During (Came from d)) ∷ (2, During (Came from ask)) ∷ (2, During (Came from [])) ∷ []) []
may_come g there from d ask three asks =
    let one : 1 < g.members = omega (arith, three) in
    let none : 0 < g.members = omega (arith, three) in
    (none, (one, (three, (none, (one, inl (inl refl), (none, (one, inl (inl refl), (three, inr asks, (three, inr (empty_is_nobodys g 2), tt)))))))))

-- A member's message that no socket was handed may not come.
pub forged_never_comes : (g : Group) (m sender : ℕ) (x : Message) (from : SocketAddr) (forged : Bytes) → DatagramBytes g sender m x forged →
    sender ≢ 255 → SocketsCarry g ((m, Starts tt) ∷ (m, During (Came from forged)) ∷ []) [] → ⊥
forged_never_comes g m sender x from forged spelled other carried =
    elim carried.1.1 [
      | inl none ↦ none
      | inr outside ↦ other (outside sender x spelled)
    ]

-- Nor before a socket was handed it.
pub never_comes_before : (g : Group) (m sender : ℕ) (x : Message) (there from : SocketAddr) (early : Bytes) → DatagramBytes g sender m x early →
    sender ≢ 255 → SocketsCarry g ((m, Starts tt) ∷ (m, During (Came from early)) ∷ (0, During (Went there early)) ∷ []) [] → ⊥
never_comes_before g m sender x there from early spelled other carried =
    elim carried.1.1 [
      | inl none ↦ none
      | inr outside ↦ other (outside sender x spelled)
    ]

-- A member that did nothing yet ran over a socket over which nothing went.
pub nothing_yet : (g : Group) (m : ℕ) (first : Record Bytes) → RanAt g m first [] [] (started first) []
nothing_yet g m first = record {
  addresses = [];
  me = m;
  passages = [];
  sound = tt;
  below_is = refl;
  ran = record {
    loops = [];
    kept = [];
    queue = refl;
    below_is = refl;
    ran = record {
      moves = [];
      does = refl;
      traced = refl;
      up = refl;
      hears = false;
      are = tt;
      last = [];
      came = refl;
      lost = [];
      went = refl;
      again = λ d none. none;
    };
  };
}

-- a run that does nothing, over this record
abbrev idle : Record Bytes → Run (Unit {0})
idle d = record { key = tt; first = d; trace = []; end = started d; unanswered = [] }

-- A member starts, stops at some moment of a tick that changes nothing, and starts again over the record that this
-- left.
pub starts_again : (g : Group) (m : ℕ) →
    AreRuns g m (IsRun g m) IsEmpty (idle nothing_stored ∷ idle nothing_stored ∷ [])
    (Starts tt ∷ Starts tt ∷ [])
starts_again g m = (
  refl,
  [],
  Starts tt ∷ [],
  nothing_yet g m nothing_stored,
  refl,
  ((Ticks, tt, (λ x none. absurd none), inl refl), [], [], nothing_yet g m nothing_stored, refl, refl),
)

-- Of two runs as node_control's contract has them, the second over what a stop may have left of the store: one after
-- another.
abbrev run_of : {R : Type 0} {G : Ghosts R} {m : Membership} {given back : R} {events : List SocketEvent} → RunsAt G m given back events →
    Run (Unit {0})
run_of {R} {G} {m} {given} {back} {events} a = record { key = tt; first = G.stored given; trace = a.trace; end = a.end; unanswered = a.unanswered }

pub store_goes_on : {R : Type 0} (G : Ghosts R) (m : Membership) (given back next end : R) (events later : List SocketEvent)
    (a : RunsAt G m given back events) (b : RunsAt G m next end later) → G.stored given ≡ nothing_stored → G.may_leave back (G.stored next) →
    AreRuns (group m) m.me (IsRun (group m) m.me) IsEmpty (run_of a ∷ run_of b ∷ [])
    (Starts tt ∷ (map (λ x. During x) events ++ (Starts tt ∷ (map (λ x. During x) later ++ []))))
store_goes_on G m given back next end events later a b empty left = (
  empty,
  events,
  Starts tt ∷ (map (λ x. During x) later ++ []),
  a.ran,
  refl,
  (a.leaves.stop (G.stored next) left, later, [], b.ran, refl, refl),
)

-- its trace
pub is_its_trace : IsTrace (idle nothing_stored ∷ idle nothing_stored ∷ []) (Stops Ticks nothing_stored ∷ Opens ∷ [])
is_its_trace = (Stops Ticks nothing_stored ∷ Opens ∷ [], refl, (Ticks, [], refl, refl))

-- ---- with a key

-- Member 1 receives a packet of an earlier start of member 0 and opens it, after member 0 started again.
pub earlier_start_may_come : (k l here : Keyed) (there from : SocketAddr) (packet : Bytes) →
    PacketsCarry 2 (λ m. None) ((0, Starts k) ∷ (1, Starts here) ∷ (0, During (Went there packet)) ∷ (0, Starts l) ∷ (1, During (Came from packet)) ∷ []) []
earlier_start_may_come k l here there from packet =
    (omega arith, (omega arith, (omega arith, (omega arith, (omega arith, inl (inl refl), tt)))))

-- One that is opened and that no socket was handed may not come.
pub forged_packet_never_comes : (n m : ℕ) (k : Keyed) (from : SocketAddr) (forged : Bytes) → opened k.keys k.sealer forged ≢ None →
    PacketsCarry n (λ m. None) ((m, Starts k) ∷ (m, During (Came from forged)) ∷ []) [] → ⊥
forged_packet_never_comes n m k from forged opens carried =
    elim carried.1.1 [
      | inl none ↦ none
      | inr unopened ↦ opens (subst (λ (o : Option Keyed). IsUnopened o forged) (cond-true (nat_eq m m) (Some k) None (eq-eqb m m refl)) unopened)
    ]

-- Of two runs as node_control's contract has them, with keys and starts of their own, the second over what a stop may
-- have left of the store: one after another.
abbrev sealed_run_of : {R : Type 0} {G : Ghosts R} {m : Membership} {keys : List (List ℕ)} {s : Sealer} {given back : R}
    {events : List SocketEvent} → RunsSealed G m keys s given back events → Run Keyed
sealed_run_of {R} {G} {m} {keys} {s} {given} {back} {events} a =
    record { key = record { keys = keys; sealer = s }; first = G.stored given; trace = a.trace; end = a.end; unanswered = a.unanswered }

pub sealed_store_goes_on : {R : Type 0} (G : Ghosts R) (m : Membership) (k l : Keyed) (given back next end : R) (events later : List SocketEvent)
    (a : RunsSealed G m k.keys k.sealer given back events) (b : RunsSealed G m l.keys l.sealer next end later) →
    k.sealer.me ≡ m.me → l.sealer.me ≡ m.me → G.stored given ≡ nothing_stored → G.may_leave back (G.stored next) →
    AreRuns (group m) m.me (IsSealed (group m) m.me) IsEmpty (sealed_run_of a ∷ sealed_run_of b ∷ [])
    (Starts k ∷ (map (λ x. During x) events ++ (Starts l ∷ (map (λ x. During x) later ++ []))))
sealed_store_goes_on G m k l given back next end events later a b mine too empty left = (
  empty,
  events,
  Starts l ∷ (map (λ x. During x) later ++ []),
  record { ran = a.ran; me = mine },
  refl,
  (a.leaves.stop (G.stored next) left, later, [], record { ran = b.ran; me = too }, refl, refl),
)
