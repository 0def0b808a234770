-- Turns one after the other.
use Rattle.std.proofs.Common.{◌≡◌, ◌∙◌, ℕ, zero, suc, List, [], ◌++◌, Option, Some, None, Bool, true, false, refl, sym, ap, subst}
use Rattle.std.proofs.Common.{inl, inr}
use Rattle.std.specs.Prelude.{◌∷◌, nat_lt}
use Rattle.px_model.specs.Spelling.{Bytes}
use Rattle.px_records.specs.declared.records.Records.{Ghosts}
use Rattle.px_replica.specs.declared.datagram.Datagram.{Datagram}
use Rattle.px_replica.specs.declared.fault.NodeFault.{NodeFault}
use Rattle.px_replica.specs.declared.state.Replica.{Replica}
use Rattle.px_transport.specs.Wires.{WireEvent, Gave, Handed, Adds, hands}
use Rattle.px_transport.proofs.Traffic.{adds_then}
use Rattle.std.proofs.lemmas.List.{append-nil, append_assoc}
use Rattle.px_wire.specs.Members.{as_sent}
use Rattle.px_wire.specs.declared.membership.Membership.{Membership}
use Rattle.px_model.specs.Law.{Among}
use Rattle.px_model.proofs.Basics.{among_cases}
use Rattle.node_loop.specs.Again.{AreAmong}
use Rattle.node_loop.proofs.Among.{among_is, among_front}
use Rattle.px_wire.specs.Message.{group}
use Rattle.px_replica.specs.Replicas.{membership_of}
use Rattle.node_loop.specs.Resending.{IsKnown}
use Rattle.node_loop.specs.Turns.{Acts, LoopState, HeardTurn, Ticked, TickedIf, Same, Turns, Served}
use Rattle.node_loop.specs.Turns.{Resent, Passed, Between, IsIdle, IsKnownTo}
use Rattle.node_loop.specs.Progress.{IsNobodys, SawAll, looked}
use Rattle.node_loop.specs.Timing.{TimerEvent, MakesRound, looks, sends_if, view_of}
use Rattle.px_model.specs.Step.{front}
use Rattle.px_replica.specs.Replicas.{learned_by}
use Rattle.node_loop.specs.inner.Turns.{SawIf}
use Rattle.node_loop.specs.declared.peer_progress.PeerProgress.{PeerProgress}
use Rattle.node_loop.specs.declared.timer.View.{View}

-- ---- nothing is done

-- then the whole stand is as it was
pub same_is : {R : Type 0} {G : Ghosts R} (x y : LoopState G) → Same x y → y ≡ x
same_is {R} {G} x y s =
    ap {B = LoopState G} (λ (r : Replica R G). record { replica = r; traffic = y.traffic; kept = y.kept; requests = y.requests; hears_asks = y.hears_asks }) s.replica
    ∙ (ap {B = LoopState G} (λ (o : List WireEvent). record { replica = x.replica; traffic = o; kept = y.kept; requests = y.requests; hears_asks = y.hears_asks }) s.traffic
    ∙ (ap {B = LoopState G} (λ (k : List (ℕ × Bytes)). record { replica = x.replica; traffic = x.traffic; kept = k; requests = y.requests; hears_asks = y.hears_asks }) s.kept
    ∙ (ap {B = LoopState G} (λ (q : List Bytes). record { replica = x.replica; traffic = x.traffic; kept = x.kept; requests = q; hears_asks = y.hears_asks }) s.requests
    ∙ ap {B = LoopState G} (λ (h : Bool). record { replica = x.replica; traffic = x.traffic; kept = x.kept; requests = x.requests; hears_asks = h }) s.hears)))

pub same_all : {R : Type 0} {G : Ghosts R} (x : LoopState G) → Same x x
same_all x = record { replica = refl; traffic = refl; kept = refl; requests = refl; hears = refl }

-- ---- between turns

-- what is known to a member with as many requests or fewer
pub known_from : {R : Type 0} {G : Ghosts R} (x y : LoopState G) (b : Bytes) → membership_of y.replica ≡ membership_of x.replica →
    AreAmong y.requests x.requests → y.hears_asks ≡ x.hears_asks → IsKnownTo y b → IsKnownTo x b
known_from x y b m q h (inl before) = inl (q b before)
known_from {R} {G} x y b m q h (inr outside) =
    subst (λ (n : Membership). IsKnown (group n) n.me x.hears_asks x.requests b) m
    (subst (λ (e : Bool). IsKnown (group (membership_of y.replica)) (membership_of y.replica).me e x.requests b) h (inr outside))

-- what is handed over again is idle
idle_hands : {R : Type 0} {G : Ghosts R} (x : LoopState G) (again : List (ℕ × Bytes)) → AreAmong again x.kept →
    (e : WireEvent) → Among (hands again) e → IsIdle x e
idle_hands x [] a e m = absurd m
idle_hands x (d ∷ ds) a e (inl is) = subst (IsIdle x) is (a d (inl refl))
idle_hands x (d ∷ ds) a e (inr later) = idle_hands x ds (λ y h. a y (inr h)) e later

-- what is idle for a member that knows and keeps no more
pub idle_from : {R : Type 0} {G : Ghosts R} (x y : LoopState G) (e : WireEvent) → membership_of y.replica ≡ membership_of x.replica →
    AreAmong y.requests x.requests → y.hears_asks ≡ x.hears_asks → AreAmong y.kept x.kept → IsIdle y e → IsIdle x e
idle_from x y (Gave b) m q h k i = known_from x y b m q h i
idle_from x y (Handed to b) m q h k i = k (to, b) i

pub between_all : {R : Type 0} {G : Ghosts R} (x : LoopState G) → Between x x
between_all x = record {
  replica = refl;
  events = [];
  idle = λ e m. absurd m;
  went = sym (append-nil x.traffic);
  kept = refl;
  requests = refl;
  hears = refl;
}

pub between_same : {R : Type 0} {G : Ghosts R} (x y : LoopState G) → Same x y → Between x y
between_same {R} {G} x y s = subst (λ (z : LoopState G). Between x z) (sym (same_is x y s)) (between_all x)

pub between_passed : {R : Type 0} {G : Ghosts R} (x y : LoopState G) → Passed x y → Between x y
between_passed x y p = record {
  replica = p.replica;
  events = Gave p.bytes ∷ hands p.again;
  idle = λ e m. elim m [ inl is ↦ subst (IsIdle x) is p.known | inr later ↦ idle_hands x p.again p.among e later ];
  went = p.went;
  kept = p.kept;
  requests = p.requests;
  hears = p.hears;
}

pub between_resent : {R : Type 0} {G : Ghosts R} (x y : LoopState G) → Resent x y → Between x y
between_resent x y r = record {
  replica = r.replica;
  events = hands r.again;
  idle = idle_hands x r.again r.among;
  went = r.went;
  kept = r.kept;
  requests = r.requests;
  hears = r.hears;
}

-- what went before, and what went after it
pub went_then : (x y z a b : List WireEvent) → y ≡ x ++ a → z ≡ y ++ b → z ≡ x ++ (a ++ b)
went_then x y z a b e f = f ∙ ap (λ (es : List WireEvent). es ++ b) e ∙ append_assoc x a b

pub between_then : {R : Type 0} {G : Ghosts R} (x y z : LoopState G) → Between x y → Between y z → Between x z
between_then {R} {G} x y z a b = record {
  replica = b.replica ∙ a.replica;
  events = a.events ++ b.events;
  idle = λ e m. elim (among_cases a.events b.events e m) [
    | inl here ↦ a.idle e here
    | inr later ↦ idle_from x y e (ap (λ (r : Replica R G). membership_of r) a.replica) (among_is y.requests x.requests a.requests) a.hears
        (among_is y.kept x.kept a.kept) (b.idle e later)
  ];
  went = went_then x.traffic y.traffic z.traffic a.events b.events a.went b.went;
  kept = b.kept ∙ a.kept;
  requests = b.requests ∙ a.requests;
  hears = b.hears ∙ a.hears;
}

-- ---- turns

turns_on : {R : Type 0} {G : Ghosts R} (n : ℕ) (x y z : LoopState G) → Turns n x y → Between y z → Turns n x z
turns_on zero x y z a b = between_then x y z a b
turns_on (suc n) x y z (v, w, t, d, a) b = (v, w, t, d, between_then w y z a b)

turns_then : {R : Type 0} {G : Ghosts R} (m n : ℕ) (x y z : LoopState G) → Turns m x y → Turns n y z → (k : ℕ) × Turns k x z
turns_then m zero x y z a b = (m, turns_on m x y z a b)
turns_then m (suc n) x y z a (v, w, t, d, b) = let c = turns_then m n x y v a t in (suc c.0, (v, w, c.1, d, b))

-- one run of turns behind the other
pub served_then : {R : Type 0} {G : Ghosts R} (x y z : LoopState G) (a : Option NodeFault) → Served x y None → Served y z a → Served x z a
served_then x y z a s t =
    let c = turns_then s.turns t.turns x y t.then (turns_on s.turns x s.then y s.made s.last) t.made in
    record { turns = c.0; then = t.then; made = c.1; last = t.last }

pub served_between : {R : Type 0} {G : Ghosts R} (x y : LoopState G) → Between x y → Served x y None
served_between x y b = record { turns = zero; then = y; made = b; last = between_all y }

pub served_none : {R : Type 0} {G : Ghosts R} (x y : LoopState G) → Same x y → Served x y None
served_none x y s = served_between x y (between_same x y s)

pub served_turn : {R : Type 0} {G : Ghosts R} (x y : LoopState G) (a : Option NodeFault) → HeardTurn x y a → Served x y a
served_turn x y None d = record { turns = suc zero; then = y; made = (x, y, between_all x, d, between_all y); last = between_all y }
served_turn x y (Some e) d = record { turns = zero; then = x; made = between_all x; last = d }

-- a turn of the clock is a turn
pub turned_by_clock : {R : Type 0} {G : Ghosts R} (x y : LoopState G) (a : Option NodeFault) → Ticked x y a → HeardTurn x y a
turned_by_clock x y a t = (
  record {
    came = None;
    out = t.out;
    acts = t.call;
    went = t.went;
    kept = t.kept;
    requests = among_front y.requests x.requests [] (among_is y.requests x.requests t.requests);
    hears = t.hears;
  },
  tt,
)

-- a datagram that is nobody's leaves the member as it was
pub nobodys_still : {R : Type 0} {G : Ghosts R} (s t : Replica R G) (bytes : Bytes) (out : List Datagram) →
    Acts s t (Some bytes) out None → IsNobodys s bytes → t ≡ s
nobodys_still s t bytes out (_, inl lost, e) u = lost.still
nobodys_still s t bytes out (_, inr (inl passed), e) u = passed.still
nobodys_still s t bytes out (_, inr (inr handled), e) u = absurd (u handled.sender (as_sent handled.message) handled.spelled)

-- ---- what is seen as datagrams are taken

-- where none had come the same were taken
saw_same : {R : Type 0} {G : Ghosts R} (n : ℕ) (x y z : LoopState G) (s t u : PeerProgress) → SawAll n x y s t → Same y z → u ≡ t → SawAll n x z s u
saw_same {R} {G} n x y z s t u a b f =
    subst (λ (w : LoopState G). SawAll n x w s u) (sym (same_is y z b)) (subst (λ (v : PeerProgress). SawAll n x y s v) (sym f) a)

-- one datagram more, or none
pub saw_more : {R : Type 0} {G : Ghosts R} (n m : ℕ) (x y z : LoopState G) (s t u : PeerProgress) (had : Bool) → had ≡ true → m ≡ suc n →
    SawAll n x y s t → SawIf had y z t u → SawAll m x z s u
saw_more n m x y z s t u true e is a d = subst (λ (k : ℕ). SawAll k x z s u) (sym is) (y, t, a, d)
saw_more n m x y z s t u false e is a d = absurd (cc)

pub saw_no_more : {R : Type 0} {G : Ghosts R} (n : ℕ) (x y z : LoopState G) (s t u : PeerProgress) (had : Bool) → had ≡ false →
    SawAll n x y s t → SawIf had y z t u → SawAll n x z s u
saw_no_more n x y z s t u false e a (b, f) = saw_same n x y z s t u a b f
saw_no_more n x y z s t u true e a d = absurd (cc)

-- ---- a round

-- what a timer is given at a look
pub looked_so : (a b c : List TimerEvent → Type 0) (now : ℕ) (v : View) (k : Bool) (t : PeerProgress) (q : Bool) →
    nat_lt v.front t.accepting ≡ q →
    Adds a b (TimerEvent.Looks now v k ∷ []) → Adds b c (sends_if q now) → Adds a c (looks now v k t)
looked_so a b c now v k t q e g h =
    adds_then a b c (TimerEvent.Looks now v k ∷ []) (sends_if (nat_lt v.front t.accepting) now) g
    (subst (λ (p : Bool). Adds b c (sends_if p now)) (sym e) h)

-- what a round that ended well did
pub round_made : {R : Type 0} {G : Ghosts R} (n now was : ℕ) (w x y z v : LoopState G) (o s t u : PeerProgress) (view : View)
    (k d : Bool) (a b c : List TimerEvent → Type 0) → Same w x → s ≡ o → SawAll n x y s t → u ≡ looked t →
    was ≡ front (learned_by w.replica) → view ≡ view_of y.replica was t → Adds a b (looks now view k t) →
    Adds b c (TimerEvent.Repeats now d ∷ []) → Resent y z → TickedIf k z v → MakesRound now w v o u a c
round_made {R} {G} n now was w x y z v o s t u view k d a b c same seen saw e f g l h again ticked = record {
  datagrams = n;
  then = y;
  seen = t;
  saw = subst (λ (q : PeerProgress). SawAll n w y q t) seen (subst (λ (p : LoopState G). SawAll n p y s t) (same_is w x same) saw);
  looked = e;
  tick = k;
  repeats = d;
  timer_events =
      adds_then a b c _ _
      (subst (λ (q : ℕ). Adds a b (looks now (view_of y.replica q t) k t)) f (subst (λ (q : View). Adds a b (looks now q k t)) g l))
      h;
  next = z;
  again = again;
  ticked = ticked;
}
