-- Every front of a member's run is a run of the member, at its wire and at its socket: so one that is killed is a run,
-- wherever that happens.
use Rattle.std.proofs.Common.{◌≡◌, ◌∙◌, ◌⊎◌, sym, ap, subst, refl, true, ℕ, Bool, List, [], ◌∷◌, ◌++◌, Option, Some, None, inl, inr, append_assoc}
use Rattle.std.proofs.lemmas.List.{append-nil}
use Rattle.std.specs.List.{AllByRecursion}
use Rattle.px_model.specs.Law.{Among}
use Rattle.px_model.specs.Node.{Record, Input}
use Rattle.px_model.specs.Node.Input.{Asks, Ticks, Comes}
use Rattle.px_model.specs.Spelling.{Bytes}
use Rattle.px_model.specs.World.{NodeState, started}
use Rattle.px_wire.specs.Message.{Group}
use Rattle.px_replica.specs.Traces.{TraceEvent, Traced}
use Rattle.px_replica.specs.Traces.TraceEvent.{Calls}
use Rattle.px_replica.specs.declared.datagram.Datagram.{Datagram}
use Rattle.px_transport.specs.Wires.{WireEvent, Gave, Handed, given_in, handed_in, gives, hands}
use Rattle.node_loop.specs.Again.{AreAmong}
use Rattle.node_loop.specs.Resending.{came_in}
use Rattle.node_loop.specs.Turns.{handed_over}
use Rattle.node_loop.specs.Moves as has_trace
use Rattle.node_loop.specs.Moves.{Move, trace_of, events_of, sent_by, message_in, AreMoves, IsBrought, AreBrought, LeavesThere}
use Rattle.node_loop.proofs.Traffic.{one_brought}
use Rattle.px_transport.specs.Loopback as loopback
use Rattle.px_transport.specs.Loopback.{Loop, IsQueue}
use Rattle.px_transport.specs.Sending.{Sealer}
use Rattle.px_transport.specs.Steps as steps
use Rattle.px_transport.specs.Steps.{Step, AreSteps}
use Rattle.node_udp.specs.Sockets as sockets
use Rattle.node_udp.specs.Sockets.{SocketEvent, Passage}
use Rattle.node_udp.specs.declared.address.Address.{Address}
use Rattle.node_control.specs.Sockets.{Ran, RanAbove, RanAt, RanSealed}
use Rattle.pfx_laws.specs.Fronts.{Front, FrontsAreRuns}

-- ---- what was still to be handed over

hands_both : (xs ys : List (ℕ × Bytes)) → hands (xs ++ ys) ≡ hands xs ++ hands ys
hands_both [] ys = refl
hands_both (d ∷ xs) ys = ap (λ (es : List WireEvent). Handed d.0 d.1 ∷ es) (hands_both xs ys)

-- A run that stops before its last datagrams are handed over is one with the same trace.
pub fronts_are_runs : (g : Group) (m : ℕ) (first : Record Bytes) (events : List WireEvent) (more : List (ℕ × Bytes)) (trace : List TraceEvent)
    (end : NodeState Bytes) (unanswered : List Bytes) → Ran g m first (events ++ hands more) trace end unanswered →
    Ran g m first events trace end unanswered
fronts_are_runs g m first events more trace end unanswered r = record {
  moves = r.moves;
  does = r.does;
  traced = r.traced;
  up = r.up;
  hears = r.hears;
  are = r.are;
  last = r.last;
  came = r.came;
  lost = more ++ r.lost;
  went = ap (λ (es : List WireEvent). events ++ es) (hands_both more r.lost) ∙ sym (append_assoc events (hands more) (hands r.lost)) ∙ r.went;
  again = r.again;
}

-- ---- any front

-- the rest of what is handed over is handed over
hands_end : (front lack : List WireEvent) (ds : List (ℕ × Bytes)) → front ++ lack ≡ hands ds → (es : List (ℕ × Bytes)) × (lack ≡ hands es)
hands_end [] lack ds h = (ds, h)
hands_end (e ∷ front) lack [] h = absurd (cc)
hands_end (e ∷ front) lack (d ∷ ds) h = let more : front ++ lack ≡ hands ds = cc in hands_end front lack ds more

-- a front ends behind what comes first, or within it
split : {X : Type 0} (front rest xs ys : List X) → front ++ rest ≡ xs ++ ys →
    ((behind : List X) × (front ≡ xs ++ behind) × (behind ++ rest ≡ ys)) ⊎ ((lack : List X) × (front ++ lack ≡ xs))
split front rest [] ys h = inl (front, refl, h)
split [] rest (x ∷ xs) ys h = inr (x ∷ xs, refl)
split {X} (e ∷ front) rest (x ∷ xs) ys h =
    let one : e ≡ x = cc in
    let more : front ++ rest ≡ xs ++ ys = cc in
    elim (split front rest xs ys more) [
      | inl s ↦ inl (s.0, ap (λ (zs : List X). e ∷ zs) s.1 ∙ ap (λ (z : X). z ∷ (xs ++ s.0)) one, s.2)
      | inr s ↦ inr (s.0, ap (λ (zs : List X). e ∷ zs) s.1 ∙ ap (λ (z : X). z ∷ xs) one)
    ]

up_before : (g : Group) (m : ℕ) (ms : List Move) (s t : NodeState Bytes) → Traced g m s (trace_of ms) t → t.is_up ≡ true → s.is_up ≡ true
up_before g m [] s t v up = ap (λ (u : NodeState Bytes). u.is_up) (sym v) ∙ up
up_before g m (has_trace.Does came i u out ∷ ms) s t v up = v.0
up_before g m (has_trace.Passes b ∷ ms) s t v up = up_before g m ms s t v up
up_before g m (has_trace.Repeats to b ∷ ms) s t v up = up_before g m ms s t v up

handed_front : (front rest : List WireEvent) → AreAmong (handed_in front) (handed_in (front ++ rest))
handed_front [] rest d n = absurd n
handed_front (Gave b ∷ front) rest d n = handed_front front rest d n
handed_front (Handed to b ∷ front) rest d (inl is) = inl is
handed_front (Handed to b ∷ front) rest d (inr n) = inr (handed_front front rest d n)

-- a prefix of what goes over the wire: moves, and the member's trace in them, from this state on; these were kept
record Cut (g : Group) (m : ℕ) (hears : Bool) (ms : List Move) (s t : NodeState Bytes) (before : List Bytes) (kept : List (ℕ × Bytes))
    (front : List WireEvent) : Type 0 where
  moves : List Move
  then : NodeState Bytes
  traced : Traced g m s (trace_of moves) then
  up : then.is_up ≡ true
  are : AreMoves g m hears moves before kept
  last : List WireEvent
  lost : List (ℕ × Bytes)
  went : front ++ hands lost ≡ events_of moves ++ last
  again : AreAmong (handed_in last) (kept ++ sent_by (trace_of moves))
  later : List TraceEvent
  all : trace_of ms ≡ trace_of moves ++ later
  goes_on : Traced g m then later t

-- nothing went yet
none_yet : (g : Group) (m : ℕ) (hears : Bool) (ms : List Move) (s t : NodeState Bytes) (before : List Bytes) (kept : List (ℕ × Bytes)) →
    Traced g m s (trace_of ms) t → t.is_up ≡ true → Cut g m hears ms s t before kept []
none_yet g m hears ms s t before kept v up = record {
  moves = [];
  then = s;
  traced = refl;
  up = up_before g m ms s t v up;
  are = tt;
  last = [];
  lost = [];
  went = refl;
  again = λ d n. absurd n;
  later = trace_of ms;
  all = refl;
  goes_on = v;
}

-- a call answered, and of what it sends this wasn't handed over
within_one : (g : Group) (m : ℕ) (hears : Bool) (came : Option Bytes) (i : Input Bytes) (u : NodeState Bytes)
    (out : List Datagram) (ms : List Move) (s t : NodeState Bytes) (before : List Bytes) (kept : List (ℕ × Bytes)) (front : List WireEvent)
    (lost : List (ℕ × Bytes)) → Traced g m s (trace_of (has_trace.Does came i u out ∷ ms)) t → t.is_up ≡ true →
    AreMoves g m hears (has_trace.Does came i u out ∷ ms) before kept → front ++ hands lost ≡ gives came ++ hands (handed_over out) →
    Cut g m hears (has_trace.Does came i u out ∷ ms) s t before kept front
within_one g m hears came i u out ms s t before kept front lost v up a h =
    let all = gives came ++ hands (handed_over out) in
    record {
      moves = has_trace.Does came i u out ∷ [];
      then = u;
      traced = (v.0, v.1, v.2, refl);
      up = up_before g m ms u t v.3 up;
      are = (a.0, tt);
      last = [];
      lost = lost;
      went = h ∙ sym (append-nil all) ∙ sym (append-nil (all ++ []));
      again = λ d n. absurd n;
      later = trace_of ms;
      all = refl;
      goes_on = v.3;
    }

both_first : {E : Type 0} (x e : E) (xs es : List E) → x ≡ e → xs ≡ es → x ∷ xs ≡ e ∷ es
both_first {E} x e xs es one more = ap (λ (ys : List E). x ∷ ys) more ∙ ap (λ (y : E). y ∷ es) one

went_more : (own front behind events last : List WireEvent) (lost : List (ℕ × Bytes)) → front ≡ own ++ behind →
    behind ++ hands lost ≡ events ++ last → front ++ hands lost ≡ (own ++ events) ++ last
went_more own front behind events last lost is h =
    ap (λ (es : List WireEvent). es ++ hands lost) is ∙ append_assoc own behind (hands lost)
    ∙ ap (λ (es : List WireEvent). own ++ es) h ∙ sym (append_assoc own events last)

cut : (g : Group) (m : ℕ) (hears : Bool) (ms : List Move) (s t : NodeState Bytes) (before : List Bytes) (kept : List (ℕ × Bytes))
    (front rest last : List WireEvent) → front ++ rest ≡ events_of ms ++ last → Traced g m s (trace_of ms) t → t.is_up ≡ true →
    AreMoves g m hears ms before kept → AreAmong (handed_in last) (kept ++ sent_by (trace_of ms)) → Cut g m hears ms s t before kept front
cut g m hears [] s t before kept front rest last h v up a k = record {
  moves = [];
  then = t;
  traced = v;
  up = up;
  are = tt;
  last = front;
  lost = [];
  went = append-nil front;
  again = λ d n. k d (subst (λ (es : List WireEvent). Among (handed_in es) d) h (handed_front front rest d n));
  later = [];
  all = refl;
  goes_on = refl;
}
cut g m hears (has_trace.Passes b ∷ ms) s t before kept [] rest last h v up a k = none_yet g m hears (has_trace.Passes b ∷ ms) s t before kept v up
cut g m hears (has_trace.Passes b ∷ ms) s t before kept (e ∷ front) rest last h v up a k =
    let one : e ≡ Gave b = cc in
    let more : front ++ rest ≡ events_of ms ++ last = cc in
    let c = cut g m hears ms s t (before ++ b ∷ []) kept front rest last more v up a.1 k in
    record {
      moves = has_trace.Passes b ∷ c.moves;
      then = c.then;
      traced = c.traced;
      up = c.up;
      are = (a.0, c.are);
      last = c.last;
      lost = c.lost;
      went = both_first e (Gave b) (front ++ hands c.lost) (events_of c.moves ++ c.last) one c.went;
      again = c.again;
      later = c.later;
      all = c.all;
      goes_on = c.goes_on;
    }
cut g m hears (has_trace.Repeats to b ∷ ms) s t before kept [] rest last h v up a k =
    none_yet g m hears (has_trace.Repeats to b ∷ ms) s t before kept v up
cut g m hears (has_trace.Repeats to b ∷ ms) s t before kept (e ∷ front) rest last h v up a k =
    let one : e ≡ Handed to b = cc in
    let more : front ++ rest ≡ events_of ms ++ last = cc in
    let c = cut g m hears ms s t before kept front rest last more v up a.1 k in
    record {
      moves = has_trace.Repeats to b ∷ c.moves;
      then = c.then;
      traced = c.traced;
      up = c.up;
      are = (a.0, c.are);
      last = c.last;
      lost = c.lost;
      went = both_first e (Handed to b) (front ++ hands c.lost) (events_of c.moves ++ c.last) one c.went;
      again = c.again;
      later = c.later;
      all = c.all;
      goes_on = c.goes_on;
    }
cut g m hears (has_trace.Does came i u out ∷ ms) s t before kept front rest last h v up a k =
    let ds = handed_over out in
    let own = gives came ++ hands ds in
    let at = split front rest own (events_of ms ++ last) (h ∙ append_assoc own (events_of ms) last) in
    elim at [
      | inl b ↦ (
          let c = cut g m hears ms u t (before ++ came_in came) (kept ++ ds) b.0 rest last b.2 v.3 up a.1
          (subst (λ (es : List (ℕ × Bytes)). AreAmong (handed_in last) es) (sym (append_assoc kept ds (sent_by (trace_of ms)))) k) in
          record {
            moves = has_trace.Does came i u out ∷ c.moves;
            then = c.then;
            traced = (v.0, v.1, v.2, c.traced);
            up = c.up;
            are = (a.0, c.are);
            last = c.last;
            lost = c.lost;
            went = went_more own front b.0 (events_of c.moves) c.last c.lost b.1 c.went;
            again = subst (λ (es : List (ℕ × Bytes)). AreAmong (handed_in c.last) es) (append_assoc kept ds (sent_by (trace_of c.moves))) c.again;
            later = c.later;
            all = ap (λ (es : List TraceEvent). Calls i u out ∷ es) c.all;
            goes_on = c.goes_on;
          }
          )
      | inr w ↦ ends came front w.0 v a w.1
    ]
  where
    ends : (came' : Option Bytes) (front' lack : List WireEvent) → Traced g m s (trace_of (has_trace.Does came' i u out ∷ ms)) t →
        AreMoves g m hears (has_trace.Does came' i u out ∷ ms) before kept → front' ++ lack ≡ gives came' ++ hands (handed_over out) →
        Cut g m hears (has_trace.Does came' i u out ∷ ms) s t before kept front'
    ends c [] lack v' a' e = none_yet g m hears (has_trace.Does c i u out ∷ ms) s t before kept v' up
    ends None (x ∷ f) lack v' a' e =
        let r = hands_end (x ∷ f) lack (handed_over out) e in
        within_one g m hears None i u out ms s t before kept (x ∷ f) r.0 v' up a'
        (ap (λ (es : List WireEvent). (x ∷ f) ++ es) (sym r.1) ∙ e)
    ends (Some b) (x ∷ f) lack v' a' e =
        let more : f ++ lack ≡ hands (handed_over out) = cc in
        let r = hands_end f lack (handed_over out) more in
        within_one g m hears (Some b) i u out ms s t before kept (x ∷ f) r.0 v' up a'
        (ap (λ (es : List WireEvent). (x ∷ f) ++ es) (sym r.1) ∙ e)

so_is : (g : Group) (m : ℕ) (Is Are : List TraceEvent → NodeState Bytes → List Bytes → Type 0) (trace : List TraceEvent) (end : NodeState Bytes) →
    ((ds : List TraceEvent) (t : NodeState Bytes) (bs : List Bytes) → Is ds t bs → Are ds t bs) → Front g m Is trace end → Front g m Are trace end
so_is g m Is Are trace end more f = record {
  before = f.before;
  then = f.then;
  unanswered = f.unanswered;
  ran = more f.before f.then f.unanswered f.ran;
  later = f.later;
  all = f.all;
  goes_on = f.goes_on;
}

-- over the member's wire
pub front_of_wire : (g : Group) (m : ℕ) (first : Record Bytes) (front back : List WireEvent) (trace : List TraceEvent)
    (end : NodeState Bytes) (unanswered : List Bytes) → Ran g m first (front ++ back) trace end unanswered →
    Front g m (λ ds t bs. Ran g m first front ds t bs) trace end
front_of_wire g m first front back trace end unanswered r =
    let c = cut g m r.hears r.moves (started first) end [] [] front (back ++ hands r.lost) r.last
    (sym (append_assoc front back (hands r.lost)) ∙ r.went)
    r.traced r.up r.are r.again in
    record {
      before = trace_of c.moves;
      then = c.then;
      unanswered = given_in c.last;
      ran = record {
        moves = c.moves;
        does = refl;
        traced = c.traced;
        up = c.up;
        hears = r.hears;
        are = c.are;
        last = c.last;
        came = refl;
        lost = c.lost;
        went = c.went;
        again = c.again;
      };
      later = c.later;
      all = r.does ∙ c.all;
      goes_on = c.goes_on;
    }

-- ---- over the wire below

record Halves {X E : Type 0} (over : List X → List E) (xs : List X) (front : List E) : Type 0 where
  before : List X
  behind : List X
  all : xs ≡ before ++ behind
  front_is : front ≡ over before

more_before : {X E : Type 0} (over : List X → List E) (x : X) (xs : List X) (front then : List E) (h : Halves over xs front) →
    then ≡ over (x ∷ h.before) → Halves over (x ∷ xs) then
more_before {X} over x xs front then h is = record {
  before = x ∷ h.before;
  behind = h.behind;
  all = ap (λ (ys : List X). x ∷ ys) h.all;
  front_is = is;
}

none_before : {X E : Type 0} (over : List X → List E) (xs : List X) → [] ≡ over [] → Halves over xs []
none_before over xs is = record { before = []; behind = xs; all = refl; front_is = is }

cut_loops : (ls : List Loop) (front back : List WireEvent) → front ++ back ≡ loopback.below_in ls → Halves loopback.below_in ls front
cut_loops ls [] back h = none_before loopback.below_in ls refl
cut_loops [] (x ∷ front) back h = absurd (cc)
cut_loops (loopback.Passes e ∷ ls) (x ∷ front) back h =
    let one : x ≡ e = cc in
    let more : front ++ back ≡ loopback.below_in ls = cc in
    let r = cut_loops ls front back more in
    more_before loopback.below_in (loopback.Passes e) ls front (x ∷ front) r (both_first x e front (loopback.below_in r.before) one r.front_is)
cut_loops (loopback.Keeps b ∷ ls) (x ∷ front) back h =
    let r = cut_loops ls (x ∷ front) back h in
    more_before loopback.below_in (loopback.Keeps b) ls (x ∷ front) (x ∷ front) r r.front_is
cut_loops (loopback.Returns b ∷ ls) (x ∷ front) back h =
    let r = cut_loops ls (x ∷ front) back h in
    more_before loopback.below_in (loopback.Returns b) ls (x ∷ front) (x ∷ front) r r.front_is

loops_both : (m : ℕ) (xs ys : List Loop) → loopback.above_in m (xs ++ ys) ≡ loopback.above_in m xs ++ loopback.above_in m ys
loops_both m [] ys = refl
loops_both m (loopback.Passes e ∷ xs) ys = ap (λ (es : List WireEvent). e ∷ es) (loops_both m xs ys)
loops_both m (loopback.Keeps b ∷ xs) ys = ap (λ (es : List WireEvent). Handed m b ∷ es) (loops_both m xs ys)
loops_both m (loopback.Returns b ∷ xs) ys = ap (λ (es : List WireEvent). Gave b ∷ es) (loops_both m xs ys)

queue_front : (xs ys : List Loop) (kept then : List Bytes) → IsQueue (xs ++ ys) kept then → (now : List Bytes) × IsQueue xs kept now
queue_front [] ys kept then q = (kept, refl)
queue_front (loopback.Passes e ∷ xs) ys kept then q = queue_front xs ys kept then q
queue_front (loopback.Keeps b ∷ xs) ys kept then q = queue_front xs ys (kept ++ b ∷ []) then q
queue_front (loopback.Returns b ∷ xs) ys [] then q = absurd q
queue_front (loopback.Returns b ∷ xs) ys (d ∷ ds) then q = let r = queue_front xs ys ds then q.1 in (r.0, (q.0, r.1))

pub front_below : (g : Group) (m : ℕ) (first : Record Bytes) (front back : List WireEvent) (trace : List TraceEvent)
    (end : NodeState Bytes) (unanswered : List Bytes) → RanAbove g m first (front ++ back) trace end unanswered →
    Front g m (λ ds t bs. RanAbove g m first front ds t bs) trace end
front_below g m first front back trace end unanswered r =
    let c = cut_loops r.loops front back r.below_is in
    let q = queue_front c.before c.behind [] r.kept (subst (λ (ls : List Loop). IsQueue ls [] r.kept) c.all r.queue) in
    so_is g m (λ ds t bs. Ran g m first (loopback.above_in m c.before) ds t bs) (λ ds t bs. RanAbove g m first front ds t bs) trace end
    (λ ds t bs ran. record { loops = c.before; kept = q.0; queue = q.1; below_is = c.front_is; ran = ran })
    (front_of_wire g m first (loopback.above_in m c.before) (loopback.above_in m c.behind) trace end unanswered
    (subst (λ (es : List WireEvent). Ran g m first es trace end unanswered)
    (ap (λ (ls : List Loop). loopback.above_in m ls) c.all ∙ loops_both m c.before c.behind) r.ran))

-- ---- over the socket

cut_passages : (ps : List Passage) (front back : List SocketEvent) → front ++ back ≡ sockets.below_in ps → Halves sockets.below_in ps front
cut_passages ps [] back h = none_before sockets.below_in ps refl
cut_passages [] (x ∷ front) back h = absurd (cc)
cut_passages (sockets.Hears from came given ∷ ps) (x ∷ front) back h =
    let one : x ≡ sockets.Came from came = cc in
    let more : front ++ back ≡ sockets.below_in ps = cc in
    let r = cut_passages ps front back more in
    more_before sockets.below_in (sockets.Hears from came given) ps front (x ∷ front) r
    (both_first x (sockets.Came from came) front (sockets.below_in r.before) one r.front_is)
cut_passages (sockets.Sends to bytes there ∷ ps) (x ∷ front) back h =
    let one : x ≡ sockets.Went there bytes = cc in
    let more : front ++ back ≡ sockets.below_in ps = cc in
    let r = cut_passages ps front back more in
    more_before sockets.below_in (sockets.Sends to bytes there) ps front (x ∷ front) r
    (both_first x (sockets.Went there bytes) front (sockets.below_in r.before) one r.front_is)
cut_passages (sockets.Loses to bytes ∷ ps) (x ∷ front) back h =
    let r = cut_passages ps (x ∷ front) back h in
    more_before sockets.below_in (sockets.Loses to bytes) ps (x ∷ front) (x ∷ front) r r.front_is

passages_both : (xs ys : List Passage) → sockets.above_in (xs ++ ys) ≡ sockets.above_in xs ++ sockets.above_in ys
passages_both [] ys = refl
passages_both (sockets.Hears from came given ∷ xs) ys = ap (λ (es : List WireEvent). Gave given ∷ es) (passages_both xs ys)
passages_both (sockets.Sends to bytes there ∷ xs) ys = ap (λ (es : List WireEvent). Handed to bytes ∷ es) (passages_both xs ys)
passages_both (sockets.Loses to bytes ∷ xs) ys = ap (λ (es : List WireEvent). Handed to bytes ∷ es) (passages_both xs ys)

sound_front : (addresses : List Address) (me : ℕ) (xs ys : List Passage) → AllByRecursion (sockets.IsSound addresses me) (xs ++ ys) →
    AllByRecursion (sockets.IsSound addresses me) xs
sound_front addresses me [] ys s = tt
sound_front addresses me (x ∷ xs) ys s = (s.0, sound_front addresses me xs ys s.1)

-- Without a key: every front of a run at a socket is one.
pub front_at_socket : (g : Group) (m : ℕ) (first : Record Bytes) (front back : List SocketEvent) (trace : List TraceEvent)
    (end : NodeState Bytes) (unanswered : List Bytes) → RanAt g m first (front ++ back) trace end unanswered →
    Front g m (λ ds t bs. RanAt g m first front ds t bs) trace end
front_at_socket g m first front back trace end unanswered r =
    let c = cut_passages r.passages front back r.below_is in
    let all = ap (λ (ps : List Passage). sockets.above_in ps) c.all ∙ passages_both c.before c.behind in
    let sound = subst (λ (ps : List Passage). AllByRecursion (sockets.IsSound r.addresses r.me) ps) c.all r.sound in
    so_is g m (λ ds t bs. RanAbove g m first (sockets.above_in c.before) ds t bs) (λ ds t bs. RanAt g m first front ds t bs) trace end
    (λ ds t bs ran. record {
      addresses = r.addresses;
      me = r.me;
      passages = c.before;
      sound = sound_front r.addresses r.me c.before c.behind sound;
      below_is = c.front_is;
      ran = ran;
    })
    (front_below g m first (sockets.above_in c.before) (sockets.above_in c.behind) trace end unanswered
    (subst (λ (es : List WireEvent). RanAbove g m first es trace end unanswered) all r.ran))

-- ---- with packets between

cut_steps : (xs : List Step) (front back : List WireEvent) → front ++ back ≡ steps.below_in xs → Halves steps.below_in xs front
cut_steps xs [] back h = none_before steps.below_in xs refl
cut_steps [] (x ∷ front) back h = absurd (cc)
cut_steps (steps.Hears came given memory now ∷ xs) (x ∷ front) back h =
    let one : x ≡ Gave came = cc in
    let more : front ++ back ≡ steps.below_in xs = cc in
    let r = cut_steps xs front back more in
    more_before steps.below_in (steps.Hears came given memory now) xs front (x ∷ front) r
    (both_first x (Gave came) front (steps.below_in r.before) one r.front_is)
cut_steps (steps.Puts to bytes ∷ xs) (x ∷ front) back h =
    let one : x ≡ Handed to bytes = cc in
    let more : front ++ back ≡ steps.below_in xs = cc in
    let r = cut_steps xs front back more in
    more_before steps.below_in (steps.Puts to bytes) xs front (x ∷ front) r
    (both_first x (Handed to bytes) front (steps.below_in r.before) one r.front_is)
cut_steps (steps.Takes to d is_cut ∷ xs) (x ∷ front) back h =
    let r = cut_steps xs (x ∷ front) back h in
    more_before steps.below_in (steps.Takes to d is_cut) xs (x ∷ front) (x ∷ front) r r.front_is
cut_steps (steps.Reports member now ∷ xs) (x ∷ front) back h =
    let r = cut_steps xs (x ∷ front) back h in
    more_before steps.below_in (steps.Reports member now) xs (x ∷ front) (x ∷ front) r r.front_is

steps_both : (xs ys : List Step) → steps.above_in (xs ++ ys) ≡ steps.above_in xs ++ steps.above_in ys
steps_both [] ys = refl
steps_both (x ∷ xs) ys =
    ap (λ (es : List WireEvent). steps.above_of x ++ es) (steps_both xs ys)
    ∙ sym (append_assoc (steps.above_of x) (steps.above_in xs) (steps.above_in ys))

steps_front : (keys : List (List ℕ)) (s : Sealer) (xs ys before : List Step) → AreSteps keys s (xs ++ ys) before → AreSteps keys s xs before
steps_front keys s [] ys before a = tt
steps_front keys s (x ∷ xs) ys before a = (a.0, steps_front keys s xs ys (x ∷ before) a.1)

-- With a key: every front of a run at a socket is one.
pub front_at_sealed_socket : (g : Group) (keys : List (List ℕ)) (s : Sealer) (m : ℕ) (first : Record Bytes)
    (front back : List SocketEvent) (trace : List TraceEvent) (end : NodeState Bytes) (unanswered : List Bytes) →
    RanSealed g keys s m first (front ++ back) trace end unanswered →
    Front g m (λ ds t bs. RanSealed g keys s m first front ds t bs) trace end
front_at_sealed_socket g keys s m first front back trace end unanswered r =
    let c = cut_passages r.passages front back r.below_is in
    let sound = subst (λ (ps : List Passage). AllByRecursion (sockets.IsSound r.addresses r.me) ps) c.all r.sound in
    let k = cut_steps r.made (sockets.above_in c.before) (sockets.above_in c.behind)
    (sym (passages_both c.before c.behind) ∙ ap (λ (ps : List Passage). sockets.above_in ps) (sym c.all) ∙ sym r.packets_are) in
    let all = ap (λ (xs : List Step). steps.above_in xs) k.all ∙ steps_both k.before k.behind in
    so_is g m (λ ds t bs. RanAbove g m first (steps.above_in k.before) ds t bs) (λ ds t bs. RanSealed g keys s m first front ds t bs) trace end
    (λ ds t bs ran. record {
      addresses = r.addresses;
      me = r.me;
      passages = c.before;
      sound = sound_front r.addresses r.me c.before c.behind sound;
      below_is = c.front_is;
      made = k.before;
      packets_are = sym k.front_is;
      are = steps_front keys s k.before k.behind [] (subst (λ (xs : List Step). AreSteps keys s xs []) k.all r.are);
      ran = ran;
    })
    (front_below g m first (steps.above_in k.before) (steps.above_in k.behind) trace end unanswered
    (subst (λ (es : List WireEvent). RanAbove g m first es trace end unanswered) all r.ran))

-- ---- any moment of a run

-- Moves up to a moment, and those behind it: how the member is there, what had come, and what had been handed over.
record Moment (g : Group) (m : ℕ) (hears : Bool) (done rest : List Move) (s t : NodeState Bytes) (before : List Bytes)
    (kept : List (ℕ × Bytes)) : Type 0 where
  then : NodeState Bytes
  traced : Traced g m s (trace_of done) then
  goes_on : Traced g m then (trace_of rest) t
  are : AreMoves g m hears done before kept
  came : List Bytes
  sent : List (ℕ × Bytes)
  next : AreMoves g m hears rest came sent

moment : (g : Group) (m : ℕ) (hears : Bool) (done rest : List Move) (s t : NodeState Bytes) (before : List Bytes) (kept : List (ℕ × Bytes)) →
    Traced g m s (trace_of (done ++ rest)) t → AreMoves g m hears (done ++ rest) before kept → Moment g m hears done rest s t before kept
moment g m hears [] rest s t before kept v a =
    record { then = s; traced = refl; goes_on = v; are = tt; came = before; sent = kept; next = a }
moment g m hears (has_trace.Does b i u out ∷ done) rest s t before kept v a =
    let r = moment g m hears done rest u t (before ++ came_in b) (kept ++ handed_over out) v.3 a.1 in record {
      then = r.then;
      traced = (v.0, v.1, v.2, r.traced);
      goes_on = r.goes_on;
      are = (a.0, r.are);
      came = r.came;
      sent = r.sent;
      next = r.next;
    }
moment g m hears (has_trace.Passes b ∷ done) rest s t before kept v a =
    let r = moment g m hears done rest s t (before ++ b ∷ []) kept v a.1 in record {
      then = r.then;
      traced = r.traced;
      goes_on = r.goes_on;
      are = (a.0, r.are);
      came = r.came;
      sent = r.sent;
      next = r.next;
    }
moment g m hears (has_trace.Repeats to b ∷ done) rest s t before kept v a =
    let r = moment g m hears done rest s t before kept v a.1 in record {
      then = r.then;
      traced = r.traced;
      goes_on = r.goes_on;
      are = (a.0, r.are);
      came = r.came;
      sent = r.sent;
      next = r.next;
    }

at_moment : (g : Group) (m : ℕ) (first : Record Bytes) (events : List WireEvent) (trace : List TraceEvent) (end : NodeState Bytes)
    (unanswered : List Bytes) (r : Ran g m first events trace end unanswered) (done rest : List Move) → r.moves ≡ done ++ rest →
    Moment g m r.hears done rest (started first) end [] []
at_moment g m first events trace end unanswered r done rest is =
    moment g m r.hears done rest (started first) end [] []
    (subst (λ (ms : List Move). Traced g m (started first) (trace_of ms) end) is r.traced)
    (subst (λ (ms : List Move). AreMoves g m r.hears ms [] []) is r.are)

-- A run that is killed between two moves, or, as `fronts_are_runs` has it, before all of the one before is handed over.
pub killed_between : (g : Group) (m : ℕ) (first : Record Bytes) (events : List WireEvent) (trace : List TraceEvent) (end : NodeState Bytes)
    (unanswered : List Bytes) (r : Ran g m first events trace end unanswered) (done rest : List Move) → r.moves ≡ done ++ rest →
    (then : NodeState Bytes) × Ran g m first (events_of done) (trace_of done) then [] × Traced g m then (trace_of rest) end
killed_between g m first events trace end unanswered r done rest is =
    let o = at_moment g m first events trace end unanswered r done rest is in (
      o.then,
      record {
        moves = done;
        does = refl;
        traced = o.traced;
        up = up_before g m rest o.then end o.goes_on r.up;
        hears = r.hears;
        are = o.are;
        last = [];
        came = refl;
        lost = [];
        went = refl;
        again = λ d n. absurd n;
      },
      o.goes_on,
    )

came_is : (came : Option Bytes) → came_in came ≡ given_in (gives came)
came_is None = refl
came_is (Some b) = refl

none_handed : (came : Option Bytes) (sent : List (ℕ × Bytes)) → AreAmong (handed_in (gives came)) sent
none_handed None sent d n = absurd n
none_handed (Some b) sent d n = absurd n

brought : (g : Group) (m : ℕ) (came : Option Bytes) (i : Input Bytes) → IsBrought g m came i → AreBrought g m (came_in came) (message_in i)
brought g m None (Asks command) is = λ x n. absurd n
brought g m None Ticks is = λ x n. absurd n
brought g m None (Comes sender message) is = absurd is
brought g m (Some b) (Asks command) is = absurd is
brought g m (Some b) Ticks is = absurd is
brought g m (Some b) (Comes sender message) is = one_brought g m b sender message is

-- A run that is killed in a call: what came for it is unanswered, and whether the call had committed or not, what it
-- left of the record is what a stop may leave.
pub killed_in_call : (g : Group) (m : ℕ) (first : Record Bytes) (events : List WireEvent) (trace : List TraceEvent) (end : NodeState Bytes)
    (unanswered : List Bytes) (r : Ran g m first events trace end unanswered) (done later : List Move) (came : Option Bytes)
    (i : Input Bytes) (u : NodeState Bytes) (out : List Datagram) → r.moves ≡ done ++ has_trace.Does came i u out ∷ later →
    (then : NodeState Bytes) × Ran g m first (events_of done ++ gives came) (trace_of done) then (came_in came) ×
    LeavesThere g m (came_in came) then then.stored × LeavesThere g m (came_in came) then u.stored
killed_in_call g m first events trace end unanswered r done later came i u out is =
    let o = at_moment g m first events trace end unanswered r done (has_trace.Does came i u out ∷ later) is in
    let v = o.goes_on in
    let makes = v.2 in
    let comes = brought g m came i o.next.0 in (
      o.then,
      record {
        moves = done;
        does = refl;
        traced = o.traced;
        up = v.0;
        hears = r.hears;
        are = o.are;
        last = gives came;
        came = came_is came;
        lost = [];
        went = append-nil (events_of done ++ gives came);
        again = none_handed came (sent_by (trace_of done));
      },
      (i, v.1, comes, inl refl),
      (i, v.1, comes, inr (makes.plan, makes.steps, ap (λ (w : NodeState Bytes). w.stored) makes.follows)),
    )

pub at_sockets : FrontsAreRuns
at_sockets g m first front back trace end unanswered = (
  λ r. front_at_socket g m first front back trace end unanswered r,
  λ keys s r. front_at_sealed_socket g keys s m first front back trace end unanswered r,
)
