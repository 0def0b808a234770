-- Duties one after another.
use Rattle.std.proofs.Common.{◌≡◌, ◌∙◌, ℕ, zero, suc, ◌+◌, ◌≤◌, Bool, true, false, List, [], ◌∷◌, ◌++◌, ap, sym, subst, refl, arith}
use Rattle.std.specs.List.{range_with_len, flat_map}
use Rattle.std.specs.Prelude.{replicate, ◌&&◌, IsTrue, Option}
use Rattle.std.proofs.lemmas.List.{flat_map_more, replicate_more}
use Rattle.px_transport.specs.declared.packet_wire.PacketWire.{PacketWire}
use Rattle.px_transport.specs.Wires.{WireEvent, Adds, gives}
use Rattle.px_packet.specs.Keyed as keyed
use Rattle.px_transport.specs.Receiving.{Heard, Hears, unheard}
use Rattle.px_transport.specs.Senders as senders
use Rattle.px_transport.specs.Sending.{Sealer, new_to}
use Rattle.px_transport.specs.Wiring.{WireState, IsWireState, state_of, outgoing_of, Duty, State, Report, Does, DoesAll, duties, duties_to}
use Rattle.px_transport.specs.Wiring.{sealer_of, keys_of, receiver_of, upkeep, IsSameMember, IsSameCount, TakesAny}
use Rattle.px_transport.specs.Wiring.{Received, Call, Calls, WentSealed}

pub does_append : (s : Sealer) (now : ℕ) (ds es : List Duty) (k k1 k2 : WireState) → DoesAll s now ds k k1 →
    DoesAll s now es k1 k2 → DoesAll s now (ds ++ es) k k2
does_append s now [] es k k1 k2 a b = subst (λ x. DoesAll s now es x k2) a b
does_append s now (d ∷ ds) es k k1 k2 (m, x, r) b = (m, x, does_append s now ds es m k1 k2 r b)

pub does_one : (s : Sealer) (now : ℕ) (d : Duty) (k k1 : WireState) → Does s now d k k1 →
    DoesAll s now (d ∷ []) k k1
does_one s now d k k1 a = (k1, a, refl)

range_more : (a n : ℕ) → range_with_len a (suc n) ≡ range_with_len a n ++ (a + n) ∷ []
range_more a zero = ap (λ x. x ∷ []) (omega arith)
range_more a (suc n) =
    ap (λ x. a ∷ x) (range_more (a + 1) n ∙ ap (λ x. range_with_len (a + 1) n ++ x ∷ []) (omega arith))

-- ---- the state of a wire, and one more

pub state_eq : {W C : Type 0} (below : List WireEvent → Type 0) (k : WireState) (w : PacketWire W C) →
    IsWireState below k w → state_of k.traffic k.heard w ≡ k
state_eq below k w is =
    ap (λ x. record { traffic = k.traffic; outgoing = x; heard = k.heard; failures = w.failures }) is.outgoing_is
    ∙ ap (λ x. record { traffic = k.traffic; outgoing = k.outgoing; heard = k.heard; failures = x }) is.failures_is

pub does_all_next : (s s' : Sealer) (now : ℕ) (ds es : List Duty) (k0 k1 x k2 : WireState) → s' ≡ s → x ≡ k1 →
    DoesAll s now ds k0 k1 → DoesAll s' now es x k2 → DoesAll s now (ds ++ es) k0 k2
does_all_next s s' now ds es k0 k1 x k2 same is before next =
    does_append s now ds es k0 k1 k2 before
    (subst (λ y. DoesAll s now es y k2) is (subst (λ t. DoesAll t now es x k2) same next))

pub does_next : (s s' : Sealer) (now : ℕ) (ds : List Duty) (d : Duty) (k0 k1 x k2 : WireState) → s' ≡ s → x ≡ k1 →
    DoesAll s now ds k0 k1 → Does s' now d x k2 → DoesAll s now (ds ++ d ∷ []) k0 k2
does_next s s' now ds d k0 k1 x k2 same is before next =
    does_all_next s s' now ds (d ∷ []) k0 k1 x k2 same is before (does_one s' now d x k2 next)

-- one report more towards a member
pub reports_more : (s : Sealer) (now m n : ℕ) (k0 k1 : WireState) →
    DoesAll s now ((State m ∷ replicate n (Report m)) ++ Report m ∷ []) k0 k1 →
    DoesAll s now (State m ∷ replicate (n + 1) (Report m)) k0 k1
reports_more s now m n k0 k1 d =
    subst (λ ds. DoesAll s now ds k0 k1) (ap (λ x. State m ∷ x) (replicate_more n (Report m))) d

-- those towards one member more
more_members : (s : Sealer) (n : ℕ) → duties_to s (range_with_len 0 (n + 1)) ≡ duties_to s (range_with_len 0 n) ++ duties s n
more_members s n =
    let one : n + 1 ≡ suc n = omega arith in
    let last : 0 + n ≡ n = omega arith in
    ap (λ x. flat_map (duties s) (range_with_len 0 x)) one
    ∙ ap (flat_map (duties s)) (range_more 0 n ∙ ap (λ x. range_with_len 0 n ++ x ∷ []) last)
    ∙ sym (flat_map_more (duties s) [] (range_with_len 0 n) n)

pub member_done : (s s' : Sealer) (now n : ℕ) (k0 k1 x k2 : WireState) → s' ≡ s → x ≡ k1 →
    DoesAll s now (duties_to s (range_with_len 0 n)) k0 k1 → DoesAll s' now (duties s' n) x k2 →
    DoesAll s now (duties_to s (range_with_len 0 (n + 1))) k0 k2
member_done s s' now n k0 k1 x k2 same is before next =
    let one : DoesAll s now (duties s n) x k2 = subst (λ t. DoesAll t now (duties t n) x k2) same next in
    subst (λ ds. DoesAll s now ds k0 k2) (sym (more_members s n))
    (does_all_next s s now (duties_to s (range_with_len 0 n)) (duties s n) k0 k1 x k2 refl is before one)

-- ---- whether a datagram can be sent

pub can_from : (o b r : Bool) → o ≡ true → (b ≡ false → r ≡ false) → IsTrue r → (o && b) ≡ true
can_from true true r e f t = refl
can_from true false r e f t = at r (f refl) t
  where
    at : (r : Bool) → r ≡ false → IsTrue r → false ≡ true
    at true e t = absurd cc
    at false e t = t
can_from false b r e f t = absurd cc

pub cannot_from : (o b : Bool) → o ≡ true → (o && b) ≡ false → b ≡ false
cannot_from true b e f = f
cannot_from false b e f = absurd cc

-- ---- a receive

pub receives_from : {W C : Type 0} (below1 below2 below3 : List WireEvent → Type 0) (k0 k1 k2 : WireState) (room : ℕ)
    (given : Option (List ℕ)) (w0 w1 w2 w3 : PacketWire W C) (now : ℕ) (came : Option (List ℕ)) →
    DoesAll (sealer_of w0) now (upkeep (sealer_of w0)) k0 k1 → IsWireState below1 k1 w1 →
    IsSameMember w0 w1 → IsSameCount w0 w1 → w2.sender ≡ w1.sender → w1.failures ≤ w2.failures → IsSameCount w1 w2 →
    TakesAny (keys_of w2) (sealer_of w2) now came room given (state_of (k1.traffic ++ gives came) k1.heard w2) k2
    w2.dropped w3.dropped w2.copies w3.copies →
    Received (keys_of w0) (sealer_of w0) room given k0 k2 w0.dropped w3.dropped w0.copies w3.copies
receives_from below1 below2 below3 k0 k1 k2 room given w0 w1 w2 w3 now came does is1 member1 count1 sender2 rises2
    count2 takes =
    let es = k1.traffic ++ gives came in
    let sealer : sealer_of w2 ≡ sealer_of w0 = ap senders.sealer_of sender2 ∙ member1.sealer_is in
    let keys : keys_of w2 ≡ keys_of w0 = ap (λ s. keyed.keys_of s.keys) sender2 ∙ member1.keys_is in
    let dropped : w2.dropped ≡ w0.dropped = count2.dropped_is ∙ count1.dropped_is in
    let copies : w2.copies ≡ w0.copies = count2.copies_is ∙ count1.copies_is in
    let k : WireState = record k1 { traffic = es; failures = w2.failures } in
    let before : state_of es k1.heard w2 ≡ k =
    ap (λ x. record { traffic = es; outgoing = x; heard = k1.heard; failures = w2.failures })
    (ap senders.outgoing_of sender2 ∙ is1.outgoing_is) in
    let a : TakesAny (keys_of w0) (sealer_of w2) now came room given (state_of es k1.heard w2) k2 w2.dropped w3.dropped
    w2.copies w3.copies =
    subst (λ x. TakesAny x (sealer_of w2) now came room given (state_of es k1.heard w2) k2 w2.dropped w3.dropped
    w2.copies w3.copies) keys takes in
    let b : TakesAny (keys_of w0) (sealer_of w0) now came room given (state_of es k1.heard w2) k2 w2.dropped w3.dropped
    w2.copies w3.copies =
    subst (λ x. TakesAny (keys_of w0) x now came room given (state_of es k1.heard w2) k2 w2.dropped w3.dropped
    w2.copies w3.copies) sealer a in
    let d : TakesAny (keys_of w0) (sealer_of w0) now came room given k k2 w2.dropped w3.dropped w2.copies w3.copies =
    subst (λ x. TakesAny (keys_of w0) (sealer_of w0) now came room given x k2 w2.dropped w3.dropped w2.copies
    w3.copies) before b in
    let e : TakesAny (keys_of w0) (sealer_of w0) now came room given k k2 w0.dropped w3.dropped w2.copies w3.copies =
    subst (λ x. TakesAny (keys_of w0) (sealer_of w0) now came room given k k2 x w3.dropped w2.copies w3.copies)
    dropped d in
    record {
      now = now;
      before = k1;
      does = does;
      came = came;
      failed = w2.failures;
      counts = omega (arith, rises2, is1.failures_is);
      takes = subst (λ x. TakesAny (keys_of w0) (sealer_of w0) now came room given k k2 w0.dropped w3.dropped x
          w3.copies) copies e;
    }

pub hears_below : {W C : Type 0} (hs : List Heard) (w1 w2 : PacketWire W C) → w2.sender ≡ w1.sender →
    w2.receiver ≡ w1.receiver → Hears (sealer_of w1).start hs w1.receiver → Hears (sealer_of w2).start hs w2.receiver
hears_below hs w1 w2 sender receiver h =
    subst (λ x. Hears (sealer_of w2).start hs x) (sym receiver)
    (subst (λ x. Hears x.start hs w1.receiver) (sym (ap senders.sealer_of sender)) h)

-- ---- traffic

-- a call more
pub call_adds : {W C : Type 0} (below below' : List WireEvent → Type 0) (w w' : PacketWire W C)
    (more : List WireEvent) → IsSameMember w w' →
    ((hs : List Heard) → Hears (sealer_of w).start hs (receiver_of w) → (es : List WireEvent) → below es →
    (k : WireState) × Call (keys_of w) (sealer_of w) (state_of es hs w) k more × IsWireState below' k w') →
    Adds (WentSealed below w) (WentSealed below' w') more
call_adds below below' w w' more member call es t =
    let k0 = t.state in
    let r = call k0.heard t.state_is.heard_is k0.traffic t.state_is.traffic_is in
    let one : Call (keys_of w) (sealer_of w) k0 r.0 more =
    subst (λ k. Call (keys_of w) (sealer_of w) k r.0 more) (state_eq below k0 w t.state_is) r.1 in
    let all : Calls (keys_of w) (sealer_of w) (suc t.calls) r.0 (es ++ more) = (k0, es, more, t.made, one, refl) in
    record {
      calls = suc t.calls;
      state = r.0;
      made = subst (λ s. Calls (keys_of w') s (suc t.calls) r.0 (es ++ more)) (sym member.sealer_is)
          (subst (λ ks. Calls ks (sealer_of w) (suc t.calls) r.0 (es ++ more)) (sym member.keys_is) all);
      state_is = r.2;
    }

-- a wire that is new, over one that is
pub new_sealed : {W C : Type 0} (below : List WireEvent → Type 0) (w : PacketWire W C) (s : Sealer) → sealer_of w ≡ s →
    outgoing_of w ≡ replicate s.members new_to → Hears s.start (replicate s.members unheard) (receiver_of w) →
    below [] → WentSealed below w []
new_sealed below w s same outgoing heard t =
    let k : WireState =
    record {
      traffic = [];
      outgoing = replicate s.members new_to;
      heard = replicate s.members unheard;
      failures = w.failures;
    } in
    let made : Calls (keys_of w) s 0 k [] =
    (record { traffic_is = refl; outgoing_is = refl; heard_is = refl }, refl) in
    record {
      calls = 0;
      state = k;
      made = subst (λ x. Calls (keys_of w) x 0 k []) (sym same) made;
      state_is = record {
        traffic_is = t;
        outgoing_is = outgoing;
        heard_is = subst (λ x. Hears x.start (replicate s.members unheard) w.receiver) (sym same) heard;
        failures_is = refl;
      };
    }
