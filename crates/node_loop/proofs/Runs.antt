-- Turns are steps of the model at the member, and what they took and handed out went over its wire.
use Rattle.std.proofs.Common.{◌≡◌, ◌≢◌, ◌∙◌, ℕ, zero, suc, ◌<◌, Bool, true, false, List, [], ◌∷◌, ◌++◌, Option, Some, None, Result, refl, sym, ap, subst, inl, inr, arith}
use Rattle.std.proofs.lemmas.Bool.{false_from_ne_true}
use Rattle.std.proofs.lemmas.List.{append-nil}
use Rattle.px_model.specs.Node.{Record, Input}
use Rattle.px_model.specs.Node.Input.{Ticks, Comes}
use Rattle.px_model.specs.Spelling.{Bytes}
use Rattle.px_model.specs.World.{NodeState}
use Rattle.px_records.specs.declared.records.Records.{Ghosts}
use Rattle.px_model.specs.Law.{Among}
use Rattle.px_transport.specs.Wires.{WireEvent, Gave, Handed, given_in, handed_in, gives, hands}
use Rattle.px_transport.proofs.Traffic.{given_append, handed_append}
use Rattle.px_wire.specs.Message.{Group, group}
use Rattle.px_wire.specs.Members.{as_sent}
use Rattle.px_wire.specs.declared.membership.Membership.{Membership}
use Rattle.px_replica.specs.Calls.{Call, Receives}
use Rattle.px_replica.specs.Faults.{fault_of}
use Rattle.px_replica.specs.Traces.{TraceEvent, IsInput, Traced}
use Rattle.px_replica.specs.Traces.TraceEvent.{Calls, Stops, Opens}
use Rattle.px_replica.specs.Replicas.{records_of, membership_of, has_failed, state_in}
use Rattle.px_replica.specs.declared.datagram.Datagram.{Datagram}
use Rattle.px_replica.specs.declared.fault.NodeFault.{NodeFault}
use Rattle.px_replica.specs.declared.fault.NodeFault.TheVariants as fault
use Rattle.px_replica.specs.declared.receiving.Received.{Received}
use Rattle.px_replica.specs.declared.state.Replica.{Replica}
use Rattle.node_loop.specs.Again.{AreAmong}
use Rattle.node_loop.proofs.Among.{among_is, among_front, among_then, among_none, among_both}
use Rattle.node_loop.specs.Resending.{came_in}
use Rattle.node_loop.specs.Turns.{Acts, LoopState, IsHeard, IsIdle, Between, Turns, Ends, Served, handed_over}
use Rattle.node_loop.specs.Moves.{Heard, message_in, messages_of, AllFromMembers, AreBrought, sent_by, LeavesThere, HasTrace, TurnsAreTraces}
use Rattle.node_loop.specs.Moves.{Move, Does, Passes, trace_of, events_of, came_by, IsBrought, AreMoves}
use Rattle.node_loop.proofs.Traffic.{sent_then, members_then, brought_more, none_brought, one_brought, among_chain, trace_then, events_then, came_then, moves_then}
use Rattle.node_loop.proofs.Traffic.{idly, idle_trace, idle_events, Idles, idle_moves}
use Rattle.node_loop.proofs.Chains.{between_then, went_then}

-- one trace after the other
pub traced_then : (g : Group) (me : ℕ) (s t u : NodeState Bytes) (xs ys : List TraceEvent) → Traced g me s xs t → Traced g me t ys u →
    Traced g me s (xs ++ ys) u
traced_then g me s t u [] ys a b = subst (λ (z : NodeState Bytes). Traced g me z ys u) a b
traced_then g me s t u (Calls x w out ∷ xs) ys (up, input, makes, rest) b = (up, input, makes, traced_then g me w t u xs ys rest b)
traced_then g me s t u (Stops x left ∷ xs) ys (up, input, leaves, rest) b = (up, input, leaves, traced_then g me _ t u xs ys rest b)
traced_then g me s t u (Opens ∷ xs) ys rest b = traced_then g me _ t u xs ys rest b

-- what calls without a fault lead to
pub record Led {R : Type 0} {G : Ghosts R} (m : Membership) (x y : LoopState G) : Type 0 where
  pub moves : List Move
  pub traced : Traced (group m) m.me (state_in x.replica) (trace_of moves) (state_in y.replica)
  pub are : AreMoves (group m) m.me x.hears_asks moves x.requests x.kept
  pub members : x.hears_asks ≡ false → AllFromMembers (trace_of moves)
  pub went : y.traffic ≡ x.traffic ++ events_of moves
  pub kept : AreAmong y.kept (x.kept ++ sent_by (trace_of moves))
  pub requests : AreAmong y.requests (x.requests ++ came_by moves)
  pub hears : y.hears_asks ≡ x.hears_asks
  pub was : G.is_honest (records_of y.replica) → G.is_honest (records_of x.replica)
  pub works : has_failed y.replica ≡ false
  pub membership : membership_of y.replica ≡ m

some_none : (e : NodeFault) → Some e ≡ None → ⊥
some_none e h = absurd cc

-- a call that answered Ok, for which this came
pub called : {R : Type 0} {G : Ghosts R} (x y : LoopState G) (i : Input Bytes) (came : Option Bytes) (out : List Datagram) →
    has_failed x.replica ≡ false → G.is_honest (records_of y.replica) →
    IsInput (group (membership_of x.replica)) (membership_of x.replica).me i →
    IsBrought (group (membership_of x.replica)) (membership_of x.replica).me came i →
    (x.hears_asks ≡ false → (h : Heard) → Among (message_in i) h → h.0 ≢ 255) →
    Call x.replica y.replica i [] out None → y.traffic ≡ x.traffic ++ (gives came ++ hands (handed_over out)) →
    AreAmong y.kept (x.kept ++ handed_over out) → AreAmong y.requests (x.requests ++ came_in came) → y.hears_asks ≡ x.hears_asks →
    Led (membership_of x.replica) x y
called {R} {G} x y i came out works honest input brought heard call went kept requests hears = record {
  moves = Does came i (state_in y.replica) out ∷ [];
  traced = (refl, input, call.made honest refl, refl);
  are = (brought, tt);
  members = λ off h m. heard off h (subst (λ (hs : List Heard). Among hs h) (append-nil (message_in i)) m);
  went = went ∙ ap (λ (es : List WireEvent). x.traffic ++ es) (sym (append-nil (gives came ++ hands (handed_over out))));
  kept = subst (λ (ds : List (ℕ × Bytes)). AreAmong y.kept (x.kept ++ ds)) (sym (append-nil (handed_over out))) kept;
  requests = subst (λ (bs : List Bytes). AreAmong y.requests (x.requests ++ bs)) (sym (append-nil (came_in came))) requests;
  hears = hears;
  was = call.was;
  works = false_from_ne_true (has_failed y.replica) (λ h. (call.fails works).0 h);
  membership = call.membership;
}

-- what is idle for a member, by what it knows and keeps
pub idles_in : {R : Type 0} {G : Ghosts R} (x : LoopState G) (e : WireEvent) → IsIdle x e →
    Idles (group (membership_of x.replica)) (membership_of x.replica).me x.hears_asks x.requests x.kept e
idles_in x (Gave b) i = i
idles_in x (Handed to b) i = i

-- no turn is made
pub led_between : {R : Type 0} {G : Ghosts R} (x y : LoopState G) → Between x y → has_failed x.replica ≡ false → Led (membership_of x.replica) x y
led_between {R} {G} x y b works = record {
  moves = idly b.events;
  traced = subst (λ (ds : List TraceEvent). Traced (group (membership_of x.replica)) (membership_of x.replica).me (state_in x.replica) ds (state_in y.replica))
      (sym (idle_trace b.events)) (ap (λ (z : Replica R G). state_in z) b.replica);
  are = idle_moves (group (membership_of x.replica)) (membership_of x.replica).me x.hears_asks b.events x.requests x.kept
      (λ e m. idles_in x e (b.idle e m));
  members = λ off h m. absurd (subst (λ (ds : List TraceEvent). Among (messages_of ds) h) (idle_trace b.events) m);
  went = b.went ∙ ap (λ (es : List WireEvent). x.traffic ++ es) (sym (idle_events b.events));
  kept = among_front y.kept x.kept (sent_by (trace_of (idly b.events))) (among_is y.kept x.kept b.kept);
  requests = among_front y.requests x.requests (came_by (idly b.events)) (among_is y.requests x.requests b.requests);
  hears = b.hears;
  was = subst (λ (z : Replica R G). G.is_honest (records_of z) → G.is_honest (records_of x.replica)) (sym b.replica) (λ h. h);
  works = ap (λ (z : Replica R G). has_failed z) b.replica ∙ works;
  membership = ap (λ (z : Replica R G). membership_of z) b.replica;
}

received : {R : Type 0} {G : Ghosts R} (x y : LoopState G) (bytes : Bytes) (out : List Datagram) (r : Result Received NodeFault) →
    has_failed x.replica ≡ false → G.is_honest (records_of y.replica) → Receives x.replica y.replica bytes [] out r → fault_of r ≡ None →
    IsHeard x (Some bytes) →
    y.traffic ≡ x.traffic ++ (Gave bytes ∷ hands (handed_over out)) →
    AreAmong y.kept (x.kept ++ handed_over out) → AreAmong y.requests (x.requests ++ bytes ∷ []) → y.hears_asks ≡ x.hears_asks →
    Led (membership_of x.replica) x y
received x y bytes out r works honest (inl lost) none heard went kept requests hears =
    absurd (let is : true ≡ false = sym lost.failed ∙ works in cc)
received {R} {G} x y bytes out r works honest (inr (inl passed)) none heard went kept requests hears = record {
  moves = Passes bytes ∷ [];
  traced = ap (λ (z : Replica R G). state_in z) passed.still;
  are = (inl passed.unspelled, tt);
  members = λ off h m. absurd m;
  went = subst (λ (ds : List Datagram). y.traffic ≡ x.traffic ++ (Gave bytes ∷ hands (handed_over ds))) passed.silent went;
  kept = subst (λ (ds : List Datagram). AreAmong y.kept (x.kept ++ handed_over ds)) passed.silent kept;
  requests = requests;
  hears = hears;
  was = subst (λ (z : Replica R G). G.is_honest (records_of z) → G.is_honest (records_of x.replica)) (sym passed.still) (λ h. h);
  works = ap (λ (z : Replica R G). has_failed z) passed.still ∙ works;
  membership = ap (λ (z : Replica R G). membership_of z) passed.still;
}
received {R} {G} x y bytes out r works honest (inr (inr handled)) none heard went kept requests hears =
    called x y (Comes handled.sender handled.message) (Some bytes) out works honest handled.passes handled.spelled
    (λ off h m. elim m [
      | inl is ↦ subst (λ (k : Heard). k.0 ≢ 255) is (heard off handled.sender (as_sent handled.message) handled.spelled)
      | inr none ↦ absurd none
    ])
    (subst (λ (o : Option NodeFault). Call x.replica y.replica (Comes handled.sender handled.message) [] out o) none handled.call) went
    kept requests hears

acted : {R : Type 0} {G : Ghosts R} (x y : LoopState G) (came : Option Bytes) (out : List Datagram) → has_failed x.replica ≡ false →
    G.is_honest (records_of y.replica) → Acts x.replica y.replica came out None → IsHeard x came →
    y.traffic ≡ x.traffic ++ (gives came ++ hands (handed_over out)) → AreAmong y.kept (x.kept ++ handed_over out) →
    AreAmong y.requests (x.requests ++ came_in came) → y.hears_asks ≡ x.hears_asks → Led (membership_of x.replica) x y
acted x y None out works honest call heard went kept requests hears =
    called x y Ticks None out works honest tt tt (λ off h m. absurd m) call went kept requests hears
acted x y (Some bytes) out works honest (r, receives, none) heard went kept requests hears =
    received x y bytes out r works honest receives none heard went kept requests hears

sent_all : (ms ns : List Move) → sent_by (trace_of (ms ++ ns)) ≡ sent_by (trace_of ms) ++ sent_by (trace_of ns)
sent_all ms ns = ap sent_by (trace_then ms ns) ∙ sent_then (trace_of ms) (trace_of ns)

-- one behind the other
pub led_then : {R : Type 0} {G : Ghosts R} (m : Membership) (x y z : LoopState G) → Led m x y → Led (membership_of y.replica) y z → Led m x z
led_then {R} {G} m x y z a b =
    let traced : Traced (group m) m.me (state_in y.replica) (trace_of b.moves) (state_in z.replica) =
    subst (λ (n : Membership). Traced (group n) n.me (state_in y.replica) (trace_of b.moves) (state_in z.replica)) a.membership b.traced in
    let are : AreMoves (group m) m.me x.hears_asks b.moves y.requests y.kept =
    subst (λ (h : Bool). AreMoves (group m) m.me h b.moves y.requests y.kept) a.hears
    (subst (λ (n : Membership). AreMoves (group n) n.me y.hears_asks b.moves y.requests y.kept) a.membership b.are) in
    record {
      moves = a.moves ++ b.moves;
      traced = subst (λ (ds : List TraceEvent). Traced (group m) m.me (state_in x.replica) ds (state_in z.replica)) (sym (trace_then a.moves b.moves))
          (traced_then (group m) m.me (state_in x.replica) (state_in y.replica) (state_in z.replica) (trace_of a.moves) (trace_of b.moves) a.traced traced);
      are = moves_then (group m) m.me x.hears_asks a.moves b.moves x.requests y.requests x.kept y.kept a.are are a.requests a.kept;
      members = λ off. subst (λ (ds : List TraceEvent). AllFromMembers ds) (sym (trace_then a.moves b.moves))
          (members_then (trace_of a.moves) (trace_of b.moves) (a.members off) (b.members (a.hears ∙ off)));
      went = went_then x.traffic y.traffic z.traffic (events_of a.moves) (events_of b.moves) a.went b.went
          ∙ ap (λ (es : List WireEvent). x.traffic ++ es) (sym (events_then a.moves b.moves));
      kept = subst (λ (ds : List (ℕ × Bytes)). AreAmong z.kept (x.kept ++ ds)) (sym (sent_all a.moves b.moves))
          (among_chain x.kept y.kept z.kept (sent_by (trace_of a.moves)) (sent_by (trace_of b.moves)) a.kept b.kept);
      requests = subst (λ (bs : List Bytes). AreAmong z.requests (x.requests ++ bs)) (sym (came_then a.moves b.moves))
          (among_chain x.requests y.requests z.requests (came_by a.moves) (came_by b.moves) a.requests b.requests);
      hears = b.hears ∙ a.hears;
      was = λ h. a.was (b.was h);
      works = b.works;
      membership = b.membership ∙ a.membership;
    }

-- an honest record was honest before the turn
acted_before : {R : Type 0} {G : Ghosts R} (x y : Replica R G) (came : Option Bytes) (out : List Datagram) (a : Option NodeFault) →
    Acts x y came out a → G.is_honest (records_of y) → G.is_honest (records_of x)
acted_before x y None out a call = call.was
acted_before {R} {G} x y (Some bytes) out a (r, inl lost, is) =
    subst (λ (z : Replica R G). G.is_honest (records_of z) → G.is_honest (records_of x)) (sym lost.still) (λ h. h)
acted_before {R} {G} x y (Some bytes) out a (r, inr (inl passed), is) =
    subst (λ (z : Replica R G). G.is_honest (records_of z) → G.is_honest (records_of x)) (sym passed.still) (λ h. h)
acted_before x y (Some bytes) out a (r, inr (inr handled), is) = handled.call.was

turns_before : {R : Type 0} {G : Ghosts R} (n : ℕ) (x y : LoopState G) → Turns n x y → G.is_honest (records_of y.replica) →
    G.is_honest (records_of x.replica)
turns_before {R} {G} zero x y b honest = subst (λ (z : Replica R G). G.is_honest (records_of z)) b.replica honest
turns_before {R} {G} (suc n) x y (v, w, turns, turn, b) honest =
    turns_before n x v turns (acted_before v.replica w.replica turn.0.came turn.0.out None turn.0.acts
    (subst (λ (z : Replica R G). G.is_honest (records_of z)) b.replica honest))

ends_before : {R : Type 0} {G : Ghosts R} (x y : LoopState G) (a : Option NodeFault) → Ends x y a → G.is_honest (records_of y.replica) →
    G.is_honest (records_of x.replica)
ends_before {R} {G} x y None same honest = subst (λ (z : Replica R G). G.is_honest (records_of z)) same.replica honest
ends_before x y (Some e) turn honest = acted_before x.replica y.replica turn.0.came turn.0.out (Some e) turn.0.acts honest

-- a record that is honest after turns was honest before them
pub served_before : {R : Type 0} {G : Ghosts R} (x y : LoopState G) (a : Option NodeFault) → Served x y a → G.is_honest (records_of y.replica) →
    G.is_honest (records_of x.replica)
served_before x y a s honest = turns_before s.turns x s.then s.made (ends_before s.then y a s.last honest)

turns_led : {R : Type 0} {G : Ghosts R} (n : ℕ) (x y : LoopState G) → Turns n x y → has_failed x.replica ≡ false →
    G.is_honest (records_of y.replica) → Led (membership_of x.replica) x y
turns_led zero x y b works honest = led_between x y b works
turns_led {R} {G} (suc n) x y (v, w, turns, turn, b) works honest =
    let honest' : G.is_honest (records_of w.replica) = subst (λ (z : Replica R G). G.is_honest (records_of z)) b.replica honest in
    let a = turns_led n x v turns works (acted_before v.replica w.replica turn.0.came turn.0.out None turn.0.acts honest') in
    let d = acted v w turn.0.came turn.0.out a.works honest' turn.0.acts turn.1 turn.0.went turn.0.kept turn.0.requests turn.0.hears in
    let c = led_then (membership_of x.replica) x v w a d in
    led_then (membership_of x.replica) x w y c (led_between w y b c.works)

-- turns without a fault
pub served_led : {R : Type 0} {G : Ghosts R} (x y : LoopState G) → Served x y None → has_failed x.replica ≡ false →
    G.is_honest (records_of y.replica) → Led (membership_of x.replica) x y
served_led {R} {G} x y s works honest =
    let a = turns_led s.turns x s.then s.made works (subst (λ (z : Replica R G). G.is_honest (records_of z)) s.last.replica honest) in
    led_then (membership_of x.replica) x s.then y a (led_between s.then y s.last a.works)

-- ---- the last turn

-- What a last call that failed leaves. It came from w, which worked.
pub record Ended {R : Type 0} {G : Ghosts R} (w z : LoopState G) (e : NodeFault) : Type 0 where
  pub last : List WireEvent
  pub went : z.traffic ≡ w.traffic ++ last
  pub again : AreAmong (handed_in last) w.kept
  pub kept : AreAmong z.kept w.kept
  pub requests : AreAmong z.requests (w.requests ++ given_in last)
  pub hears : z.hears_asks ≡ w.hears_asks
  pub stays : G.failed (records_of z.replica) ≡ 0 → state_in z.replica ≡ state_in w.replica
  pub stop : (left : Record Bytes) → G.may_leave (records_of z.replica) left →
      LeavesThere (group (membership_of w.replica)) (membership_of w.replica).me (given_in last) (state_in w.replica) left
  pub counts : Some e ≢ Some fault.Store → G.failed (records_of z.replica) ≡ 0
  pub membership : membership_of z.replica ≡ membership_of w.replica

pub none_above : (n : ℕ) → (0 < n → ⊥) → n ≡ 0
none_above zero h = refl
none_above (suc n) h = absurd (h (omega arith))

pub gives_given : (came : Option Bytes) → given_in (gives came) ≡ came_in came
gives_given None = refl
gives_given (Some bytes) = refl

pub gives_handed : (came : Option Bytes) → handed_in (gives came) ≡ []
gives_handed None = refl
gives_handed (Some bytes) = refl

-- nothing is sent
pub went_silent : (old new : List WireEvent) (came : Option Bytes) (out : List Datagram) → out ≡ [] →
    new ≡ old ++ (gives came ++ hands (handed_over out)) → new ≡ old ++ gives came
went_silent old new came out none went =
    subst (λ (ds : List Datagram). new ≡ old ++ (gives came ++ hands (handed_over ds))) none went
    ∙ ap (λ (es : List WireEvent). old ++ es) (append-nil (gives came))

-- the call that failed, for which this came
unfoldable pub failed_call : {R : Type 0} {G : Ghosts R} (w z : LoopState G) (i : Input Bytes) (came : Option Bytes) (out : List Datagram) (e : NodeFault) →
    has_failed w.replica ≡ false → G.is_honest (records_of z.replica) →
    IsInput (group (membership_of w.replica)) (membership_of w.replica).me i →
    AreBrought (group (membership_of w.replica)) (membership_of w.replica).me (came_in came) (message_in i) →
    Call w.replica z.replica i [] out (Some e) → z.traffic ≡ w.traffic ++ (gives came ++ hands (handed_over out)) →
    AreAmong z.kept (w.kept ++ handed_over out) → AreAmong z.requests (w.requests ++ came_in came) → z.hears_asks ≡ w.hears_asks → Ended w z e
failed_call {R} {G} w z i came out e works honest input brought call went kept requests hears = record {
  last = gives came;
  went = went_silent w.traffic z.traffic came out (call.silent refl) went;
  again = subst (λ (ds : List (ℕ × Bytes)). AreAmong ds w.kept) (sym (gives_handed came)) (among_none w.kept);
  kept = among_then z.kept (w.kept ++ []) w.kept
      (subst (λ (ds : List Datagram). AreAmong z.kept (w.kept ++ handed_over ds)) (call.silent refl) kept)
      (among_is (w.kept ++ []) w.kept (append-nil w.kept));
  requests = subst (λ (bs : List Bytes). AreAmong z.requests (w.requests ++ bs)) (sym (gives_given came)) requests;
  hears = hears;
  stays = λ none. call.stays honest refl (λ is. let above : 0 < G.failed (records_of z.replica) = (call.counts works).0 is in
      let none' : G.failed (records_of z.replica) ≡ 0 = none in omega arith);
  stop = λ left may. subst (λ (bs : List Bytes). LeavesThere (group (membership_of w.replica)) (membership_of w.replica).me bs (state_in w.replica) left)
      (sym (gives_given came)) (i, input, brought, call.stop works honest left may);
  counts = λ other. none_above (G.failed (records_of z.replica)) (λ above. other ((call.counts works).1 above));
  membership = call.membership;
}

failed_turn : {R : Type 0} {G : Ghosts R} (w z : LoopState G) (came : Option Bytes) (out : List Datagram) (e : NodeFault) →
    has_failed w.replica ≡ false → G.is_honest (records_of z.replica) → Acts w.replica z.replica came out (Some e) →
    z.traffic ≡ w.traffic ++ (gives came ++ hands (handed_over out)) → AreAmong z.kept (w.kept ++ handed_over out) →
    AreAmong z.requests (w.requests ++ came_in came) → z.hears_asks ≡ w.hears_asks → Ended w z e
failed_turn w z None out e works honest call went kept requests hears =
    failed_call w z Ticks None out e works honest tt (none_brought _ _ []) call went kept requests hears
failed_turn w z (Some bytes) out e works honest (r, inl lost, is) went kept requests hears =
    absurd (let h : true ≡ false = sym lost.failed ∙ works in cc)
failed_turn w z (Some bytes) out e works honest (r, inr (inl passed), is) went kept requests hears =
    absurd (some_none e (sym is ∙ ap fault_of passed.answered))
failed_turn w z (Some bytes) out e works honest (r, inr (inr handled), is) went kept requests hears =
    failed_call w z (Comes handled.sender handled.message) (Some bytes) out e works honest handled.passes
    (one_brought _ _ bytes handled.sender handled.message handled.spelled)
    (subst (λ (o : Option NodeFault). Call w.replica z.replica (Comes handled.sender handled.message) [] out o) is handled.call) went
    kept requests hears

-- turns that end with a fault: those without, and the last one
pub served_ended : {R : Type 0} {G : Ghosts R} (x z : LoopState G) (e : NodeFault) → Served x z (Some e) → has_failed x.replica ≡ false →
    G.is_honest (records_of z.replica) → (w : LoopState G) × Led (membership_of x.replica) x w × Ended w z e
served_ended x z e s works honest =
    let t = s.last.0 in
    let l = turns_led s.turns x s.then s.made works (acted_before s.then.replica z.replica t.came t.out (Some e) t.acts honest) in
    (s.then, l, failed_turn s.then z t.came t.out e l.works honest t.acts t.went t.kept t.requests t.hears)

-- ---- a member that has failed

-- It does nothing and sends nothing but again what is kept; what its wire gave is lost.
pub record Lost {R : Type 0} {G : Ghosts R} (y z : LoopState G) : Type 0 where
  pub replica : z.replica ≡ y.replica
  pub lost : List WireEvent
  pub went : z.traffic ≡ y.traffic ++ lost
  pub again : AreAmong (handed_in lost) y.kept
  pub kept : AreAmong z.kept y.kept
  pub requests : AreAmong z.requests (y.requests ++ given_in lost)
  pub hears : z.hears_asks ≡ y.hears_asks

-- what is handed over where nothing but what is idle is done
pub idle_handed : {R : Type 0} {G : Ghosts R} (x : LoopState G) (es : List WireEvent) → ((e : WireEvent) → Among es e → IsIdle x e) →
    AreAmong (handed_in es) x.kept
idle_handed x [] i = among_none x.kept
idle_handed x (Gave b ∷ es) i = idle_handed x es (λ e m. i e (inr m))
idle_handed x (Handed to b ∷ es) i =
    λ d m. elim m [
      | inl is ↦ subst (λ (c : ℕ × Bytes). Among x.kept c) is (i (Handed to b) (inl refl))
      | inr later ↦ idle_handed x es (λ e n. i e (inr n)) d later
    ]

unfoldable pub between_lost : {R : Type 0} {G : Ghosts R} (y z : LoopState G) → Between y z → Lost y z
between_lost y z b = record {
  replica = b.replica;
  lost = b.events;
  went = b.went;
  again = idle_handed y b.events b.idle;
  kept = among_is z.kept y.kept b.kept;
  requests = among_front z.requests y.requests (given_in b.events) (among_is z.requests y.requests b.requests);
  hears = b.hears;
}

-- what was handed over of two lists
pub handed_both : (kept keeps : List (ℕ × Bytes)) (es fs : List WireEvent) → AreAmong (handed_in es) kept → AreAmong keeps kept →
    AreAmong (handed_in fs) keeps → AreAmong (handed_in (es ++ fs)) kept
handed_both kept keeps es fs a k b =
    subst (λ (ds : List (ℕ × Bytes)). AreAmong ds kept) (sym (handed_append es fs))
    (among_both (handed_in es) (handed_in fs) kept a (among_then (handed_in fs) keeps kept b k))

pub given_both : (olds mids news : List Bytes) (es fs : List WireEvent) → AreAmong mids (olds ++ given_in es) →
    AreAmong news (mids ++ given_in fs) → AreAmong news (olds ++ given_in (es ++ fs))
given_both olds mids news es fs a b =
    subst (λ (bs : List Bytes). AreAmong news (olds ++ bs)) (sym (given_append es fs))
    (among_chain olds mids news (given_in es) (given_in fs) a b)

lost_then : {R : Type 0} {G : Ghosts R} (x y z : LoopState G) → Lost x y → Lost y z → Lost x z
lost_then x y z a b = record {
  replica = b.replica ∙ a.replica;
  lost = a.lost ++ b.lost;
  went = went_then x.traffic y.traffic z.traffic a.lost b.lost a.went b.went;
  again = handed_both x.kept y.kept a.lost b.lost a.again a.kept b.again;
  kept = among_then z.kept y.kept x.kept b.kept a.kept;
  requests = given_both x.requests y.requests z.requests a.lost b.lost a.requests b.requests;
  hears = b.hears ∙ a.hears;
}

none_failed : (e : NodeFault) → None ≡ Some e → ⊥
none_failed e h = absurd cc

-- it makes no turn without a fault
no_turn : {R : Type 0} {G : Ghosts R} (x y : Replica R G) (came : Option Bytes) (out : List Datagram) → has_failed x ≡ true →
    Acts x y came out None → ⊥
no_turn x y None out broken call = none_failed fault.Failed (call.failed.1 broken)
no_turn x y (Some bytes) out broken (r, inl lost, is) = none_failed fault.Failed (sym is ∙ ap fault_of lost.answered)
no_turn x y (Some bytes) out broken (r, inr (inl passed), is) = absurd (let h : true ≡ false = sym broken ∙ passed.works in cc)
no_turn x y (Some bytes) out broken (r, inr (inr handled), is) = absurd (let h : true ≡ false = sym broken ∙ handled.works in cc)

broken_turns : {R : Type 0} {G : Ghosts R} (n : ℕ) (x y : LoopState G) → has_failed x.replica ≡ true → Turns n x y → Between x y
broken_turns zero x y broken b = b
broken_turns {R} {G} (suc n) x y broken (v, w, turns, turn, b) =
    let c = broken_turns n x v broken turns in
    absurd (no_turn v.replica w.replica turn.0.came turn.0.out (ap (λ (z : Replica R G). has_failed z) c.replica ∙ broken) turn.0.acts)

still_kept : {R : Type 0} {G : Ghosts R} (x y : LoopState G) (out : List Datagram) → out ≡ [] → AreAmong y.kept (x.kept ++ handed_over out) →
    AreAmong y.kept x.kept
still_kept x y out none kept =
    among_then y.kept (x.kept ++ []) x.kept (subst (λ (ds : List Datagram). AreAmong y.kept (x.kept ++ handed_over ds)) none kept)
    (among_is (x.kept ++ []) x.kept (append-nil x.kept))

broken_turn : {R : Type 0} {G : Ghosts R} (x y : LoopState G) (came : Option Bytes) (out : List Datagram) (e : NodeFault) →
    has_failed x.replica ≡ true → Acts x.replica y.replica came out (Some e) →
    y.traffic ≡ x.traffic ++ (gives came ++ hands (handed_over out)) → AreAmong y.kept (x.kept ++ handed_over out) →
    AreAmong y.requests (x.requests ++ came_in came) → y.hears_asks ≡ x.hears_asks → Lost x y
broken_turn x y None out e broken call went kept requests hears = record {
  replica = call.still broken;
  lost = [];
  went = went_silent x.traffic y.traffic None out (call.silent refl) went;
  again = among_none x.kept;
  kept = still_kept x y out (call.silent refl) kept;
  requests = requests;
  hears = hears;
}
broken_turn x y (Some bytes) out e broken (r, inl lost, is) went kept requests hears = record {
  replica = lost.still;
  lost = Gave bytes ∷ [];
  went = went_silent x.traffic y.traffic (Some bytes) out lost.silent went;
  again = among_none x.kept;
  kept = still_kept x y out lost.silent kept;
  requests = requests;
  hears = hears;
}
broken_turn x y (Some bytes) out e broken (r, inr (inl passed), is) went kept requests hears =
    absurd (let h : true ≡ false = sym broken ∙ passed.works in cc)
broken_turn x y (Some bytes) out e broken (r, inr (inr handled), is) went kept requests hears =
    absurd (let h : true ≡ false = sym broken ∙ handled.works in cc)

-- turns that it makes, with whatever end
pub broken_served : {R : Type 0} {G : Ghosts R} (x z : LoopState G) (a : Option NodeFault) → has_failed x.replica ≡ true → Served x z a → Lost x z
broken_served x z None broken s =
    lost_then x s.then z (between_lost x s.then (broken_turns s.turns x s.then broken s.made)) (between_lost s.then z s.last)
broken_served {R} {G} x z (Some e) broken s =
    let b = broken_turns s.turns x s.then broken s.made in
    let t = s.last.0 in
    lost_then x s.then z (between_lost x s.then b)
    (broken_turn s.then z t.came t.out e (ap (λ (y : Replica R G). has_failed y) b.replica ∙ broken) t.acts t.went t.kept t.requests t.hears)

pub broken_between : {R : Type 0} {G : Ghosts R} (x z : LoopState G) → has_failed x.replica ≡ true → Served x z None → Between x z
broken_between x z broken s = between_then x s.then z (broken_turns s.turns x s.then broken s.made) s.last

-- a call that failed, and what was lost after it
unfoldable pub ended_more : {R : Type 0} {G : Ghosts R} (w y z : LoopState G) (e : NodeFault) → Ended w y e → Lost y z → Ended w z e
ended_more {R} {G} w y z e d l =
    let m = membership_of w.replica in record {
      last = d.last ++ l.lost;
      went = went_then w.traffic y.traffic z.traffic d.last l.lost d.went l.went;
      again = handed_both w.kept y.kept d.last l.lost d.again d.kept l.again;
      kept = among_then z.kept y.kept w.kept l.kept d.kept;
      requests = given_both w.requests y.requests z.requests d.last l.lost d.requests l.requests;
      hears = l.hears ∙ d.hears;
      stays = λ none. ap (λ (r : Replica R G). state_in r) l.replica
          ∙ d.stays (sym (ap (λ (r : Replica R G). G.failed (records_of r)) l.replica) ∙ none);
      stop = λ left may.
          let s = d.stop left (subst (λ (r : Replica R G). G.may_leave (records_of r) left) l.replica may) in
          subst (λ (bs : List Bytes). LeavesThere (group m) m.me bs (state_in w.replica) left) (sym (given_append d.last l.lost))
          (s.0, s.1, brought_more (group m) m.me (given_in d.last) (given_in l.lost) (message_in s.0) s.2, s.3);
      counts = λ other. ap (λ (r : Replica R G). G.failed (records_of r)) l.replica ∙ d.counts other;
      membership = ap (λ (r : Replica R G). membership_of r) l.replica ∙ d.membership;
    }

-- ---- traces

module _ {R : Type 0} (G : Ghosts R)
    (settled : (r : R) → G.is_honest r → G.failed r ≡ 0 → (d : Record Bytes) → G.may_leave r d → d ≡ G.stored r) where
  -- calls without a fault alone
  pub led_has_trace : (x z : LoopState G) → G.is_honest (records_of z.replica) → Led (membership_of x.replica) x z → HasTrace x z None
  led_has_trace x z honest l = record {
    moves = l.moves;
    then = state_in z.replica;
    traced = l.traced;
    up = refl;
    are = l.are;
    members = l.members;
    last = [];
    went = l.went ∙ ap (λ (es : List WireEvent). x.traffic ++ es) (sym (append-nil (events_of l.moves)));
    again = among_none (x.kept ++ sent_by (trace_of l.moves));
    kept = l.kept;
    requests = subst (λ (bs : List Bytes). AreAmong z.requests (x.requests ++ bs)) (sym (append-nil (came_by l.moves))) l.requests;
    hears = l.hears;
    stays = λ none. refl;
    stop = λ left may. (Ticks, tt, none_brought _ _ [], inl (settled (records_of z.replica) honest (z.replica.works l.works) left may));
    whole = λ none. refl;
    membership = l.membership;
  }

  -- and then the call that failed, whichever fault is reported in the end
  pub ended_has_trace : (x w z : LoopState G) (e : NodeFault) (a : Option NodeFault) → Led (membership_of x.replica) x w →
      (d : Ended w z e) → (a ≡ None → d.last ≡ []) → HasTrace x z a
  ended_has_trace x w z e a l d whole = record {
    moves = l.moves;
    then = state_in w.replica;
    traced = l.traced;
    up = refl;
    are = l.are;
    members = l.members;
    last = d.last;
    went = went_then x.traffic w.traffic z.traffic (events_of l.moves) d.last l.went d.went;
    again = among_then (handed_in d.last) w.kept (x.kept ++ sent_by (trace_of l.moves)) d.again l.kept;
    kept = among_then z.kept w.kept (x.kept ++ sent_by (trace_of l.moves)) d.kept l.kept;
    requests = among_chain x.requests w.requests z.requests (came_by l.moves) (given_in d.last) l.requests d.requests;
    hears = d.hears ∙ l.hears;
    stays = d.stays;
    stop = λ left may. subst (λ (m : Membership). LeavesThere (group m) m.me (given_in d.last) (state_in w.replica) left) l.membership
        (d.stop left may);
    whole = whole;
    membership = d.membership ∙ l.membership;
  }

  ended : (x w z : LoopState G) (a : Option NodeFault) (n : ℕ) → G.is_honest (records_of z.replica) → has_failed x.replica ≡ false →
      Turns n x w → Ends w z a → HasTrace x z a × (a ≢ Some fault.Store → G.failed (records_of z.replica) ≡ 0)
  ended x w z None n honest works turns same =
      let honest' = subst (λ (y : Replica R G). G.is_honest (records_of y)) same.replica honest in
      let l = turns_led n x w turns works honest' in
      let all = led_then (membership_of x.replica) x w z l (led_between w z same l.works) in
      (led_has_trace x z honest all, λ other. z.replica.works all.works)
  ended x w z (Some e) n honest works turns turn =
      let t = turn.0 in
      let l = turns_led n x w turns works (acted_before w.replica z.replica t.came t.out (Some e) t.acts honest) in
      let d = failed_turn w z t.came t.out e l.works honest t.acts t.went t.kept t.requests t.hears in
      (ended_has_trace x w z e (Some e) l d (λ none. absurd (some_none e none)), d.counts)

  pub turns_traced : TurnsAreTraces G
  turns_traced x z answered honest works served = ended x served.then z answered served.turns honest works served.made served.last
