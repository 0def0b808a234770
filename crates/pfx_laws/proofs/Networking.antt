-- From what goes over the members' wires, run after run, to stretches of their traces.
use Rattle.std.proofs.Common.{◌≡◌, ◌∙◌, ◌⊎◌, sym, ap, subst, refl, true, ℕ, zero, suc, ◌<◌, ◌≤◌, Bool, nat_eq, List, [], ◌∷◌, ◌++◌, map, drop, Option, Some, None, inl, inr, arith, append_assoc}
use Rattle.std.proofs.lemmas.Bool.{cond-true, cond-false, eq-eqb}
use Rattle.std.proofs.lemmas.Bool.Decides.{eqb_tells}
use Rattle.std.proofs.lemmas.List.{append-nil}
use Rattle.px_model.proofs.Basics.{among_left, among_cases}
use Rattle.px_model.specs.Law.{Among}
use Rattle.px_model.specs.Node.{Record, Input, Envelope}
use Rattle.px_model.specs.Node.Input.{Asks, Ticks, Comes}
use Rattle.px_model.specs.Spelling.{Bytes}
use Rattle.px_model.specs.Step.{put}
use Rattle.px_model.specs.World.{NodeState, nothing_stored, started}
use Rattle.node_loop.specs.Again.{AreAmong}
use Rattle.node_loop.proofs.Among.{among_all, among_front, among_back, among_none, among_sides, among_then}
use Rattle.px_transport.specs.Wires.{WireEvent, Gave, Handed, given_in, handed_in, gives, hands}
use Rattle.px_wire.specs.Message.{Group, Message, DatagramBytes}
use Rattle.px_wire.specs.Members.{as_sent}
use Rattle.px_replica.specs.Spelled.{AreSpelled}
use Rattle.px_replica.specs.Traces.{TraceEvent, Traced}
use Rattle.px_replica.specs.Traces.TraceEvent.{Calls, Stops, Opens}
use Rattle.px_replica.specs.declared.datagram.Datagram.{Datagram}
use Rattle.node_loop.specs.Resending.{came_in}
use Rattle.node_loop.specs.Turns.{handed_over}
use Rattle.node_loop.specs.Moves as has_trace
use Rattle.node_loop.specs.Moves.{Heard, message_in, messages_of, AreBrought, sent_by, LeavesThere}
use Rattle.node_loop.specs.Moves.{Move, trace_of, events_of, IsBrought, AreMoves}
use Rattle.node_loop.proofs.Traffic.{one_brought, none_brought, brought_more, brought_then}
use Rattle.node_loop.proofs.Runs.{traced_then}
use Rattle.node_control.specs.Sockets.{Ran}
use Rattle.pfx_laws.specs.Promised.{IsGroup}
use Rattle.pfx_laws.specs.Wires.{Stretch, AreStretches, IsCarried, AreCarried, trace_in, led_to}
use Rattle.pfx_laws.specs.Members.{RunEvent, Starts, During, Run, AreRuns, IsEmpty, events_at, final_state, final_state_from, IsTrace, IsLaterTrace, InStretches}
use Rattle.pfx_laws.specs.Sockets.{WasHanded}
use Rattle.pfx_laws.proofs.Carrying.{traced_to}
use Rattle.pfx_laws.proofs.Lifting.{during, during_append, below_or}

-- ---- what a member does, one thing after another, through its runs

data Act (K : Type 0) : Type 0 where
  -- a call answers, for a datagram that came or for none
  Answers : (came : Option Bytes) (input : Input Bytes) (then : NodeState Bytes) (out : List Datagram) → Act K
  -- a datagram comes, and the member has no event
  Skips : (bytes : Bytes) → Act K
  -- a datagram that was sent is handed over, at first or again
  Resends : (to : ℕ) (bytes : Bytes) → Act K
  -- a run starts; before it these were the member's events
  Begins : (key : K) (trace : List TraceEvent) → Act K

abbrev trace_of_acts : {K : Type 0} → List (Act K) → List TraceEvent
trace_of_acts [] = []
trace_of_acts (Answers came i t out ∷ xs) = Calls i t out ∷ trace_of_acts xs
trace_of_acts (Skips b ∷ xs) = trace_of_acts xs
trace_of_acts (Resends to b ∷ xs) = trace_of_acts xs
trace_of_acts (Begins k ds ∷ xs) = ds ++ trace_of_acts xs

abbrev happen : {K : Type 0} → List (Act K) → List (RunEvent K WireEvent)
happen [] = []
happen (Answers came i t out ∷ xs) = during (gives came) ++ happen xs
happen (Skips b ∷ xs) = During (Gave b) ∷ happen xs
happen (Resends to b ∷ xs) = During (Handed to b) ∷ happen xs
happen (Begins k ds ∷ xs) = Starts k ∷ happen xs

abbrev given_by : {K : Type 0} → RunEvent K WireEvent → List Bytes
given_by (Starts k) = []
given_by (During e) = given_in (e ∷ [])

abbrev handed_by : {K : Type 0} → RunEvent K WireEvent → List (ℕ × Bytes)
handed_by (Starts k) = []
handed_by (During e) = handed_in (e ∷ [])

-- each is a message
abbrev AreMessages : Group → List (ℕ × Bytes) → Type 0
AreMessages g sent = (d : ℕ × Bytes) → Among sent d → (from : ℕ) × (message : Message) × DatagramBytes g from d.0 message d.1

-- Each message comes in its place, and that of a call that a stop cut short came before; what is sent is messages; and
-- what is handed over was sent. These came already, and these were sent.
abbrev AreSound : {K : Type 0} → Group → (m : ℕ) → List (Act K) → (came : List Bytes) → (sent : List (ℕ × Bytes)) → Type 0
AreSound g m [] came sent = Unit {0}
AreSound g m (Answers b i t out ∷ xs) came sent =
    IsBrought g m b i × AreMessages g (handed_over out) × AreSound g m xs (came ++ came_in b) (sent ++ handed_over out)
AreSound g m (Skips b ∷ xs) came sent = AreSound g m xs (came ++ b ∷ []) sent
AreSound g m (Resends to b ∷ xs) came sent = Among sent (to, b) × AreSound g m xs came sent
AreSound g m (Begins k ds ∷ xs) came sent = AreBrought g m came (messages_of ds) × (sent_by ds ≡ []) × AreSound g m xs came sent

brought_among : (g : Group) (m : ℕ) (few many : List Bytes) (xs : List Heard) → AreAmong few many → AreBrought g m few xs → AreBrought g m many xs
brought_among g m few many xs a b x n = let r = b x n in (r.0, a r.0 r.1, r.2)

-- more came, and more was sent
sound_more : {K : Type 0} (g : Group) (m : ℕ) (xs : List (Act K)) (less more : List Bytes) (few many : List (ℕ × Bytes)) →
    AreAmong less more → AreAmong few many → AreSound g m xs less few → AreSound g m xs more many
sound_more g m [] less more few many c a s = tt
sound_more g m (Answers b i t out ∷ xs) less more few many c a s = (
  s.0,
  s.1,
  sound_more g m xs (less ++ came_in b) (more ++ came_in b) (few ++ handed_over out) (many ++ handed_over out)
      (among_sides less (came_in b) more (came_in b) c (among_all (came_in b)))
      (among_sides few (handed_over out) many (handed_over out) a (among_all (handed_over out))) s.2,
)
sound_more g m (Skips b ∷ xs) less more few many c a s =
    sound_more g m xs (less ++ b ∷ []) (more ++ b ∷ []) few many (among_sides less (b ∷ []) more (b ∷ []) c (among_all (b ∷ []))) a s
sound_more g m (Resends to b ∷ xs) less more few many c a s = (a (to, b) s.0, sound_more g m xs less more few many c a s.1)
sound_more g m (Begins k ds ∷ xs) less more few many c a s =
    (brought_among g m less more (messages_of ds) c s.0, s.1, sound_more g m xs less more few many c a s.2)

-- what a step hands out
are_messages : (g : Group) (xs : List (Envelope Bytes)) (out : List Datagram) → AreSpelled g xs out → AreMessages g (handed_over out)
are_messages g xs [] s d n = absurd n
are_messages g [] (e ∷ out) s d n = absurd s
are_messages g (x ∷ xs) (e ∷ out) s d (inl is) =
    let here : DatagramBytes g x.sender e.to (as_sent x.message) e.bytes.items =
    subst (λ (to : ℕ). DatagramBytes g x.sender to (as_sent x.message) e.bytes.items) (sym s.0.addressee) s.0.bytes in
    (x.sender, as_sent x.message, subst (λ (c : ℕ × Bytes). DatagramBytes g x.sender c.0 (as_sent x.message) c.1) is here)
are_messages g (x ∷ xs) (e ∷ out) s d (inr later) = are_messages g xs out s.1 d later

messages_both : (g : Group) (xs ys : List (ℕ × Bytes)) → AreMessages g xs → AreMessages g ys → AreMessages g (xs ++ ys)
messages_both g xs ys a b d n = elim (among_cases xs ys d n) [ inl here ↦ a d here | inr there ↦ b d there ]

-- ---- one event

-- The next event at a member: the member's trace by then, and what it still does.
record Stepped {K : Type 0} (g : Group) (m : ℕ) (came : List Bytes) (sent : List (ℕ × Bytes)) (xs : List (Act K)) (e : RunEvent K WireEvent)
    (es : List (RunEvent K WireEvent)) : Type 0 where
  trace : List TraceEvent
  then : List (Act K)
  rest_is : happen then ≡ es
  all : trace_of_acts xs ≡ trace ++ trace_of_acts then
  brought : AreBrought g m (came ++ given_by e) (messages_of trace)
  sound : AreSound g m then (came ++ given_by e) (sent ++ sent_by trace)
  handed : AreAmong (handed_by e) (sent ++ sent_by trace)
  spelled : AreMessages g (sent_by trace)

stepped_is : {K : Type 0} (g : Group) (m : ℕ) (came : List Bytes) (sent : List (ℕ × Bytes)) (xs : List (Act K)) (e f : RunEvent K WireEvent)
    (es fs : List (RunEvent K WireEvent)) → (f ∷ fs) ≡ (e ∷ es) → Stepped g m came sent xs f fs → Stepped g m came sent xs e es
stepped_is {K} g m came sent xs e f es fs h s =
    let one : f ≡ e = cc in
    let more : fs ≡ es = cc in
    subst (λ (x : RunEvent K WireEvent). Stepped g m came sent xs x es) one
    (subst (λ (ys : List (RunEvent K WireEvent)). Stepped g m came sent xs f ys) more s)

-- no event
idle : {K : Type 0} (g : Group) (m : ℕ) (came : List Bytes) (sent : List (ℕ × Bytes)) (xs ys : List (Act K)) (e : RunEvent K WireEvent) →
    trace_of_acts xs ≡ trace_of_acts ys → AreSound g m ys (came ++ given_by e) sent → AreAmong (handed_by e) sent →
    Stepped g m came sent xs e (happen ys)
idle g m came sent xs ys e same sound handed = record {
  trace = [];
  then = ys;
  rest_is = refl;
  all = same;
  brought = none_brought g m (came ++ given_by e);
  sound = sound_more g m ys (came ++ given_by e) (came ++ given_by e) sent (sent ++ []) (among_all (came ++ given_by e))
      (among_front sent sent [] (among_all sent)) sound;
  handed = among_front (handed_by e) sent [] handed;
  spelled = λ d n. absurd n;
}

one_sent : (sent : List (ℕ × Bytes)) (to : ℕ) (b : Bytes) → Among sent (to, b) → AreAmong (handed_in (Handed to b ∷ [])) sent
one_sent sent to b a d (inl is) = subst (λ (x : ℕ × Bytes). Among sent x) is a
one_sent sent to b a d (inr none) = absurd none

none_given : (came : Option Bytes) (g : Group) (m : ℕ) (i : Input Bytes) → came ≡ None → IsBrought g m came i → message_in i ≡ []
none_given None g m (Asks command) e b = refl
none_given None g m Ticks e b = refl
none_given None g m (Comes sender message) e b = absurd b
none_given (Some c) g m i e b = absurd (cc)

some_given : (g : Group) (m : ℕ) (b : Bytes) (i : Input Bytes) → IsBrought g m (Some b) i → AreBrought g m (b ∷ []) (message_in i ++ [])
some_given g m b (Asks command) is = absurd is
some_given g m b Ticks is = absurd is
some_given g m b (Comes sender message) is = one_brought g m b sender message is

one_spelled : (g : Group) (ds : List (ℕ × Bytes)) → AreMessages g ds → AreMessages g (ds ++ [])
one_spelled g ds s d n = s d (subst (λ (xs : List (ℕ × Bytes)). Among xs d) (append-nil ds) n)

-- nothing more
and_none : {X : Type 0} (xs : List X) → AreAmong (xs ++ []) xs
and_none xs x n = subst (λ (ys : List _). Among ys x) (append-nil xs) n

with_none : {X : Type 0} (xs : List X) → AreAmong xs (xs ++ [])
with_none xs x n = among_left xs [] x n

step : {K : Type 0} (g : Group) (m : ℕ) (came : List Bytes) (sent : List (ℕ × Bytes)) (xs : List (Act K)) (e : RunEvent K WireEvent)
    (es : List (RunEvent K WireEvent)) → AreSound g m xs came sent → happen xs ≡ e ∷ es → Stepped g m came sent xs e es
step g m came sent [] e es s h = absurd (cc)
step g m came sent (Skips b ∷ xs) e es s h =
    stepped_is g m came sent _ e (During (Gave b)) es (happen xs) h
    (idle g m came sent _ xs (During (Gave b)) refl s (among_none sent))
step g m came sent (Resends to b ∷ xs) e es s h =
    stepped_is g m came sent _ e (During (Handed to b)) es (happen xs) h
    (idle g m came sent _ xs (During (Handed to b)) refl
    (sound_more g m xs came (came ++ []) sent sent (with_none came) (among_all sent) s.1) (one_sent sent to b s.0))
step g m came sent (Begins k ds ∷ xs) e es s h =
    stepped_is g m came sent _ e (Starts k) es (happen xs) h
    (record {
      trace = ds;
      then = xs;
      rest_is = refl;
      all = refl;
      brought = brought_more g m came [] (messages_of ds) s.0;
      sound = sound_more g m xs came (came ++ []) sent (sent ++ sent_by ds) (with_none came)
          (among_front sent sent (sent_by ds) (among_all sent)) s.2;
      handed = among_none (sent ++ sent_by ds);
      spelled = λ d n. absurd (subst (λ (bs : List (ℕ × Bytes)). Among bs d) s.1 n);
    })
step g m came sent (Answers (Some b) i t out ∷ xs) e es s h =
    stepped_is g m came sent _ e (During (Gave b)) es (happen xs) h
    (record {
      trace = Calls i t out ∷ [];
      then = xs;
      rest_is = refl;
      all = refl;
      brought = brought_then g m came (b ∷ []) [] (message_in i ++ []) (none_brought g m came) (some_given g m b i s.0);
      sound = subst (λ (ds : List (ℕ × Bytes)). AreSound g m xs (came ++ b ∷ []) (sent ++ ds)) (sym (append-nil (handed_over out))) s.2;
      handed = among_none (sent ++ (handed_over out ++ []));
      spelled = one_spelled g (handed_over out) s.1;
    })
step g m came sent (Answers None i t out ∷ xs) e es s h =
    let all = sent ++ handed_over out in
    let r = step g m came all xs e es (sound_more g m xs (came ++ []) came all all (and_none came) (among_all all) s.2) h in
    let same = append_assoc sent (handed_over out) (sent_by r.trace) in
    record {
      trace = Calls i t out ∷ r.trace;
      then = r.then;
      rest_is = r.rest_is;
      all = ap (λ (ds : List TraceEvent). Calls i t out ∷ ds) r.all;
      brought = subst (λ (ms : List _). AreBrought g m (came ++ given_by e) (ms ++ messages_of r.trace)) (sym (none_given None g m i refl s.0)) r.brought;
      sound = subst (λ (ds : List (ℕ × Bytes)). AreSound g m r.then (came ++ given_by e) ds) same r.sound;
      handed = subst (λ (ds : List (ℕ × Bytes)). AreAmong (handed_by e) ds) same r.handed;
      spelled = messages_both g (handed_over out) (sent_by r.trace) s.1 r.spelled;
    }

-- ---- where nothing more happens

silent : {K : Type 0} (g : Group) (m : ℕ) (xs : List (Act K)) (came : List Bytes) (sent : List (ℕ × Bytes)) → AreSound g m xs came sent →
    happen xs ≡ [] → messages_of (trace_of_acts xs) ≡ []
silent g m [] came sent s h = refl
silent g m (Skips b ∷ xs) came sent s h = absurd (cc)
silent g m (Resends to b ∷ xs) came sent s h = absurd (cc)
silent g m (Begins k ds ∷ xs) came sent s h = absurd (cc)
silent g m (Answers (Some b) i t out ∷ xs) came sent s h = absurd (cc)
silent g m (Answers None i t out ∷ xs) came sent s h =
    ap (λ (ys : List _). ys ++ messages_of (trace_of_acts xs)) (none_given None g m i refl s.0)
    ∙ silent g m xs (came ++ []) (sent ++ handed_over out) s.2 h

-- what is left of the members before this one
abbrev finals : {K : Type 0} → (plans : ℕ → List (Act K)) → ℕ → List Stretch
finals plans zero = []
finals plans (suc k) = record { member = k; trace = trace_of_acts (plans k); gave = [] } ∷ finals plans k

finals_above : {K : Type 0} (plans : ℕ → List (Act K)) (k m : ℕ) → k ≤ m → trace_in m (finals plans k) ≡ []
finals_above plans zero m le = refl
finals_above plans (suc k) m le =
    elim (eqb_tells m k) [
      | inl is ↦ absurd (let same = is.1 in omega (arith, le, same))
      | inr other ↦ cond-false (nat_eq m k) _ _ other.0 ∙ finals_above plans k m (omega (arith, le))
    ]

finals_below : {K : Type 0} (plans : ℕ → List (Act K)) (k m : ℕ) → m < k → trace_in m (finals plans k) ≡ trace_of_acts (plans m)
finals_below plans zero m l = absurd (omega (arith, l))
finals_below plans (suc k) m l =
    elim (eqb_tells m k) [
      | inl is ↦ cond-true (nat_eq m k) _ _ is.0
          ∙ ap (λ (ds : List TraceEvent). trace_of_acts (plans k) ++ ds) (finals_above plans k m (let same = is.1 in omega (arith, same)))
          ∙ append-nil (trace_of_acts (plans k))
          ∙ ap (λ (i : ℕ). trace_of_acts (plans i)) (sym is.1)
      | inr other ↦ cond-false (nat_eq m k) _ _ other.0 ∙ finals_below plans k m (let differ = other.1 in omega (arith, l, differ))
    ]

finals_are : {K : Type 0} (g : Group) (plans : ℕ → List (Act K)) (came : ℕ → List Bytes) (sent : List (ℕ × Bytes)) (k : ℕ) → k ≤ g.members →
    ((m : ℕ) → m < g.members → AreSound g m (plans m) (came m) sent) → ((m : ℕ) → m < g.members → happen (plans m) ≡ []) →
    AreStretches g (finals plans k)
finals_are {K} g plans came sent zero le sound none = tt
finals_are {K} g plans came sent (suc k) le sound none =
    let below : k < g.members = omega (arith, le) in (
      below,
      subst (λ (ms : List _). AreBrought g k [] ms) (sym (silent g k (plans k) (came k) sent (sound k below) (none k below)))
          (none_brought g k []),
      finals_are g plans came sent k (omega (arith, le)) sound none,
    )

finals_carried : {K : Type 0} (g : Group) (plans : ℕ → List (Act K)) (k : ℕ) (sent : List (ℕ × Bytes)) → AreCarried g (finals plans k) sent
finals_carried g plans zero sent = tt
finals_carried g plans (suc k) sent = (λ bytes n. absurd n, finals_carried g plans k (sent ++ sent_by (trace_of_acts (plans k))))

-- ---- the whole network

-- each datagram that a member's wire gives was handed to one before, or is no member's message to it
abbrev pub Carries : {K : Type 0} → Group → List (ℕ × RunEvent K WireEvent) → (handed : List Bytes) → Type 0
Carries g [] handed = Unit {0}
Carries g ((m, Starts key) ∷ xs) handed = (m < g.members) × Carries g xs handed
Carries g ((m, During (Gave bytes)) ∷ xs) handed = (m < g.members) × WasHanded g handed m bytes × Carries g xs handed
Carries g ((m, During (Handed to bytes)) ∷ xs) handed = (m < g.members) × Carries g xs (handed ++ bytes ∷ [])

-- the first event
carries_first : {K : Type 0} (g : Group) (m : ℕ) (e : RunEvent K WireEvent) (xs : List (ℕ × RunEvent K WireEvent)) (handed : List Bytes) →
    Carries g ((m, e) ∷ xs) handed →
    (m < g.members) × ((bytes : Bytes) → Among (given_by e) bytes → WasHanded g handed m bytes) ×
    Carries g xs (handed ++ map (λ (d : ℕ × Bytes). d.1) (handed_by e))
carries_first g m (Starts k) xs handed c =
    (c.0, (λ bytes n. absurd n), subst (λ (hs : List Bytes). Carries g xs hs) (sym (append-nil handed)) c.1)
carries_first g m (During (Gave b)) xs handed c = (
  c.0,
  λ bytes n. elim n [ inl is ↦ subst (λ (x : Bytes). WasHanded g handed m x) is c.1 | inr none ↦ absurd none ],
  subst (λ (hs : List Bytes). Carries g xs hs) (sym (append-nil handed)) c.2,
)
carries_first g m (During (Handed to b)) xs handed c = (c.0, (λ bytes n. absurd n), c.1)

-- what was handed over was sent, to somebody
abbrev WereSent : (handed : List Bytes) → (sent : List (ℕ × Bytes)) → Type 0
WereSent handed sent = (bytes : Bytes) → Among handed bytes → (to : ℕ) × Among sent (to, bytes)

bytes_among : (ds : List (ℕ × Bytes)) (bytes : Bytes) → Among (map (λ (d : ℕ × Bytes). d.1) ds) bytes → (to : ℕ) × Among ds (to, bytes)
bytes_among [] bytes n = absurd n
bytes_among (d ∷ ds) bytes (inl is) = (d.0, inl (ap (λ (b : Bytes). (d.0, b)) is))
bytes_among (d ∷ ds) bytes (inr later) = let r = bytes_among ds bytes later in (r.0, inr r.1)

abbrev first_of : Bytes → ℕ
first_of [] = 0
first_of (b ∷ bs) = b

-- a datagram is for one member
one_addressee : (g : Group) (f h m n : ℕ) (x y : Message) (bytes : Bytes) → DatagramBytes g f m x bytes → DatagramBytes g h n y bytes → m ≡ n
one_addressee g f h m n x y bytes a b =
    sym (ap (λ (bs : Bytes). first_of (drop 11 bs)) a.spelled) ∙ ap (λ (bs : Bytes). first_of (drop 11 bs)) b.spelled

-- a datagram that was sent to another member is no message to this one
carried_by : (g : Group) (m : ℕ) (bytes : Bytes) (handed : List Bytes) (sent : List (ℕ × Bytes)) → AreMessages g sent → WereSent handed sent →
    WasHanded g handed m bytes → IsCarried g sent m bytes
carried_by g m bytes handed sent spelled were (inr outside) = inr outside
carried_by g m bytes handed sent spelled were (inl among) =
    let r = were bytes among in
    elim (eqb_tells r.0 m) [
      | inl is ↦ inl (subst (λ (to : ℕ). Among sent (to, bytes)) is.1 r.1)
      | inr other ↦ inr (λ from message d.
          let s = spelled (r.0, bytes) r.1 in
          absurd (other.1 (one_addressee g s.0 from r.0 m s.1 message bytes s.2 d)))
    ]

carried_later : (g : Group) (m : ℕ) (bytes : Bytes) (few many : List (ℕ × Bytes)) → AreAmong few many → IsCarried g few m bytes →
    IsCarried g many m bytes
carried_later g m bytes few many a (inl sent) = inl (a (m, bytes) sent)
carried_later g m bytes few many a (inr outside) = inr outside

record Whole {K : Type 0} (g : Group) (plans : ℕ → List (Act K)) (sent : List (ℕ × Bytes)) : Type 0 where
  stretches : List Stretch
  are : AreStretches g stretches
  carried : AreCarried g stretches sent
  trace : (m : ℕ) → m < g.members → trace_in m stretches ≡ trace_of_acts (plans m)

-- what each member received was carried
abbrev HasCome : Group → (came : ℕ → List Bytes) → (sent : List (ℕ × Bytes)) → Type 0
HasCome g came sent = (m : ℕ) (bytes : Bytes) → m < g.members → Among (came m) bytes → IsCarried g sent m bytes

whole : {K : Type 0} (g : Group) (network : List (ℕ × RunEvent K WireEvent)) (handed : List Bytes) (sent : List (ℕ × Bytes))
    (came : ℕ → List Bytes) (plans : ℕ → List (Act K)) →
    ((m : ℕ) → m < g.members → AreSound g m (plans m) (came m) sent) → ((m : ℕ) → m < g.members → happen (plans m) ≡ events_at m network) →
    HasCome g came sent → WereSent handed sent → AreMessages g sent → Carries g network handed → Whole g plans sent
whole g [] handed sent came plans sound rests has a spelled c = record {
  stretches = finals plans g.members;
  are = finals_are g plans came sent g.members (omega arith) sound rests;
  carried = finals_carried g plans g.members sent;
  trace = λ m below. finals_below plans g.members m below;
}
whole {K} g ((m, e) ∷ xs) handed sent came plans sound rests has a spelled c =
    let f = carries_first g m e xs handed c in
    let own : happen (plans m) ≡ e ∷ events_at m xs = rests m f.0 ∙ cond-true (nat_eq m m) _ _ (eq-eqb m m refl) in
    let s = step g m (came m) sent (plans m) e (events_at m xs) (sound m f.0) own in
    let then = put plans m s.then in
    let here = came m ++ given_by e in
    let gone = put came m here in
    let later = sent ++ sent_by s.trace in
    let on : AreAmong sent later = among_front sent sent (sent_by s.trace) (among_all sent) in
    let more = map (λ (d : ℕ × Bytes). d.1) (handed_by e) in
    let carried : (bytes : Bytes) → Among here bytes → IsCarried g sent m bytes =
    λ b n. elim (among_cases (came m) (given_by e) b n) [
      | inl before ↦ has m b f.0 before
      | inr now ↦ carried_by g m b handed sent spelled a (f.1 b now)
    ] in
    let r = whole g xs (handed ++ more) later gone then
    (λ k below. elim (eqb_tells k m) [
      | inl is ↦ subst (λ (q : List (Act K)). AreSound g k q (gone k) later) (sym (cond-true (nat_eq k m) s.then (plans k) is.0))
          (subst (λ (bs : List Bytes). AreSound g k s.then bs later) (sym (cond-true (nat_eq k m) here (came k) is.0))
          (subst (λ (j : ℕ). AreSound g j s.then here later) (sym is.1) s.sound))
      | inr other ↦ subst (λ (q : List (Act K)). AreSound g k q (gone k) later) (sym (cond-false (nat_eq k m) s.then (plans k) other.0))
          (subst (λ (bs : List Bytes). AreSound g k (plans k) bs later) (sym (cond-false (nat_eq k m) here (came k) other.0))
          (sound_more g k (plans k) (came k) (came k) sent later (among_all (came k)) on (sound k below)))
    ])
    (λ k below. elim (eqb_tells k m) [
      | inl is ↦ ap happen (cond-true (nat_eq k m) s.then (plans k) is.0) ∙ s.rest_is ∙ ap (λ (j : ℕ). events_at j xs) (sym is.1)
      | inr other ↦ ap happen (cond-false (nat_eq k m) s.then (plans k) other.0) ∙ rests k below ∙ cond-false (nat_eq k m) _ _ other.0
    ])
    (λ k b below n. carried_later g k b sent later on (elim (eqb_tells k m) [
      | inl is ↦ subst (λ (j : ℕ). IsCarried g sent j b) (sym is.1)
          (carried b (subst (λ (bs : List Bytes). Among bs b) (cond-true (nat_eq k m) here (came k) is.0) n))
      | inr other ↦ has k b below (subst (λ (bs : List Bytes). Among bs b) (cond-false (nat_eq k m) here (came k) other.0) n)
    ]))
    (λ b n. elim (among_cases handed more b n) [
      | inl before ↦ (let w = a b before in (w.0, among_left sent (sent_by s.trace) (w.0, b) w.1))
      | inr now ↦ (let w = bytes_among (handed_by e) b now in (w.0, s.handed (w.0, b) w.1))
    ])
    (messages_both g sent (sent_by s.trace) spelled s.spelled) f.2 in
    record {
      stretches = record { member = m; trace = s.trace; gave = here } ∷ r.stretches;
      are = (f.0, s.brought, r.are);
      carried = (carried, r.carried);
      trace = λ k below. elim (eqb_tells k m) [
        | inl is ↦ cond-true (nat_eq k m) _ _ is.0
            ∙ ap (λ (ds : List TraceEvent). s.trace ++ ds) (r.trace k below ∙ ap (λ (q : List (Act K)). trace_of_acts q) (cond-true (nat_eq k m) s.then (plans k) is.0))
            ∙ sym s.all ∙ ap (λ (j : ℕ). trace_of_acts (plans j)) (sym is.1)
        | inr other ↦ cond-false (nat_eq k m) _ _ other.0 ∙ r.trace k below
            ∙ ap (λ (q : List (Act K)). trace_of_acts q) (cond-false (nat_eq k m) s.then (plans k) other.0)
      ];
    }

-- ---- from runs to acts

-- what was sent is handed over
abbrev hands_then : {K : Type 0} → List (ℕ × Bytes) → List (Act K) → List (Act K)
hands_then [] later = later
hands_then (d ∷ ds) later = Resends d.0 d.1 ∷ hands_then ds later

abbrev moves_then : {K : Type 0} → List Move → List (Act K) → List (Act K)
moves_then [] later = later
moves_then (has_trace.Does came i t out ∷ ms) later = Answers came i t out ∷ hands_then (handed_over out) (moves_then ms later)
moves_then (has_trace.Passes b ∷ ms) later = Skips b ∷ moves_then ms later
moves_then (has_trace.Repeats to b ∷ ms) later = Resends to b ∷ moves_then ms later

-- what goes over the wire where a call failed
abbrev last_then : {K : Type 0} → List WireEvent → List (Act K) → List (Act K)
last_then [] later = later
last_then (Gave b ∷ es) later = Skips b ∷ last_then es later
last_then (Handed to b ∷ es) later = Resends to b ∷ last_then es later

hands_happen : {K : Type 0} (ds : List (ℕ × Bytes)) (later : List (Act K)) → happen (hands_then ds later) ≡ during (hands ds) ++ happen later
hands_happen [] later = refl
hands_happen (d ∷ ds) later = ap (λ (fs : List (RunEvent _ WireEvent)). During (Handed d.0 d.1) ∷ fs) (hands_happen ds later)

moves_happen : {K : Type 0} (ms : List Move) (later : List (Act K)) → happen (moves_then ms later) ≡ during (events_of ms) ++ happen later
moves_happen [] later = refl
moves_happen (has_trace.Does came i t out ∷ ms) later =
    let ds = handed_over out in
    let then = during (events_of ms) ++ happen later in
    ap (λ (fs : List (RunEvent _ WireEvent)). during (gives came) ++ fs)
    (hands_happen ds (moves_then ms later) ∙ ap (λ (fs : List (RunEvent _ WireEvent)). during (hands ds) ++ fs) (moves_happen ms later))
    ∙ sym (during_append (gives came) (hands ds) then)
    ∙ sym (during_append (gives came ++ hands ds) (events_of ms) (happen later))
moves_happen (has_trace.Passes b ∷ ms) later = ap (λ (fs : List (RunEvent _ WireEvent)). During (Gave b) ∷ fs) (moves_happen ms later)
moves_happen (has_trace.Repeats to b ∷ ms) later = ap (λ (fs : List (RunEvent _ WireEvent)). During (Handed to b) ∷ fs) (moves_happen ms later)

last_happens : {K : Type 0} (es : List WireEvent) (later : List (Act K)) → happen (last_then es later) ≡ during es ++ happen later
last_happens [] later = refl
last_happens (Gave b ∷ es) later = ap (λ (fs : List (RunEvent _ WireEvent)). During (Gave b) ∷ fs) (last_happens es later)
last_happens (Handed to b ∷ es) later = ap (λ (fs : List (RunEvent _ WireEvent)). During (Handed to b) ∷ fs) (last_happens es later)

hands_befall : {K : Type 0} (ds : List (ℕ × Bytes)) (later : List (Act K)) → trace_of_acts (hands_then ds later) ≡ trace_of_acts later
hands_befall [] later = refl
hands_befall (d ∷ ds) later = hands_befall ds later

moves_befall : {K : Type 0} (ms : List Move) (later : List (Act K)) → trace_of_acts (moves_then ms later) ≡ trace_of ms ++ trace_of_acts later
moves_befall [] later = refl
moves_befall (has_trace.Does came i t out ∷ ms) later =
    ap (λ (ds : List TraceEvent). Calls i t out ∷ ds) (hands_befall (handed_over out) (moves_then ms later) ∙ moves_befall ms later)
moves_befall (has_trace.Passes b ∷ ms) later = moves_befall ms later
moves_befall (has_trace.Repeats to b ∷ ms) later = moves_befall ms later

last_traces : {K : Type 0} (es : List WireEvent) (later : List (Act K)) → trace_of_acts (last_then es later) ≡ trace_of_acts later
last_traces [] later = refl
last_traces (Gave b ∷ es) later = last_traces es later
last_traces (Handed to b ∷ es) later = last_traces es later

last_sound : {K : Type 0} (g : Group) (m : ℕ) (es : List WireEvent) (later : List (Act K)) (came : List Bytes) (sent : List (ℕ × Bytes)) →
    AreAmong (handed_in es) sent → ((more : List Bytes) → AreAmong (came ++ given_in es) more → AreSound g m later more sent) →
    AreSound g m (last_then es later) came sent
last_sound g m [] later came sent a s = s came (and_none came)
last_sound g m (Gave b ∷ es) later came sent a s =
    last_sound g m es later (came ++ b ∷ []) sent a
    (λ more c. s more (subst (λ (bs : List Bytes). AreAmong bs more) (append_assoc came (b ∷ []) (given_in es)) c))
last_sound g m (Handed to b ∷ es) later came sent a s = (a (to, b) (inl refl), last_sound g m es later came sent (λ x n. a x (inr n)) s)

hands_sound : {K : Type 0} (g : Group) (m : ℕ) (ds : List (ℕ × Bytes)) (later : List (Act K)) (came : List Bytes) (sent : List (ℕ × Bytes)) →
    AreAmong ds sent → AreSound g m later came sent → AreSound g m (hands_then ds later) came sent
hands_sound g m [] later came sent a s = s
hands_sound g m (d ∷ ds) later came sent a s = (a d (inl refl), hands_sound g m ds later came sent (λ x n. a x (inr n)) s)

moves_sound : {K : Type 0} (g : Group) (m : ℕ) (hears : Bool) (ms : List Move) (before : List Bytes) (kept : List (ℕ × Bytes))
    (later : List (Act K)) (came : List Bytes) (sent : List (ℕ × Bytes)) (from then : NodeState Bytes) → Traced g m from (trace_of ms) then →
    AreMoves g m hears ms before kept → AreAmong kept sent →
    ((more : List Bytes) (many : List (ℕ × Bytes)) → AreAmong (kept ++ sent_by (trace_of ms)) many → AreSound g m later more many) →
    AreSound g m (moves_then ms later) came sent
moves_sound g m hears [] before kept later came sent from then v a k s = s came sent (among_then (kept ++ []) kept sent (and_none kept) k)
moves_sound g m hears (has_trace.Does b i t out ∷ ms) before kept later came sent from then v a k s =
    let made = v.2 in (
      a.0,
      are_messages g made.plan.sends out (subst (λ (ds : List Datagram). AreSpelled g made.plan.sends ds) (sym made.handed) made.spelled),
      hands_sound g m (handed_over out) (moves_then ms later) (came ++ came_in b) (sent ++ handed_over out)
          (among_back (handed_over out) sent (handed_over out) (among_all (handed_over out)))
          (moves_sound g m hears ms (before ++ came_in b) (kept ++ handed_over out) later (came ++ came_in b) (sent ++ handed_over out) t then v.3 a.1
          (among_sides kept (handed_over out) sent (handed_over out) k (among_all (handed_over out)))
          (λ more many c. s more many
          (subst (λ (ds : List (ℕ × Bytes)). AreAmong ds many) (append_assoc kept (handed_over out) (sent_by (trace_of ms))) c))),
    )
moves_sound g m hears (has_trace.Passes b ∷ ms) before kept later came sent from then v a k s =
    moves_sound g m hears ms (before ++ b ∷ []) kept later (came ++ b ∷ []) sent from then v a.1 k s
moves_sound g m hears (has_trace.Repeats to b ∷ ms) before kept later came sent from then v a k s =
    (k (to, b) a.0, moves_sound g m hears ms before kept later came sent from then v a.1 k s)

-- ---- one list of acts behind another

happen_append : {K : Type 0} (xs ys : List (Act K)) → happen (xs ++ ys) ≡ happen xs ++ happen ys
happen_append [] ys = refl
happen_append (Answers came i t out ∷ xs) ys =
    ap (λ (fs : List (RunEvent _ WireEvent)). during (gives came) ++ fs) (happen_append xs ys)
    ∙ sym (append_assoc (during (gives came)) (happen xs) (happen ys))
happen_append (Skips b ∷ xs) ys = ap (λ (fs : List (RunEvent _ WireEvent)). During (Gave b) ∷ fs) (happen_append xs ys)
happen_append (Resends to b ∷ xs) ys = ap (λ (fs : List (RunEvent _ WireEvent)). During (Handed to b) ∷ fs) (happen_append xs ys)
happen_append (Begins k ds ∷ xs) ys = ap (λ (fs : List (RunEvent _ WireEvent)). Starts k ∷ fs) (happen_append xs ys)

befall_append : {K : Type 0} (xs ys : List (Act K)) → trace_of_acts (xs ++ ys) ≡ trace_of_acts xs ++ trace_of_acts ys
befall_append [] ys = refl
befall_append (Answers came i t out ∷ xs) ys = ap (λ (ds : List TraceEvent). Calls i t out ∷ ds) (befall_append xs ys)
befall_append (Skips b ∷ xs) ys = befall_append xs ys
befall_append (Resends to b ∷ xs) ys = befall_append xs ys
befall_append (Begins k ds ∷ xs) ys =
    ap (λ (es : List TraceEvent). ds ++ es) (befall_append xs ys) ∙ sym (append_assoc ds (trace_of_acts xs) (trace_of_acts ys))

hands_apart : {K : Type 0} (ds : List (ℕ × Bytes)) (xs ys : List (Act K)) → hands_then ds (xs ++ ys) ≡ hands_then ds xs ++ ys
hands_apart [] xs ys = refl
hands_apart (d ∷ ds) xs ys = ap (λ (zs : List (Act _)). Resends d.0 d.1 ∷ zs) (hands_apart ds xs ys)

moves_apart : {K : Type 0} (ms : List Move) (xs ys : List (Act K)) → moves_then ms (xs ++ ys) ≡ moves_then ms xs ++ ys
moves_apart [] xs ys = refl
moves_apart (has_trace.Does came i t out ∷ ms) xs ys =
    ap (λ (zs : List (Act _)). Answers came i t out ∷ hands_then (handed_over out) zs) (moves_apart ms xs ys)
    ∙ ap (λ (zs : List (Act _)). Answers came i t out ∷ zs) (hands_apart (handed_over out) (moves_then ms xs) ys)
moves_apart (has_trace.Passes b ∷ ms) xs ys = ap (λ (zs : List (Act _)). Skips b ∷ zs) (moves_apart ms xs ys)
moves_apart (has_trace.Repeats to b ∷ ms) xs ys = ap (λ (zs : List (Act _)). Resends to b ∷ zs) (moves_apart ms xs ys)

last_apart : {K : Type 0} (es : List WireEvent) (ys : List (Act K)) → last_then es ys ≡ last_then es [] ++ ys
last_apart [] ys = refl
last_apart (Gave b ∷ es) ys = ap (λ (zs : List (Act _)). Skips b ∷ zs) (last_apart es ys)
last_apart (Handed to b ∷ es) ys = ap (λ (zs : List (Act _)). Resends to b ∷ zs) (last_apart es ys)

-- ---- where a run stops before all is handed over

abbrev behind : List WireEvent → List WireEvent
behind [] = []
behind (e ∷ es) = es

-- the acts of a run over which this went: nothing more is handed over, and each call answers still
abbrev only : {K : Type 0} → List (Act K) → (own : List WireEvent) → List (Act K)
only [] own = []
only (Answers None i t out ∷ xs) own = Answers None i t out ∷ only xs own
only (Answers (Some b) i t out ∷ xs) own = Answers (Some b) i t out ∷ only xs (behind own)
only (Skips b ∷ xs) own = Skips b ∷ only xs (behind own)
only (Resends to b ∷ xs) [] = only xs []
only (Resends to b ∷ xs) (e ∷ own) = Resends to b ∷ only xs own
only (Begins k ds ∷ xs) own = Begins k ds ∷ only xs own

abbrev with_first : {K : Type 0} → WireEvent → List (RunEvent K WireEvent) → List (RunEvent K WireEvent)
with_first e es = During e ∷ es

only_first : {K : Type 0} (d e : WireEvent) (es fs : List (RunEvent K WireEvent)) (own : List WireEvent) (lost : List (ℕ × Bytes)) →
    During d ∷ es ≡ During e ∷ (during own ++ during (hands lost)) → (es ≡ during own ++ during (hands lost) → fs ≡ during own) →
    During d ∷ fs ≡ During e ∷ during own
only_first {K} d e es fs own lost h then =
    let one : d ≡ e = cc in
    let more : es ≡ during own ++ during (hands lost) = cc in
    ap (λ (ys : List (RunEvent K WireEvent)). During d ∷ ys) (then more)
    ∙ ap (λ (x : WireEvent). with_first {K = K} x (during own)) one

only_happens : {K : Type 0} (xs : List (Act K)) (own : List WireEvent) (lost : List (ℕ × Bytes)) →
    happen xs ≡ during own ++ during (hands lost) → happen (only xs own) ≡ during own
only_happens [] [] lost h = refl
only_happens [] (e ∷ own) lost h = absurd (cc)
only_happens (Answers None i t out ∷ xs) own lost h = only_happens xs own lost h
only_happens (Answers (Some b) i t out ∷ xs) [] [] h = absurd (cc)
only_happens (Answers (Some b) i t out ∷ xs) [] (d ∷ ds) h = absurd (cc)
only_happens (Answers (Some b) i t out ∷ xs) (e ∷ own) lost h =
    only_first (Gave b) e (happen xs) (happen (only xs own)) own lost h (λ more. only_happens xs own lost more)
only_happens (Skips b ∷ xs) [] [] h = absurd (cc)
only_happens (Skips b ∷ xs) [] (d ∷ ds) h = absurd (cc)
only_happens (Skips b ∷ xs) (e ∷ own) lost h =
    only_first (Gave b) e (happen xs) (happen (only xs own)) own lost h (λ more. only_happens xs own lost more)
only_happens (Resends to b ∷ xs) [] [] h = absurd (cc)
only_happens (Resends to b ∷ xs) [] (d ∷ ds) h =
    let more : happen xs ≡ during (hands ds) = cc in only_happens xs [] ds more
only_happens (Resends to b ∷ xs) (e ∷ own) lost h =
    only_first (Handed to b) e (happen xs) (happen (only xs own)) own lost h (λ more. only_happens xs own lost more)
only_happens (Begins k ds ∷ xs) [] [] h = absurd (cc)
only_happens (Begins k ds ∷ xs) [] (d ∷ es) h = absurd (cc)
only_happens (Begins k ds ∷ xs) (e ∷ own) lost h = absurd (cc)

only_traces : {K : Type 0} (xs : List (Act K)) (own : List WireEvent) → trace_of_acts (only xs own) ≡ trace_of_acts xs
only_traces [] own = refl
only_traces (Answers None i t out ∷ xs) own = ap (λ (ds : List TraceEvent). Calls i t out ∷ ds) (only_traces xs own)
only_traces (Answers (Some b) i t out ∷ xs) own = ap (λ (ds : List TraceEvent). Calls i t out ∷ ds) (only_traces xs (behind own))
only_traces (Skips b ∷ xs) own = only_traces xs (behind own)
only_traces (Resends to b ∷ xs) [] = only_traces xs []
only_traces (Resends to b ∷ xs) (e ∷ own) = only_traces xs own
only_traces (Begins k ds ∷ xs) own = ap (λ (es : List TraceEvent). ds ++ es) (only_traces xs own)

only_sound : {K : Type 0} (g : Group) (m : ℕ) (xs : List (Act K)) (own : List WireEvent) (later : List (Act K)) (came : List Bytes)
    (sent : List (ℕ × Bytes)) → AreSound g m (xs ++ later) came sent → AreSound g m (only xs own ++ later) came sent
only_sound g m [] own later came sent s = s
only_sound g m (Answers None i t out ∷ xs) own later came sent s =
    (s.0, s.1, only_sound g m xs own later (came ++ []) (sent ++ handed_over out) s.2)
only_sound g m (Answers (Some b) i t out ∷ xs) own later came sent s =
    (s.0, s.1, only_sound g m xs (behind own) later (came ++ b ∷ []) (sent ++ handed_over out) s.2)
only_sound g m (Skips b ∷ xs) own later came sent s = only_sound g m xs (behind own) later (came ++ b ∷ []) sent s
only_sound g m (Resends to b ∷ xs) [] later came sent s = only_sound g m xs [] later came sent s.1
only_sound g m (Resends to b ∷ xs) (e ∷ own) later came sent s = (s.0, only_sound g m xs own later came sent s.1)
only_sound g m (Begins k ds ∷ xs) own later came sent s = (s.0, s.1, only_sound g m xs own later came sent s.2)

-- ---- runs of a member

abbrev pub IsRun : {K : Type 0} → Group → (m : ℕ) → Run K → List WireEvent → Type 0
IsRun g m r events = Ran g m r.first events r.trace r.end r.unanswered

module _ {K : Type 0} (g : Group) (m : ℕ) where
  -- all that a member would do in a run, and what it does there, and later
  abbrev whole_run : (r : Run K) (own : List WireEvent) → IsRun g m r own → List (Act K)
  whole_run r own ran = moves_then ran.moves (last_then ran.last [])

  run_then : (r : Run K) (own : List WireEvent) → IsRun g m r own → List (Act K) → List (Act K)
  run_then r own ran later = only (whole_run r own ran) own ++ later

  whole_happens : (r : Run K) (own : List WireEvent) (ran : IsRun g m r own) →
      happen (whole_run r own ran) ≡ during own ++ during (hands ran.lost)
  whole_happens r own ran =
      moves_happen ran.moves (last_then ran.last [])
      ∙ ap (λ (es : List (RunEvent K WireEvent)). during (events_of ran.moves) ++ es) (last_happens ran.last [])
      ∙ sym (during_append (events_of ran.moves) ran.last [])
      ∙ ap (λ (es : List WireEvent). during es ++ []) (sym ran.went)
      ∙ during_append own (hands ran.lost) []
      ∙ ap (λ (es : List (RunEvent K WireEvent)). during own ++ es) (append-nil (during (hands ran.lost)))

  run_happens : (r : Run K) (own : List WireEvent) (ran : IsRun g m r own) (later : List (Act K)) →
      happen (run_then r own ran later) ≡ during own ++ happen later
  unfolding run_then
  run_happens r own ran later =
      happen_append (only (whole_run r own ran) own) later
      ∙ ap (λ (es : List (RunEvent K WireEvent)). es ++ happen later)
      (only_happens (whole_run r own ran) own ran.lost (whole_happens r own ran))

  run_leads : (r : Run K) (own : List WireEvent) (ran : IsRun g m r own) (later : List (Act K)) →
      trace_of_acts (run_then r own ran later) ≡ r.trace ++ trace_of_acts later
  unfolding run_then
  run_leads r own ran later =
      befall_append (only (whole_run r own ran) own) later
      ∙ ap (λ (ds : List TraceEvent). ds ++ trace_of_acts later)
      (only_traces (whole_run r own ran) own
      ∙ moves_befall ran.moves (last_then ran.last [])
      ∙ ap (λ (ds : List TraceEvent). trace_of ran.moves ++ ds) (last_traces ran.last [])
      ∙ append-nil (trace_of ran.moves)
      ∙ sym ran.does)

  run_traces : (r : Run K) (own : List WireEvent) (ran : IsRun g m r own) (later : List (Act K)) (then : NodeState Bytes) →
      Traced g m r.end (trace_of_acts later) then → Traced g m (started r.first) (trace_of_acts (run_then r own ran later)) then
  run_traces r own ran later then v =
      let ds : r.trace ++ trace_of_acts later ≡ trace_of ran.moves ++ trace_of_acts later = ap (λ (ds : List TraceEvent). ds ++ trace_of_acts later) ran.does in
      subst (λ (ds : List TraceEvent). Traced g m (started r.first) ds then) (sym ds ∙ sym (run_leads r own ran later))
      (traced_then g m (started r.first) r.end then (trace_of ran.moves) (trace_of_acts later) ran.traced v)

  -- sound, where this came and more
  abbrev SoundAfter : List (Act K) → (unanswered : List Bytes) → Type 0
  SoundAfter xs unanswered = (came : List Bytes) (sent : List (ℕ × Bytes)) → AreAmong unanswered came → AreSound g m xs came sent

  run_sound : (r : Run K) (own : List WireEvent) (ran : IsRun g m r own) (later : List (Act K)) → SoundAfter later r.unanswered →
      (came : List Bytes) (sent : List (ℕ × Bytes)) → AreSound g m (run_then r own ran later) came sent
  unfolding run_then
  run_sound r own ran later s came sent =
      only_sound g m (whole_run r own ran) own later came sent
      (subst (λ (xs : List (Act K)). AreSound g m xs came sent)
      (ap (λ (xs : List (Act K)). moves_then ran.moves xs) (last_apart ran.last later) ∙ moves_apart ran.moves (last_then ran.last []) later)
      (moves_sound g m ran.hears ran.moves [] [] (last_then ran.last later) came sent (started r.first) r.end ran.traced ran.are (among_none sent)
      (λ more many c. last_sound g m ran.last later more many (among_then (handed_in ran.last) (sent_by (trace_of ran.moves)) many ran.again c)
      (λ all d. s all many (subst (λ (bs : List Bytes). AreAmong bs all) (sym ran.came)
      (among_then (given_in ran.last) (more ++ given_in ran.last) all (among_back (given_in ran.last) more (given_in ran.last) (among_all (given_in ran.last))) d))))))

  -- what a member in this state does in its next runs
  record Later (s : NodeState Bytes) (unanswered : List Bytes) (runs : List (Run K)) (events : List (RunEvent K WireEvent)) : Type 0 where
    acts : List (Act K)
    happens : happen acts ≡ events
    sound : SoundAfter acts unanswered
    traced : Traced g m s (trace_of_acts acts) (final_state_from s runs)
    happened : IsLaterTrace runs (trace_of_acts acts)

  later : (s : NodeState Bytes) (unanswered : List Bytes) (runs : List (Run K)) (events : List (RunEvent K WireEvent)) → s.is_up ≡ true →
      AreRuns g m (IsRun g m) (LeavesThere g m unanswered s) runs events → Later s unanswered runs events
  later s unanswered [] events up are =
      record { acts = []; happens = sym are; sound = λ came sent a. tt; traced = refl; happened = refl }
  later s unanswered (r ∷ rs) events up (left, own, more, ran, all, are) =
      let x = left.0 in
      let l = later r.end r.unanswered rs more ran.up are in
      let start = Stops x r.first ∷ (Opens ∷ []) in
      let acts = run_then r own ran l.acts in
      record {
        acts = Begins r.key start ∷ acts;
        happens = ap (λ (es : List (RunEvent K WireEvent)). Starts r.key ∷ es)
            (run_happens r own ran l.acts ∙ ap (λ (es : List (RunEvent K WireEvent)). during own ++ es) l.happens) ∙ sym all;
        sound = λ came sent a. (
          subst (λ (ms : List Heard). AreBrought g m came ms) (sym (append-nil (message_in x)))
              (brought_among g m unanswered came (message_in x) a left.2),
          refl,
          run_sound r own ran l.acts l.sound came sent,
        );
        traced = (up, left.1, left.3, run_traces r own ran l.acts (final_state_from r.end rs) l.traced);
        happened = (x, trace_of_acts l.acts, ap (λ (ds : List TraceEvent). Stops x r.first ∷ (Opens ∷ ds)) (run_leads r own ran l.acts), l.happened);
      }

  -- what a member does in all its runs
  record Acted (runs : List (Run K)) (events : List (RunEvent K WireEvent)) : Type 0 where
    pub acts : List (Act K)
    pub happens : happen acts ≡ events
    pub sound : AreSound g m acts [] []
    pub traced : Traced g m (started nothing_stored) (trace_of_acts acts) (final_state_from (started nothing_stored) runs)
    pub happened : IsTrace runs (trace_of_acts acts)

  acted : (runs : List (Run K)) (events : List (RunEvent K WireEvent)) → AreRuns g m (IsRun g m) IsEmpty runs events → Acted runs events
  acted [] events are = record { acts = []; happens = sym are; sound = tt; traced = refl; happened = refl }
  acted (r ∷ rs) events (empty, own, more, ran, all, are) =
      let l = later r.end r.unanswered rs more ran.up are in
      let acts = run_then r own ran l.acts in
      record {
        acts = Begins r.key [] ∷ acts;
        happens = ap (λ (es : List (RunEvent K WireEvent)). Starts r.key ∷ es)
            (run_happens r own ran l.acts ∙ ap (λ (es : List (RunEvent K WireEvent)). during own ++ es) l.happens) ∙ sym all;
        sound = (none_brought g m [], refl, run_sound r own ran l.acts l.sound [] []);
        traced = subst (λ (d : Record Bytes). Traced g m (started d) (trace_of_acts acts) (final_state_from r.end rs)) empty
            (run_traces r own ran l.acts (final_state_from r.end rs) l.traced);
        happened = (trace_of_acts l.acts, run_leads r own ran l.acts, l.happened);
      }

-- ---- all members

as_led : (g : Group) (me : ℕ) (s t : NodeState Bytes) (ds : List TraceEvent) → Traced g me s ds t → Traced g me s ds (led_to s ds)
as_led g me s t ds l = subst (λ (u : NodeState Bytes). Traced g me s ds u) (traced_to g me s t ds l) l

module _ {K : Type 0} (g : Group) (network : List (ℕ × RunEvent K WireEvent)) (runs : ℕ → List (Run K))
    (are : (m : ℕ) → m < g.members → AreRuns g m (IsRun g m) IsEmpty (runs m) (events_at m network)) where
  acted_at : (m : ℕ) → m < g.members → Acted g m (runs m) (events_at m network)
  acted_at m below = acted g m (runs m) (events_at m network) (are m below)

  -- what a member does from the start on; nothing of no member
  abbrev plan_of : (m : ℕ) → (m < g.members) ⊎ (g.members ≤ m) → List (Act K)
  plan_of m (inl below) = (acted_at m below).acts
  plan_of m (inr above) = []

  sound_at : (m : ℕ) (w : (m < g.members) ⊎ (g.members ≤ m)) → m < g.members → AreSound g m (plan_of m w) [] []
  sound_at m (inl b) below = (acted_at m b).sound
  sound_at m (inr above) below = absurd (omega (arith, above, below))

  rest_at : (m : ℕ) (w : (m < g.members) ⊎ (g.members ≤ m)) → m < g.members → happen (plan_of m w) ≡ events_at m network
  rest_at m (inl b) below = (acted_at m b).happens
  rest_at m (inr above) below = absurd (omega (arith, above, below))

  traced_at : (m : ℕ) (w : (m < g.members) ⊎ (g.members ≤ m)) → m < g.members → (ds : List TraceEvent) → ds ≡ trace_of_acts (plan_of m w) →
      Traced g m (started nothing_stored) ds (final_state runs m) × IsTrace (runs m) ds
  traced_at m (inl b) below ds e = (
    subst (λ (xs : List TraceEvent). Traced g m (started nothing_stored) xs (final_state runs m)) (sym e) (acted_at m b).traced,
    subst (λ (xs : List TraceEvent). IsTrace (runs m) xs) (sym e) (acted_at m b).happened,
  )
  traced_at m (inr above) below ds e = absurd (omega (arith, above, below))

  pub wires_go : IsGroup g → Carries g network [] → (stretches : List Stretch) × InStretches g runs stretches
  wires_go few carries =
      let w = whole g network [] [] (λ m. []) (λ m. plan_of m (below_or m g.members))
      (λ m below. sound_at m (below_or m g.members) below) (λ m below. rest_at m (below_or m g.members) below)
      (λ m b below n. absurd n) (λ b n. absurd n) (λ d n. absurd n) carries in
      let traced = λ (m : ℕ) (below : m < g.members). traced_at m (below_or m g.members) below (trace_in m w.stretches) (w.trace m below) in (
        w.stretches,
        record {
          goes = record {
            group = few;
            are = w.are;
            traced = λ m below. as_led g m (started nothing_stored) (final_state runs m) (trace_in m w.stretches) (traced m below).0;
            carried = w.carried;
          };
          happened = λ m below. (traced m below).1;
          leaves = λ m below. sym (traced_to g m (started nothing_stored) (final_state runs m) (trace_in m w.stretches) (traced m below).0);
        },
      )
