-- What goes over sockets of members that have a key is what goes over their wires.
use Rattle.std.proofs.Common.{◌≡◌, ◌∙◌, ◌⊎◌, sym, ap, subst, refl, ℕ, suc, ◌<◌, ◌≤◌, Bool, true, false, nat_eq, List, [], ◌∷◌, ◌++◌, map, length, Option, Some, None, inl, inr, arith, zero}
use Rattle.std.specs.Prelude.{if◌then◌else◌}
use Rattle.std.specs.List.{Contains}
use Rattle.std.proofs.lemmas.Bool.{cond-true, cond-false, eq-eqb}
use Rattle.std.proofs.lemmas.Bool.Decides.{eqb_tells}
use Rattle.px_packet.specs.declared.fault.PacketFault.TheVariants as faults
use Rattle.px_packet.specs.Headers.{header_fault, start_bytes}
use Rattle.px_packet.specs.Packets.{front_of, is_authentic}
use Rattle.px_model.specs.Law.{Among, NoneTwice}
use Rattle.px_model.specs.Spelling.{Bytes}
use Rattle.px_model.specs.Step.{put}
use Rattle.node_loop.specs.Again.{AreAmong}
use Rattle.node_loop.proofs.Among.{among_all, among_front, among_none, among_sides}
use Rattle.px_transport.specs.Wires.{WireEvent, Gave, Handed}
use Rattle.px_transport.specs.Sending.{Sealer}
use Rattle.px_transport.specs.Wiring.{opened, opened_as}
use Rattle.px_transport.specs.Steps as steps
use Rattle.px_transport.specs.Steps.{Step, AreSteps, IsStep}
use Rattle.px_transport.specs.Networks as networks
use Rattle.px_transport.specs.Networks.{Cluster, StartsDiffer, Before, with_step, PacketsCarried, DatagramsCarried, SealedIsCarried}
use Rattle.px_wire.specs.Message.{Group, DatagramBytes}
use Rattle.node_udp.specs.Sockets.{Came, Went, Passage, Hears, Sends, Loses}
use Rattle.pfx_laws.specs.Members.{RunEvent, Starts, During, Run, Runs, IsEmpty, events_at}
use Rattle.px_records.specs.declared.records.Records.{Ghosts}
use Rattle.pfx_laws.specs.Sealed.{Keyed, IsUnopened, Network, PacketsCarry, IsSealed, RanOver, SealedSocketsGo, SealedSocketsNeverDiffer}
use Rattle.pfx_laws.specs.Sealed.{SealedSocketsLearnWhatWasAsked, EquallyAppliedAtSealedSockets}
use Rattle.pfx_laws.proofs.Keeping.{ever_learned}
use Rattle.pfx_laws.proofs.Members.{AllLearned, never_differ, learn_what_was_asked, equally_applied}
use Rattle.pfx_laws.proofs.Lifting as lifting
use Rattle.pfx_laws.proofs.Lifting.{AreBelow, during, tagged, each_first, each_rest}
use Rattle.pfx_laws.proofs.Numbering.{starts_in, begun, begun_at, begun_below, starts_during, starts_of_runs, run_at, cluster_of, StartFrom, next, start_of, AreApart, apart, AreOwn, owners}
use Rattle.pfx_laws.proofs.Networking.{Carries}
use Rattle.pfx_laws.proofs.Looping.{IsAbove, above_keeps, no_message, loops_go}
use Rattle.pfx_laws.proofs.Socketing as socketing
use Rattle.pfx_laws.proofs.Socketing.{AreFaithful, AllFaithful, faithful}

-- ---- elements

contains_is : {X : Type 0} (xs : List X) (x : X) → Contains xs x → Among xs x
contains_is [] x (i, l, e) = absurd (omega (arith, l))
contains_is (y ∷ xs) x (zero, l, e) = inl e
contains_is (y ∷ xs) x (suc i, l, e) = inr (contains_is xs x (i, omega (arith, l), e))

among_is : {X : Type 0} (xs : List X) (x : X) → Among xs x → Contains xs x
among_is [] x a = absurd a
among_is (y ∷ xs) x (inl e) = (zero, omega arith, e)
among_is (y ∷ xs) x (inr a) = let r = among_is xs x a in (suc r.0, (let l = r.1 in omega (arith, l)), r.2)

-- nothing is opened of no bytes
nothing_opened : (keys : List (List ℕ)) (s : Sealer) → opened keys s [] ≡ None
nothing_opened keys s = at (is_authentic keys [])
  where
    at : (b : Bool) → opened_as (if b then header_fault s.cluster s.members s.me (front_of []) else Some faults.Tag) [] ≡ None
    at true = refl
    at false = refl

-- ---- packets over wires with sockets

-- each that a wire gives was handed to one before, or isn't opened
abbrev PacketsGo : (n : ℕ) → (run : ℕ → Option Keyed) → List (ℕ × RunEvent Keyed WireEvent) → (handed : List Bytes) → Type 0
PacketsGo n run [] handed = Unit {0}
PacketsGo n run ((m, Starts key) ∷ xs) handed = (m < n) × PacketsGo n (put run m (Some key)) xs handed
PacketsGo n run ((m, During (Gave bytes)) ∷ xs) handed =
    (m < n) × (Among handed bytes ⊎ IsUnopened (run m) bytes) × PacketsGo n run xs handed
PacketsGo n run ((m, During (Handed to bytes)) ∷ xs) handed = (m < n) × PacketsGo n run xs (handed ++ bytes ∷ [])

empty_unopened : (o : Option Keyed) → IsUnopened o []
empty_unopened None = tt
empty_unopened (Some k) = nothing_opened k.keys k.sealer

packets_above : (n : ℕ) (run : ℕ → Option Keyed) (xs : List (ℕ × RunEvent Keyed Passage)) (went handed : List Bytes) → AllFaithful n xs →
    AreAmong went handed → AreBelow n xs → PacketsCarry n run (lifting.all_lower (lifting.low_of socketing.low socketing.high) xs) went →
    PacketsGo n run (lifting.upper socketing.low socketing.high xs) handed
packets_above n run [] went handed f a b p = tt
packets_above n run ((m, Starts key) ∷ xs) went handed f a b p =
    let own = each_first (λ j es. AreFaithful es) n m (Starts key) xs b.0 f in
    (b.0, packets_above n (put run m (Some key)) xs went handed (each_rest (λ j es. AreFaithful es) n m (Starts key) xs own f) a b.1 p.1)
packets_above n run ((m, During (Hears from came given)) ∷ xs) went handed f a b p =
    let own = each_first (λ j es. AreFaithful es) n m (During (Hears from came given)) xs b.0 f in (
      b.0,
      elim own.0 [
        | inl same ↦ subst (λ (x : Bytes). Among handed x ⊎ IsUnopened (run m) x) (sym same)
            (elim p.1 [ inl there ↦ inl (a came there) | inr none ↦ inr none ])
        | inr empty ↦ inr (subst (λ (x : Bytes). IsUnopened (run m) x) (sym empty) (empty_unopened (run m)))
      ],
      packets_above n run xs went handed (each_rest (λ j es. AreFaithful es) n m (During (Hears from came given)) xs own.1 f) a b.1 p.2,
    )
packets_above n run ((m, During (Sends to bytes there)) ∷ xs) went handed f a b p =
    let own = each_first (λ j es. AreFaithful es) n m (During (Sends to bytes there)) xs b.0 f in (
      b.0,
      packets_above n run xs (went ++ bytes ∷ []) (handed ++ bytes ∷ [])
          (each_rest (λ j es. AreFaithful es) n m (During (Sends to bytes there)) xs own.1 f)
          (among_sides went (bytes ∷ []) handed (bytes ∷ []) a (among_all (bytes ∷ []))) b.1 p.1,
    )
packets_above n run ((m, During (Loses to bytes)) ∷ xs) went handed f a b p =
    let own = each_first (λ j es. AreFaithful es) n m (During (Loses to bytes)) xs b.0 f in (
      b.0,
      packets_above n run xs went (handed ++ bytes ∷ []) (each_rest (λ j es. AreFaithful es) n m (During (Loses to bytes)) xs own.1 f)
          (among_front went handed (bytes ∷ []) a) b.1 p,
    )

are_below : (n : ℕ) (run : ℕ → Option Keyed) (network : Network) (went : List Bytes) →
    PacketsCarry n run network went → AreBelow n network
are_below n run [] went p = tt
are_below n run ((m, Starts key) ∷ xs) went p = (p.0, are_below n (put run m (Some key)) xs went p.1)
are_below n run ((m, During (Came from b)) ∷ xs) went p = (p.0, are_below n run xs went p.2)
are_below n run ((m, During (Went to b)) ∷ xs) went p = (p.0, are_below n run xs _ p.1)

go_below : (n : ℕ) (run : ℕ → Option Keyed) (network : List (ℕ × RunEvent Keyed WireEvent)) (handed : List Bytes) →
    PacketsGo n run network handed → AreBelow n network
go_below n run [] handed p = tt
go_below n run ((m, Starts key) ∷ xs) handed p = (p.0, go_below n (put run m (Some key)) xs handed p.1)
go_below n run ((m, During (Gave b)) ∷ xs) handed p = (p.0, go_below n run xs handed p.2)
go_below n run ((m, During (Handed to b)) ∷ xs) handed p = (p.0, go_below n run xs _ p.1)

-- ---- steps of wires of packets

-- over the wire below
abbrev low : Step → Option WireEvent
low (steps.Hears came given memory now) = Some (Gave came)
low (steps.Puts to bytes) = Some (Handed to bytes)
low (steps.Takes to m is_cut) = None
low (steps.Reports member now) = None

lowers_are : (xs : List Step) → lifting.lowers low xs ≡ steps.below_in xs
lowers_are [] = refl
lowers_are (steps.Hears came given memory now ∷ xs) = ap (λ (es : List WireEvent). Gave came ∷ es) (lowers_are xs)
lowers_are (steps.Puts to bytes ∷ xs) = ap (λ (es : List WireEvent). Handed to bytes ∷ es) (lowers_are xs)
lowers_are (steps.Takes to m is_cut ∷ xs) = lowers_are xs
lowers_are (steps.Reports member now ∷ xs) = lowers_are xs

-- over the wire
abbrev high : ℕ → Step → List WireEvent
high m x = steps.above_of x

highs_are : (m : ℕ) (xs : List Step) → steps.above_in xs ≡ lifting.highs high m xs
highs_are m [] = refl
highs_are m (x ∷ xs) = ap (λ (es : List WireEvent). steps.above_of x ++ es) (highs_are m xs)

-- ---- what a member does over its wire of packets, run after run

-- The member is in this run, if in any, and these steps were made in it, the latest first.
abbrev StepsGo : (m : ℕ) → List (RunEvent Keyed Step) → (run : Option Keyed) → (before : List Step) → Type 0
StepsGo m [] run before = Unit {0}
StepsGo m (Starts k ∷ xs) run before = (k.sealer.me ≡ m) × StepsGo m xs (Some k) []
StepsGo m (During x ∷ xs) None before = ⊥
StepsGo m (During x ∷ xs) (Some k) before = IsStep k.keys k.sealer before x × StepsGo m xs (Some k) (x ∷ before)

same_state : (m : ℕ) (xs : List (RunEvent Keyed Step)) (run run' : Option Keyed) (before before' : List Step) → run ≡ run' → before ≡ before' →
    StepsGo m xs run before → StepsGo m xs run' before'
same_state m xs run run' before before' a b s =
    subst (λ (r : Option Keyed). StepsGo m xs r before') a (subst (λ (ys : List Step). StepsGo m xs run ys) b s)

-- before its first run a member makes no steps
before_none : (m : ℕ) (xs : List (RunEvent Keyed Step)) (run : Option Keyed) (before before' : List Step) → StepsGo m xs None before → StepsGo m xs run before'
before_none m [] run before before' s = tt
before_none m (Starts k ∷ xs) run before before' s = s
before_none m (During x ∷ xs) run before before' s = absurd s

steps_then : (m : ℕ) (k : Keyed) (xs : List Step) (later : List (RunEvent Keyed Step)) (before : List Step) → AreSteps k.keys k.sealer xs before →
    StepsGo m later None [] → StepsGo m (during xs ++ later) (Some k) before
steps_then m k [] later before are s = before_none m later (Some k) [] before s
steps_then m k (x ∷ xs) later before are s = (are.0, steps_then m k xs later (x ∷ before) are.1 s)

-- the packets of a run
record IsPackets (g : Group) (m : ℕ) (r : Run Keyed) (events : List WireEvent) : Type 0 where
  made : List Step
  packets_are : steps.below_in made ≡ events
  are : AreSteps r.key.keys r.key.sealer made []
  me : r.key.sealer.me ≡ m
  ran : IsAbove g m r (steps.above_in made)

raises_packets : (g : Group) (m : ℕ) → lifting.Raises {K = Keyed} socketing.low socketing.high m (IsSealed g m) (IsPackets g m) AreFaithful
raises_packets g m r own sealed =
    let ran = sealed.ran in (
      ran.passages,
      ran.below_is ∙ sym (socketing.lowers_are ran.passages),
      record {
        made = ran.made;
        packets_are = ran.packets_are ∙ socketing.highs_are m ran.passages;
        are = ran.are;
        me = sealed.me;
        ran = ran.ran;
      },
      λ later good. faithful ran.addresses ran.me ran.passages later ran.sound good,
    )

raises : (g : Group) (m : ℕ) → lifting.Raises {K = Keyed} low high m (IsPackets g m) (IsAbove g m) (λ xs. StepsGo m xs None [])
raises g m r own packets = (
  packets.made,
  sym packets.packets_are ∙ sym (lowers_are packets.made),
  subst (λ (es : List WireEvent). IsAbove g m r es) (highs_are m packets.made) packets.ran,
  λ later good. (packets.me, steps_then m r.key packets.made later [] packets.are good),
)

steps_own : (m : ℕ) (xs : List (RunEvent Keyed Step)) (run : Option Keyed) (before : List Step) → StepsGo m xs run before → AreOwn m xs
steps_own m [] run before s = tt
steps_own m (Starts k ∷ xs) run before s = (s.0, steps_own m xs (Some k) [] s.1)
steps_own m (During x ∷ xs) None before s = absurd s
steps_own m (During x ∷ xs) (Some k) before s = steps_own m xs (Some k) (x ∷ before) s.1

-- ---- steps by runs

-- each step with the number of its run
abbrev numbered : (now : ℕ → ℕ) → (k : ℕ) → List (ℕ × RunEvent Keyed Step) → List (ℕ × Step)
numbered now k [] = []
numbered now k ((m, Starts key) ∷ xs) = numbered (put now m k) (suc k) xs
numbered now k ((m, During x) ∷ xs) = (now m, x) ∷ numbered now k xs

-- a packet that comes in a run
abbrev MayCome : Option Keyed → (handed : List Bytes) → Step → Type 0
MayCome run handed (steps.Hears came given memory now) = Among handed came ⊎ IsUnopened run came
MayCome run handed (steps.Puts to bytes) = Unit {0}
MayCome run handed (steps.Takes to m is_cut) = Unit {0}
MayCome run handed (steps.Reports member now) = Unit {0}

abbrev handed_with : List Bytes → Step → List Bytes
handed_with handed (steps.Hears came given memory now) = handed
handed_with handed (steps.Puts to bytes) = handed ++ bytes ∷ []
handed_with handed (steps.Takes to m is_cut) = handed
handed_with handed (steps.Reports member now) = handed

go_first : (n : ℕ) (run : ℕ → Option Keyed) (m : ℕ) (x : Step) (xs : List (ℕ × RunEvent Keyed Step)) (handed : List Bytes) →
    PacketsGo n run (lifting.all_lower (lifting.low_of low high) ((m, During x) ∷ xs)) handed →
    MayCome (run m) handed x × PacketsGo n run (lifting.all_lower (lifting.low_of low high) xs) (handed_with handed x)
go_first n run m (steps.Hears came given memory now) xs handed p = (p.1, p.2)
go_first n run m (steps.Puts to bytes) xs handed p = (tt, p.1)
go_first n run m (steps.Takes to d is_cut) xs handed p = (tt, p)
go_first n run m (steps.Reports member now) xs handed p = (tt, p)

carried_first : (bs : List (ℕ × Keyed)) (r m : ℕ) (k : Keyed) (x : Step) (xs : List (ℕ × Step)) (handed : List Bytes) → r < length bs →
    run_at bs r ≡ (m, k) → MayCome (Some k) handed x → PacketsCarried (cluster_of bs) (length bs) xs (handed_with handed x) →
    PacketsCarried (cluster_of bs) (length bs) ((r, x) ∷ xs) handed
carried_first bs r m k (steps.Hears came given memory now) xs handed l is may rest = (
  l,
  elim may [
    | inl there ↦ inl (among_is handed came there)
    | inr none ↦ inr (ap (λ (b : ℕ × Keyed). opened b.1.keys b.1.sealer came) is ∙ none)
  ],
  rest,
)
carried_first bs r m k (steps.Puts to bytes) xs handed l is may rest = (l, rest)
carried_first bs r m k (steps.Takes to d is_cut) xs handed l is may rest = (l, rest)
carried_first bs r m k (steps.Reports member now) xs handed l is may rest = (l, rest)

-- each member that is in a run is in the one with this number
abbrev Numbers : List (ℕ × Keyed) → (run : ℕ → Option Keyed) → (now : ℕ → ℕ) → (k : ℕ) → Type 0
Numbers bs run now k = (m : ℕ) (s : Keyed) → run m ≡ Some s → (now m < k) × (now m < length bs) × (run_at bs (now m) ≡ (m, s))

some_same : (s t : Keyed) → Some s ≡ Some t → s ≡ t
some_same s t e = cc

by_runs : (bs : List (ℕ × Keyed)) (n : ℕ) (xs : List (ℕ × RunEvent Keyed Step)) (run : ℕ → Option Keyed) (now : ℕ → ℕ) (k : ℕ) (before : Before)
    (handed : List Bytes) → Numbers bs run now k → StartFrom bs k (begun xs) → AreBelow n xs →
    ((m : ℕ) → m < n → StepsGo m (events_at m xs) (run m) (before (now m))) → ((r : ℕ) → k ≤ r → before r ≡ []) →
    PacketsGo n run (lifting.all_lower (lifting.low_of low high) xs) handed →
    networks.AreSteps (cluster_of bs) (numbered now k xs) before × PacketsCarried (cluster_of bs) (length bs) (numbered now k xs) handed
by_runs bs n [] run now k before handed nums from below go fresh packets = (tt, tt)
by_runs bs n ((m, Starts key) ∷ xs) run now k before handed nums from below go fresh packets =
    let own = each_first (λ j es. StepsGo j es (run j) (before (now j))) n m (Starts key) xs below.0 go in
    let new = next bs k (m, key) (begun xs) from in
    by_runs bs n xs (put run m (Some key)) (put now m k) (suc k) before handed
    (λ j s e. elim (eqb_tells j m) [
      | inl is ↦
          (let number : put now m k j ≡ k = cond-true (nat_eq j m) k (now j) is.0 in
          let one : key ≡ s = some_same key s (sym (cond-true (nat_eq j m) (Some key) (run j) is.0) ∙ e) in (
            subst (λ (i : ℕ). i < suc k) (sym number) (omega arith),
            subst (λ (i : ℕ). i < length bs) (sym number) new.less,
            ap (λ (i : ℕ). run_at bs i) number ∙ new.is ∙ ap (λ (i : ℕ). (i, key)) (sym is.1) ∙ ap (λ (t : Keyed). (j, t)) one,
          ))
      | inr other ↦
          (let number : put now m k j ≡ now j = cond-false (nat_eq j m) k (now j) other.0 in
          let old = nums j s (sym (cond-false (nat_eq j m) (Some key) (run j) other.0) ∙ e) in (
            subst (λ (i : ℕ). i < suc k) (sym number) (let l = old.0 in omega (arith, l)),
            subst (λ (i : ℕ). i < length bs) (sym number) old.1,
            ap (λ (i : ℕ). run_at bs i) number ∙ old.2,
          ))
    ]) new.later below.1
    (λ j l. elim (eqb_tells j m) [
      | inl is ↦ same_state j (events_at j xs) (Some key) (put run m (Some key) j) [] (before (put now m k j))
          (sym (cond-true (nat_eq j m) (Some key) (run j) is.0))
          (sym (fresh k (omega arith)) ∙ ap before (sym (cond-true (nat_eq j m) k (now j) is.0)))
          (subst (λ (i : ℕ). StepsGo i (events_at i xs) (Some key) []) (sym is.1) own.1)
      | inr other ↦ same_state j (events_at j xs) (run j) (put run m (Some key) j) (before (now j)) (before (put now m k j))
          (sym (cond-false (nat_eq j m) (Some key) (run j) other.0)) (ap before (sym (cond-false (nat_eq j m) k (now j) other.0)))
          (subst (λ (es : List (RunEvent Keyed Step)). StepsGo j es (run j) (before (now j)))
          (cond-false (nat_eq j m) (Starts key ∷ events_at j xs) (events_at j xs) other.0) (go j l))
    ]) (λ r le. fresh r (omega (arith, le))) packets.1
by_runs bs n ((m, During x) ∷ xs) run now k before handed nums from below go fresh packets =
    at (run m) refl (each_first (λ j es. StepsGo j es (run j) (before (now j))) n m (During x) xs below.0 go)
    (λ g f. by_runs bs n xs run now k (with_step before (now m) x) (handed_with handed x) nums from below.1 g f (go_first n run m x xs handed packets).1)
  where
    r : ℕ
    r = now m

    -- another run
    other_run : (j : ℕ) (s t : Keyed) → run m ≡ Some s → run j ≡ Some t → (j ≡ m → ⊥) → with_step before (now m) x (now j) ≡ before (now j)
    other_run j s t e f differ = elim (eqb_tells (now j) (now m)) [
      | inl is ↦ absurd (differ (ap (λ (b : ℕ × Keyed). b.0)
          (sym (nums j t f).2 ∙ ap (λ (i : ℕ). run_at bs i) is.1 ∙ (nums m s e).2)))
      | inr other ↦ cond-false (nat_eq (now j) (now m)) (x ∷ before (now j)) (before (now j)) other.0
    ]

    unchanged : (j : ℕ) (s : Keyed) (o : Option Keyed) → run m ≡ Some s → run j ≡ o → (j ≡ m → ⊥) →
        StepsGo j (events_at j xs) o (before (now j)) → StepsGo j (events_at j xs) o (with_step before (now m) x (now j))
    unchanged j s None e f differ go = before_none j (events_at j xs) None (before (now j)) (with_step before (now m) x (now j)) go
    unchanged j s (Some t) e f differ go =
        subst (λ (b : List Step). StepsGo j (events_at j xs) (Some t) b) (sym (other_run j s t e f differ)) go

    at : (o : Option Keyed) → run m ≡ o → StepsGo m (During x ∷ events_at m xs) o (before (now m)) →
        (((j : ℕ) → j < n → StepsGo j (events_at j xs) (run j) (with_step before (now m) x (now j))) →
        ((r : ℕ) → k ≤ r → with_step before (now m) x r ≡ []) →
        networks.AreSteps (cluster_of bs) (numbered now k xs) (with_step before (now m) x) ×
        PacketsCarried (cluster_of bs) (length bs) (numbered now k xs) (handed_with handed x)) →
        networks.AreSteps (cluster_of bs) ((now m, x) ∷ numbered now k xs) before ×
        PacketsCarried (cluster_of bs) (length bs) ((now m, x) ∷ numbered now k xs) handed
    at None e own rest = absurd own
    at (Some s) e own rest =
        let num = nums m s e in
        let is : IsStep (run_at bs (now m)).1.keys (run_at bs (now m)).1.sealer (before (now m)) x =
        subst (λ (b : ℕ × Keyed). IsStep b.1.keys b.1.sealer (before (now m)) x) (sym num.2) own.0 in
        let later = rest
        (λ j l. elim (eqb_tells j m) [
          | inl is ↦ same_state j (events_at j xs) (Some s) (run j) (x ∷ before (now m)) (with_step before (now m) x (now j))
              (sym e ∙ ap run (sym is.1))
              (sym (cond-true (nat_eq (now m) (now m)) (x ∷ before (now m)) (before (now m)) (eq-eqb (now m) (now m) refl))
              ∙ ap (λ (i : ℕ). with_step before (now m) x (now i)) (sym is.1))
              (subst (λ (i : ℕ). StepsGo i (events_at i xs) (Some s) (x ∷ before (now m))) (sym is.1) own.1)
          | inr other ↦ unchanged j s (run j) e refl other.1
              (subst (λ (es : List (RunEvent Keyed Step)). StepsGo j es (run j) (before (now j)))
              (cond-false (nat_eq j m) (During x ∷ events_at j xs) (events_at j xs) other.0) (go j l))
        ])
        (λ r le. elim (eqb_tells r (now m)) [
          | inl is ↦ absurd (let same = is.1 in let l = num.0 in omega (arith, same, l, le))
          | inr other ↦ cond-false (nat_eq r (now m)) (x ∷ before r) (before r) other.0 ∙ fresh r le
        ]) in (
          (is, later.0),
          carried_first bs (now m) m s x (numbered now k xs) handed num.1 num.2
              (subst (λ (o : Option Keyed). MayCome o handed x) e (go_first n run m x xs handed packets).0) later.1,
        )

carries_above : (g : Group) (xs : List (ℕ × RunEvent Keyed Step)) (now : ℕ → ℕ) (k : ℕ) (handed : List Bytes) → AreBelow g.members xs →
    DatagramsCarried (numbered now k xs) handed → Carries g (lifting.upper low high xs) handed
carries_above g [] now k handed b d = tt
carries_above g ((m, Starts key) ∷ xs) now k handed b d = (b.0, carries_above g xs (put now m k) (suc k) handed b.1 d)
carries_above g ((m, During (steps.Hears came given memory time)) ∷ xs) now k handed b d = (
  b.0,
  elim d.0 [
    | inl there ↦ inl (contains_is handed given there)
    | inr empty ↦ inr (λ j message spelled. no_message g j m message (subst (λ (x : Bytes). DatagramBytes g j m message x) empty spelled))
  ],
  carries_above g xs now k handed b.1 d.1,
)
carries_above g ((m, During (steps.Puts to bytes)) ∷ xs) now k handed b d = carries_above g xs now k handed b.1 d
carries_above g ((m, During (steps.Takes to e is_cut)) ∷ xs) now k handed b d = (b.0, carries_above g xs now k (handed ++ e ∷ []) b.1 d)
carries_above g ((m, During (steps.Reports member time)) ∷ xs) now k handed b d = carries_above g xs now k handed b.1 d

-- ---- the laws

pub sockets_go : SealedIsCarried → SealedSocketsGo
sockets_go carried g network runs r =
    let n = g.members in
    let none : ℕ → Option Keyed = λ m. None in
    let u = lifting.up socketing.low socketing.high g (IsSealed g) (IsPackets g) (λ m. AreFaithful) (λ m. tt) (raises_packets g) IsEmpty network runs r.ran
    (are_below n none network [] r.carry) in
    let packets : PacketsGo n none (lifting.upper socketing.low socketing.high u.above) [] =
    packets_above n none u.above [] [] u.good (among_none []) u.within
    (subst (λ (net : Network). PacketsCarry n none net []) (sym u.low_is) r.carry) in
    let v = lifting.up low high g (IsPackets g) (IsAbove g) (λ m xs. StepsGo m xs None []) (λ m. tt) (raises g) IsEmpty
    (lifting.upper socketing.low socketing.high u.above) runs u.are (go_below n none (lifting.upper socketing.low socketing.high u.above) [] packets) in
    let xs = v.above in
    let bs = begun xs in
    let both = by_runs bs n xs none (λ m. 0) 0 (λ r. []) [] (λ m s e. absurd (cc)) refl v.within v.good (λ r le. refl)
    (subst (λ (net : List (ℕ × RunEvent Keyed WireEvent)). PacketsGo n none net []) (sym v.low_is) packets) in
    let own = owners n xs v.within (λ m below. steps_own m (events_at m xs) None [] (v.good m below)) in
    let are_apart : AreApart n bs =
    λ m below. subst (λ (ks : List Keyed). NoneTwice (map start_of ks))
    (sym (begun_at m xs ∙ own_starts m (events_at m xs)
    ∙ ap (λ (es : List (RunEvent Keyed WireEvent)). starts_in es) (sym (lifting.upper_at low high m xs))
    ∙ starts_of_runs g m (IsAbove g m) IsEmpty (runs m) _ (v.are m below)))
    (subst (λ (ts : List (List ℕ)). NoneTwice ts) (starts_map (runs m)) (r.starts m below)) in
    let differ : StartsDiffer (cluster_of bs) (length bs) =
    λ i j li lj me start. apart n bs (begun_below n xs v.within) are_apart i j li lj (sym (own i li) ∙ me ∙ own j lj) start in
    loops_go g (lifting.upper low high xs) runs r.group
    (carries_above g xs (λ m. 0) 0 [] v.within (carried (cluster_of bs) (length bs) (numbered (λ m. 0) 0 xs) differ both.0 both.1)) v.are
  where
    starts_map : (rs : List (Run Keyed)) → map (λ r. start_bytes r.key.sealer.start) rs ≡ map start_of (map (λ r. r.key) rs)
    starts_map [] = refl
    starts_map (r ∷ rs) = ap (λ (ts : List (List ℕ)). start_bytes r.key.sealer.start ∷ ts) (starts_map rs)

    own_starts : (m : ℕ) (es : List (RunEvent Keyed Step)) → starts_in es ≡ starts_in (lifting.run_highs low high m es)
    own_starts m [] = refl
    own_starts m (Starts k ∷ es) = ap (λ (ks : List Keyed). k ∷ ks) (own_starts m es)
    own_starts m (During x ∷ es) = own_starts m es ∙ sym (starts_during (steps.above_of x) (lifting.run_highs low high m es))

all_learned : (g : Group) (network : Network) (runs : Runs Keyed) → RanOver g network runs → AllLearned g runs
all_learned g network runs r m p e below ever =
    ever_learned g m (IsSealed g m) (λ t own q f is h. let ran = is.ran in above_keeps g m t _ q f ran.ran h) p e IsEmpty _ (runs m)
    (events_at m network) (r.ran m below) ever

pub sockets_never_differ : SealedIsCarried → SealedSocketsNeverDiffer
sockets_never_differ carried g network runs r =
    let n = sockets_go carried g network runs r in never_differ g runs n.0 n.1 (all_learned g network runs r)

pub sockets_learn_what_was_asked : SealedIsCarried → SealedSocketsLearnWhatWasAsked
sockets_learn_what_was_asked carried g network runs r =
    let n = sockets_go carried g network runs r in (n.0, n.1, learn_what_was_asked g runs n.0 n.1 (all_learned g network runs r))

pub equally_applied_at_sockets : {R Q : Type 0} (G : Ghosts R) (H : Ghosts Q) → SealedIsCarried → EquallyAppliedAtSealedSockets G H
equally_applied_at_sockets G H carried g network runs r = equally_applied G H g runs (sockets_never_differ carried g network runs r)
