-- What members send to themselves they receive as it was sent.
use Rattle.std.proofs.Common.{◌≡◌, ◌∙◌, ◌⊎◌, sym, ap, subst, refl, ℕ, ◌<◌, nat_eq, List, [], ◌∷◌, ◌++◌, Option, Some, None, inl, inr}
use Rattle.std.proofs.lemmas.Bool.{cond-true, cond-false}
use Rattle.std.proofs.lemmas.Bool.Decides.{eqb_tells}
use Rattle.px_model.proofs.Basics.{among_left, among_right, among_cases}
use Rattle.px_model.specs.Law.{Among}
use Rattle.px_model.specs.Spelling.{Bytes}
use Rattle.px_model.specs.Step.{put}
use Rattle.node_loop.specs.Again.{AreAmong}
use Rattle.node_loop.proofs.Among.{among_all, among_front, among_none, among_sides}
use Rattle.px_model.specs.World.{started}
use Rattle.node_loop.specs.Moves.{trace_of}
use Rattle.px_transport.specs.Wires.{WireEvent, Gave, Handed}
use Rattle.px_transport.specs.Loopback.{Loop, Passes, Keeps, Returns, IsQueue, above_in, below_in}
use Rattle.std.specs.Int.{w32, to_be_bytes}
use Rattle.px_wire.specs.Message.{Group, Message, DatagramBytes, kind, body}
use Rattle.node_control.specs.Sockets.{RanAbove}
use Rattle.pfx_laws.specs.Promised.{IsGroup}
use Rattle.pfx_laws.specs.Wires.{Stretch}
use Rattle.pfx_laws.specs.Members.{RunEvent, Starts, During, Run, AreRuns, IsEmpty, events_at, InStretches}
use Rattle.pfx_laws.specs.Sockets.{WasHanded}
use Rattle.pfx_laws.proofs.Keeping.{KeepsLearned, traced_keeps}
use Rattle.pfx_laws.proofs.Lifting as lifting
use Rattle.pfx_laws.proofs.Lifting.{AreBelow, during, each_first}
use Rattle.pfx_laws.proofs.Networking.{Carries, IsRun, wires_go}

-- over the wire below
abbrev low : Loop → Option WireEvent
low (Passes e) = Some e
low (Keeps b) = None
low (Returns b) = None

lowers_are : (ls : List Loop) → lifting.lowers low ls ≡ below_in ls
lowers_are [] = refl
lowers_are (Passes e ∷ ls) = ap (λ (es : List WireEvent). e ∷ es) (lowers_are ls)
lowers_are (Keeps b ∷ ls) = lowers_are ls
lowers_are (Returns b ∷ ls) = lowers_are ls

-- over the member's wire
abbrev high : ℕ → Loop → List WireEvent
high m (Passes e) = e ∷ []
high m (Keeps b) = Handed m b ∷ []
high m (Returns b) = Gave b ∷ []

highs_are : (m : ℕ) (ls : List Loop) → above_in m ls ≡ lifting.highs high m ls
highs_are m [] = refl
highs_are m (Passes e ∷ ls) = ap (λ (es : List WireEvent). e ∷ es) (highs_are m ls)
highs_are m (Keeps b ∷ ls) = ap (λ (es : List WireEvent). Handed m b ∷ es) (highs_are m ls)
highs_are m (Returns b ∷ ls) = ap (λ (es : List WireEvent). Gave b ∷ es) (highs_are m ls)

-- ---- it is carried

behind : (xs : Bytes) (y : ℕ) (ys : Bytes) → xs ++ y ∷ ys ≡ [] → ⊥
behind [] y ys e = absurd (cc)
behind (x ∷ xs) y ys e = absurd (cc)

pub no_message : (g : Group) (from me : ℕ) (message : Message) → DatagramBytes g from me message [] → from ≡ 255
no_message g from me message d =
    absurd (behind (to_be_bytes w32 0x50465852 ++ 1 ∷ to_be_bytes w32 g.cluster) g.members (from ∷ me ∷ kind message ∷ body message)
    (sym d.spelled))

pub carried_more : (g : Group) (m : ℕ) (b : Bytes) (few many : List Bytes) → AreAmong few many → WasHanded g few m b → WasHanded g many m b
carried_more g m b few many a (inl handed) = inl (a b handed)
carried_more g m b few many a (inr outside) = inr outside

-- what is returned was kept before, in this run or another, or is empty; these were kept already
abbrev AreReturned : {K : Type 0} → List (RunEvent K Loop) → (kept : List Bytes) → Type 0
AreReturned [] kept = Unit {0}
AreReturned (Starts k ∷ xs) kept = AreReturned xs kept
AreReturned (During (Passes e) ∷ xs) kept = AreReturned xs kept
AreReturned (During (Keeps b) ∷ xs) kept = AreReturned xs (kept ++ b ∷ [])
AreReturned (During (Returns b) ∷ xs) kept = (Among kept b ⊎ (b ≡ [])) × AreReturned xs kept

-- whatever was kept already
abbrev Return : {K : Type 0} → List (RunEvent K Loop) → Type 0
Return xs = (kept : List Bytes) → AreReturned xs kept

queue_returns : {K : Type 0} (ls : List Loop) (queue then kept : List Bytes) (later : List (RunEvent K Loop)) → IsQueue ls queue then →
    AreAmong queue kept → Return later → AreReturned (during ls ++ later) kept
queue_returns [] queue then kept later q a r = r kept
queue_returns (Passes e ∷ ls) queue then kept later q a r = queue_returns ls queue then kept later q a r
queue_returns (Keeps b ∷ ls) queue then kept later q a r =
    queue_returns ls (queue ++ b ∷ []) then (kept ++ b ∷ []) later q (among_sides queue (b ∷ []) kept (b ∷ []) a (among_all (b ∷ []))) r
queue_returns (Returns b ∷ ls) [] then kept later q a r = absurd q
queue_returns (Returns b ∷ ls) (d ∷ ds) then kept later q a r = (
  elim q.0 [ inl is ↦ inl (a b (inl (sym is))) | inr empty ↦ inr empty ],
  queue_returns ls ds then kept later q.1 (λ x n. a x (inr n)) r,
)

-- what each member kept already
abbrev AllReturned : {K : Type 0} → (n : ℕ) → List (ℕ × RunEvent K Loop) → (kept : ℕ → List Bytes) → Type 0
AllReturned n xs kept = (m : ℕ) → m < n → AreReturned (events_at m xs) (kept m)

-- it was handed over
abbrev WereHanded : (n : ℕ) → (kept : ℕ → List Bytes) → (handed : List Bytes) → Type 0
WereHanded n kept handed = (m : ℕ) (d : Bytes) → m < n → Among (kept m) d → Among handed d

own_returned : {K : Type 0} (n m : ℕ) (l : RunEvent K Loop) (xs : List (ℕ × RunEvent K Loop)) (kept : ℕ → List Bytes) → m < n →
    AllReturned n ((m, l) ∷ xs) kept → AreReturned (l ∷ events_at m xs) (kept m)
own_returned n m l xs kept below q = each_first (λ k ls. AreReturned ls (kept k)) n m l xs below q

-- with more that one member kept
returned_put : {K : Type 0} (n m : ℕ) (l : RunEvent K Loop) (xs : List (ℕ × RunEvent K Loop)) (kept : ℕ → List Bytes) (more : List Bytes) →
    AllReturned n ((m, l) ∷ xs) kept → AreReturned (events_at m xs) more → AllReturned n xs (put kept m more)
returned_put {K} n m l xs kept more q mine k below =
    elim (eqb_tells k m) [
      | inl is ↦ subst (λ (ds : List Bytes). AreReturned (events_at k xs) ds) (sym (cond-true (nat_eq k m) more (kept k) is.0))
          (subst (λ (j : ℕ). AreReturned (events_at j xs) more) (sym is.1) mine)
      | inr other ↦ subst (λ (ds : List Bytes). AreReturned (events_at k xs) ds) (sym (cond-false (nat_eq k m) more (kept k) other.0))
          (subst (λ (ls : List (RunEvent K Loop)). AreReturned ls (kept k)) (cond-false (nat_eq k m) (l ∷ events_at k xs) (events_at k xs) other.0) (q k below))
    ]

handed_put : (n m : ℕ) (kept : ℕ → List Bytes) (more few many : List Bytes) → WereHanded n kept few → AreAmong few many →
    ((d : Bytes) → Among more d → Among many d) → WereHanded n (put kept m more) many
handed_put n m kept more few many w a mine k d below among =
    elim (eqb_tells k m) [
      | inl is ↦ mine d (subst (λ (ds : List Bytes). Among ds d) (cond-true (nat_eq k m) more (kept k) is.0) among)
      | inr other ↦ a d (w k d below (subst (λ (ds : List Bytes). Among ds d) (cond-false (nat_eq k m) more (kept k) other.0) among))
    ]

carries_above : {K : Type 0} (g : Group) (xs : List (ℕ × RunEvent K Loop)) (kept : ℕ → List Bytes) (below above : List Bytes) →
    AllReturned g.members xs kept → WereHanded g.members kept above → AreAmong below above → AreBelow g.members xs →
    Carries g (lifting.all_lower (lifting.low_of low high) xs) below → Carries g (lifting.upper low high xs) above
carries_above g [] kept below above q w a b c = tt
carries_above g ((m, Starts k) ∷ xs) kept below above q w a b c = (
  b.0,
  carries_above g xs (put kept m (kept m)) below above
      (returned_put g.members m (Starts k) xs kept (kept m) q (own_returned g.members m (Starts k) xs kept b.0 q))
      (handed_put g.members m kept (kept m) above above w (among_all above) (λ e n. w m e b.0 n)) a b.1 c.1,
)
carries_above g ((m, During (Passes (Gave d))) ∷ xs) kept below above q w a b c = (
  b.0,
  carried_more g m d below above a c.1,
  carries_above g xs (put kept m (kept m)) below above
      (returned_put g.members m (During (Passes (Gave d))) xs kept (kept m) q (own_returned g.members m (During (Passes (Gave d))) xs kept b.0 q))
      (handed_put g.members m kept (kept m) above above w (among_all above) (λ e n. w m e b.0 n)) a b.1 c.2,
)
carries_above g ((m, During (Passes (Handed to d))) ∷ xs) kept below above q w a b c = (
  b.0,
  carries_above g xs (put kept m (kept m)) (below ++ d ∷ []) (above ++ d ∷ [])
      (returned_put g.members m (During (Passes (Handed to d))) xs kept (kept m) q (own_returned g.members m (During (Passes (Handed to d))) xs kept b.0 q))
      (handed_put g.members m kept (kept m) above (above ++ d ∷ []) w (among_front above above (d ∷ []) (among_all above))
      (λ e n. among_left above (d ∷ []) e (w m e b.0 n)))
      (among_sides below (d ∷ []) above (d ∷ []) a (among_all (d ∷ []))) b.1 c.1,
)
carries_above g ((m, During (Keeps d)) ∷ xs) kept below above q w a b c = (
  b.0,
  carries_above g xs (put kept m (kept m ++ d ∷ [])) below (above ++ d ∷ [])
      (returned_put g.members m (During (Keeps d)) xs kept (kept m ++ d ∷ []) q (own_returned g.members m (During (Keeps d)) xs kept b.0 q))
      (handed_put g.members m kept (kept m ++ d ∷ []) above (above ++ d ∷ []) w (among_front above above (d ∷ []) (among_all above))
      (λ e n. elim (among_cases (kept m) (d ∷ []) e n) [
        | inl before ↦ among_left above (d ∷ []) e (w m e b.0 before)
        | inr here ↦ among_right above (d ∷ []) e here
      ]))
      (among_front below above (d ∷ []) a) b.1 c,
)
carries_above g ((m, During (Returns d)) ∷ xs) kept below above q w a b c =
    let r = own_returned g.members m (During (Returns d)) xs kept b.0 q in (
      b.0,
      elim r.0 [
        | inl before ↦ inl (w m d b.0 before)
        | inr empty ↦ inr (λ from message spelled. no_message g from m message (subst (λ (x : Bytes). DatagramBytes g from m message x) empty spelled))
      ],
      carries_above g xs (put kept m (kept m)) below above
          (returned_put g.members m (During (Returns d)) xs kept (kept m) q r.1)
          (handed_put g.members m kept (kept m) above above w (among_all above) (λ e n. w m e b.0 n)) a b.1 c,
    )

-- ---- the law

are_below : {K : Type 0} (g : Group) (network : List (ℕ × RunEvent K WireEvent)) (handed : List Bytes) → Carries g network handed →
    AreBelow g.members network
are_below g [] handed c = tt
are_below g ((m, Starts k) ∷ xs) handed c = (c.0, are_below g xs handed c.1)
are_below g ((m, During (Gave b)) ∷ xs) handed c = (c.0, are_below g xs handed c.2)
are_below g ((m, During (Handed to b)) ∷ xs) handed c = (c.0, are_below g xs _ c.1)

-- a run over a wire that keeps what the member sends to itself
abbrev pub IsAbove : {K : Type 0} → Group → (m : ℕ) → Run K → List WireEvent → Type 0
IsAbove g m r events = RanAbove g m r.first events r.trace r.end r.unanswered

raises : {K : Type 0} (g : Group) (m : ℕ) → lifting.Raises {K = K} low high m (IsAbove g m) (IsRun g m) Return
raises g m r own ran = (
  ran.loops,
  ran.below_is ∙ sym (lowers_are ran.loops),
  subst (λ (es : List WireEvent). IsRun g m r es) (highs_are m ran.loops) ran.ran,
  λ later good kept. queue_returns ran.loops [] ran.kept kept later ran.queue (among_none kept) good,
)

pub loops_go : {K : Type 0} (g : Group) (network : List (ℕ × RunEvent K WireEvent)) (runs : ℕ → List (Run K)) → IsGroup g → Carries g network [] →
    ((m : ℕ) → m < g.members → AreRuns g m (IsAbove g m) IsEmpty (runs m) (events_at m network)) →
    (stretches : List Stretch) × InStretches g runs stretches
loops_go {K} g network runs few carries are =
    let u = lifting.up low high g (IsAbove g) (IsRun g) (λ m. Return) (λ m kept. tt) (raises g) IsEmpty network runs are (are_below g network [] carries) in
    wires_go g (lifting.upper low high u.above) runs u.are few
    (carries_above g u.above (λ m. []) [] [] (λ m below. u.good m below []) (λ m d below none. absurd none) (among_none []) u.within
    (subst (λ (net : List (ℕ × RunEvent K WireEvent)). Carries g net []) (sym u.low_is) carries))

-- a run keeps what its record has as learned
pub above_keeps : {K : Type 0} (g : Group) (m : ℕ) → KeepsLearned {K = K} (IsAbove g m)
above_keeps g m r own p e is h = let ran = is.ran in traced_keeps g m (started r.first) r.end (trace_of ran.moves) p e ran.traced h
