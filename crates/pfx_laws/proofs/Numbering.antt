-- Runs of members by numbers, in the order in which they start.
use Rattle.std.proofs.Common.{◌≡◌, ◌∙◌, sym, ap, subst, refl, ℕ, zero, suc, ◌<◌, nat_eq, List, [], ◌∷◌, ◌++◌, map, length, inl, inr, arith}
use Rattle.std.proofs.lemmas.Bool.{cond-true, cond-false, eq-eqb}
use Rattle.std.proofs.lemmas.Bool.Decides.{eqb_tells}
use Rattle.px_packet.specs.Headers.{start_bytes}
use Rattle.px_model.specs.Law.{Among, NoneTwice}
use Rattle.px_model.specs.Node.{Record}
use Rattle.px_model.specs.Spelling.{Bytes}
use Rattle.node_loop.specs.Moves.{LeavesThere}
use Rattle.px_transport.specs.Networks.{Cluster}
use Rattle.px_wire.specs.Message.{Group}
use Rattle.pfx_laws.specs.Members.{RunEvent, Starts, During, Run, AreRuns, events_at}
use Rattle.pfx_laws.specs.Sealed.{Keyed}
use Rattle.pfx_laws.proofs.Lifting.{AreBelow, during, each_first, each_rest}

-- ---- what starts

-- what starts at a member
abbrev pub starts_in : {X : Type 0} → List (RunEvent Keyed X) → List Keyed
starts_in [] = []
starts_in (Starts k ∷ xs) = k ∷ starts_in xs
starts_in (During x ∷ xs) = starts_in xs

-- and at all members
abbrev pub begun : {X : Type 0} → List (ℕ × RunEvent Keyed X) → List (ℕ × Keyed)
begun [] = []
begun ((m, Starts k) ∷ xs) = (m, k) ∷ begun xs
begun ((m, During x) ∷ xs) = begun xs

pub begun_at : {X : Type 0} (m : ℕ) (xs : List (ℕ × RunEvent Keyed X)) → events_at m (begun xs) ≡ starts_in (events_at m xs)
begun_at m [] = refl
begun_at m ((k, Starts key) ∷ xs) = elim (eqb_tells m k) [
  | inl is ↦ cond-true (nat_eq m k) _ _ is.0 ∙ ap (λ (ks : List Keyed). key ∷ ks) (begun_at m xs)
      ∙ ap (λ (es : List (RunEvent Keyed _)). starts_in es) (sym (cond-true (nat_eq m k) (Starts key ∷ events_at m xs) (events_at m xs) is.0))
  | inr other ↦ cond-false (nat_eq m k) _ _ other.0 ∙ begun_at m xs
      ∙ ap (λ (es : List (RunEvent Keyed _)). starts_in es) (sym (cond-false (nat_eq m k) (Starts key ∷ events_at m xs) (events_at m xs) other.0))
]
begun_at m ((k, During x) ∷ xs) = elim (eqb_tells m k) [
  | inl is ↦ begun_at m xs
      ∙ ap (λ (es : List (RunEvent Keyed _)). starts_in es) (sym (cond-true (nat_eq m k) (During x ∷ events_at m xs) (events_at m xs) is.0))
  | inr other ↦ begun_at m xs
      ∙ ap (λ (es : List (RunEvent Keyed _)). starts_in es) (sym (cond-false (nat_eq m k) (During x ∷ events_at m xs) (events_at m xs) other.0))
]

pub begun_below : {X : Type 0} (n : ℕ) (xs : List (ℕ × RunEvent Keyed X)) → AreBelow n xs → AreBelow n (begun xs)
begun_below n [] b = tt
begun_below n ((m, Starts k) ∷ xs) b = (b.0, begun_below n xs b.1)
begun_below n ((m, During x) ∷ xs) b = begun_below n xs b.1

pub starts_during : {X : Type 0} (own : List X) (later : List (RunEvent Keyed X)) → starts_in (during own ++ later) ≡ starts_in later
starts_during [] later = refl
starts_during (x ∷ own) later = starts_during own later

pub starts_of_runs : {X : Type 0} (g : Group) (m : ℕ) (Is : Run Keyed → List X → Type 0) (IsLeft : Record Bytes → Type 0) (runs : List (Run Keyed))
    (events : List (RunEvent Keyed X)) → AreRuns g m Is IsLeft runs events → starts_in events ≡ map (λ r. r.key) runs
starts_of_runs g m Is IsLeft [] events are = ap (λ (es : List (RunEvent Keyed _)). starts_in es) are
starts_of_runs g m Is IsLeft (r ∷ rs) events (left, own, later, is, all, more) =
    ap (λ (es : List (RunEvent Keyed _)). starts_in es) all
    ∙ ap (λ (ks : List Keyed). r.key ∷ ks) (starts_during own later ∙ starts_of_runs g m Is (LeavesThere g m r.unanswered r.end) rs later more)

-- the run with a number
abbrev no_run : ℕ × Keyed
no_run = (
  0,
  record {
    keys = [];
    sealer = record { cluster = 0; members = 0; me = 0; start = record { number = 0; salt = 0 }; key = [] };
  },
)

abbrev pub run_at : List (ℕ × Keyed) → ℕ → ℕ × Keyed
run_at [] i = no_run
run_at (b ∷ bs) zero = b
run_at (b ∷ bs) (suc i) = run_at bs i

abbrev pub cluster_of : List (ℕ × Keyed) → Cluster
cluster_of bs = record { keys = λ r. (run_at bs r).1.keys; sealer = λ r. (run_at bs r).1.sealer }

-- from this number on, these runs start
abbrev pub StartFrom : List (ℕ × Keyed) → (number : ℕ) → List (ℕ × Keyed) → Type 0
StartFrom bs zero ks = bs ≡ ks
StartFrom [] (suc i) ks = ⊥
StartFrom (b ∷ bs) (suc i) ks = StartFrom bs i ks

pub record Next (bs : List (ℕ × Keyed)) (i : ℕ) (k : ℕ × Keyed) (ks : List (ℕ × Keyed)) : Type 0 where
  pub less : i < length bs
  pub is : run_at bs i ≡ k
  pub later : StartFrom bs (suc i) ks

pub next : (bs : List (ℕ × Keyed)) (i : ℕ) (k : ℕ × Keyed) (ks : List (ℕ × Keyed)) → StartFrom bs i (k ∷ ks) → Next bs i k ks
next [] zero k ks s = absurd (cc)
next (b ∷ bs) zero k ks s =
    let one : b ≡ k = cc in let more : bs ≡ ks = cc in record { less = omega arith; is = one; later = more }
next [] (suc i) k ks s = absurd s
next (b ∷ bs) (suc i) k ks s =
    let r = next bs i k ks s in let l = r.less in record { less = omega (arith, l); is = r.is; later = r.later }

-- ---- their starts

abbrev pub start_of : Keyed → List ℕ
start_of k = start_bytes k.sealer.start

-- no two runs of a member have one start
abbrev pub AreApart : (n : ℕ) → List (ℕ × Keyed) → Type 0
AreApart n bs = (m : ℕ) → m < n → NoneTwice (map start_of (events_at m bs))

among_starts : (bs : List (ℕ × Keyed)) (i : ℕ) → i < length bs → Among (map start_of (events_at (run_at bs i).0 bs)) (start_of (run_at bs i).1)
among_starts [] i l = absurd (omega (arith, l))
among_starts (b ∷ bs) zero l =
    subst (λ (ks : List Keyed). Among (map start_of ks) (start_of b.1)) (sym (cond-true (nat_eq b.0 b.0) (b.1 ∷ events_at b.0 bs) (events_at b.0 bs) (eq-eqb b.0 b.0 refl)))
    (inl refl)
among_starts (b ∷ bs) (suc i) l =
    let m = (run_at bs i).0 in
    let t = start_of (run_at bs i).1 in
    let there = among_starts bs i (omega (arith, l)) in
    elim (eqb_tells m b.0) [
      | inl is ↦ subst (λ (ks : List Keyed). Among (map start_of ks) t) (sym (cond-true (nat_eq m b.0) (b.1 ∷ events_at m bs) (events_at m bs) is.0)) (inr there)
      | inr other ↦ subst (λ (ks : List Keyed). Among (map start_of ks) t) (sym (cond-false (nat_eq m b.0) (b.1 ∷ events_at m bs) (events_at m bs) other.0)) there
    ]

first_apart : (n : ℕ) (b : ℕ × Keyed) (bs : List (ℕ × Keyed)) → b.0 < n → AreApart n (b ∷ bs) → NoneTwice (map start_of (b.1 ∷ events_at b.0 bs))
first_apart n b bs l a = each_first (λ m ks. NoneTwice (map start_of ks)) n b.0 b.1 bs l a

-- a later run of the member has another start
never_again : (n : ℕ) (b : ℕ × Keyed) (bs : List (ℕ × Keyed)) → b.0 < n → AreApart n (b ∷ bs) → (i : ℕ) → i < length bs → b.0 ≡ (run_at bs i).0 →
    start_of b.1 ≡ start_of (run_at bs i).1 → ⊥
never_again n b bs l a i less same start =
    (first_apart n b bs l a).0
    (subst (λ (t : List ℕ). Among (map start_of (events_at b.0 bs)) t) (sym start)
    (subst (λ (m : ℕ). Among (map start_of (events_at m bs)) (start_of (run_at bs i).1)) (sym same) (among_starts bs i less)))

pub apart : (n : ℕ) (bs : List (ℕ × Keyed)) → AreBelow n bs → AreApart n bs → (i j : ℕ) → i < length bs → j < length bs →
    (run_at bs i).0 ≡ (run_at bs j).0 → start_of (run_at bs i).1 ≡ start_of (run_at bs j).1 → i ≡ j
apart n [] b a i j li lj same start = absurd (omega (arith, li))
apart n (x ∷ bs) b a zero zero li lj same start = refl
apart n (x ∷ bs) b a zero (suc j) li lj same start = absurd (never_again n x bs b.0 a j (omega (arith, lj)) same start)
apart n (x ∷ bs) b a (suc i) zero li lj same start = absurd (never_again n x bs b.0 a i (omega (arith, li)) (sym same) (sym start))
apart n (x ∷ bs) b a (suc i) (suc j) li lj same start =
    ap suc (apart n bs b.1 (each_rest (λ m ks. NoneTwice (map start_of ks)) n x.0 x.1 bs (first_apart n x bs b.0 a).1 a) i j
    (omega (arith, li)) (omega (arith, lj)) same start)

-- each seals as its member
abbrev pub AreOwn : {X : Type 0} → (m : ℕ) → List (RunEvent Keyed X) → Type 0
AreOwn m [] = Unit {0}
AreOwn m (Starts k ∷ xs) = (k.sealer.me ≡ m) × AreOwn m xs
AreOwn m (During x ∷ xs) = AreOwn m xs

pub owners : {X : Type 0} (n : ℕ) (xs : List (ℕ × RunEvent Keyed X)) → AreBelow n xs → ((m : ℕ) → m < n → AreOwn m (events_at m xs)) →
    (i : ℕ) → i < length (begun xs) → (run_at (begun xs) i).1.sealer.me ≡ (run_at (begun xs) i).0
owners n [] b own i l = absurd (omega (arith, l))
owners n ((m, Starts k) ∷ xs) b own zero l = (each_first AreOwn n m (Starts k) xs b.0 own).0
owners n ((m, Starts k) ∷ xs) b own (suc i) l =
    owners n xs b.1 (each_rest AreOwn n m (Starts k) xs (each_first AreOwn n m (Starts k) xs b.0 own).1 own) i (omega (arith, l))
owners n ((m, During x) ∷ xs) b own i l =
    owners n xs b.1 (each_rest AreOwn n m (During x) xs (each_first AreOwn n m (During x) xs b.0 own) own) i l
