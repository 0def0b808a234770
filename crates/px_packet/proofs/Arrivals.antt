-- Packets that are accepted.
use Rattle.std.proofs.Common.{◌≡◌, ◌∙◌, ℕ, ◌<◌, ◌≤◌, ◌⊎◌, Bool, true, false, List, [], ◌∷◌, ap, sym, refl, arith, subst, inl, inr}
use Rattle.std.specs.Prelude.{◌==◌, ◌&&◌, ◌||◌, not, nat_lt, if◌then◌else◌}
use Rattle.std.specs.List.{list_any}
use Rattle.std.proofs.lemmas.Bool.{cases_eq, lt-ltb, le-ltb, ltb-true, ltb-false, eqb-true, eq-eqb, ne_eqb, and_parts, and_from, and_left, and_right, or_parts, or_left, or_right, or_from, not_from_true, not-true, not-false, both_ways, false_from_ne_true}
use Rattle.px_packet.specs.declared.start.Start.{Start}
use Rattle.px_packet.specs.declared.header.Header.{Header}
use Rattle.px_packet.specs.declared.arrival.Arrival.TheVariants as arrivals
use Rattle.px_packet.specs.Windows.{top_of, is_among, is_fresh}
use Rattle.px_packet.specs.Arrivals.{Known, new_start, is_start, is_state, is_other_machine, is_for, known_with, counted, arrival_of, known_after}
use Rattle.px_packet.specs.ReplayLaws.{Event, Starts, Comes, is_accepted, accepted_of, starts_of, AreDistinct, is_packet, AreOnce, HeardOnce, accepted_all, OnceAStart, FreshIsHeard}
use Rattle.px_packet.proofs.Windows.{fresh_is_new}

-- ---- starts

same_start : (s t : Start) → is_start s t ≡ true → (s.number ≡ t.number) × (s.salt ≡ t.salt)
same_start s t h =
    let parts = and_parts (s.number == t.number) (s.salt == t.salt) h in
    (eqb-true s.number t.number parts.0, eqb-true s.salt t.salt parts.1)

start_from : (s t : Start) → s.number ≡ t.number → s.salt ≡ t.salt → is_start s t ≡ true
start_from s t n z = and_from _ _ (eq-eqb s.number t.number n) (eq-eqb s.salt t.salt z)

start_itself : (s : Start) → is_start s s ≡ true
start_itself s = start_from s s refl refl

start_over : (s t u : Start) → is_start s t ≡ true → is_start t u ≡ true → is_start s u ≡ true
start_over s t u h k =
    let a = same_start s t h in
    let b = same_start t u k in
    start_from s u (a.0 ∙ b.0) (a.1 ∙ b.1)

start_back : (s t : Start) → is_start s t ≡ true → is_start t s ≡ true
start_back s t h = let a = same_start s t h in start_from t s (sym a.0) (sym a.1)

-- ---- what is accepted

-- a packet is accepted by all four tests
accepted_at : (a b c d : Bool) → is_accepted (if a then arrivals.OldStart else if b then arrivals.OtherMachine
    else if c then arrivals.OtherEcho else if d then arrivals.Accepted else arrivals.Repeated) ≡ true →
    (a ≡ false) × (b ≡ false) × (c ≡ false) × (d ≡ true)
accepted_at true b c d h = absurd cc
accepted_at false true c d h = absurd cc
accepted_at false false true d h = absurd cc
accepted_at false false false true h = (refl, refl, refl, refl)
accepted_at false false false false h = absurd cc

-- what holds of a packet that is accepted
pub record Passes (mine : Start) (k : Known) (h : Header) : Type 0 where
  pub not_old : nat_lt h.start.number k.start.number ≡ false
  pub one_machine : is_other_machine k.start h ≡ false
  pub for_me : not (is_for mine h) ≡ false
  pub fresh : is_fresh (known_with k h.start).accepted h.counter ≡ true

passes : (mine : Start) (k : Known) (h : Header) → is_accepted (arrival_of mine k h) ≡ true → Passes mine k h
passes mine k h e =
    let all = accepted_at (nat_lt h.start.number k.start.number) (is_other_machine k.start h) (not (is_for mine h))
    (is_fresh (known_with k h.start).accepted h.counter) e in
    record { not_old = all.0; one_machine = all.1; for_me = all.2; fresh = all.3 }

-- the known start, with one of the same number
known_same : (k : Known) (s : Start) → s.number ≤ k.start.number → known_with k s ≡ k
known_same k s l = at (nat_lt k.start.number s.number) (le-ltb k.start.number s.number l)
  where
    at : (b : Bool) → b ≡ false → (if b then new_start s else k) ≡ k
    at true e = absurd cc
    at false e = refl

-- a packet of no kind but state that is accepted echoes this start
echo_at : (a b : Bool) → not (a || b) ≡ false → b ≡ false → a ≡ true
echo_at true b h e = refl
echo_at false b h e = absurd (both_ways b e (not-false b h))

echoes : (mine : Start) (k : Known) (h : Header) → is_accepted (arrival_of mine k h) ≡ true → is_state h.kind ≡ false →
    is_start h.echo mine ≡ true
echoes mine k h e s = echo_at (is_start h.echo mine) (is_state h.kind) (passes mine k h e).for_me s

-- ---- what was accepted isn't accepted again

-- a packet that can't be accepted again: it is of an earlier start of its sender, or its counter was accepted
abbrev pub IsSpent : Known → Header → Type 0
IsSpent k h =
    (h.start.number < k.start.number) ⊎ ((is_start h.start k.start ≡ true) × (is_among h.counter k.accepted ≡ true))

pick : (P : Known → Type 0) (a b c : Bool) (x y z : Known) → P x → P y → P z →
    P (if a then x else if b then x else if c then y else z)
pick P true b c x y z p q r = p
pick P false true c x y z p q r = p
pick P false false true x y z p q r = q
pick P false false false x y z p q r = r

spent_known : (k : Known) (s : Start) (h : Header) → IsSpent k h → IsSpent (known_with k s) h
spent_known k s h spent = at (nat_lt k.start.number s.number) refl
  where
    higher : k.start.number < s.number → IsSpent k h → h.start.number < s.number
    higher l (inl less) = omega arith
    higher l (inr same) = let n = (same_start h.start k.start same.0).0 in omega (arith, n, l)

    at : (b : Bool) → nat_lt k.start.number s.number ≡ b →
        IsSpent (if b then new_start s else k) h
    at true e = inl (higher (ltb-true k.start.number s.number e) spent)
    at false e = spent

spent_counted : (k : Known) (n : ℕ) (h : Header) → IsSpent k h → IsSpent (counted k n) h
spent_counted k n h (inl less) = inl less
spent_counted k n h (inr same) = inr (same.0, at (is_fresh k.accepted n))
  where
    at : (b : Bool) → is_among h.counter (if b then n ∷ k.accepted else k.accepted) ≡ true
    at true = or_right (n == h.counter) (is_among h.counter k.accepted) same.1
    at false = same.1

spent_stays : (mine : Start) (k : Known) (g h : Header) → IsSpent k h → IsSpent (known_after mine k g) h
spent_stays mine k g h spent =
    let P : Known → Type 0 = λ x. IsSpent x h in
    let known : IsSpent (known_with k g.start) h = spent_known k g.start h spent in
    pick P (nat_lt g.start.number k.start.number) (is_other_machine k.start g) (not (is_for mine g)) k
    (known_with k g.start) (counted (known_with k g.start) g.counter) spent known
    (spent_counted (known_with k g.start) g.counter h known)

-- what the header of one packet has in common with that of another
same_packet : (h g : Header) → is_packet h g ≡ true →
    (is_start h.start g.start ≡ true) × (is_start h.echo g.echo ≡ true) × (h.counter ≡ g.counter)
same_packet h g e =
    let a = and_parts (is_start h.start g.start) (is_start h.echo g.echo && (h.counter == g.counter)) e in
    let b = and_parts (is_start h.echo g.echo) (h.counter == g.counter) a.1 in
    (a.0, b.0, eqb-true h.counter g.counter b.1)

not_again : (mine : Start) (k : Known) (h g : Header) → IsSpent k h → is_accepted (arrival_of mine k g) ≡ true →
    is_packet h g ≡ true → ⊥
not_again mine k h g spent e same =
    let p = passes mine k g e in
    let s = same_packet h g same in
    let starts = same_start h.start g.start s.0 in
    let not_old : k.start.number ≤ g.start.number = ltb-false g.start.number k.start.number p.not_old in
    at spent starts.0 not_old s.2 p.fresh
  where
    at : IsSpent k h → h.start.number ≡ g.start.number → k.start.number ≤ g.start.number → h.counter ≡ g.counter →
        is_fresh (known_with k g.start).accepted g.counter ≡ true → ⊥
    at (inl less) n l c f = omega (arith, less, n, l)
    at (inr both) n l c f =
        let m = (same_start h.start k.start both.0).0 in
        let k_is : known_with k g.start ≡ k = known_same k g.start (omega (arith, m, n)) in
        let fresh : is_fresh k.accepted g.counter ≡ true = ap (λ (x : Known). is_fresh x.accepted g.counter) (sym k_is) ∙ f in
        let new : is_among g.counter k.accepted ≡ false = fresh_is_new k.accepted g.counter fresh in
        both_ways (is_among g.counter k.accepted) new (ap (λ n. is_among n k.accepted) (sym c) ∙ both.1)

-- ---- over restarts

none_in : (h g : Header) (b : Bool) (hs : List Header) → (b ≡ true → is_packet h g ≡ true → ⊥) →
    list_any (is_packet h) hs ≡ false → list_any (is_packet h) (if b then g ∷ hs else hs) ≡ false
none_in h g true hs apart none = or_from _ _ (false_from_ne_true (is_packet h g) (apart refl)) none
none_in h g false hs apart none = none

-- what was sealed for a start that isn't one of these isn't accepted by them
apart : (h : Header) (mine : Start) (k : Known) (es : List Event) → is_start h.echo mine ≡ false →
    list_any (is_start h.echo) (starts_of es) ≡ false → list_any (is_packet h) (accepted_of mine k es) ≡ false
apart h mine k [] e none = refl
apart h mine k (Starts next known ∷ es) e none =
    let parts = or_parts (is_start h.echo next) (list_any (is_start h.echo) (starts_of es)) none in
    apart h next (new_start known) es parts.0 parts.1
apart h mine k (Comes g ∷ es) e none =
    none_in h g (is_accepted (arrival_of mine k g) && not (is_state g.kind)) (accepted_of mine (known_after mine k g) es)
    (λ t same.
    let parts = and_parts (is_accepted (arrival_of mine k g)) (not (is_state g.kind)) t in
    let echo = echoes mine k g parts.0 (not-true (is_state g.kind) parts.1) in
    both_ways (is_start h.echo mine) e (start_over h.echo g.echo mine (same_packet h g same).1 echo))
    (apart h mine (known_after mine k g) es e none)

other_start : (s t : Start) (ss : List Start) → is_start s t ≡ true → list_any (is_start t) ss ≡ false →
    list_any (is_start s) ss ≡ false
other_start s t [] e none = refl
other_start s t (u ∷ ss) e none =
    let parts = or_parts (is_start t u) (list_any (is_start t) ss) none in
    or_from _ _ (false_from_ne_true (is_start s u) (λ h. both_ways (is_start t u) parts.0 (start_over t s u (start_back s t e) h)))
    (other_start s t ss e parts.1)

-- what was accepted isn't accepted later
later : (h : Header) (mine : Start) (k : Known) (es : List Event) → is_start h.echo mine ≡ true → IsSpent k h →
    AreDistinct (mine ∷ starts_of es) → list_any (is_packet h) (accepted_of mine k es) ≡ false
later h mine k [] e spent apart_all = refl
later h mine k (Starts next known ∷ es) e spent apart_all =
    let none = other_start h.echo mine (next ∷ starts_of es) e apart_all.0 in
    let parts = or_parts (is_start h.echo next) (list_any (is_start h.echo) (starts_of es)) none in
    apart h next (new_start known) es parts.0 parts.1
later h mine k (Comes g ∷ es) e spent apart_all =
    none_in h g (is_accepted (arrival_of mine k g) && not (is_state g.kind)) (accepted_of mine (known_after mine k g) es)
    (λ t same.
    let parts = and_parts (is_accepted (arrival_of mine k g)) (not (is_state g.kind)) t in
    not_again mine k h g spent parts.0 same)
    (later h mine (known_after mine k g) es e (spent_stays mine k g h spent) apart_all)

-- what is accepted is spent then
after_at : (a b c : Bool) (x y z : Known) → a ≡ false → b ≡ false → c ≡ false →
    (if a then x else if b then x else if c then y else z) ≡ z
after_at true b c x y z p q r = absurd cc
after_at false true c x y z p q r = absurd cc
after_at false false true x y z p q r = absurd cc
after_at false false false x y z p q r = refl

-- the start is that of the packet
now_known : (k : Known) (h : Header) → nat_lt h.start.number k.start.number ≡ false → is_other_machine k.start h ≡ false →
    is_start h.start (known_with k h.start).start ≡ true
now_known k h old other = at (nat_lt k.start.number h.start.number) refl
  where
    salts : (b : Bool) → h.start.number ≡ k.start.number → (h.start.salt == k.start.salt) ≡ b →
        ((h.start.number == k.start.number) && not b) ≡ false → is_start h.start k.start ≡ true
    salts true n e f = start_from h.start k.start n (eqb-true h.start.salt k.start.salt e)
    salts false n e f =
        absurd (both_ways ((h.start.number == k.start.number) && true) f (and_from _ _ (eq-eqb _ _ n) refl))

    at : (b : Bool) → nat_lt k.start.number h.start.number ≡ b →
        is_start h.start (if b then new_start h.start else k).start ≡ true
    at true e = start_itself h.start
    at false e =
        let l : h.start.number ≤ k.start.number = ltb-false k.start.number h.start.number e in
        let g : k.start.number ≤ h.start.number = ltb-false h.start.number k.start.number old in
        salts (h.start.salt == k.start.salt) (omega (arith, l, g)) refl other

among_itself : (n : ℕ) (ns : List ℕ) (b : Bool) → b ≡ true → is_among n (if b then n ∷ ns else ns) ≡ true
among_itself n ns true e = or_left (n == n) (is_among n ns) (eq-eqb n n refl)
among_itself n ns false e = absurd cc

spent_now : (mine : Start) (k : Known) (h : Header) → is_accepted (arrival_of mine k h) ≡ true →
    IsSpent (known_after mine k h) h
spent_now mine k h e =
    let p = passes mine k h e in
    let kw = known_with k h.start in
    let is : known_after mine k h ≡ counted kw h.counter =
    after_at (nat_lt h.start.number k.start.number) (is_other_machine k.start h) (not (is_for mine h)) k kw
    (counted kw h.counter) p.not_old p.one_machine p.for_me in
    let P : Known → Type 0 = λ x. IsSpent x h in
    subst P (sym is) (inr (now_known k h p.not_old p.one_machine, among_itself h.counter kw.accepted _ p.fresh))

once_in : (h : Header) (b : Bool) (hs : List Header) → (b ≡ true → list_any (is_packet h) hs ≡ false) → AreOnce hs →
    AreOnce (if b then h ∷ hs else hs)
once_in h true hs none once = (none refl, once)
once_in h false hs none once = once

once : (mine : Start) (k : Known) (es : List Event) → AreDistinct (mine ∷ starts_of es) → AreOnce (accepted_of mine k es)
once mine k [] apart_all = tt
once mine k (Starts next known ∷ es) apart_all = once next (new_start known) es apart_all.1
once mine k (Comes h ∷ es) apart_all =
    once_in h (is_accepted (arrival_of mine k h) && not (is_state h.kind)) (accepted_of mine (known_after mine k h) es)
    (λ t.
    let parts = and_parts (is_accepted (arrival_of mine k h)) (not (is_state h.kind)) t in
    later h mine (known_after mine k h) es (echoes mine k h parts.0 (not-true (is_state h.kind) parts.1))
    (spent_now mine k h parts.0) apart_all)
    (once mine (known_after mine k h) es apart_all)

pub heard_once : HeardOnce
heard_once mine known es apart_all = once mine (new_start known) es apart_all

-- ---- within one start

later_all : (h : Header) (mine : Start) (k : Known) (hs : List Header) → IsSpent k h →
    list_any (is_packet h) (accepted_all mine k hs) ≡ false
later_all h mine k [] spent = refl
later_all h mine k (g ∷ hs) spent =
    none_in h g (is_accepted (arrival_of mine k g)) (accepted_all mine (known_after mine k g) hs)
    (λ t same. not_again mine k h g spent t same)
    (later_all h mine (known_after mine k g) hs (spent_stays mine k g h spent))

once_all : (mine : Start) (k : Known) (hs : List Header) → AreOnce (accepted_all mine k hs)
once_all mine k [] = tt
once_all mine k (h ∷ hs) =
    once_in h (is_accepted (arrival_of mine k h)) (accepted_all mine (known_after mine k h) hs)
    (λ t. later_all h mine (known_after mine k h) hs (spent_now mine k h t)) (once_all mine (known_after mine k h) hs)

pub once_a_start : OnceAStart
once_a_start mine known hs = once_all mine (new_start known) hs

-- ---- what is fresh

arrival_at : (a b c d : Bool) → a ≡ false → b ≡ false → c ≡ false → d ≡ true → (if a then arrivals.OldStart
    else if b then arrivals.OtherMachine else if c then arrivals.OtherEcho else if d then arrivals.Accepted
    else arrivals.Repeated) ≡ arrivals.Accepted
arrival_at true b c d p q r s = absurd cc
arrival_at false true c d p q r s = absurd cc
arrival_at false false true d p q r s = absurd cc
arrival_at false false false true p q r s = refl
arrival_at false false false false p q r s = absurd cc

one_machine : (k : Known) (h : Header) → (h.start.number ≡ k.start.number → h.start.salt ≡ k.start.salt) →
    is_other_machine k.start h ≡ false
one_machine k h same = elim (cases_eq h.start.number k.start.number) [
  | inl e ↦ and_right _ _ (not_from_true _ (eq-eqb _ _ (same e)))
  | inr d ↦ and_left _ _ (ne_eqb _ _ d)
]

pub fresh_is_heard : FreshIsHeard
fresh_is_heard mine k h up same echo ahead =
    let ns = (known_with k h.start).accepted in
    arrival_at _ _ _ _ (le-ltb h.start.number k.start.number up) (one_machine k h same)
    (not_from_true _ (or_left (is_start h.echo mine) (is_state h.kind) echo))
    (and_from _ _ (lt-ltb 0 h.counter (omega (arith, ahead))) (or_left _ _ (lt-ltb (top_of ns) h.counter ahead)))
