-- What is heard of one member, as packets come.
use Rattle.std.proofs.Common.{◌≡◌, ◌∙◌, ℕ, zero, suc, ◌<◌, ◌≤◌, Bool, true, false, List, length, set, ap, sym, refl, arith, subst, inl, inr, Option, Some, None}
use Rattle.std.specs.Prelude.{◌==◌, ◌&&◌, not, nat_lt, if◌then◌else◌}
use Rattle.std.proofs.lemmas.Bool.{cases_lt, cases_eq, ltb-false, eqb-true, eq-eqb, and_from, not-false, both_ways}
use Rattle.std.proofs.lemmas.List.{get_or-set_same, get_or-set_other}
use Rattle.px_packet.specs.declared.start.Start.{Start}
use Rattle.px_packet.specs.declared.kind.Kind.{Kind}
use Rattle.px_packet.specs.declared.kind.Kind.TheVariants as kinds
use Rattle.px_packet.specs.declared.header.Header.{Header}
use Rattle.px_packet.specs.declared.arrival.Arrival.TheVariants as arrivals
use Rattle.px_packet.specs.Windows.{is_fresh}
use Rattle.px_packet.specs.Arrivals.{Known, new_start, is_other_machine, is_for, known_with, counted, arrival_of, known_after}
use Rattle.px_packet.specs.ReplayLaws.{is_accepted}
use Rattle.px_packet.specs.Pieces.{Piece}
use Rattle.px_transport.specs.Bodies.{piece_in}
use Rattle.px_transport.specs.Receiving.{Heard, Dropped, Memory, Enough, NoPiece, NoDatagram, unheard, with_header, with_piece, with_body, unchanged, heard_by, of_member}
use Rattle.px_transport.specs.Laws.{nobody}
use Rattle.px_transport.proofs.Entries.{set_past}

-- ---- the member's start

abbrev start_of : (number salt : ℕ) → Start
start_of n z = record { number = n; salt = z }

pub same_start : (s t : Start) → s.number ≡ t.number → s.salt ≡ t.salt → s ≡ t
same_start s t n z = ap (λ x. start_of x s.salt) n ∙ ap (λ x. start_of t.number x) z

-- a packet is accepted by three tests of it at least
accepted_at : (a b c d : Bool) → is_accepted (if a then arrivals.OldStart else if b then arrivals.OtherMachine
    else if c then arrivals.OtherEcho else if d then arrivals.Accepted else arrivals.Repeated) ≡ true →
    (a ≡ false) × (b ≡ false) × (c ≡ false)
accepted_at true b c d h = absurd cc
accepted_at false true c d h = absurd cc
accepted_at false false true d h = absurd cc
accepted_at false false false true h = (refl, refl, refl)
accepted_at false false false false h = absurd cc

after_at : (a b c : Bool) (x y z : Known) → a ≡ false → b ≡ false → c ≡ false →
    (if a then x else if b then x else if c then y else z) ≡ z
after_at true b c x y z p q r = absurd cc
after_at false true c x y z p q r = absurd cc
after_at false false true x y z p q r = absurd cc
after_at false false false x y z p q r = refl

-- the start of one that isn't another machine
start_known : (k : Known) (h : Header) → nat_lt h.start.number k.start.number ≡ false → is_other_machine k.start h ≡ false →
    (known_with k h.start).start ≡ h.start
start_known k h old other = at (nat_lt k.start.number h.start.number) refl
  where
    salts : (b : Bool) → h.start.number ≡ k.start.number → (h.start.salt == k.start.salt) ≡ b →
        ((h.start.number == k.start.number) && not b) ≡ false → k.start ≡ h.start
    salts true n e f = sym (same_start h.start k.start n (eqb-true h.start.salt k.start.salt e))
    salts false n e f =
        absurd (both_ways ((h.start.number == k.start.number) && true) f (and_from _ _ (eq-eqb _ _ n) refl))

    at : (b : Bool) → nat_lt k.start.number h.start.number ≡ b → (if b then new_start h.start else k).start ≡ h.start
    at true e = refl
    at false e =
        let l : h.start.number ≤ k.start.number = ltb-false k.start.number h.start.number e in
        let g : k.start.number ≤ h.start.number = ltb-false h.start.number k.start.number old in
        salts (h.start.salt == k.start.salt) (omega (arith, l, g)) refl other

-- a packet that is accepted is of the start by which its sender is known then
pub accepted_start : (mine : Start) (k : Known) (h : Header) → is_accepted (arrival_of mine k h) ≡ true →
    (known_after mine k h).start ≡ h.start
accepted_start mine k h e =
    let kw = known_with k h.start in
    let all = accepted_at (nat_lt h.start.number k.start.number) (is_other_machine k.start h) (not (is_for mine h))
    (is_fresh kw.accepted h.counter) e in
    let is : known_after mine k h ≡ counted kw h.counter =
    after_at (nat_lt h.start.number k.start.number) (is_other_machine k.start h) (not (is_for mine h)) k kw
    (counted kw h.counter) all.0 all.1 all.2 in
    ap (λ (x : Known). x.start) is ∙ start_known k h all.0 all.1

-- and for this start of its receiver, or of kind state
pub accepted_for : (mine : Start) (k : Known) (h : Header) → is_accepted (arrival_of mine k h) ≡ true → is_for mine h ≡ true
accepted_for mine k h e =
    not-false (is_for mine h) (accepted_at (nat_lt h.start.number k.start.number) (is_other_machine k.start h)
    (not (is_for mine h)) (is_fresh (known_with k h.start).accepted h.counter) e).2

-- a start whose number doesn't rise stays
pick : (P : Known → Type 0) (a b c : Bool) (x y z : Known) → P x → P y → P z →
    P (if a then x else if b then x else if c then y else z)
pick P true b c x y z p q r = p
pick P false true c x y z p q r = p
pick P false false true x y z p q r = q
pick P false false false x y z p q r = r

pub start_stays : (mine : Start) (k : Known) (h : Header) →
    nat_lt k.start.number (known_after mine k h).start.number ≡ false → (known_after mine k h).start ≡ k.start
start_stays mine k h =
    let P : Known → Type 0 = λ x. nat_lt k.start.number x.start.number ≡ false → x.start ≡ k.start in
    let kw = known_with k h.start in
    pick P (nat_lt h.start.number k.start.number) (is_other_machine k.start h) (not (is_for mine h)) k kw
    (counted kw h.counter) (λ e. refl) (with_start (nat_lt k.start.number h.start.number) refl)
    (with_start (nat_lt k.start.number h.start.number) refl)
  where
    with_start : (b : Bool) → nat_lt k.start.number h.start.number ≡ b →
        nat_lt k.start.number (if b then new_start h.start else k).start.number ≡ false →
        (if b then new_start h.start else k).start ≡ k.start
    with_start true e f = absurd (both_ways (nat_lt k.start.number h.start.number) f e)
    with_start false e f = refl

-- ---- what is known of it

piece_known : (m : Memory) (e : Heard) (o : Option Piece) (now : ℕ) → (with_piece m e o now).heard.known ≡ e.known
piece_known m e None now = refl
piece_known Enough e (Some p) now = refl
piece_known NoPiece e (Some p) now = refl
piece_known NoDatagram e (Some p) now = refl

pub body_known : (m : Memory) (e : Heard) (kind : Kind) (b : List ℕ) (now : ℕ) →
    (with_body m e kind b now).heard.known ≡ e.known
body_known m e kinds.State b now = refl
body_known m e kinds.Whole b now = refl
body_known m e kinds.Piece b now = piece_known m e (piece_in b) now
body_known m e kinds.PiecesHeld b now = refl

pub heard_known : (mine : Start) (m : Memory) (e : Heard) (h : Header) (b : List ℕ) (now : ℕ) →
    (heard_by mine m e h b now).heard.known ≡ known_after mine e.known h
heard_known mine m e h b now = at (is_accepted (arrival_of mine e.known h))
  where
    at : (c : Bool) → (if c then with_body m (with_header mine e h) h.kind b now
        else unchanged (with_header mine e h) (Dropped (arrival_of mine e.known h))).heard.known ≡ known_after mine e.known h
    at true = body_known m (with_header mine e h) h.kind b now
    at false = refl

-- ---- members by their numbers

pub heard_nobody : (members k : ℕ) → of_member (nobody members) k ≡ unheard
heard_nobody zero k = refl
heard_nobody (suc n) zero = refl
heard_nobody (suc n) (suc k) = heard_nobody n k

pub of_same : (hs : List Heard) (i : ℕ) (h : Heard) → i < length hs → of_member (set hs i h) i ≡ h
of_same hs i h l = get_or-set_same hs i h unheard l

pub of_other : (hs : List Heard) (i k : ℕ) (h : Heard) → (k ≡ i → ⊥) → of_member (set hs i h) k ≡ of_member hs k
of_other hs i k h d = get_or-set_other hs i k h unheard d

-- what holds of each member, after one of them changed
pub set_each : (P : ℕ → Heard → Type 0) (hs : List Heard) (i : ℕ) (h : Heard) → ((k : ℕ) → P k (of_member hs k)) → P i h →
    (k : ℕ) → P k (of_member (set hs i h) k)
set_each P hs i h all here k = elim (cases_lt i (length hs)) [
  | inl l ↦ elim (cases_eq k i) [
    | inl e ↦ (let Q : ℕ → Type 0 = λ j. P j (of_member (set hs i h) j) in
        let R : Heard → Type 0 = P i in
        subst Q (sym e) (subst R (sym (of_same hs i h l)) here))
    | inr d ↦ (let R : Heard → Type 0 = P k in subst R (sym (of_other hs i k h d)) (all k))
  ]
  | inr g ↦ (let S : List Heard → Type 0 = λ xs. P k (of_member xs k) in subst S (sym (set_past hs i h g)) (all k))
]
