-- What is heard of each member.
use Rattle.std.proofs.Common.{◌≡◌, ◌∙◌, ℕ, zero, suc, ◌+◌, ◌<◌, ◌≤◌, Bool, true, false, List, [], ◌∷◌, ◌++◌, length, drop, set, get_or, replicate, ap, sym, refl, arith, subst, ◌⊎◌, inl, inr, Option, Some, None}
use Rattle.std.specs.List.{AllZip}
use Rattle.std.specs.Prelude.{nat_lt, if◌then◌else◌}
use Rattle.std.proofs.lemmas.Bool.{lt-ltb, le-ltb}
use Rattle.std.proofs.lemmas.List.{drop_more, get_or_past, length-drop, nil_from_length}
use Rattle.px_packet.specs.declared.start.Start.{Start}
use Rattle.px_packet.specs.declared.header.Header.{Header}
use Rattle.px_packet.specs.declared.arrival.Arrival.TheVariants as arrivals
use Rattle.px_packet.specs.declared.peer.Peer.{Peer}
use Rattle.px_packet.specs.Arrivals.{arrival_of, known_after, IsKnown}
use Rattle.px_packet.specs.ReplayLaws.{is_accepted}
use Rattle.px_packet.specs.Pieces.{Piece}
use Rattle.px_packet.specs.Reassembling.{Unfinished, unfinished_after, finished_by, first_due, earlier}
use Rattle.px_transport.specs.declared.receiver.Entry.{Entry}
use Rattle.px_transport.specs.declared.receiver.Receiver.{Receiver}
use Rattle.px_transport.specs.Receiving.{Heard, Given, Nothing, Memory, Enough, NoPiece, NoDatagram, unheard, with_header, as_joined, with_piece, with_body, unchanged, Dropped, heard_by, of_member, heard_after, given_by, due_of, IsHeard, Hears}

pub same_length : (hs : List Heard) (es : List Entry) → AllZip IsHeard hs es → length hs ≡ length es
same_length [] [] all = refl
same_length [] (e ∷ es) all = absurd all
same_length (h ∷ hs) [] all = absurd all
same_length (h ∷ hs) (e ∷ es) all = ap suc (same_length hs es all.1)

-- the entry at a place is what is heard there
pub entry_at : (hs : List Heard) (es : List Entry) (i : ℕ) (e : Entry) (d : Heard) → AllZip IsHeard hs es → i < length es →
    e ≡ get_or es i e → IsHeard (get_or hs i d) e
entry_at [] [] i e d all l is = absurd (omega (arith, l))
entry_at [] (x ∷ es) i e d all l is = absurd all
entry_at (h ∷ hs) [] i e d all l is = absurd all
entry_at (h ∷ hs) (x ∷ es) zero e d all l is = let P : Entry → Type 0 = IsHeard h in subst P (sym is) all.0
entry_at (h ∷ hs) (x ∷ es) (suc i) e d all l is = entry_at hs es i e d all.1 (omega (arith, l)) is

pub entry_set : (hs : List Heard) (es : List Entry) (i : ℕ) (h : Heard) (e : Entry) → AllZip IsHeard hs es → IsHeard h e →
    AllZip IsHeard (set hs i h) (set es i e)
entry_set [] [] i h e all is = all
entry_set [] (x ∷ es) i h e all is = absurd all
entry_set (y ∷ hs) [] i h e all is = absurd all
entry_set (y ∷ hs) (x ∷ es) zero h e all is = (is, all.1)
entry_set (y ∷ hs) (x ∷ es) (suc i) h e all is = (all.0, entry_set hs es i h e all.1 is)

-- one member more that was never heard
one_more : (n : ℕ) (es : List Entry) (e : Entry) → AllZip IsHeard (replicate n unheard) es → IsHeard unheard e →
    AllZip IsHeard (replicate (suc n) unheard) (es ++ e ∷ [])
one_more zero [] e all is = (is, tt)
one_more zero (x ∷ es) e all is = absurd all
one_more (suc n) [] e all is = absurd all
one_more (suc n) (x ∷ es) e all is = (all.0, one_more n es e all.1 is)

pub entry_more : (n : ℕ) (es fs : List Entry) (e : Entry) → AllZip IsHeard (replicate n unheard) es → IsHeard unheard e →
    fs ≡ es ++ e ∷ [] → AllZip IsHeard (replicate (n + 1) unheard) fs
entry_more n es fs e all is pushed =
    let more : suc n ≡ n + 1 = omega arith in
    let P : ℕ → Type 0 = λ k. AllZip IsHeard (replicate k unheard) fs in
    let Q : List Entry → Type 0 = λ xs. AllZip IsHeard (replicate (suc n) unheard) xs in
    subst P more (subst Q (sym pushed) (one_more n es e all is))

-- past the end
pub past_end : (hs : List Heard) (es : List Entry) (i : ℕ) → AllZip IsHeard hs es → length es ≤ i → of_member hs i ≡ unheard
past_end hs es i all l = get_or_past hs i unheard (omega (arith, same_length hs es all, l))

pub set_past : (hs : List Heard) (i : ℕ) (h : Heard) → length hs ≤ i → set hs i h ≡ hs
set_past [] i h l = refl
set_past (x ∷ hs) zero h l = absurd (omega (arith, l))
set_past (x ∷ hs) (suc i) h l = ap (λ xs. x ∷ xs) (set_past hs i h (omega (arith, l)))

-- ---- when a report is due

earlier_over : (a b c : Option ℕ) → earlier (earlier a b) c ≡ earlier a (earlier b c)
earlier_over None b c = refl
earlier_over (Some a) None c = refl
earlier_over (Some a) (Some b) None = refl
earlier_over (Some a) (Some b) (Some c) = ap Some (omega arith)

earlier_none : (a : Option ℕ) → earlier a None ≡ a
earlier_none None = refl
earlier_none (Some a) = refl

pub due_more : (hs : List Heard) (es : List Entry) (i : ℕ) (e : Entry) (first next : Option ℕ) → AllZip IsHeard hs es →
    i < length es → e ≡ get_or es i e → next ≡ earlier first (first_due e.reassembly) →
    earlier first (due_of (drop i hs)) ≡ due_of hs → earlier next (due_of (drop (i + 1) hs)) ≡ due_of hs
due_more hs es i e first next all l is with_it so_far =
    let h = get_or hs i unheard in
    let rest = due_of (drop (i + 1) hs) in
    let here : drop i hs ≡ h ∷ drop (i + 1) hs = drop_more hs i unheard (omega (arith, same_length hs es all, l)) in
    let due : first_due e.reassembly ≡ first_due h.unfinished =
    ap first_due (entry_at hs es i e unheard all l is).unfinished_is in
    ap (λ t. earlier t rest) (with_it ∙ ap (earlier first) due) ∙ earlier_over first (first_due h.unfinished) rest
    ∙ ap (λ xs. earlier first (due_of xs)) (sym here) ∙ so_far

pub due_all : (hs : List Heard) (es : List Entry) (i : ℕ) (first : Option ℕ) → AllZip IsHeard hs es → length es ≤ i →
    earlier first (due_of (drop i hs)) ≡ due_of hs → first ≡ due_of hs
due_all hs es i first all l so_far =
    let none : drop i hs ≡ [] = nil_from_length (drop i hs) (omega (arith, length-drop i hs, same_length hs es all, l)) in
    sym (earlier_none first) ∙ ap (λ xs. earlier first (due_of xs)) (sym none) ∙ so_far

-- ---- one member

-- an entry with other parts
abbrev pub entry_of : Peer → List Unfinished → Entry
entry_of p us = record { peer = p; reassembly = us }

pub chosen : {X : Type 0} (b : Bool) (x y : X) → b ≡ true → (if b then x else y) ≡ x
chosen true x y e = refl
chosen false x y e = absurd cc

pub passed_over : {X : Type 0} (b : Bool) (x y : X) → b ≡ false → (if b then x else y) ≡ y
passed_over true x y e = absurd cc
passed_over false x y e = refl

-- it starts anew, and it doesn't
pub header_anew : (mine : Start) (h : Heard) (g : Header) (p : Peer) (us : List Unfinished) →
    IsKnown (known_after mine h.known g) p → h.known.start.number < (known_after mine h.known g).start.number → us ≡ [] →
    IsHeard (with_header mine h g) (entry_of p us)
header_anew mine h g p us known more none = record {
  known_is = known;
  unfinished_is = none ∙ sym (chosen _ [] h.unfinished (lt-ltb h.known.start.number _ more));
}

pub header_again : (mine : Start) (h : Heard) (g : Header) (p : Peer) (us : List Unfinished) →
    IsKnown (known_after mine h.known g) p → (known_after mine h.known g).start.number ≤ h.known.start.number →
    us ≡ h.unfinished → IsHeard (with_header mine h g) (entry_of p us)
header_again mine h g p us known less same = record {
  known_is = known;
  unfinished_is = same ∙ sym (passed_over _ [] h.unfinished (le-ltb h.known.start.number _ less));
}

-- a piece is taken, and memory is refused for it or for its datagram
abbrev Takes : Heard → Option Piece → (now : ℕ) → Entry → Given → Type 0
Takes h o now e g =
    (m : Memory) × IsHeard (with_piece m h o now).heard e × (g ≡ (with_piece m h o now).given)

pub piece_handled : (h : Heard) (p : Peer) (us vs : List Unfinished) (o : Option Piece) (q : Piece) (now : ℕ)
    (d : Option (List ℕ)) (g : Given) → IsHeard h (entry_of p us) → o ≡ Some q → d ≡ finished_by us q now →
    vs ≡ unfinished_after us q now → g ≡ as_joined d → Takes h o now (entry_of p vs) g
piece_handled h p us vs o q now d g is read given after same =
    let P : Option Piece → Type 0 = λ x. Takes h x now (entry_of p vs) g in
    subst P (sym read) (
      Enough,
      record {
        known_is = is.known_is;
        unfinished_is = after ∙ ap (λ x. unfinished_after x q now) is.unfinished_is;
      },
      same ∙ ap as_joined (given ∙ ap (λ x. finished_by x q now) is.unfinished_is),
    )

pub piece_refused : (h : Heard) (p : Peer) (us vs : List Unfinished) (o : Option Piece) (q : Piece) (now : ℕ) →
    IsHeard h (entry_of p us) → o ≡ Some q → (vs ≡ us) ⊎ (vs ≡ unfinished_after us q now) →
    Takes h o now (entry_of p vs) Nothing
piece_refused h p us vs o q now is read same =
    let P : Option Piece → Type 0 = λ x. Takes h x now (entry_of p vs) Nothing in
    subst P (sym read) (lost same)
  where
    lost : (vs ≡ us) ⊎ (vs ≡ unfinished_after us q now) → Takes h (Some q) now (entry_of p vs) Nothing
    lost (inl e) = (NoPiece, record { known_is = is.known_is; unfinished_is = e ∙ is.unfinished_is }, refl)
    lost (inr e) = (
      NoDatagram,
      record {
        known_is = is.known_is;
        unfinished_is = e ∙ ap (λ x. unfinished_after x q now) is.unfinished_is;
      },
      refl,
    )

-- the body of a packet that is accepted is taken
pub body_handled : (mine : Start) (h : Heard) (g : Header) (b : List ℕ) (now : ℕ) (e : Entry) (x : Given) →
    arrival_of mine h.known g ≡ arrivals.Accepted → (m : Memory) ×
    IsHeard (with_body m (with_header mine h g) g.kind b now).heard e × (x ≡ (with_body m (with_header mine h g) g.kind b now).given) →
    (m : Memory) × IsHeard (heard_by mine m h g b now).heard e × (x ≡ (heard_by mine m h g b now).given)
body_handled mine h g b now e x accepted packet_outcome =
    let rest = unchanged (with_header mine h g) (Dropped (arrival_of mine h.known g)) in
    let P : Bool → Type 0 = λ c. (let o = λ (m : Memory). if c then with_body m (with_header mine h g) g.kind b now else rest in
    (m : Memory) × IsHeard (o m).heard e × (x ≡ (o m).given)) in
    subst P (sym (ap is_accepted accepted)) packet_outcome

-- ---- all members

pub heard_at : (mine : Start) (hs : List Heard) (r : Receiver) (i j : ℕ) (e : Entry) → Hears mine hs r → i ≡ j →
    i < length r.entries.items → e ≡ get_or r.entries.items i e → IsHeard (of_member hs j) e
heard_at mine hs r i j e is same l read =
    let P : ℕ → Type 0 = λ k. IsHeard (of_member hs k) e in
    subst P same (entry_at hs r.entries.items i e unheard is.heard l read)

pub hears_past : (mine : Start) (hs : List Heard) (r : Receiver) (i : ℕ) (h : Heard) → Hears mine hs r →
    length r.entries.items ≤ i → Hears mine (set hs i h) r
hears_past mine hs r i h is l =
    let P : List Heard → Type 0 = λ xs. Hears mine xs r in
    subst P (sym (set_past hs i h (omega (arith, same_length hs r.entries.items is.heard, l)))) is

pub hears_set : (mine : Start) (hs : List Heard) (r s : Receiver) (i j : ℕ) (h : Heard) (e : Entry) → Hears mine hs r →
    IsHeard h e → i ≡ j → s.start ≡ r.start → s.entries.items ≡ set r.entries.items i e → Hears mine (set hs j h) s
hears_set mine hs r s i j h e is here same start items =
    let P : List Entry → Type 0 = AllZip IsHeard (set hs j h) in
    let Q : ℕ → Type 0 = λ k. AllZip IsHeard (set hs k h) (set r.entries.items i e) in
    record {
      start_is = start ∙ is.start_is;
      heard = subst P (sym items) (subst Q same (entry_set hs r.entries.items i h e is.heard here));
    }

-- a packet of a member is taken
abbrev IsHandled : (mine : Start) → List Heard → Header → List ℕ → (now : ℕ) → Receiver → Given → Type 0
IsHandled mine hs g b now s x =
    (m : Memory) × Hears mine (heard_after mine m hs g b now) s × (x ≡ given_by mine m hs g b now)

pub packet_handled : (mine : Start) (hs : List Heard) (r s : Receiver) (i : ℕ) (g : Header) (b : List ℕ) (now : ℕ) (e : Entry)
    (x : Given) → Hears mine hs r → i ≡ g.from → i < length r.entries.items → s.start ≡ r.start →
    s.entries.items ≡ set r.entries.items i e → (m : Memory) ×
    IsHeard (heard_by r.start m (of_member hs g.from) g b now).heard e ×
    (x ≡ (heard_by r.start m (of_member hs g.from) g b now).given) → IsHandled mine hs g b now s x
packet_handled mine hs r s i g b now e x is same l start items packet_outcome =
    let P : Start → Type 0 = λ t. (m : Memory) × IsHeard (heard_by t m (of_member hs g.from) g b now).heard e ×
    (x ≡ (heard_by t m (of_member hs g.from) g b now).given) in
    let own = subst P is.start_is packet_outcome in
    let m = own.0 in
    let o = heard_by mine m (of_member hs g.from) g b now in
    let inside : nat_lt g.from (length hs) ≡ true =
    lt-ltb g.from (length hs) (omega (arith, same_length hs r.entries.items is.heard, l, same)) in
    (m, hears_set mine hs r s i g.from o.heard e is own.1 same start items, own.2 ∙ sym (chosen _ o.given Nothing inside))

pub no_member : (mine : Start) (hs : List Heard) (r : Receiver) (g : Header) (b : List ℕ) (now : ℕ) → Hears mine hs r →
    length r.entries.items ≤ g.from → IsHandled mine hs g b now r Nothing
no_member mine hs r g b now is l =
    let o = heard_by mine Enough (of_member hs g.from) g b now in
    let past : nat_lt g.from (length hs) ≡ false =
    le-ltb g.from (length hs) (omega (arith, same_length hs r.entries.items is.heard, l)) in
    (Enough, hears_past mine hs r g.from o.heard is l, sym (passed_over _ o.given Nothing past))
