-- Packets that are handed over one after another.
use Rattle.std.proofs.Common.{◌≡◌, ◌∙◌, ℕ, zero, suc, ◌+◌, ◌-◌, ◌<◌, Bool, true, false, List, [], ◌∷◌, ◌++◌, length, map, take, ap, sym, subst, refl, arith, inl, inr}
use Rattle.std.specs.Prelude.{◌⊎◌, IsTrue, not, if◌then◌else◌, slice_set, slice_index_or}
use Rattle.std.specs.List.{filter, range_with_len}
use Rattle.std.proofs.lemmas.List.{append-nil, append_assoc}
use Rattle.px_transport.specs.Wires.{WireEvent, Adds, IsQuiet, hands}
use Rattle.px_transport.proofs.Traffic.{adds_none, hands_then}
use Rattle.px_packet.specs.declared.start.Start.{Start}
use Rattle.px_packet.specs.declared.held.PiecesHeld.{PiecesHeld}
use Rattle.px_packet.specs.Held.{has_bit}
use Rattle.px_packet.specs.Pieces.{count_of}
use Rattle.px_transport.specs.Sending.{ToMember, Sealer, Unsealed, packet, packets, counted_for, counted_all, Sends, SendsUpTo}
use Rattle.px_transport.specs.Sending.{new_to, to_member, lacked, piece, pieces_from}

-- what a wire's traffic may be
abbrev Handed : Type 1
Handed = List WireEvent → Type 0

abbrev All : Sealer → List Unsealed → Handed → List ToMember → Handed → List ToMember → Type 0
All s ps h os h' os' = Sends s ps (Adds h h') os os'

abbrev Upto : Sealer → Bool → List Unsealed → Handed → List ToMember → Handed → List ToMember → Type 0
Upto s b ps h os h' os' = SendsUpTo s b ps (Adds h h') os os'

-- ---- packets one after another

packets_append : (s : Sealer) (os : List ToMember) (ps qs : List Unsealed) →
    packets s os (ps ++ qs) ≡ packets s os ps ++ packets s (counted_all os ps) qs
packets_append s os [] qs = refl
packets_append s os (p ∷ ps) qs =
    ap (λ x. packet s p ((to_member os p.to).counter + 1) ∷ x) (packets_append s (counted_for os p.to) ps qs)

counted_append : (os : List ToMember) (ps qs : List Unsealed) →
    counted_all os (ps ++ qs) ≡ counted_all (counted_all os ps) qs
counted_append os [] qs = refl
counted_append os (p ∷ ps) qs = counted_append (counted_for os p.to) ps qs

pub sends_none : (s : Sealer) (h : Handed) (os : List ToMember) → All s [] h os h os
sends_none s h os = (adds_none h h (λ es x. x), refl)

pub sends_append : (s : Sealer) (ps qs : List Unsealed) (h : Handed) (os : List ToMember) (h1 : Handed)
    (os1 : List ToMember) (h2 : Handed) (os2 : List ToMember) → All s ps h os h1 os1 → All s qs h1 os1 h2 os2 →
    All s (ps ++ qs) h os h2 os2
sends_append s ps qs h os h1 os1 h2 os2 a b =
    let b0 : Adds h1 h2 (hands (packets s (counted_all os ps) qs)) =
    subst (λ x. Adds h1 h2 (hands (packets s x qs))) a.1 b.0 in (
      subst (λ x. Adds h h2 (hands x)) (sym (packets_append s os ps qs))
          (hands_then h h1 h2 (packets s os ps) (packets s (counted_all os ps) qs) a.0 b0),
      b.1 ∙ ap (λ x. counted_all x qs) a.1 ∙ sym (counted_append os ps qs),
    )

-- ---- up to one that isn't sent

pub upto_none : (s : Sealer) (b : Bool) (ps : List Unsealed) (h : Handed) (os : List ToMember) →
    (IsTrue b → ps ≡ []) → Upto s b ps h os h os
upto_none s b ps h os e = ([], ps, refl, e, sends_none s h os)

pub upto_one : (s : Sealer) (b : Bool) (p : Unsealed) (h : Handed) (os : List ToMember) (h' : Handed)
    (os' : List ToMember) → Adds h h' (hands (packet s p ((to_member os p.to).counter + 1) ∷ [])) →
    os' ≡ counted_for os p.to → Upto s b (p ∷ []) h os h' os'
upto_one s b p h os h' os' g e = (p ∷ [], [], refl, (λ _. refl), (g, e))

pub upto_after : (s : Sealer) (b : Bool) (ps qs : List Unsealed) (h : Handed) (os : List ToMember) (h1 : Handed)
    (os1 : List ToMember) (h2 : Handed) (os2 : List ToMember) → All s ps h os h1 os1 →
    Upto s b qs h1 os1 h2 os2 → Upto s b (ps ++ qs) h os h2 os2
upto_after s b ps qs h os h1 os1 h2 os2 a (first, rest, e, all, c) = (
  ps ++ first,
  rest,
  ap (λ x. ps ++ x) e ∙ sym (append_assoc ps first rest),
  all,
  sends_append s ps first h os h1 os1 h2 os2 a c,
)

-- of more, the first of these
pub upto_more : (s : Sealer) (ps qs : List Unsealed) (h : Handed) (os : List ToMember) (h' : Handed)
    (os' : List ToMember) → Upto s false ps h os h' os' → Upto s false (ps ++ qs) h os h' os'
upto_more s ps qs h os h' os' (first, rest, e, all, c) =
    (first, rest ++ qs, ap (λ x. x ++ qs) e ∙ append_assoc first rest qs, (λ f. absurd cc), c)

-- all of them, where that is answered
pub upto_all : (s : Sealer) (ps : List Unsealed) (h : Handed) (os : List ToMember) (h' : Handed)
    (os' : List ToMember) → Upto s true ps h os h' os' → All s ps h os h' os'
upto_all s ps h os h' os' (first, rest, e, all, c) =
    let same : ps ≡ first = e ∙ ap (λ x. first ++ x) (all refl) ∙ append-nil first in
    subst (λ x. All s x h os h' os') (sym same) c

-- ---- pieces from one on

range_from : (i n count : ℕ) → i + suc n ≡ count → range_with_len i (count - i) ≡ i ∷ range_with_len (i + 1) (count - (i + 1))
range_from i n count e =
    let a : count - i ≡ suc n = omega (arith, e) in
    let b : count - (i + 1) ≡ n = omega (arith, e) in
    ap (range_with_len i) a ∙ ap (λ x. i ∷ range_with_len (i + 1) x) (sym b)

lacked_from : (bits i count : ℕ) → i < count →
    lacked bits i (count - i) ≡ (if not (has_bit bits i) then i ∷ lacked bits (i + 1) (count - (i + 1)) else lacked bits (i + 1) (count - (i + 1)))
lacked_from bits i count l =
    ap (filter (λ k. not (has_bit bits k))) (range_from i (count - (i + 1)) count (omega (arith, l)))

pub piece_held : (to : ℕ) (echo : Start) (held : PiecesHeld) (m : List ℕ) (i : ℕ) → i < count_of (length m) →
    has_bit held.bits i ≡ true → pieces_from to echo held m i ≡ pieces_from to echo held m (i + 1)
piece_held to echo held m i l e =
    let n = count_of (length m) in
    let rest = lacked held.bits (i + 1) (n - (i + 1)) in
    ap (map (piece to echo held.name m)) (lacked_from held.bits i n l ∙ ap (λ b. if not b then i ∷ rest else rest) e)

pub piece_lacked : (to : ℕ) (echo : Start) (held : PiecesHeld) (m : List ℕ) (i : ℕ) → i < count_of (length m) →
    has_bit held.bits i ≡ false →
    pieces_from to echo held m i ≡ piece to echo held.name m i ∷ pieces_from to echo held m (i + 1)
piece_lacked to echo held m i l e =
    let n = count_of (length m) in
    let rest = lacked held.bits (i + 1) (n - (i + 1)) in
    ap (map (piece to echo held.name m)) (lacked_from held.bits i n l ∙ ap (λ b. if not b then i ∷ rest else rest) e)

-- of the first n of them

pub take_held : (n to : ℕ) (echo : Start) (held : PiecesHeld) (m : List ℕ) (i : ℕ) → i < count_of (length m) →
    has_bit held.bits i ≡ true →
    take n (pieces_from to echo held m i) ≡ take n (pieces_from to echo held m (i + 1))
take_held n to echo held m i l e = ap (take n) (piece_held to echo held m i l e)

pub take_lacked : (n k to : ℕ) (echo : Start) (held : PiecesHeld) (m : List ℕ) (i : ℕ) → n ≡ suc k →
    i < count_of (length m) → has_bit held.bits i ≡ false →
    take n (pieces_from to echo held m i) ≡
    piece to echo held.name m i ∷ take k (pieces_from to echo held m (i + 1))
take_lacked n k to echo held m i s l e =
    ap (λ x. take x (pieces_from to echo held m i)) s ∙ ap (take (suc k)) (piece_lacked to echo held m i l e)

pub take_nil : {X : Type 0} (n : ℕ) → take {A = X} n [] ≡ []
take_nil zero = refl
take_nil (suc n) = refl

-- ---- one of two ways

pub upto_if : (s : Sealer) (b r : Bool) (ps qs : List Unsealed) (h : Handed) (os os1 : List ToMember) (h' : Handed)
    (os' : List ToMember) → (b ≡ true → Upto s r ps h os h' os') → (b ≡ false → Upto s r qs h os1 h' os') →
    Upto s r (if b then ps else qs) h (if b then os else os1) h' os'
upto_if s true r ps qs h os os1 h' os' x y = x refl
upto_if s false r ps qs h os os1 h' os' x y = y refl

-- ---- a piece more

pub piece_fails : (s s' : Sealer) (r : Bool) (all first from : List Unsealed) (p : Unsealed) (rest : List Unsealed)
    (h : Handed) (os : List ToMember) (h1 : Handed) (os1 : List ToMember) (h2 : Handed) (os2 : List ToMember) →
    all ≡ first ++ from → from ≡ p ∷ rest → s' ≡ s → r ≡ false → All s first h os h1 os1 →
    Upto s' r (p ∷ []) h1 os1 h2 os2 → Upto s false all h os h2 os2
piece_fails s s' r all first from p rest h os h1 os1 h2 os2 split more same failed done last =
    let one : Upto s r (p ∷ []) h1 os1 h2 os2 = subst (λ x. Upto x r (p ∷ []) h1 os1 h2 os2) same last in
    let none : Upto s false (p ∷ []) h1 os1 h2 os2 =
    subst (λ b. Upto s b (p ∷ []) h1 os1 h2 os2) failed one in
    let longer : Upto s false (p ∷ rest) h1 os1 h2 os2 = upto_more s (p ∷ []) rest h1 os1 h2 os2 none in
    subst (λ x. Upto s false x h os h2 os2) (sym (split ∙ ap (λ x. first ++ x) more))
    (upto_after s false first (p ∷ rest) h os h1 os1 h2 os2 done longer)

pub piece_splits : (all first from : List Unsealed) (p : Unsealed) (rest : List Unsealed) → all ≡ first ++ from →
    from ≡ p ∷ rest → all ≡ (first ++ p ∷ []) ++ rest
piece_splits all first from p rest split more =
    split ∙ ap (λ x. first ++ x) more ∙ sym (append_assoc first (p ∷ []) rest)

pub piece_sends : (s s' : Sealer) (r : Bool) (first : List Unsealed) (p : Unsealed) (h : Handed) (os : List ToMember)
    (h1 : Handed) (os1 : List ToMember) (h2 : Handed) (os2 : List ToMember) → s' ≡ s → r ≡ true →
    All s first h os h1 os1 → Upto s' r (p ∷ []) h1 os1 h2 os2 → All s (first ++ p ∷ []) h os h2 os2
piece_sends s s' r first p h os h1 os1 h2 os2 same sent done last =
    let one : Upto s r (p ∷ []) h1 os1 h2 os2 = subst (λ x. Upto x r (p ∷ []) h1 os1 h2 os2) same last in
    sends_append s first (p ∷ []) h os h1 os1 h2 os2 done
    (upto_all s (p ∷ []) h1 os1 h2 os2 (subst (λ b. Upto s b (p ∷ []) h1 os1 h2 os2) sent one))

-- ---- what a sender has of a member, as an index gives it

same_at : {X : Type 0} (xs : List X) (i : ℕ) (d e : X) → i < length xs → slice_index_or xs i d ≡ slice_index_or xs i e
same_at [] i d e l = absurd (omega (arith, l))
same_at (x ∷ xs) zero d e l = refl
same_at (x ∷ xs) (suc i) d e l = same_at xs i d e (omega (arith, l))

pub at_index : (os : List ToMember) (i j : ℕ) (o : ToMember) → j ≡ i → i < length os → o ≡ slice_index_or os j o →
    o ≡ to_member os i
at_index os i j o e l read = read ∙ ap (λ k. slice_index_or os k o) e ∙ same_at os i o new_to l

pub set_at : (os : List ToMember) (i j : ℕ) (o n : ToMember) (f : ToMember → ToMember) → j ≡ i → i < length os →
    o ≡ slice_index_or os j o → n ≡ f o → slice_set os j n ≡ slice_set os i (f (to_member os i))
set_at os i j o n f e l read m =
    ap (λ k. slice_set os k n) e ∙ ap (slice_set os i) (m ∙ ap f (at_index os i j o e l read))

-- ---- on a list

-- what is added to the traffic of a wire below that was this
pub upto_at : (s : Sealer) (b : Bool) (ps : List Unsealed) (h h' : Handed) (os os' : List ToMember)
    (es : List WireEvent) → h es → SendsUpTo s b ps (Adds h h') os os' →
    (es' : List WireEvent) × h' es' × SendsUpTo s b ps (λ more. es' ≡ es ++ more) os os'
upto_at s b ps h h' os os' es t (first, rest, e, all, c) =
    let more = hands (packets s os first) in (es ++ more, c.0 es t, (first, rest, e, all, (refl, c.1)))

-- none is added
pub upto_nothing : (s : Sealer) (b : Bool) (ps : List Unsealed) (es : List WireEvent) (os : List ToMember) →
    (IsTrue b → ps ≡ []) → SendsUpTo s b ps (λ more. es ≡ es ++ more) os os
upto_nothing s b ps es os e = ([], ps, refl, e, (sym (append-nil es), refl))

sent_at : (N : Type 0) (s : Sealer) (r : Bool) (ps : List Unsealed) (h h' : Handed) (os os1 os' : List ToMember)
    (es : List WireEvent) → h es →
    ((r ≡ false) × IsQuiet h h' × (os' ≡ os)) ⊎ (N × SendsUpTo s r ps (Adds h h') os1 os') →
    (es' : List WireEvent) × h' es' ×
    (((r ≡ false) × (es' ≡ es) × (os' ≡ os)) ⊎ (N × SendsUpTo s r ps (λ more. es' ≡ es ++ more) os1 os'))
sent_at N s r ps h h' os os1 os' es t (inl q) = (es, q.1 es t, inl (q.0, refl, q.2))
sent_at N s r ps h h' os os1 os' es t (inr (named, u)) =
    let x = upto_at s r ps h h' os1 os' es t u in (x.0, x.1, inr (named, x.2))

-- a datagram is sent, or can't be
pub sent_with : (N : Type 0) (s : Sealer) (can r : Bool) (ps : List Unsealed) (h h' : Handed) (os os1 os' : List ToMember)
    (es : List WireEvent) → h es → (can ≡ false → (r ≡ false) × IsQuiet h h' × (os' ≡ os)) →
    ((r ≡ false) × IsQuiet h h' × (os' ≡ os)) ⊎ (N × SendsUpTo s r ps (Adds h h') os1 os') →
    (es' : List WireEvent) × h' es' × (can ≡ false → (es' ≡ es) × (os' ≡ os)) ×
    (((r ≡ false) × (es' ≡ es) × (os' ≡ os)) ⊎ (N × SendsUpTo s r ps (λ more. es' ≡ es ++ more) os1 os'))
sent_with N s true r ps h h' os os1 os' es t size sends =
    let x = sent_at N s r ps h h' os os1 os' es t sends in (x.0, x.1, (λ f. absurd cc), x.2)
sent_with N s false r ps h h' os os1 os' es t size sends =
    let q = size refl in (es, q.1 es t, (λ f. (refl, q.2)), inl (q.0, refl, q.2))
