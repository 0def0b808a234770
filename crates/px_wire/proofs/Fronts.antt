-- A body read from left to right: where it ends, and that no spelling goes on as another.
use Rattle.std.proofs.Common.{◌≡◌, ℕ, ◌^◌, ◌<◌, ◌≤◌, ◌%◌, Bool, true, false, cond, eqb, List, [], ◌∷◌, ◌++◌, length, drop, Option, Some, None, sym, ap, ◌∙◌, append_assoc, arith}
use Rattle.std.specs.Int.{w32, w64, to_be_bytes}
use Rattle.std.proofs.lemmas.Bool.{leb-true}
use Rattle.std.proofs.lemmas.Bool.Decides.{nat_tests}
use Rattle.std.proofs.lemmas.List.{append-nil}
use Rattle.pf_entry.specs.Reading.{◌>>=◌, byte_at, number_at, text_at}
use Rattle.pf_entry.proofs.Takes.{wide32, wide64, both_true, some_is, number_again, text_again}
use Rattle.px_wire.specs.Message as messages
use Rattle.px_wire.specs.Message.{Group, Lent, IsSpelling, Message, prepare, promise, accept, vote, nack, need, learned, ask, asked, ask_refused, prepare_all, promise_all, sized, reported, is_ballot, is_ballot_of, IsReported, IsBody, DatagramBytes, spelling}
use Rattle.px_wire.specs.Fields.{lent_in}
use Rattle.px_wire.proofs.Lengths.{long_enough}
use Rattle.px_wire.proofs.Again.{lent_again, wide_ballot, small, token_small}

-- ---- the parts of a body

abbrev sized_at : List ℕ → Option (Lent × List ℕ)
sized_at bytes = number_at w32 bytes >>= λ n. text_at n.0 n.1 >>= λ t. lent_in t.0 >>= λ x. Some (x, t.1)

sized_again : (x : Lent) (more : List ℕ) → IsSpelling x → sized_at (sized x ++ more) ≡ Some (x, more)
sized_again x more is =
    let n : ℕ = length x.bytes in
    let lt : n < 2 ^ 32 = omega (arith, (long_enough x is).1) in
    ap sized_at (append_assoc (to_be_bytes w32 n) x.bytes more)
    ∙ ap (λ (r : Option (ℕ × List ℕ)). r >>= λ k. text_at k.0 k.1 >>= λ t. lent_in t.0 >>= λ y. Some (y, t.1)) (number_again w32 (2 ^ 32) wide32 n (x.bytes ++ more) lt)
    ∙ ap (λ (r : Option (List ℕ × List ℕ)). r >>= λ t. lent_in t.0 >>= λ y. Some (y, t.1)) (text_again x.bytes more)
    ∙ ap (λ (r : Option Lent). r >>= λ y. Some (y, more)) (lent_again x is)

abbrev reported_rest : ℕ → List ℕ → Bool → Option (Option (ℕ × Lent) × List ℕ)
reported_rest a rest true = Some (None, rest)
reported_rest a rest false = sized_at rest >>= λ x. Some (Some (a, x.0), x.1)

abbrev reported_at : List ℕ → Option (Option (ℕ × Lent) × List ℕ)
reported_at bytes = number_at w64 bytes >>= λ a. reported_rest a.0 a.1 (eqb a.0 0)

reported_again : (g : Group) (b : ℕ) (a : Option (ℕ × Lent)) (more : List ℕ) → IsReported g b a → reported_at (reported a ++ more) ≡ Some (a, more)
reported_again g b None more h =
    ap (λ (r : Option (ℕ × List ℕ)). r >>= λ a. reported_rest a.0 a.1 (eqb a.0 0)) (number_again w64 (2 ^ 64) wide64 0 more (omega arith))
reported_again g b (Some a) more h =
    let w = wide_ballot g a.0 h.0 in
    ap reported_at (append_assoc (to_be_bytes w64 a.0) (sized a.1) more)
    ∙ ap (λ (r : Option (ℕ × List ℕ)). r >>= λ a. reported_rest a.0 a.1 (eqb a.0 0)) (number_again w64 (2 ^ 64) wide64 a.0 (sized a.1 ++ more) w.1)
    ∙ ap (reported_rest a.0 (sized a.1 ++ more)) (positive a.0 w.0)
    ∙ ap (λ (r : Option (Lent × List ℕ)). r >>= λ x. Some (Some (a.0, x.0), x.1)) (sized_again a.1 more h.2.0)
  where
    positive : (n : ℕ) → 256 ≤ n → eqb n 0 ≡ false
    positive n le = grind (arith, nat_tests)

abbrev Found : Type 0
Found = Option (Message × List ℕ)

-- a ballot and a position, and what is made of them and of what follows
abbrev slot_then : (ℕ → ℕ → List ℕ → Found) → List ℕ → Found
slot_then f bytes = number_at w64 bytes >>= λ b. number_at w32 b.1 >>= λ p. f b.0 p.0 p.1

slot_again : (f : ℕ → ℕ → List ℕ → Found) (b p : ℕ) (t : List ℕ) → b < 2 ^ 64 → p < 2 ^ 32 → slot_then f ((to_be_bytes w64 b ++ to_be_bytes w32 p) ++ t) ≡ f b p t
slot_again f b p t lt lt' =
    ap (slot_then f) (append_assoc (to_be_bytes w64 b) (to_be_bytes w32 p) t)
    ∙ ap (λ (r : Option (ℕ × List ℕ)). r >>= λ b. number_at w32 b.1 >>= λ p. f b.0 p.0 p.1) (number_again w64 (2 ^ 64) wide64 b (to_be_bytes w32 p ++ t) lt)
    ∙ ap (λ (r : Option (ℕ × List ℕ)). r >>= λ q. f b q.0 q.1) (number_again w32 (2 ^ 32) wide32 p t lt')

-- ---- the bodies, by kind

abbrev of_promise : ℕ → ℕ → List ℕ → Found
of_promise b p t = reported_at t >>= λ a. Some (promise b p a.0, a.1)

abbrev of_accept : ℕ → ℕ → List ℕ → Found
of_accept b p t = sized_at t >>= λ e. Some (accept b p e.0, e.1)

abbrev of_vote : ℕ → ℕ → List ℕ → Found
of_vote b p t = sized_at t >>= λ e. Some (vote b p e.0, e.1)

abbrev of_nack : ℕ → ℕ → List ℕ → Found
of_nack b p t = number_at w64 t >>= λ q. Some (nack b p q.0, q.1)

abbrev of_promise_all : ℕ → ℕ → List ℕ → Found
of_promise_all b p t = number_at w32 t >>= λ top. reported_at top.1 >>= λ a. Some (promise_all b p top.0 a.0, a.1)

abbrev need_in : List ℕ → Found
need_in bytes = number_at w32 bytes >>= λ p. Some (need p.0, p.1)

abbrev learned_in : List ℕ → Found
learned_in bytes = number_at w32 bytes >>= λ p. sized_at p.1 >>= λ e. Some (learned p.0 e.0, e.1)

abbrev ask_in : List ℕ → Found
ask_in bytes = sized_at bytes >>= λ e. Some (ask e.0, e.1)

abbrev asked_in : List ℕ → Found
asked_in bytes = number_at w64 bytes >>= λ t. number_at w64 t.1 >>= λ n. Some (asked t.0 n.0, n.1)

abbrev ask_refused_in : List ℕ → Found
ask_refused_in bytes = number_at w64 bytes >>= λ t. byte_at t.1 >>= λ c. Some (ask_refused t.0 c.0, c.1)

abbrev body_in : ℕ → List ℕ → Found
body_in k bytes =
    cond (eqb k 1) (slot_then (λ b p t. Some (prepare b p, t)) bytes)
    (cond (eqb k 2) (slot_then of_promise bytes)
    (cond (eqb k 3) (slot_then of_accept bytes)
    (cond (eqb k 4) (slot_then of_vote bytes)
    (cond (eqb k 5) (slot_then of_nack bytes)
    (cond (eqb k 6) (need_in bytes)
    (cond (eqb k 7) (learned_in bytes)
    (cond (eqb k 8) (ask_in bytes)
    (cond (eqb k 9) (asked_in bytes)
    (cond (eqb k 10) (ask_refused_in bytes)
    (cond (eqb k 11) (slot_then (λ b p t. Some (prepare_all b p, t)) bytes)
    (slot_then of_promise_all bytes)))))))))))

-- a ballot is a number of eight bytes
pub below : (g : Group) (node b : ℕ) → is_ballot_of g node b ≡ true → b < 2 ^ 64
below g node b h = (wide_ballot g b (both_true (is_ballot g b) (eqb (b % 256) node) h).0).1

body_again : (g : Group) (from to : ℕ) (x : Message) (more : List ℕ) → IsBody g from to x → body_in (messages.kind x) (messages.body x ++ more) ≡ Some (x, more)
body_again g from to (prepare b p) more h = slot_again (λ b p t. Some (prepare b p, t)) b p more (below g from b h.0) (small p h.1)
body_again g from to (promise b p a) more h =
    ap (slot_then of_promise) (append_assoc (to_be_bytes w64 b ++ to_be_bytes w32 p) (reported a) more)
    ∙ slot_again of_promise b p (reported a ++ more) (below g to b h.0) (small p h.1)
    ∙ ap (λ (r : Option (Option (ℕ × Lent) × List ℕ)). r >>= λ a. Some (promise b p a.0, a.1)) (reported_again g b a more h.2)
body_again g from to (accept b p e) more h =
    ap (slot_then of_accept) (append_assoc (to_be_bytes w64 b ++ to_be_bytes w32 p) (sized e) more)
    ∙ slot_again of_accept b p (sized e ++ more) (below g from b h.0) (small p h.1)
    ∙ ap (λ (r : Option (Lent × List ℕ)). r >>= λ e. Some (accept b p e.0, e.1)) (sized_again e more h.2.0)
body_again g from to (vote b p e) more h =
    ap (slot_then of_vote) (append_assoc (to_be_bytes w64 b ++ to_be_bytes w32 p) (sized e) more)
    ∙ slot_again of_vote b p (sized e ++ more) (wide_ballot g b h.0).1 (small p h.1)
    ∙ ap (λ (r : Option (Lent × List ℕ)). r >>= λ e. Some (vote b p e.0, e.1)) (sized_again e more h.2.0)
body_again g from to (nack b p q) more h =
    ap (slot_then of_nack) (append_assoc (to_be_bytes w64 b ++ to_be_bytes w32 p) (to_be_bytes w64 q) more)
    ∙ slot_again of_nack b p (to_be_bytes w64 q ++ more) (below g to b h.0) (small p h.1)
    ∙ ap (λ (r : Option (ℕ × List ℕ)). r >>= λ q. Some (nack b p q.0, q.1)) (number_again w64 (2 ^ 64) wide64 q more (wide_ballot g q h.2).1)
body_again g from to (need p) more h =
    ap (λ (r : Option (ℕ × List ℕ)). r >>= λ p. Some (need p.0, p.1)) (number_again w32 (2 ^ 32) wide32 p more (small p h))
body_again g from to (learned p e) more h =
    ap learned_in (append_assoc (to_be_bytes w32 p) (sized e) more)
    ∙ ap (λ (r : Option (ℕ × List ℕ)). r >>= λ p. sized_at p.1 >>= λ e. Some (learned p.0 e.0, e.1)) (number_again w32 (2 ^ 32) wide32 p (sized e ++ more) (small p h.0))
    ∙ ap (λ (r : Option (Lent × List ℕ)). r >>= λ e. Some (learned p e.0, e.1)) (sized_again e more h.1.0)
body_again g from to (ask e) more h = ap (λ (r : Option (Lent × List ℕ)). r >>= λ e. Some (ask e.0, e.1)) (sized_again e more h.0)
body_again g from to (asked t n) more h =
    ap asked_in (append_assoc (to_be_bytes w64 t) (to_be_bytes w64 n) more)
    ∙ ap (λ (r : Option (ℕ × List ℕ)). r >>= λ t. number_at w64 t.1 >>= λ n. Some (asked t.0 n.0, n.1)) (number_again w64 (2 ^ 64) wide64 t (to_be_bytes w64 n ++ more) (token_small t h.0))
    ∙ ap (λ (r : Option (ℕ × List ℕ)). r >>= λ n. Some (asked t n.0, n.1)) (number_again w64 (2 ^ 64) wide64 n more (token_small n h.1))
body_again g from to (ask_refused t c) more h =
    ap ask_refused_in (append_assoc (to_be_bytes w64 t) (c ∷ []) more)
    ∙ ap (λ (r : Option (ℕ × List ℕ)). r >>= λ t. byte_at t.1 >>= λ c. Some (ask_refused t.0 c.0, c.1)) (number_again w64 (2 ^ 64) wide64 t (c ∷ more) (token_small t h.0))
body_again g from to (prepare_all b p) more h = slot_again (λ b p t. Some (prepare_all b p, t)) b p more (below g from b h.0) (small p h.1)
body_again g from to (promise_all b p top a) more h =
    let le = leb-true top 1000000 h.2 in
    ap (λ (t : List ℕ). slot_then of_promise_all (t ++ more)) (append_assoc (to_be_bytes w64 b ++ to_be_bytes w32 p) (to_be_bytes w32 top) (reported a))
    ∙ ap (slot_then of_promise_all) (append_assoc (to_be_bytes w64 b ++ to_be_bytes w32 p) (to_be_bytes w32 top ++ reported a) more)
    ∙ slot_again of_promise_all b p ((to_be_bytes w32 top ++ reported a) ++ more) (below g to b h.0) (small p h.1)
    ∙ ap (of_promise_all b p) (append_assoc (to_be_bytes w32 top) (reported a) more)
    ∙ ap (λ (r : Option (ℕ × List ℕ)). r >>= λ top. reported_at top.1 >>= λ a. Some (promise_all b p top.0 a.0, a.1)) (number_again w32 (2 ^ 32) wide32 top (reported a ++ more) (omega arith))
    ∙ ap (λ (r : Option (Option (ℕ × Lent) × List ℕ)). r >>= λ a. Some (promise_all b p top a.0, a.1)) (reported_again g b a more h.3)

-- ---- the whole

cons_parts : (a b : ℕ) (s t : List ℕ) → (a ∷ s) ≡ (b ∷ t) → (a ≡ b) × (s ≡ t)
cons_parts a b s t e = (cc, cc)

pub no_front : (g : Group) (f t f' t' : ℕ) (x y : Message) (bytes more : List ℕ) → DatagramBytes g f t x bytes → DatagramBytes g f' t' y (bytes ++ more) → (more ≡ []) × (f ≡ f') × (t ≡ t') × (x ≡ y)
no_front g f t f' t' x y bytes more p q =
    let k : ℕ = messages.kind x in
    let k' : ℕ = messages.kind y in
    let both : spelling g f t x ++ more ≡ spelling g f' t' y = ap (λ (b : List ℕ). b ++ more) (sym p.spelled) ∙ q.spelled in
    let late : f ∷ (t ∷ (k ∷ (messages.body x ++ more))) ≡ f' ∷ (t' ∷ (k' ∷ messages.body y)) = ap (drop 10) both in
    let a = cons_parts f f' (t ∷ (k ∷ (messages.body x ++ more))) (t' ∷ (k' ∷ messages.body y)) late in
    let b = cons_parts t t' (k ∷ (messages.body x ++ more)) (k' ∷ messages.body y) a.1 in
    let c = cons_parts k k' (messages.body x ++ more) (messages.body y) b.1 in
    let again_x : body_in k (messages.body x ++ more) ≡ Some (x, more) = body_again g f t x more p.fits.body in
    let again_y : body_in k' (messages.body y ++ []) ≡ Some (y, []) = body_again g f' t' y [] q.fits.body in
    let same : Some (x, more) ≡ Some (y, []) = sym again_x ∙ ap (λ (n : ℕ). body_in n (messages.body x ++ more)) c.0 ∙ ap (body_in k') (c.1 ∙ sym (append-nil (messages.body y))) ∙ again_y in
    let pair : (x, more) ≡ (y, []) = some_is (x, more) (y, []) same in
    (ap (λ (r : Message × List ℕ). r.1) pair, a.0, b.0, ap (λ (r : Message × List ℕ). r.0) pair)

pub one_spelling : (g : Group) (f t : ℕ) (x : Message) (a b : List ℕ) → DatagramBytes g f t x a → DatagramBytes g f t x b → a ≡ b
one_spelling g f t x a b p q = p.spelled ∙ sym q.spelled
