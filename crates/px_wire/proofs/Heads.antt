-- The head that is read of a datagram is that of its message.
use Rattle.std.proofs.Common.{◌≡◌, ℕ, ◌^◌, ◌<◌, List, ◌∷◌, ◌++◌, drop, Option, Some, ap, ◌∙◌, append_assoc, arith, refl}
use Rattle.std.specs.Int.{Width, w8, w32, w64, to_be_bytes}
use Rattle.std.proofs.lemmas.Bool.{le-ltb}
use Rattle.pf_entry.specs.Reading.{◌>>=◌}
use Rattle.px_wire.specs.declared.kind.Kind.{Kind}
use Rattle.px_wire.specs.declared.kind.Kind.TheVariants as kinds
use Rattle.px_wire.specs.declared.head.Head.{Head}
use Rattle.px_wire.specs.Message as messages
use Rattle.px_wire.specs.Message.{Group, Message, prepare, promise, accept, vote, nack, need, learned, ask, asked, ask_refused, prepare_all, promise_all, sized, reported, IsBody, DatagramBytes, spelling}
use Rattle.px_wire.specs.Heads.{of_ballot, of_position, of_number, head_of}
use Rattle.px_wire.specs.inner.Heads.{kind_in, number_in, ballot_in, position_in, asked_in, head_at, head_in}
use Rattle.px_wire.proofs.Again.{IsReadAt, stands8, read32_at, read64_at, slot0, wide_ballot, small, token_small}
use Rattle.px_wire.proofs.Fronts.{below}

there_is : (w : Width) (at : ℕ) (bytes : List ℕ) (n : ℕ) (more : List ℕ) → IsReadAt w at bytes n more → number_in w at bytes ≡ Some n
there_is w at bytes n more s = rw (le-ltb _ _ s.there, s.is) refl

-- ---- what follows the kind

ballot_again : (from to : ℕ) (k : Kind) (bytes : List ℕ) (b p : ℕ) (t : List ℕ) → b < 2 ^ 64 → p < 2 ^ 32 → drop 13 bytes ≡ (to_be_bytes w64 b ++ to_be_bytes w32 p) ++ t → ballot_in from to k bytes ≡ Some (of_ballot from to k b p)
ballot_again from to k bytes b p t lt lt' here =
    let s0 = slot0 bytes b p t lt here in
    let s1 = read32_at 21 bytes p t lt' s0.after in
    ap (λ (r : Option ℕ). r >>= λ b. number_in w32 21 bytes >>= λ p. Some (of_ballot from to k b p)) (there_is w64 13 bytes b (to_be_bytes w32 p ++ t) s0)
    ∙ ap (λ (r : Option ℕ). r >>= λ p. Some (of_ballot from to k b p)) (there_is w32 21 bytes p t s1)

position_again : (from to : ℕ) (k : Kind) (bytes : List ℕ) (p : ℕ) (t : List ℕ) → p < 2 ^ 32 → drop 13 bytes ≡ to_be_bytes w32 p ++ t → position_in from to k bytes ≡ Some (of_position from to k p)
position_again from to k bytes p t lt here =
    ap (λ (r : Option ℕ). r >>= λ p. Some (of_position from to k p)) (there_is w32 13 bytes p t (read32_at 13 bytes p t lt here))

asked_again : (from to : ℕ) (k : Kind) (bytes : List ℕ) (token n : ℕ) (t : List ℕ) → token < 2 ^ 64 → n < 2 ^ 64 → drop 13 bytes ≡ to_be_bytes w64 token ++ (to_be_bytes w64 n ++ t) → asked_in from to k bytes ≡ Some (of_number from to k n)
asked_again from to k bytes token n t lt lt' here =
    let s0 = read64_at 13 bytes token (to_be_bytes w64 n ++ t) lt here in
    ap (λ (r : Option ℕ). r >>= λ n. Some (of_number from to k n)) (there_is w64 21 bytes n t (read64_at 21 bytes n t lt' s0.after))

abbrev body_head : (from to n : ℕ) → List ℕ → Option Head
body_head from to n bytes = kind_in n >>= λ k. head_at from to k bytes

body_head_again : (g : Group) (from to : ℕ) (x : Message) (bytes more : List ℕ) → IsBody g from to x → drop 13 bytes ≡ messages.body x ++ more → body_head from to (messages.kind x) bytes ≡ Some (head_of from to x)
body_head_again g from to (prepare b p) bytes more h here = ballot_again from to kinds.Prepare bytes b p more (below g from b h.0) (small p h.1) here
body_head_again g from to (promise b p a) bytes more h here = ballot_again from to kinds.Promise bytes b p (reported a ++ more) (below g to b h.0) (small p h.1) (here ∙ append_assoc (to_be_bytes w64 b ++ to_be_bytes w32 p) (reported a) more)
body_head_again g from to (accept b p e) bytes more h here = ballot_again from to kinds.Accept bytes b p (sized e ++ more) (below g from b h.0) (small p h.1) (here ∙ append_assoc (to_be_bytes w64 b ++ to_be_bytes w32 p) (sized e) more)
body_head_again g from to (vote b p e) bytes more h here = ballot_again from to kinds.Vote bytes b p (sized e ++ more) (wide_ballot g b h.0).1 (small p h.1) (here ∙ append_assoc (to_be_bytes w64 b ++ to_be_bytes w32 p) (sized e) more)
body_head_again g from to (nack b p q) bytes more h here = ballot_again from to kinds.Nack bytes b p (to_be_bytes w64 q ++ more) (below g to b h.0) (small p h.1) (here ∙ append_assoc (to_be_bytes w64 b ++ to_be_bytes w32 p) (to_be_bytes w64 q) more)
body_head_again g from to (need p) bytes more h here = position_again from to kinds.Need bytes p more (small p h) here
body_head_again g from to (learned p e) bytes more h here = position_again from to kinds.Learned bytes p (sized e ++ more) (small p h.0) (here ∙ append_assoc (to_be_bytes w32 p) (sized e) more)
body_head_again g from to (ask e) bytes more h here = refl
body_head_again g from to (asked t n) bytes more h here = asked_again from to kinds.Asked bytes t n more (token_small t h.0) (token_small n h.1) (here ∙ append_assoc (to_be_bytes w64 t) (to_be_bytes w64 n) more)
body_head_again g from to (ask_refused t c) bytes more h here = refl
body_head_again g from to (prepare_all b p) bytes more h here = ballot_again from to kinds.PrepareAll bytes b p more (below g from b h.0) (small p h.1) here
body_head_again g from to (promise_all b p top a) bytes more h here =
    let slot : List ℕ = to_be_bytes w64 b ++ to_be_bytes w32 p in
    ballot_again from to kinds.PromiseAll bytes b p (to_be_bytes w32 top ++ (reported a ++ more)) (below g to b h.0) (small p h.1)
    (here ∙ append_assoc (slot ++ to_be_bytes w32 top) (reported a) more ∙ append_assoc slot (to_be_bytes w32 top) (reported a ++ more))

-- ---- the whole

pub head_again : (g : Group) (from to : ℕ) (message : Message) (datagram more bytes : List ℕ) → DatagramBytes g from to message datagram → bytes ≡ datagram ++ more → head_in bytes ≡ Some (head_of from to message)
head_again g from to message datagram more bytes d is =
    let k : ℕ = messages.kind message in
    let t : List ℕ = messages.body message ++ more in
    let e : bytes ≡ spelling g from to message ++ more = is ∙ ap (λ (x : List ℕ). x ++ more) d.spelled in
    let s0 = read32_at 0 bytes 0x50465852 (1 ∷ (to_be_bytes w32 g.cluster ++ (g.members ∷ (from ∷ (to ∷ (k ∷ t)))))) (omega arith) e in
    let s4 = stands8 4 bytes 1 (to_be_bytes w32 g.cluster ++ (g.members ∷ (from ∷ (to ∷ (k ∷ t))))) (ap (drop 4) e) in
    let s10 = stands8 10 bytes from (to ∷ (k ∷ t)) (ap (drop 10) e) in
    let s11 = stands8 11 bytes to (k ∷ t) (ap (drop 11) e) in
    let s12 = stands8 12 bytes k t (ap (drop 12) e) in
    let i0 : number_in w32 0 bytes ≡ Some 0x50465852 = there_is w32 0 bytes 0x50465852 _ s0 in
    let i4 : number_in w8 4 bytes ≡ Some 1 = there_is w8 4 bytes 1 _ s4 in
    let i10 : number_in w8 10 bytes ≡ Some from = there_is w8 10 bytes from _ s10 in
    let i11 : number_in w8 11 bytes ≡ Some to = there_is w8 11 bytes to _ s11 in
    let i12 : number_in w8 12 bytes ≡ Some k = there_is w8 12 bytes k _ s12 in
    rw (i0, i4, i10, i11, i12) (body_head_again g from to message bytes more d.fits.body (ap (drop 13) e))
