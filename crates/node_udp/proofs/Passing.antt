-- What goes over a wire and over its socket.
use Rattle.std.proofs.Common.{◌≡◌, ◌≢◌, ◌∙◌, ◌⊎◌, inl, inr, ℕ, zero, suc, ◌≤◌, List, [], ◌∷◌, ◌++◌, refl, sym, ap, subst, take, length, arith}
use Rattle.std.specs.Prelude.{Bool, Option, Some, None, if◌then◌else◌}
use Rattle.std.proofs.lemmas.Bool.{ne_eqb}
use Rattle.std.specs.List.{AllByRecursion}
use Rattle.std.specs.declared.net.socket_addr.SocketAddr.{SocketAddr}
use Rattle.px_transport.specs.Wires.{Gave, Handed, Adds, IsQuiet}
use Rattle.px_transport.proofs.Traffic.{adds_none}
use Rattle.node_udp.specs.Members.{peers_of, me_of, last_of}
use Rattle.node_udp.specs.Sockets.{SocketEvent, Came, Went, Passage, Hears, Sends, Loses, below_in, above_in, GoesTo, HasNoAddress, IsSound, WentOver, IsStill, heard_last, AnswersLast}
use Rattle.node_udp.specs.inner.Heard.{last_after}
use Rattle.node_udp.specs.declared.udp.UdpWire.{UdpWire}

below_append : (xs ys : List Passage) → below_in (xs ++ ys) ≡ below_in xs ++ below_in ys
below_append [] ys = refl
below_append (Hears from came given ∷ xs) ys = ap (λ es. Came from came ∷ es) (below_append xs ys)
below_append (Sends to bytes there ∷ xs) ys = ap (λ es. Went there bytes ∷ es) (below_append xs ys)
below_append (Loses to bytes ∷ xs) ys = below_append xs ys

above_append : (xs ys : List Passage) → above_in (xs ++ ys) ≡ above_in xs ++ above_in ys
above_append [] ys = refl
above_append (Hears from came given ∷ xs) ys = ap (λ es. Gave given ∷ es) (above_append xs ys)
above_append (Sends to bytes there ∷ xs) ys = ap (λ es. Handed to bytes ∷ es) (above_append xs ys)
above_append (Loses to bytes ∷ xs) ys = ap (λ es. Handed to bytes ∷ es) (above_append xs ys)

all_append : {X : Type 0} (P : X → Type 0) (xs ys : List X) → AllByRecursion P xs → AllByRecursion P ys →
    AllByRecursion P (xs ++ ys)
all_append P [] ys a b = b
all_append P (x ∷ xs) ys a b = (a.0, all_append P xs ys a.1 b)

-- ---- who is answered

heard_append : (was : Option SocketAddr) (xs ys : List Passage) → heard_last was (xs ++ ys) ≡ heard_last (heard_last was xs) ys
heard_append was [] ys = refl
heard_append was (Hears from came [] ∷ xs) ys = heard_append was xs ys
heard_append was (Hears from came (b ∷ given) ∷ xs) ys = heard_append (Some from) xs ys
heard_append was (Sends to bytes there ∷ xs) ys = heard_append was xs ys
heard_append was (Loses to bytes ∷ xs) ys = heard_append was xs ys

answers_append : (was : Option SocketAddr) (xs ys : List Passage) → AnswersLast was xs → AnswersLast (heard_last was xs) ys →
    AnswersLast was (xs ++ ys)
answers_append was [] ys a b = b
answers_append was (Hears from came [] ∷ xs) ys a b = answers_append was xs ys a b
answers_append was (Hears from came (c ∷ given) ∷ xs) ys a b = answers_append (Some from) xs ys a b
answers_append was (Sends to bytes there ∷ xs) ys a b = (a.0, answers_append was xs ys a.1 b)
answers_append was (Loses to bytes ∷ xs) ys a b = (a.0, answers_append was xs ys a.1 b)

-- n bytes were given of a datagram
heard_front : (was : Option SocketAddr) (from : SocketAddr) (came : List ℕ) (n : ℕ) (bytes : List ℕ) → n ≤ length bytes →
    last_after from n was ≡ heard_last was (Hears from came (take n bytes) ∷ [])
heard_front was from came zero bytes l = refl
heard_front was from came (suc n) [] l = absurd (omega (arith, l))
heard_front was from came (suc n) (b ∷ bytes) l =
    ap (λ (q : Bool). if q then was else Some from) (ne_eqb (suc n) 0 (λ e. let z : suc n ≡ 0 = e in omega (arith, z)))

-- ---- nothing goes over it

pub still_then : {S C : Type 0} (t0 t1 t2 : List SocketEvent → Type 0) (w0 w1 w2 : UdpWire S C) →
    IsStill t0 t1 w0 w1 → IsStill t1 t2 w1 w2 → IsStill t0 t2 w0 w2
still_then t0 t1 t2 w0 w1 w2 a b = record {
  quiet = λ es h. b.quiet es (a.quiet es h);
  peers_is = b.peers_is ∙ a.peers_is;
  me_is = b.me_is ∙ a.me_is;
  last_is = b.last_is ∙ a.last_is;
  hears_is = b.hears_is ∙ a.hears_is;
}

sound_then : {S C : Type 0} (w w' : UdpWire S C) (xs : List Passage) → peers_of w' ≡ peers_of w → me_of w' ≡ me_of w →
    AllByRecursion (IsSound (peers_of w) (me_of w)) xs → AllByRecursion (IsSound (peers_of w') (me_of w')) xs
sound_then w w' xs p m a =
    subst (λ n. AllByRecursion (IsSound (peers_of w') n) xs) (sym m)
    (subst (λ ps. AllByRecursion (IsSound ps (me_of w)) xs) (sym p) a)

pub over_still : {S C : Type 0} (t0 t1 : List SocketEvent → Type 0) (w0 w1 : UdpWire S C) → IsStill t0 t1 w0 w1 →
    IsQuiet (WentOver t0 w0) (WentOver t1 w1)
over_still t0 t1 w0 w1 a es r = record {
  passages = r.passages;
  below_is = a.quiet (below_in r.passages) r.below_is;
  above_is = r.above_is;
  sound = sound_then w0 w1 r.passages a.peers_is a.me_is r.sound;
  last_is = a.last_is ∙ r.last_is;
  answers = λ member. r.answers (λ e. member (a.me_is ∙ e));
}

pub over_none : {S C : Type 0} (t0 t1 : List SocketEvent → Type 0) (w0 w1 : UdpWire S C) → IsStill t0 t1 w0 w1 →
    Adds (WentOver t0 w0) (WentOver t1 w1) []
over_none t0 t1 w0 w1 a = adds_none (WentOver t0 w0) (WentOver t1 w1) (over_still t0 t1 w0 w1 a)

-- ---- one passage more

over_more : {S C : Type 0} (t0 t1 : List SocketEvent → Type 0) (w0 w1 : UdpWire S C) (x : Passage) →
    peers_of w1 ≡ peers_of w0 → me_of w1 ≡ me_of w0 → last_of w1 ≡ heard_last (last_of w0) (x ∷ []) →
    Adds t0 t1 (below_in (x ∷ [])) → IsSound (peers_of w0) (me_of w0) x →
    (me_of w0 ≢ 255 → AnswersLast (last_of w0) (x ∷ [])) → Adds (WentOver t0 w0) (WentOver t1 w1) (above_in (x ∷ []))
over_more t0 t1 w0 w1 x p m l a s answers es r = record {
  passages = r.passages ++ x ∷ [];
  below_is = subst t1 (sym (below_append r.passages (x ∷ []))) (a (below_in r.passages) r.below_is);
  above_is = ap (λ y. y ++ above_in (x ∷ [])) r.above_is ∙ sym (above_append r.passages (x ∷ []));
  sound = sound_then w0 w1 (r.passages ++ x ∷ []) p m
      (all_append (IsSound (peers_of w0) (me_of w0)) r.passages (x ∷ []) r.sound (s, tt));
  last_is = l ∙ ap (λ o. heard_last o (x ∷ [])) r.last_is ∙ sym (heard_append None r.passages (x ∷ []));
  answers = λ member. let before : me_of w0 ≢ 255 = λ e. member (m ∙ e) in
      answers_append None r.passages (x ∷ []) (r.answers before)
      (subst (λ o. AnswersLast o (x ∷ [])) r.last_is (answers before));
}

length_of_front : (n : ℕ) (bytes : List ℕ) → n ≤ length bytes → length (take n bytes) ≡ n
length_of_front zero bytes l = refl
length_of_front (suc n) [] l = absurd (omega (arith, l))
length_of_front (suc n) (b ∷ bytes) l = ap suc (length_of_front n bytes (omega (arith, l)))

-- whole, or none of it
whole_or_none : (r n : ℕ) (bytes : List ℕ) → (r ≡ length (take n bytes)) ⊎ (r ≡ 0) → n ≤ length bytes →
    ((take r bytes ≡ take n bytes) ⊎ (take r bytes ≡ [])) × (r ≤ length bytes)
whole_or_none r n bytes (inl all) l =
    let same : r ≡ n = all ∙ length_of_front n bytes l in
    (inl (ap (λ k. take k bytes) same), omega (arith, same, l))
whole_or_none r n bytes (inr none) l = (inr (ap (λ k. take k bytes) none), omega (arith, none))

-- it was heard, whatever else is noted of it
still_last : {S C : Type 0} (t0 t1 : List SocketEvent → Type 0) (w0 w1 : UdpWire S C) (from : SocketAddr) (r : ℕ) →
    IsStill t0 t1 w0 w1 → IsStill t0 t1 (record w0 { last = last_after from r (last_of w0) })
    (record w1 { last = last_after from r (last_of w1) })
still_last t0 t1 w0 w1 from r a = record {
  quiet = a.quiet;
  peers_is = a.peers_is;
  me_is = a.me_is;
  last_is = ap (λ o. last_after from r o) a.last_is;
  hears_is = a.hears_is;
}

-- what the socket gave is given, or an empty datagram in its place
pub over_hears : {S C : Type 0} (t0 t1 t2 t3 t4 : List SocketEvent → Type 0) (w0 w1 w2 w3 w4 : UdpWire S C)
    (from : SocketAddr) (n r : ℕ) (bytes : List ℕ) → IsStill t0 t1 w0 w1 → Adds t1 t2 (Came from (take n bytes) ∷ []) →
    IsStill t2 t2 w1 w2 → IsStill t2 t3 w2 w3 → IsStill t3 t4 (record w3 { last = last_after from r (last_of w3) }) w4 →
    (r ≡ length (take n bytes)) ⊎ (r ≡ 0) → n ≤ length bytes → Adds (WentOver t0 w0) (WentOver t4 w4) (Gave (take r bytes) ∷ [])
over_hears t0 t1 t2 t3 t4 w0 w1 w2 w3 w4 from n r bytes a comes same b heard whole l es t =
    let given = whole_or_none r n bytes whole l in
    let w = record w2 { last = last_after from r (last_of w2) } in
    let x = Hears from (take n bytes) (take r bytes) in
    over_still t2 t4 w w4 (still_then t2 t3 t4 w (record w3 { last = last_after from r (last_of w3) }) w4
    (still_last t2 t3 w2 w3 from r b) heard) (es ++ Gave (take r bytes) ∷ [])
    (over_more t1 t2 w1 w x same.peers_is same.me_is
    (ap (λ o. last_after from r o) same.last_is ∙ heard_front (last_of w1) from (take n bytes) r bytes given.1) comes given.0
    (λ member. tt) es (over_still t0 t1 w0 w1 a es t))

-- a datagram goes over the socket to its address
pub over_sends : {S C : Type 0} (t0 t1 : List SocketEvent → Type 0) (w0 w1 : UdpWire S C) (to : ℕ) (bytes : List ℕ)
    (there : SocketAddr) (went : Option SocketAddr) → went ≡ Some there → peers_of w1 ≡ peers_of w0 → me_of w1 ≡ me_of w0 →
    last_of w1 ≡ last_of w0 → Adds t0 t1 (Went there bytes ∷ []) → GoesTo (peers_of w0) (me_of w0) to there →
    (me_of w0 ≢ 255 → to ≡ 255 → went ≡ last_of w0) → Adds (WentOver t0 w0) (WentOver t1 w1) (Handed to bytes ∷ [])
over_sends t0 t1 w0 w1 to bytes there went is p m l a g answers =
    over_more t0 t1 w0 w1 (Sends to bytes there) p m l a g (λ member. (λ client. sym (answers member client) ∙ is, tt))

-- there is no address for it
pub over_loses : {S C : Type 0} (t0 t1 : List SocketEvent → Type 0) (w0 w1 : UdpWire S C) (to : ℕ) (bytes : List ℕ) →
    (went : Option SocketAddr) → went ≡ None → IsStill t0 t1 w0 w1 → HasNoAddress (peers_of w0) (me_of w0) to →
    (me_of w0 ≢ 255 → to ≡ 255 → went ≡ last_of w0) → Adds (WentOver t0 w0) (WentOver t1 w1) (Handed to bytes ∷ [])
over_loses t0 t1 w0 w1 to bytes went is a none answers =
    over_more t0 t1 w0 w1 (Loses to bytes) a.peers_is a.me_is a.last_is (adds_none t0 t1 a.quiet) none
    (λ member. (λ client. sym (answers member client) ∙ is, tt))
