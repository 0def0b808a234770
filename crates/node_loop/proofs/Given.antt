-- What goes over a wire, from one call to the next.
use Rattle.std.proofs.Common.{◌≡◌, ◌∙◌, ℕ, ◌+◌, List, [], ◌∷◌, ◌++◌, Option, None, Result, Ok, Err, option_map, take, refl, sym, subst, ap}
use Rattle.std.specs.Prelude.{OnOk}
use Rattle.px_records.specs.declared.records.Records.{Ghosts}
use Rattle.px_replica.specs.declared.fault.NodeFault.{NodeFault}
use Rattle.px_model.specs.Spelling.{Bytes}
use Rattle.node_loop.specs.Again.{Addressed, AreAmong, HandsAgain}
use Rattle.node_loop.specs.Resends.{kept_of, requests_of}
use Rattle.node_loop.specs.declared.resender.Resender.{Resender}
use Rattle.node_loop.proofs.Among.{hands_none, hands_then}
use Rattle.px_transport.proofs.Traffic as traffic
use Rattle.px_transport.specs.declared.wire.Wire as wires
use Rattle.std.proofs.lemmas.List.{map-append}
use Rattle.node_loop.proofs.Traffic.{among_chain}
use Rattle.px_transport.specs.Wires.{WireEvent, Handed, Adds, IsQuiet, Moves, gives, hands}
use Rattle.node_loop.specs.Turns.{LoopState, Same, Served, HeardTurn, Resent}
use Rattle.node_loop.proofs.Chains.{served_then, served_none, served_between, served_turn, between_resent}
use Rattle.px_replica.specs.declared.datagram.Datagram.{Datagram}
use Rattle.node_loop.specs.Turns.{handed_over}

-- what came is the front of the bytes
pub gave_on : (old mid : List WireEvent → Type 0) (bytes buffers : List ℕ) (len : Option ℕ) (came : Option (List ℕ)) →
    Adds old mid (gives (option_map (λ n. take n bytes) len)) → came ≡ option_map (λ n. take n buffers) len → buffers ≡ bytes →
    Adds old mid (gives came)
gave_on old mid bytes buffers len came g e r =
    let is : came ≡ option_map (λ n. take n bytes) len = e ∙ ap (λ (x : List ℕ). option_map (λ n. take n x) len) r in
    subst (λ (x : Option (List ℕ)). Adds old mid (gives x)) (sym is) g

-- where this came
pub gave_some : (old mid : List WireEvent → Type 0) (bytes buffers : List ℕ) (len : Option ℕ) (came is : Option (List ℕ)) →
    Adds old mid (gives (option_map (λ n. take n bytes) len)) → came ≡ option_map (λ n. take n buffers) len → buffers ≡ bytes →
    came ≡ is → Adds old mid (gives is)
gave_some old mid bytes buffers len came is g e r f =
    subst (λ (x : Option (List ℕ)). Adds old mid (gives x)) f (gave_on old mid bytes buffers len came g e r)

pub handed_on : (old new : List WireEvent → Type 0) (out lent : List Datagram) → lent ≡ out →
    Adds old new (hands (handed_over lent)) → Adds old new (hands (handed_over out))
handed_on old new out lent l g = subst (λ (x : List Datagram). Adds old new (hands (handed_over x))) l g

-- what is kept, once these were sent
pub kept_on : (old mid new : List (ℕ × Bytes)) (out lent : List Datagram) → mid ≡ old → lent ≡ out →
    AreAmong new (mid ++ handed_over lent) → AreAmong new (old ++ handed_over out)
kept_on old mid new out lent e l a =
    subst (λ (x : List (ℕ × Bytes)). AreAmong new (x ++ handed_over out)) e
    (subst (λ (x : List Datagram). AreAmong new (mid ++ handed_over x)) l a)

pub requests_on : (old pre mid new : List Bytes) (bytes : Bytes) → pre ≡ old → new ≡ mid → AreAmong mid (pre ++ bytes ∷ []) →
    AreAmong new (old ++ bytes ∷ [])
requests_on old pre mid new bytes e f a =
    subst (λ (x : List Bytes). AreAmong x (old ++ bytes ∷ [])) (sym f) (subst (λ (x : List Bytes). AreAmong mid (x ++ bytes ∷ [])) e a)

-- one more was sent
pub kept_more : (old mid new : List (ℕ × Bytes)) (out : List Datagram) (i : ℕ) (d : Datagram) (bytes : Bytes) →
    take (i + 1) out ≡ take i out ++ d ∷ [] → bytes ≡ d.bytes.items → AreAmong mid (old ++ handed_over (take i out)) →
    AreAmong new (mid ++ (d.to, bytes) ∷ []) → AreAmong new (old ++ handed_over (take (i + 1) out))
kept_more old mid new out i d bytes e is a b =
    subst (λ (ds : List Datagram). AreAmong new (old ++ handed_over ds)) (sym e)
    (subst (λ (hs : List (ℕ × Bytes)). AreAmong new (old ++ hs)) (sym (map-append (λ (x : Datagram). (x.to, x.bytes.items)) (take i out) (d ∷ [])))
    (subst (λ (x : Bytes). AreAmong new (old ++ (handed_over (take i out) ++ (d.to, x) ∷ []))) is
    (among_chain old mid new (handed_over (take i out)) ((d.to, bytes) ∷ []) a b)))

-- one more was handed over
pub handed_more : (old mid new : List WireEvent → Type 0) (out : List Datagram) (i : ℕ) (d : Datagram) (bytes : Bytes) →
    take (i + 1) out ≡ take i out ++ d ∷ [] → bytes ≡ d.bytes.items → Adds old mid (hands (handed_over (take i out))) →
    Adds mid new (Handed d.to bytes ∷ []) → Adds old new (hands (handed_over (take (i + 1) out)))
handed_more old mid new out i d bytes e is a b =
    let one : Adds mid new (hands (handed_over (d ∷ []))) = subst (λ (x : Bytes). Adds mid new (Handed d.to x ∷ [])) is b in
    let parts : handed_over (take i out ++ d ∷ []) ≡ handed_over (take i out) ++ handed_over (d ∷ []) =
    map-append (λ (x : Datagram). (x.to, x.bytes.items)) (take i out) (d ∷ []) in
    subst (λ (ds : List Datagram). Adds old new (hands (handed_over ds))) (sym e)
    (subst (λ (hs : List (ℕ × Bytes)). Adds old new (hands hs)) (sym parts)
    (traffic.hands_then old mid new (handed_over (take i out)) (handed_over (d ∷ [])) a one))

-- ---- what is handed over again, one call behind the other

pub record Again {W : Type 0} (H : wires.Ghosts W) (w v : W) (r s : Resender) : Type 0 where
  pub again : HandsAgain (kept_of r) (H.traffic w) (H.traffic v)
  pub kept : kept_of s ≡ kept_of r
  pub requests : requests_of s ≡ requests_of r
  pub same : H.identity v ≡ H.identity w

pub again_none : {W : Type 0} (H : wires.Ghosts W) (w : W) (r : Resender) → Again H w w r r
again_none H w r = record { again = hands_none (kept_of r) (H.traffic w) (H.traffic w) (λ es h. h); kept = refl; requests = refl; same = refl }

pub again_then : {W : Type 0} (H : wires.Ghosts W) (w v u : W) (r s t : Resender) → Again H w v r s → Again H v u s t → Again H w u r t
again_then H w v u r s t a b = record {
  again = hands_then (kept_of r) (H.traffic w) (H.traffic v) (H.traffic u) a.again
      (subst (λ (k : List Addressed). HandsAgain k (H.traffic v) (H.traffic u)) a.kept b.again);
  kept = b.kept ∙ a.kept;
  requests = b.requests ∙ a.requests;
  same = b.same ∙ a.same;
}

-- the wire and the resender are these
pub again_is : {W : Type 0} (H : wires.Ghosts W) (w v u : W) (r s t : Resender) → u ≡ v → t ≡ s → Again H w v r s → Again H w u r t
again_is {W} H w v u r s t e f a =
    subst (λ (x : W). Again H w x r t) (sym e) (subst (λ (x : Resender). Again H w v r x) (sym f) a)

-- ---- what is done, from whatever went over the wire before

-- turns, one run behind the other
pub over_then : {R : Type 0} {G : Ghosts R} (o m n : List WireEvent → Type 0) (x y z : List WireEvent → LoopState G)
    (a : Option NodeFault) → Moves o m (λ es es'. Served (x es) (y es') None) → Moves m n (λ es es'. Served (y es) (z es') a) →
    Moves o n (λ es es'. Served (x es) (z es') a)
over_then o m n x y z a f g es t =
    let r = f es t in
    let s = g r.0 r.1 in
    (s.0, s.1, served_then (x es) (y r.0) (z s.0) a r.2 s.2)

-- nothing is done
pub over_same : {R : Type 0} {G : Ghosts R} (o n : List WireEvent → Type 0) (x y : List WireEvent → LoopState G) → IsQuiet o n →
    ((es : List WireEvent) → Same (x es) (y es)) → Moves o n (λ es es'. Served (x es) (y es') None)
over_same o n x y q f es t = (es, q es t, served_none (x es) (y es) (f es))

-- something is handed over again
pub over_resent : {R : Type 0} {G : Ghosts R} (o n : List WireEvent → Type 0) (x y : List WireEvent → LoopState G)
    (kept : List (ℕ × Bytes)) → HandsAgain kept o n →
    ((es : List WireEvent) (again : List (ℕ × Bytes)) → AreAmong again kept → Resent (x es) (y (es ++ hands again))) →
    Moves o n (λ es es'. Resent (x es) (y es'))
over_resent o n x y kept (again, among, adds) f es t = (es ++ hands again, adds es t, f es again among)

pub over_between : {R : Type 0} {G : Ghosts R} (o n : List WireEvent → Type 0) (x y : List WireEvent → LoopState G) →
    Moves o n (λ es es'. Resent (x es) (y es')) → Moves o n (λ es es'. Served (x es) (y es') None)
over_between o n x y f es t =
    let r = f es t in (r.0, r.1, served_between (x es) (y r.0) (between_resent (x es) (y r.0) r.2))

pub over_turn : {R : Type 0} {G : Ghosts R} (o n : List WireEvent → Type 0) (x y : List WireEvent → LoopState G)
    (a : Option NodeFault) → Moves o n (λ es es'. HeardTurn (x es) (y es') a) → Moves o n (λ es es'. Served (x es) (y es') a)
over_turn o n x y a f es t = let r = f es t in (r.0, r.1, served_turn (x es) (y r.0) a r.2)

-- what holds where a call answered Ok
pub on_ok : {P E A B : Type 0} (r : Result P E) → (A → B) → OnOk r A → OnOk r B
on_ok (Ok p) f a = f a
on_ok (Err e) f a = tt
