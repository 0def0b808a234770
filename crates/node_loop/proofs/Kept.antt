-- What a resender keeps.
use Rattle.std.proofs.Common.{◌≡◌, ◌≢◌, ◌∙◌, ℕ, zero, suc, ◌+◌, ◌-◌, ◌<◌, ◌≤◌, List, [], ◌∷◌, ◌++◌, Option, Some, Result, Ok, Err, length, map, slice_get, refl, sym, ap, subst, inl, inr, arith}
use Rattle.std.proofs.lemmas.List.{length-map, length-append, map-append}
use Rattle.px_model.proofs.Basics.{among_left, among_right, among_cases, among_get}
use Rattle.px_model.specs.Law.{Among}
use Rattle.node_loop.specs.Again.{Addressed, AreAmong}
use Rattle.node_loop.specs.Keeping.{sent_in, votes_in}
use Rattle.node_loop.specs.Resends.{IsBounded}
use Rattle.node_loop.specs.Total.{total}
use Rattle.node_loop.specs.declared.resender.Resender.{Resender}
use Rattle.px_wire.specs.declared.head.Head.{Head}
use Rattle.node_loop.specs.Proposals.{proposal_of}
use Rattle.node_loop.specs.declared.state.Kept.{Kept}
use Rattle.node_loop.specs.declared.state.Latest.{Latest}
use Rattle.node_loop.specs.declared.state.Votes.{Votes}
use Rattle.node_loop.specs.declared.state.Sent.{Sent}
use Rattle.node_loop.proofs.Among.{among_all, among_is, among_then, among_front, among_sides, for_one, at_one, at_none}
use Rattle.node_loop.specs.Again.{HandsFor, HandsAt}
use Rattle.std.proofs.lemmas.Option.{slice_get_within}
use Rattle.px_transport.specs.Wires.{WireEvent, Handed, Adds, IsQuiet}
use Rattle.std.specs.Prelude.{OnOk, OnErr}

-- ---- two lists, each with one more

pub among_two : (xs ys vs ws : List Addressed) (d : Addressed) → AreAmong xs (vs ++ d ∷ []) → AreAmong ys (ws ++ d ∷ []) →
    AreAmong (xs ++ ys) ((vs ++ ws) ++ d ∷ [])
among_two xs ys vs ws d a b x h =
    elim (among_cases xs ys x h) [
      | inl here ↦ (elim (among_cases vs (d ∷ []) x (a x here)) [
        | inl v ↦ among_left (vs ++ ws) (d ∷ []) x (among_left vs ws x v)
        | inr e ↦ among_right (vs ++ ws) (d ∷ []) x e
      ])
      | inr there ↦ (elim (among_cases ws (d ∷ []) x (b x there)) [
        | inl w ↦ among_left (vs ++ ws) (d ∷ []) x (among_right vs ws x w)
        | inr e ↦ among_right (vs ++ ws) (d ∷ []) x e
      ])
    ]

-- ---- how much that is

same_bytes : (xs : List Sent) → map (λ (s : Sent). s.bytes.items) xs ≡ map (λ (d : Addressed). d.1) (map (λ (s : Sent). (s.to, s.bytes.items)) xs)
same_bytes [] = refl
same_bytes (s ∷ xs) = ap (λ (bs : List (List ℕ)). s.bytes.items ∷ bs) (same_bytes xs)

pub bounded_by : (l : Latest) (v : Votes) →
    (length (sent_in l) ≤ 30) × (length (votes_in v) ≤ 131072) × (total (map (λ (d : Addressed). d.1) (votes_in v)) ≤ 16777216)
bounded_by l v = (
  subst (λ (n : ℕ). n ≤ 30) (sym (length-map l.kept.items (λ (k : Kept). (k.to, k.bytes.items)))) l.few,
  subst (λ (n : ℕ). n ≤ 131072) (sym (length-map v.votes.items (λ (s : Sent). (s.to, s.bytes.items)))) v.few,
  subst (λ (n : ℕ). n ≤ 16777216) (v.sized ∙ ap total (same_bytes v.votes.items)) v.small,
)

pub bounded : (r : Resender) → IsBounded r
bounded r = bounded_by r.latest r.votes

pub total_more : (xs : List Sent) (v : Sent) →
    total (map (λ (s : Sent). s.bytes.items) (xs ++ v ∷ [])) ≡ total (map (λ (s : Sent). s.bytes.items) xs) + length v.bytes.items
total_more [] v = omega arith
total_more (s ∷ xs) v = omega (arith, total_more xs v)

-- ---- what is handed over

among_map : {V W : Type 0} (f : V → W) (xs : List V) (v : V) → Among xs v → Among (map f xs) (f v)
among_map f [] v h = absurd h
among_map f (x ∷ xs) v (inl e) = inl (ap f e)
among_map f (x ∷ xs) v (inr h) = inr (among_map f xs v h)

get_map : {V W : Type 0} (f : V → W) (xs : List V) (i : ℕ) (v : V) → slice_get xs i ≡ Some v → slice_get (map f xs) i ≡ Some (f v)
get_map f [] i v h = absurd (cc)
get_map f (x ∷ xs) zero v h = cc
get_map f (x ∷ xs) (suc i) v h = get_map f xs i v h

-- the one at this place, among others that may be long
pub only_at : {V : Type 0} (f : V → Addressed) (xs ys : List V) (i : ℕ) (v : V) (sent : List ℕ) (old new : List WireEvent → Type 0) →
    xs ≡ ys → slice_get xs i ≡ Some v → sent ≡ (f v).1 → Adds old new (Handed (f v).0 sent ∷ []) → HandsAt i (map f ys) old new
only_at {V} f xs ys i v sent old new e at is grows =
    let there : slice_get ys i ≡ Some v = subst (λ (zs : List V). slice_get zs i ≡ Some v) e at in
    at_one i (map f ys) (f v) old new (get_map f ys i v there)
    (subst (λ (b : List ℕ). Adds old new (Handed (f v).0 b ∷ [])) is grows)

-- none is there
pub none_at : {V : Type 0} (f : V → Addressed) (xs ys : List V) (i : ℕ) (old new : List WireEvent → Type 0) → xs ≡ ys → length xs ≤ i →
    IsQuiet old new → HandsAt i (map f ys) old new
none_at {V} f xs ys i old new e past same =
    at_none i (map f ys) old new same
    (λ d at short. (let w = slice_get_within (map f ys) i d at in omega (arith, w, past, ap length e, length-map ys f)))

-- the one that is there is too long
pub long_at : {V : Type 0} (f : V → Addressed) (xs ys : List V) (i : ℕ) (v : V) (old new : List WireEvent → Type 0) → xs ≡ ys →
    slice_get xs i ≡ Some v → 1200 < length (f v).1 → IsQuiet old new → HandsAt i (map f ys) old new
long_at {V} f xs ys i v old new e at long same =
    at_none i (map f ys) old new same
    (λ d is short. (let there : slice_get (map f ys) i ≡ Some (f v) = get_map f ys i v (subst (λ (zs : List V). slice_get zs i ≡ Some v) e at) in
    let one : Some d ≡ Some (f v) = sym is ∙ there in
    let same' : d ≡ f v = cc in
    omega (arith, long, short, ap (λ (x : Addressed). length x.1) same')))

-- the one at this place
pub hand_at : {V : Type 0} (m : ℕ) (f : V → Addressed) (xs ys : List V) (i : ℕ) (v : V) (sent : List ℕ) (old new : List WireEvent → Type 0) →
    (f v).0 ≡ m → xs ≡ ys → slice_get xs i ≡ Some v → sent ≡ (f v).1 → Adds old new (Handed (f v).0 sent ∷ []) → HandsFor m (map f ys) old new
hand_at {V} m f xs ys i v sent old new to e at is grows =
    for_one m (map f ys) (f v) old new to (among_map f ys v (subst (λ (zs : List V). Among zs v) e (among_get xs i v at)))
    (subst (λ (b : List ℕ). Adds old new (Handed (f v).0 b ∷ [])) is grows)

-- one more, if there is memory
pub pushed : {P E : Type 0} (r : Result P E) (old mid new : List Addressed) (d : Addressed) → AreAmong mid old →
    OnOk r (new ≡ mid ++ d ∷ []) → OnErr r (new ≡ mid) → AreAmong new (old ++ d ∷ [])
pushed (Ok p) old mid new d a k l =
    among_then new (mid ++ d ∷ []) (old ++ d ∷ []) (among_is new (mid ++ d ∷ []) k)
    (among_sides mid (d ∷ []) old (d ∷ []) a (among_all (d ∷ [])))
pushed (Err e) old mid new d a k l = among_front new old (d ∷ []) (among_then new mid old (among_is new mid l) a)

-- ---- what is let go

abbrev addressed : Sent → Addressed
addressed s = (s.to, s.bytes.items)

abbrev bytes_of : Sent → List ℕ
bytes_of s = s.bytes.items

pub back_among : (old new more : List Sent) → old ≡ new ++ more → AreAmong (map addressed new) (map addressed old)
back_among old new more e =
    subst (λ (xs : List Sent). AreAmong (map addressed new) (map addressed xs)) (sym e)
    (subst (λ (ds : List Addressed). AreAmong (map addressed new) ds) (sym (map-append addressed new more))
    (among_front (map addressed new) (map addressed new) (map addressed more) (among_all (map addressed new))))

pub back_size : (old new : List Sent) (v : Sent) (size : ℕ) → old ≡ new ++ v ∷ [] → size ≡ total (map bytes_of old) →
    size - length v.bytes.items ≡ total (map bytes_of new)
back_size old new v size e s =
    let is : size ≡ total (map bytes_of new) + length v.bytes.items = s ∙ (ap (λ (xs : List Sent). total (map bytes_of xs)) e ∙ total_more new v) in
    omega (arith, is)

pub popped_few : (old new more : List Sent) → old ≡ new ++ more → length old ≤ 131072 → length new ≤ 131072
popped_few old new more e h = omega (arith, h, ap length e, length-append new more)

pub pushed_few : (old new : List Sent) (v : Sent) → new ≡ old ++ v ∷ [] → length old < 131072 → length new ≤ 131072
pushed_few old new v e h = omega (arith, h, ap length e, length-append old (v ∷ []))

pub pushed_size : (old new : List Sent) (v : Sent) (size n : ℕ) → new ≡ old ++ v ∷ [] → size ≡ total (map bytes_of old) →
    n ≡ length v.bytes.items → size + n ≡ total (map bytes_of new)
pushed_size old new v size n e s l =
    let is : total (map bytes_of new) ≡ total (map bytes_of old) + length v.bytes.items =
    ap (λ (xs : List Sent). total (map bytes_of xs)) e ∙ total_more old v in
    omega (arith, is, s, l)

-- ---- what is kept in any case

pub ok_map : {P E : Type 0} {A B : Type 0} (r : Result P E) → (A → B) → OnOk r A → OnOk r B
ok_map (Ok p) f a = f a
ok_map (Err e) f a = tt

pub there : (new mid : List Addressed) (d : Addressed) → new ≡ mid ++ d ∷ [] → Among new d
there new mid d e = subst (λ (xs : List Addressed). Among xs d) (sym e) (among_right mid (d ∷ []) d (inl refl))

pub same_proposal : (h k : Head) (q : Option (ℕ × ℕ)) → Some h ≡ Some k → proposal_of k ≡ q → proposal_of h ≡ q
same_proposal h k q e p = let is : h ≡ k = cc in ap proposal_of is ∙ p

pub few_of : (l : Latest) → length (sent_in l) < 30 → length l.kept.items < 30
few_of l few = subst (λ (n : ℕ). n < 30) (length-map l.kept.items (λ (k : Kept). (k.to, k.bytes.items))) few
