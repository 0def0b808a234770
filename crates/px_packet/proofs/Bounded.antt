-- How much memory unfinished datagrams take.
use Rattle.std.proofs.Common.{◌≡◌, ◌∙◌, ℕ, zero, suc, ◌-◌, ◌≤◌, Bool, true, false, List, [], ◌∷◌, ◌++◌, length, take, drop, set, replicate, refl, arith}
use Rattle.std.specs.Prelude.{nat_le, nat_lt, ◌&&◌, slice_set, slice_index_or, if◌then◌else◌}
use Rattle.std.specs.List.{list_all, remove}
use Rattle.std.proofs.lemmas.Bool.{and_parts, and_from, le-leb, leb-true}
use Rattle.std.proofs.lemmas.List.{length-set, length-append, length-drop, length-take, length-replicate}
use Rattle.std.proofs.lemmas.List.Folds.{list_all-append}
use Rattle.px_packet.specs.Pieces.{Piece, IsFormed, count_of}
use Rattle.px_packet.specs.Reassembling.{Unfinished, empty_of, lacks, with_part, with_parts, is_whole, place_of, filled_at, after_at, first_of, after_first, latest}
use Rattle.px_packet.specs.PieceLaws.{is_bounded, StaysBounded}

abbrev is_short : List ℕ → Bool
is_short part = nat_le (length part) 1160

abbrev is_small : Unfinished → Bool
is_small u = nat_le (length u.parts) 29 && list_all is_short u.parts

-- ---- elements that pass a test

all_set : {X : Type 0} (p : X → Bool) (xs : List X) (i : ℕ) (x : X) → list_all p xs ≡ true → p x ≡ true →
    list_all p (set xs i x) ≡ true
all_set p [] i x h e = refl
all_set p (y ∷ ys) zero x h e = and_from (p x) (list_all p ys) e (and_parts (p y) (list_all p ys) h).1
all_set p (y ∷ ys) (suc i) x h e =
    let parts = and_parts (p y) (list_all p ys) h in
    and_from (p y) (list_all p (set ys i x)) parts.0 (all_set p ys i x parts.1 e)

all_drop : {X : Type 0} (p : X → Bool) (n : ℕ) (xs : List X) → list_all p xs ≡ true → list_all p (drop n xs) ≡ true
all_drop p zero xs h = h
all_drop p (suc n) [] h = refl
all_drop p (suc n) (x ∷ xs) h = all_drop p n xs (and_parts (p x) (list_all p xs) h).1

all_take : {X : Type 0} (p : X → Bool) (n : ℕ) (xs : List X) → list_all p xs ≡ true → list_all p (take n xs) ≡ true
all_take p zero xs h = refl
all_take p (suc n) [] h = refl
all_take p (suc n) (x ∷ xs) h =
    let parts = and_parts (p x) (list_all p xs) h in
    and_from (p x) (list_all p (take n xs)) parts.0 (all_take p n xs parts.1)

all_append : {X : Type 0} (p : X → Bool) (xs ys : List X) → list_all p xs ≡ true → list_all p ys ≡ true →
    list_all p (xs ++ ys) ≡ true
all_append p xs ys h k = list_all-append p xs ys ∙ and_from (list_all p xs) (list_all p ys) h k

all_at : {X : Type 0} (p : X → Bool) (xs : List X) (i : ℕ) (d : X) → list_all p xs ≡ true → p d ≡ true →
    p (slice_index_or xs i d) ≡ true
all_at p [] i d h e = e
all_at p (x ∷ xs) zero d h e = (and_parts (p x) (list_all p xs) h).0
all_at p (x ∷ xs) (suc i) d h e = all_at p xs i d (and_parts (p x) (list_all p xs) h).1 e

all_replicate : {X : Type 0} (p : X → Bool) (n : ℕ) (x : X) → p x ≡ true → list_all p (replicate n x) ≡ true
all_replicate p zero x e = refl
all_replicate p (suc n) x e = and_from (p x) (list_all p (replicate n x)) e (all_replicate p n x e)

-- ---- one datagram

small_empty : (p : Piece) (now : ℕ) → IsFormed p → is_small (empty_of p now) ≡ true
small_empty p now f =
    let n = length-replicate {A = List ℕ} (count_of p.size) [] in
    and_from _ _ (le-leb (length (replicate {A = List ℕ} (count_of p.size) [])) 29 (omega (arith, n, f.short)))
    (all_replicate is_short (count_of p.size) [] refl)

small_with : (u : Unfinished) (p : Piece) (now : ℕ) → IsFormed p → is_small u ≡ true → is_small (with_part u p now) ≡ true
small_with u p now f h = at (lacks u p.index)
  where
    at : (b : Bool) → is_small (if b then with_parts u (slice_set u.parts p.index p.part) now
        else u) ≡ true
    at true =
        let parts = and_parts (nat_le (length u.parts) 29) (list_all is_short u.parts) h in
        let few : length u.parts ≤ 29 = leb-true (length u.parts) 29 parts.0 in
        and_from _ _ (le-leb (length (set u.parts p.index p.part)) 29 (omega (arith, few, length-set u.parts p.index p.part)))
        (all_set is_short u.parts p.index p.part parts.1 (le-leb (length p.part) 1160 (omega (arith, f.long))))
    at false = h

-- ---- all of them

bounded : (us : List Unfinished) → length us ≤ 8 → list_all is_small us ≡ true → is_bounded us ≡ true
bounded us n h = and_from _ _ (le-leb (length us) 8 n) h

either : (b : Bool) (us vs : List Unfinished) → is_bounded us ≡ true → is_bounded vs ≡ true →
    is_bounded (if b then us else vs) ≡ true
either true us vs h k = h
either false us vs h k = k

at_place : (us : List Unfinished) (p : Piece) (now i : ℕ) → IsFormed p → is_bounded us ≡ true →
    is_bounded (after_at us i p now) ≡ true
at_place us p now i f h =
    let parts = and_parts (nat_le (length us) 8) (list_all is_small us) h in
    let few : length us ≤ 8 = leb-true (length us) 8 parts.0 in
    let u = filled_at us i p now in
    let small : is_small u ≡ true =
    small_with (slice_index_or us i (empty_of p now)) p now f
    (all_at is_small us i (empty_of p now) parts.1 (small_empty p now f)) in
    either (is_whole u) (remove us i) (slice_set us i u)
    (bounded (remove us i) (omega (arith, few, length-append (take i us) (drop (suc i) us), length-take i us, length-drop (suc i) us))
    (all_append is_small (take i us) (drop (suc i) us) (all_take is_small i us parts.1) (all_drop is_small (suc i) us parts.1)))
    (bounded (slice_set us i u) (omega (arith, few, length-set us i u)) (all_set is_small us i u parts.1 small))

at_first : (us : List Unfinished) (p : Piece) (now : ℕ) → IsFormed p → is_bounded us ≡ true →
    is_bounded (after_first us p now) ≡ true
at_first us p now f h =
    let parts = and_parts (nat_le (length us) 8) (list_all is_small us) h in
    let u = first_of p now in
    let small : is_small u ≡ true = small_with (empty_of p now) p now f (small_empty p now f) in
    let all : list_all is_small (us ++ u ∷ []) ≡ true =
    all_append is_small us (u ∷ []) parts.1 (and_from (is_small u) true small refl) in
    either (is_whole u) us (latest (us ++ u ∷ [])) h
    (bounded (latest (us ++ u ∷ [])) (omega (arith, length-drop (length (us ++ u ∷ []) - 8) (us ++ u ∷ [])))
    (all_drop is_small (length (us ++ u ∷ []) - 8) (us ++ u ∷ []) all))

pub stays_bounded : StaysBounded
stays_bounded us p now f h =
    either (nat_lt (place_of us p) (length us)) (after_at us (place_of us p) p now) (after_first us p now)
    (at_place us p now (place_of us p) f h) (at_first us p now f h)
