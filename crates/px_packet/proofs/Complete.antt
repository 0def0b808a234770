-- Every piece of a datagram, in any order.
use Rattle.std.proofs.Common.{◌≡◌, ◌∙◌, ℕ, zero, suc, ◌+◌, ◌-◌, ◌*◌, ◌/◌, ◌<◌, ◌≤◌, Bool, true, false, List, [], ◌∷◌, ◌++◌, length, drop, set, get_or, ap, sym, refl, arith, subst, inl, inr, Some, None}
use Rattle.std.specs.Prelude.{slice_get, slice_set, slice_index_or, nat_lt, not, ◌==◌, ◌&&◌, ◌||◌, if◌then◌else◌}
use Rattle.std.specs.List.{find, remove}
use Rattle.std.proofs.lemmas.Bool.{cases_eq, lt-ltb, le-ltb, eq-eqb, ne_eqb, and_from, or_left, not-false}
use Rattle.std.proofs.lemmas.List.{length-set, length_push, get_or-set_same, get_or-set_other, get_or-replicate, length-replicate}
use Rattle.std.proofs.lemmas.List.Folds.{find_at, find-set}
use Rattle.std.proofs.lemmas.List.Sums.{passes_at_first}
use Rattle.px_packet.specs.Pieces.{Piece, piece_of, part_of, count_of}
use Rattle.px_packet.specs.Held.{is_present}
use Rattle.px_packet.specs.Reassembling.{Unfinished, empty_of, is_of, lacks, with_part, with_parts, is_whole, joined, place_of, filled_at, given_at, after_at, first_of, given_first, after_first, latest, unfinished_after, finished_by}
use Rattle.px_packet.specs.PieceLaws.{is_among, HasCome, unfinished_with, Pending, PiecesAreJoined}
use Rattle.px_packet.proofs.Joining.{cut_is_joined, all_present, one_lacks, some_part}

inside_count : (m : List ℕ) (k : ℕ) → 1160 * k < length m → k < count_of (length m)
inside_count m k h = omega (arith, h)

count_inside : (m : List ℕ) (k : ℕ) → k < count_of (length m) → 1160 * k < length m
count_inside m k h = let l : k < (length m + 1159) / 1160 = h in omega (arith, l)

-- ---- one part more

if_true : (b : Bool) (x y : List ℕ) → b ≡ true → (if b then x else y) ≡ x
if_true true x y e = refl
if_true false x y e = absurd cc

if_false : (b : Bool) (x y : List ℕ) → b ≡ false → (if b then x else y) ≡ y
if_false true x y e = absurd cc
if_false false x y e = refl

-- the parts of the numbers so far, and of one more
among_other : (j k : ℕ) (ks : List ℕ) → (j ≡ k → ⊥) → is_among j (k ∷ ks) ≡ is_among j ks
among_other j k ks d = ap (λ b. b || is_among j ks) (ne_eqb k j (λ e. d (sym e)))

among_first : (j k : ℕ) (ks : List ℕ) → j ≡ k → is_among j (k ∷ ks) ≡ true
among_first j k ks e = or_left (k == j) (is_among j ks) (eq-eqb k j (sym e))

came_at : (m ks : List ℕ) (k now : ℕ) (u : Unfinished) → 1160 * k < length m → HasCome m ks u → (b : Bool) →
    lacks u k ≡ b → HasCome m (k ∷ ks)
    (if b then with_parts u (slice_set u.parts k (part_of m k)) now else u)
came_at m ks k now u h has true e =
    let long : length (set u.parts k (part_of m k)) ≡ length u.parts = length-set u.parts k (part_of m k) in
    record {
      count_is = long ∙ has.count_is;
      each = λ j l. elim (cases_eq j k) [
        | inl s ↦ (let here : get_or (set u.parts k (part_of m k)) j [] ≡ part_of m k =
            ap (λ i. get_or (set u.parts k (part_of m k)) i []) s
            ∙ get_or-set_same u.parts k (part_of m k) [] (omega (arith, l, long, s)) in
            here ∙ ap (part_of m) (sym s) ∙ sym (if_true (is_among j (k ∷ ks)) (part_of m j) [] (among_first j k ks s)))
        | inr d ↦ get_or-set_other u.parts k j (part_of m k) [] d ∙ has.each j (omega (arith, l, long))
            ∙ ap (λ b. if b then part_of m j else []) (sym (among_other j k ks d))
      ];
    }
came_at m ks k now u h has false e =
    let inside : k < length u.parts = (let n : length u.parts ≡ count_of (length m) = has.count_is in
    omega (arith, n, inside_count m k h)) in
    let present : is_present (slice_index_or u.parts k []) ≡ true = held (nat_lt k (length u.parts))
    (is_present (slice_index_or u.parts k [])) (lt-ltb k (length u.parts) inside) e in
    let among : is_among k ks ≡ true = listed (is_among k ks) refl (ap is_present (sym (has.each k inside)) ∙ present) in
    record {
      count_is = has.count_is;
      each = λ j l. elim (cases_eq j k) [
        | inl s ↦ has.each j l ∙ if_true (is_among j ks) (part_of m j) [] (ap (λ i. is_among i ks) s ∙ among)
            ∙ sym (if_true (is_among j (k ∷ ks)) (part_of m j) [] (among_first j k ks s))
        | inr d ↦ has.each j l ∙ ap (λ b. if b then part_of m j else []) (sym (among_other j k ks d))
      ];
    }
  where
    held : (a b : Bool) → a ≡ true → (a && not b) ≡ false → b ≡ true
    held true b p q = not-false b q
    held false b p q = absurd cc

    listed : (b : Bool) → is_among k ks ≡ b → is_present (if b then part_of m k else []) ≡ true → is_among k ks ≡ true
    listed true p q = p
    listed false p q = absurd cc

came : (name : ℕ) (m ks : List ℕ) (k now : ℕ) (u : Unfinished) → 1160 * k < length m → HasCome m ks u →
    HasCome m (k ∷ ks) (with_part u (piece_of name m k) now)
came name m ks k now u h has = came_at m ks k now u h has (lacks u k) refl

none_came : (name : ℕ) (m : List ℕ) (k now : ℕ) → HasCome m [] (empty_of (piece_of name m k) now)
none_came name m k now =
    let n = length-replicate {A = List ℕ} (count_of (length m)) [] in
    record {
      count_is = n;
      each = λ j l. get_or-replicate (count_of (length m)) j [] [] (omega (arith, l, n));
    }

-- ---- whether all parts have come

whole_if : (m ks : List ℕ) (u : Unfinished) → HasCome m ks u →
    ((j : ℕ) → 1160 * j < length m → is_among j ks ≡ true) → (is_whole u ≡ true) × (joined u.parts ≡ m)
whole_if m ks u has all =
    let each : (j : ℕ) → j < length u.parts → slice_index_or u.parts j [] ≡ part_of m j =
    λ j l. has.each j l ∙ if_true (is_among j ks) (part_of m j) []
    (all j (count_inside m j (let n : length u.parts ≡ count_of (length m) = has.count_is in omega (arith, l, n)))) in (
      all_present u.parts (λ j l. ap is_present (each j l)
          ∙ some_part m j (count_inside m j (let n : length u.parts ≡ count_of (length m) = has.count_is in omega (arith, l, n)))),
      cut_is_joined m u.parts has.count_is each,
    )

not_whole : (m ks : List ℕ) (u : Unfinished) (j : ℕ) → HasCome m ks u → 1160 * j < length m → is_among j ks ≡ false →
    is_whole u ≡ false
not_whole m ks u j has h e =
    let n : length u.parts ≡ count_of (length m) = has.count_is in
    let inside : j < length u.parts = omega (arith, n, inside_count m j h) in
    one_lacks u.parts j inside (ap is_present (has.each j inside ∙ if_false (is_among j ks) (part_of m j) [] e))

given_of : (u : Unfinished) (m : List ℕ) → is_whole u ≡ true → joined u.parts ≡ m →
    (if is_whole u then Some (joined u.parts) else None) ≡ Some m
given_of u m h e = at (is_whole u) h
  where
    at : (b : Bool) → b ≡ true → (if b then Some (joined u.parts) else None) ≡ Some m
    at true p = ap Some e
    at false p = absurd cc

none_of : (u : Unfinished) → is_whole u ≡ false → (if is_whole u then Some (joined u.parts) else None) ≡ None
none_of u h = at (is_whole u) h
  where
    at : (b : Bool) → b ≡ false → (if b then Some (joined u.parts) else None) ≡ None
    at true p = absurd cc
    at false p = refl

-- ---- places

none_past : (us : List Unfinished) (i : ℕ) → slice_get us i ≡ None → length us ≤ i
none_past [] i e = omega arith
none_past (u ∷ us) zero e = absurd cc
none_past (u ∷ us) (suc i) e = omega (arith, none_past us i e)

some_there : (us : List Unfinished) (i : ℕ) (u d : Unfinished) → slice_get us i ≡ Some u →
    (i < length us) × (slice_index_or us i d ≡ u)
some_there [] i u d e = absurd cc
some_there (x ∷ us) zero u d e = (omega arith, cc)
some_there (x ∷ us) (suc i) u d e = let r = some_there us i u d e in (omega (arith, r.0), r.1)

past_first : (p : Unfinished → Bool) (x v : Unfinished) (us : List Unfinished) →
    (find p us ≡ None → find p (us ++ v ∷ []) ≡ Some v) → (b : Bool) → (if b then Some x else find p us) ≡ None →
    (if b then Some x else find p (us ++ v ∷ [])) ≡ Some v
past_first p x v us next true e = absurd cc
past_first p x v us next false e = next e

find_last : (p : Unfinished → Bool) (n : ℕ) (us : List Unfinished) (v : Unfinished) → find p us ≡ None → p v ≡ true →
    n ≤ length us → find p (drop n (us ++ v ∷ [])) ≡ Some v
find_last p zero [] v e h l = here (p v) h
  where
    here : (b : Bool) → b ≡ true → (if b then Some v else None) ≡ Some v
    here true q = refl
    here false q = absurd cc
find_last p zero (x ∷ us) v e h l =
    past_first p x v us (λ q. find_last p zero us v q h (omega arith)) (p x) e
find_last p (suc n) [] v e h l = absurd (omega (arith, l))
find_last p (suc n) (x ∷ us) v e h l = find_last p n us v (past (p x) e) h (omega (arith, l))
  where
    past : (b : Bool) → (if b then Some x else find p us) ≡ None → find p us ≡ None
    past true q = absurd cc
    past false q = q

-- a piece is one of what has its part
still_of : (p : Piece) (u : Unfinished) (now : ℕ) → is_of p u ≡ true → is_of p (with_part u p now) ≡ true
still_of p u now h = at (lacks u p.index)
  where
    at : (b : Bool) →
        is_of p (if b then with_parts u (slice_set u.parts p.index p.part) now else u) ≡ true
    at true = h
    at false = h

of_itself : (p : Piece) (now : ℕ) → is_of p (empty_of p now) ≡ true
of_itself p now = and_from (p.name == p.name) (p.size == p.size) (eq-eqb p.name p.name refl) (eq-eqb p.size p.size refl)

-- ---- a piece comes

chosen : {X : Type 0} (b : Bool) (x y : X) → b ≡ true → (if b then x else y) ≡ x
chosen true x y e = refl
chosen false x y e = absurd cc

passed_over : {X : Type 0} (b : Bool) (x y : X) → b ≡ false → (if b then x else y) ≡ y
passed_over true x y e = absurd cc
passed_over false x y e = refl

-- of a datagram of which nothing has come
first : (us : List Unfinished) (name : ℕ) (m : List ℕ) (k now : ℕ) → 1160 * k < length m → Pending us name m [] →
    (((j : ℕ) → 1160 * j < length m → is_among j (k ∷ []) ≡ true) → finished_by us (piece_of name m k) now ≡ Some m) ×
    ((j : ℕ) → 1160 * j < length m → is_among j (k ∷ []) ≡ false →
    (finished_by us (piece_of name m k) now ≡ None) ×
    Pending (unfinished_after us (piece_of name m k) now) name m (k ∷ []))
first us name m k now h pend =
    let p = piece_of name m k in
    let v = first_of p now in
    let past : length us ≤ place_of us p = none_past us (place_of us p) (sym (find_at (is_of p) us) ∙ pend) in
    let test : nat_lt (place_of us p) (length us) ≡ false = le-ltb (place_of us p) (length us) past in
    let given : finished_by us p now ≡ given_first p now =
    passed_over (nat_lt (place_of us p) (length us)) (given_at us (place_of us p) p now) (given_first p now) test in
    let after : unfinished_after us p now ≡ after_first us p now =
    passed_over (nat_lt (place_of us p) (length us)) (after_at us (place_of us p) p now) (after_first us p now) test in
    let has : HasCome m (k ∷ []) v = came name m [] k now (empty_of p now) h (none_came name m k now) in (
      λ all. let w = whole_if m (k ∷ []) v has all in given ∙ given_of v m w.0 w.1,
      λ j i e.
          let w : is_whole v ≡ false = not_whole m (k ∷ []) v j has i e in
          let kept : unfinished_after us p now ≡ latest (us ++ v ∷ []) =
          after ∙ passed_over (is_whole v) us (latest (us ++ v ∷ [])) w in
          let found : find (is_of p) (latest (us ++ v ∷ [])) ≡ Some v =
          find_last (is_of p) (length (us ++ v ∷ []) - 8) us v pend (still_of p (empty_of p now) now (of_itself p now))
          (omega (arith, length_push us v)) in
          (given ∙ none_of v w, (v, ap (find (is_of p)) kept ∙ found, has)),
    )

-- of a datagram of which some pieces have come
next : (us : List Unfinished) (name : ℕ) (m ks : List ℕ) (k now : ℕ) (u : Unfinished) → 1160 * k < length m →
    unfinished_with us name (length m) ≡ Some u → HasCome m ks u →
    (((j : ℕ) → 1160 * j < length m → is_among j (k ∷ ks) ≡ true) → finished_by us (piece_of name m k) now ≡ Some m) ×
    ((j : ℕ) → 1160 * j < length m → is_among j (k ∷ ks) ≡ false →
    (finished_by us (piece_of name m k) now ≡ None) ×
    Pending (unfinished_after us (piece_of name m k) now) name m (k ∷ ks))
next us name m ks k now u h found had =
    let p = piece_of name m k in
    let i = place_of us p in
    let d = empty_of p now in
    let there = some_there us i u d (sym (find_at (is_of p) us) ∙ found) in
    let test : nat_lt i (length us) ≡ true = lt-ltb i (length us) there.0 in
    let v = filled_at us i p now in
    let v_is : v ≡ with_part u p now = ap (λ (x : Unfinished). with_part x p now) there.1 in
    let P : Unfinished → Type 0 = HasCome m (k ∷ ks) in
    let has : HasCome m (k ∷ ks) v = subst P (sym v_is) (came name m ks k now u h had) in
    let given : finished_by us p now ≡ given_at us i p now =
    chosen (nat_lt i (length us)) (given_at us i p now) (given_first p now) test in
    let after : unfinished_after us p now ≡ after_at us i p now =
    chosen (nat_lt i (length us)) (after_at us i p now) (after_first us p now) test in
    let of_v : is_of p v ≡ true =
    still_of p (slice_index_or us i d) now (passes_at_first (is_of p) us d there.0) in (
      λ all. let w = whole_if m (k ∷ ks) v has all in given ∙ given_of v m w.0 w.1,
      λ j l e.
          let w : is_whole v ≡ false = not_whole m (k ∷ ks) v j has l e in
          let kept : unfinished_after us p now ≡ slice_set us i v =
          after ∙ passed_over (is_whole v) (remove us i) (slice_set us i v) w in
          (given ∙ none_of v w, (v, ap (find (is_of p)) kept ∙ find-set (is_of p) us i v refl there.0 of_v, has)),
    )

pub pieces_are_joined : PiecesAreJoined
pieces_are_joined us name m [] k now cut h pend = first us name m k now h pend
pieces_are_joined us name m (k0 ∷ ks) k now cut h pend = next us name m (k0 ∷ ks) k now pend.0 h pend.1 pend.2
