-- What is reassembled was cut.
use Rattle.std.proofs.Common.{◌≡◌, ◌∙◌, ℕ, suc, ◌<◌, Bool, true, false, List, [], ◌∷◌, ◌++◌, length, take, drop, set, get_or, replicate, ap, sym, refl, arith, inl, inr, Some, None}
use Rattle.std.specs.Prelude.{IfSome, slice_get, slice_set, slice_index_or, nat_lt, ◌==◌, if◌then◌else◌}
use Rattle.std.specs.List.{All, remove}
use Rattle.std.proofs.lemmas.Bool.{cases_eq, ltb-true, eqb-true, and_parts, both_ways}
use Rattle.std.proofs.lemmas.List.{length-set, get_or-set_same, get_or-set_other, get_or-replicate, length-replicate}
use Rattle.std.proofs.lemmas.List.Sums.{passes_at_first}
use Rattle.std.proofs.lemmas.List.Elements.{All-set, All-get_or, All-append, All-take, All-drop, All-push, All-cons, All-head, All-tail, All-weaker}
use Rattle.px_packet.specs.Pieces.{Piece, part_of, count_of}
use Rattle.px_packet.specs.Held.{is_present}
use Rattle.px_packet.specs.Reassembling.{Unfinished, empty_of, is_of, lacks, with_part, with_parts, is_whole, joined, place_of, filled_at, given_at, after_at, first_of, given_first, after_first, latest, is_due, reported, due_after}
use Rattle.px_packet.specs.PieceLaws.{IsPieceOf, IsPartOf, ArePartsOf, JoinedWasCut, ReportKeeps, CutIsPiece, LogGrows}
use Rattle.px_packet.proofs.Sending.{still_there}
use Rattle.px_packet.proofs.Joining.{cut_is_joined, present_at}

-- one datagram has a name
same_cut : (log : List (List ℕ)) (n : ℕ) (m d : List ℕ) → slice_get log n ≡ Some m → slice_get log n ≡ Some d → m ≡ d
same_cut log n m d e f = let g : Some m ≡ Some d = sym e ∙ f in cc

-- nothing of the datagram of a piece has come
pub empty_part : (log : List (List ℕ)) (p : Piece) (now : ℕ) → IsPieceOf log p → IsPartOf log (empty_of p now)
empty_part log p now of =
    let m = of.0 in
    let size : p.size ≡ length m = ap (λ (q : Piece). q.size) of.4 in
    let count : length (replicate {A = List ℕ} (count_of p.size) []) ≡ count_of p.size =
    length-replicate (count_of p.size) [] in
    record {
      whole = m;
      cut = of.1;
      size_is = size;
      count_is = count ∙ ap count_of size;
      each = λ k l h.
          let none : slice_index_or (replicate {A = List ℕ} (count_of p.size) []) k [] ≡ [] =
          get_or-replicate (count_of p.size) k [] [] (omega (arith, l, count)) in
          absurd (both_ways (is_present []) refl (ap is_present (sym none) ∙ h));
    }

-- with a part
set_part : (log : List (List ℕ)) (u : Unfinished) (p : Piece) (now : ℕ) → u.name ≡ p.name → IsPieceOf log p →
    IsPartOf log u → (b : Bool) →
    IsPartOf log (if b then with_parts u (slice_set u.parts p.index p.part) now else u)
set_part log u p now name of is false = is
set_part log u p now name of is true =
    let m = is.whole in
    let same : of.0 ≡ m = same_cut log u.name of.0 m (ap (slice_get log) name ∙ of.1) is.cut in
    let part : p.part ≡ part_of m p.index =
    ap (λ (q : Piece). q.part) of.4 ∙ ap (λ x. part_of x p.index) same in
    let long : length (set u.parts p.index p.part) ≡ length u.parts = length-set u.parts p.index p.part in
    record {
      whole = m;
      cut = is.cut;
      size_is = is.size_is;
      count_is = long ∙ is.count_is;
      each = λ k l h. elim (cases_eq k p.index) [
        | inl e ↦ (let here : get_or (set u.parts p.index p.part) k [] ≡ p.part =
            ap (λ j. get_or (set u.parts p.index p.part) j []) e
            ∙ get_or-set_same u.parts p.index p.part [] (omega (arith, l, long, e)) in
            here ∙ part ∙ ap (part_of m) (sym e))
        | inr d ↦ (let there : get_or (set u.parts p.index p.part) k [] ≡ get_or u.parts k [] =
            get_or-set_other u.parts p.index k p.part [] d in
            there ∙ is.each k (omega (arith, l, long)) (ap is_present (sym there) ∙ h))
      ];
    }

pub filled_part : (log : List (List ℕ)) (u : Unfinished) (p : Piece) (now : ℕ) → u.name ≡ p.name → IsPieceOf log p →
    IsPartOf log u → IsPartOf log (with_part u p now)
filled_part log u p now name of is = set_part log u p now name of is (lacks u p.index)

-- the name stays
pub name_stays : (u : Unfinished) (p : Piece) (now : ℕ) → (with_part u p now).name ≡ u.name
name_stays u p now = at (lacks u p.index)
  where
    at : (b : Bool) →
        (if b then with_parts u (slice_set u.parts p.index p.part) now else u).name ≡ u.name
    at true = refl
    at false = refl

-- a datagram of which all parts have come is the one that was cut
whole_is : (log : List (List ℕ)) (u : Unfinished) → IsPartOf log u → is_whole u ≡ true →
    slice_get log u.name ≡ Some (joined u.parts)
whole_is log u is h =
    is.cut ∙ ap Some (sym (cut_is_joined is.whole u.parts is.count_is (λ k l. is.each k l (present_at u.parts k h l))))

given_if : (log : List (List ℕ)) (u : Unfinished) (name : ℕ) → u.name ≡ name → IsPartOf log u → (b : Bool) →
    is_whole u ≡ b → IfSome (if b then Some (joined u.parts) else None) (λ m. slice_get log name ≡ Some m)
given_if log u name e is true h = ap (slice_get log) (sym e) ∙ whole_is log u is h
given_if log u name e is false h = tt

either : (log : List (List ℕ)) (b : Bool) (us vs : List Unfinished) → ArePartsOf log us → ArePartsOf log vs →
    ArePartsOf log (if b then us else vs)
either log true us vs h k = h
either log false us vs h k = k

-- a datagram that is there
at_place : (log : List (List ℕ)) (us : List Unfinished) (p : Piece) (now i : ℕ) → i < length us →
    is_of p (slice_index_or us i (empty_of p now)) ≡ true → ArePartsOf log us → IsPieceOf log p →
    ArePartsOf log (after_at us i p now) × IfSome (given_at us i p now) (λ m. slice_get log p.name ≡ Some m)
at_place log us p now i l h all of =
    let u = slice_index_or us i (empty_of p now) in
    let P : Unfinished → Type 0 = IsPartOf log in
    let name : u.name ≡ p.name = eqb-true u.name p.name (and_parts (u.name == p.name) (u.size == p.size) h).0 in
    let is : IsPartOf log u = All-get_or P us i (empty_of p now) l all in
    let full : IsPartOf log (filled_at us i p now) = filled_part log u p now name of is in (
      either log (is_whole (filled_at us i p now)) (remove us i) (slice_set us i (filled_at us i p now))
          (All-append P (take i us) (drop (suc i) us) (All-take P i us all) (All-drop P (suc i) us all))
          (All-set P us i (filled_at us i p now) full all),
      given_if log (filled_at us i p now) p.name (name_stays u p now ∙ name) full (is_whole (filled_at us i p now)) refl,
    )

-- and one that isn't
at_first : (log : List (List ℕ)) (us : List Unfinished) (p : Piece) (now : ℕ) → ArePartsOf log us → IsPieceOf log p →
    ArePartsOf log (after_first us p now) × IfSome (given_first p now) (λ m. slice_get log p.name ≡ Some m)
at_first log us p now all of =
    let P : Unfinished → Type 0 = IsPartOf log in
    let u = first_of p now in
    let full : IsPartOf log u = filled_part log (empty_of p now) p now refl of (empty_part log p now of) in (
      either log (is_whole u) us (latest (us ++ u ∷ [])) all (All-drop P _ (us ++ u ∷ []) (All-push P us u all full)),
      given_if log u p.name (name_stays (empty_of p now) p now) full (is_whole u) refl,
    )

by_place : (log : List (List ℕ)) (us : List Unfinished) (p : Piece) (now : ℕ) (b : Bool) →
    nat_lt (place_of us p) (length us) ≡ b → ArePartsOf log us → IsPieceOf log p →
    ArePartsOf log (if b then after_at us (place_of us p) p now else after_first us p now) ×
    IfSome (if b then given_at us (place_of us p) p now else given_first p now) (λ m. slice_get log p.name ≡ Some m)
by_place log us p now true e all of =
    let l : place_of us p < length us = ltb-true (place_of us p) (length us) e in
    at_place log us p now (place_of us p) l (passes_at_first (is_of p) us (empty_of p now) l) all of
by_place log us p now false e all of = at_first log us p now all of

pub joined_was_cut : JoinedWasCut
joined_was_cut log us p now all of = by_place log us p now (nat_lt (place_of us p) (length us)) refl all of

-- ---- reports

report_part : (log : List (List ℕ)) (now : ℕ) (u : Unfinished) → IsPartOf log u → IsPartOf log (reported now u)
report_part log now u is =
    record { whole = is.whole; cut = is.cut; size_is = is.size_is; count_is = is.count_is; each = is.each }

pub report_keeps : ReportKeeps
report_keeps log [] now all = all
report_keeps log (u ∷ us) now all =
    let P : Unfinished → Type 0 = IsPartOf log in
    let head : P u = All-head P u us all in
    let tail : All P us = All-tail P u us all in
    either log (is_due now u) (reported now u ∷ us) (u ∷ due_after now us)
    (All-cons P (reported now u) us (report_part log now u head) tail)
    (All-cons P u (due_after now us) head (report_keeps log us now tail))

-- ---- what was cut

pub cut_is_piece : CutIsPiece
cut_is_piece log name m k named cut inside = (m, named, cut, inside, refl)

pub log_grows : LogGrows
log_grows log m us p = (
  λ all. All-weaker (IsPartOf log) (IsPartOf (log ++ m ∷ [])) (λ u is.
      record {
        whole = is.whole;
        cut = still_there log m is.whole u.name is.cut;
        size_is = is.size_is;
        count_is = is.count_is;
        each = is.each;
      }) us all,
  λ of. (of.0, still_there log m of.0 p.name of.1, of.2, of.3, of.4),
)
