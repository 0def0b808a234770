-- Names of datagrams that were cut.
use Rattle.std.proofs.Common.{◌≡◌, ◌∙◌, ℕ, zero, suc, ◌+◌, ◌<◌, Bool, true, false, List, [], ◌∷◌, ◌++◌, length, ap, refl, arith, Some}
use Rattle.std.specs.Prelude.{slice_get, slice_index_or, bytes_eq, if◌then◌else◌}
use Rattle.std.specs.List.{All}
use Rattle.std.proofs.lemmas.Bool.{ltb-true}
use Rattle.std.proofs.lemmas.List.{length_push}
use Rattle.std.proofs.lemmas.List.Sums.{passes_at_first}
use Rattle.std.proofs.lemmas.List.Elements.{All-get_or, All-drop, All-push, All-weaker}
use Rattle.std.proofs.lemmas.Slice.Eq.{bytes_eq-Decides}
use Rattle.px_packet.specs.Sending.{Sent, place_of, is_kept, latest}
use Rattle.px_packet.specs.PieceLaws.{Keeps, NamedOnce}

-- an element that is there is there in a longer list
pub still_there : (log : List (List ℕ)) (m x : List ℕ) (n : ℕ) → slice_get log n ≡ Some x → slice_get (log ++ m ∷ []) n ≡ Some x
still_there [] m x n h = absurd cc
still_there (y ∷ ys) m x zero h = h
still_there (y ∷ ys) m x (suc n) h = still_there ys m x n h

last_there : (log : List (List ℕ)) (m : List ℕ) (n : ℕ) → n ≡ length log → slice_get (log ++ m ∷ []) n ≡ Some m
last_there [] m zero e = refl
last_there [] m (suc n) e = absurd (omega (arith, e))
last_there (y ∷ ys) m zero e = absurd (omega (arith, e))
last_there (y ∷ ys) m (suc n) e = last_there ys m n (omega (arith, e))

abbrev IsCut : List (List ℕ) → (ℕ × List ℕ) → Type 0
IsCut log c = slice_get log c.0 ≡ Some c.1

at : (log : List (List ℕ)) (s : Sent) (m : List ℕ) (b : Bool) → is_kept s m ≡ b → Keeps log s →
    Keeps (if b then log else log ++ m ∷ [])
    (if b then s else record { count = s.count + 1; cuts = latest (s.cuts ++ (s.count, m) ∷ []) }) ×
    (slice_get (if b then log else log ++ m ∷ [])
    (if b then (slice_index_or s.cuts (place_of s.cuts m) (0, [])).0 else s.count) ≡ Some m)
at log s m true e keeps =
    let P : (ℕ × List ℕ) → Type 0 = IsCut log in
    let l : place_of s.cuts m < length s.cuts = ltb-true (place_of s.cuts m) (length s.cuts) e in
    let c = slice_index_or s.cuts (place_of s.cuts m) (0, []) in
    let there : slice_get log c.0 ≡ Some c.1 = All-get_or P s.cuts (place_of s.cuts m) (0, []) l keeps.kept in
    let same : c.1 ≡ m =
    (bytes_eq-Decides c.1 m).0 (passes_at_first (λ (x : ℕ × List ℕ). bytes_eq x.1 m) s.cuts (0, []) l) in
    (keeps, there ∙ ap Some same)
at log s m false e keeps =
    let P : (ℕ × List ℕ) → Type 0 = IsCut log in
    let Q : (ℕ × List ℕ) → Type 0 = IsCut (log ++ m ∷ []) in
    let new : Q (s.count, m) = last_there log m s.count keeps.count_is in
    let old : All Q s.cuts = All-weaker P Q (λ c h. still_there log m c.1 c.0 h) s.cuts keeps.kept in (
      record {
        count_is = omega (arith, keeps.count_is, length_push log m);
        kept = All-drop Q _ (s.cuts ++ (s.count, m) ∷ []) (All-push Q s.cuts (s.count, m) old new);
      },
      new,
    )

pub named_once : NamedOnce
named_once log s m keeps = at log s m (is_kept s m) refl keeps
