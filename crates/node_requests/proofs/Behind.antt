-- A string behind a front.
use Rattle.std.proofs.Common.{◌≡◌, ◌≢◌, ◌∙◌, ℕ, true, false, List, [], ◌∷◌, ◌++◌, length, take}
use Rattle.std.proofs.Common.{drop, refl, sym, ap, Bor, Option, Some, None, option_copied, ⊎_elim, take-append-drop}
use Rattle.std.specs.Prelude.{if◌then◌else◌}
use Rattle.std.specs.Str.{bytes_eq}
use Rattle.std.specs.Str.Pattern.{FindsTextPrefix, StripsPrefix}
use Rattle.std.specs.Option.{MatchOption}
use Rattle.std.proofs.lemmas.Bool.{cases_Bool}
use Rattle.std.proofs.lemmas.Slice.Eq.{bytes_eq-Decides}

-- what is behind p in s, if s begins so
abbrev pub part : (p s : List ℕ) → Option (List ℕ)
part p s = if bytes_eq (take (length p) s) p then Some (drop (length p) s) else None

front : (p rest : List ℕ) → take (length p) (p ++ rest) ≡ p
front [] rest = refl
front (x ∷ p) rest = ap (λ l. x ∷ l) (front p rest)

begins : (p s rest : List ℕ) → s ≡ p ++ rest → bytes_eq (take (length p) s) p ≡ true
begins p s rest e = (bytes_eq-Decides (take (length p) s) p).1 (ap (take (length p)) e ∙ front p rest)

whole : (p s : List ℕ) → bytes_eq (take (length p) s) p ≡ true → s ≡ p ++ drop (length p) s
whole p s h =
    sym (take-append-drop (length p) s)
    ∙ ap (λ l. l ++ drop (length p) s) ((bytes_eq-Decides (take (length p) s) p).0 h)

absent : (p s : List ℕ) → ((rest : List ℕ) → s ≢ p ++ rest) → bytes_eq (take (length p) s) p ≡ false
absent p s h =
    ⊎_elim (λ e. absurd (h (drop (length p) s) (whole p s e))) (λ e. e) (cases_Bool (bytes_eq (take (length p) s) p))

pub part_is : (p s : List ℕ) (r : Option (Bor (List ℕ)))
    → MatchOption r (FindsTextPrefix p s None) (λ x. StripsPrefix (FindsTextPrefix p) s x.now)
    → option_copied r ≡ part p s
part_is p s None h = rw (absent p s h) refl
part_is p s (Some x) h =
    let n = h.0 in
    let found = h.1 in
    let same : drop n s ≡ drop (length p) s = ap (λ m. drop m s) found.0 in
    rw (begins p s (drop n s) found.1) (ap Some (h.2 ∙ same))
