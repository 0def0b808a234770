-- A store is judged by the rows that were read as by those that it holds.
use Rattle.std.proofs.Common.{◌≡◌, inl, inr, ℕ, List, [], ◌∷◌, Bool, ◌||◌, refl, ap, ◌∙◌, arith}
use Rattle.sqlite_value.specs.Order.{Row}
use Rattle.px_store.specs.inner.Effect.{IsAlike}
use Rattle.px_store.specs.Judging.{has_rows, are_floor_rows, refusal_of}
use Rattle.px_store.specs.declared.calls.Identity.{Identity}

floors_alike : (members : ℕ) (fs gs : List Row) → IsAlike fs gs → are_floor_rows members fs ≡ are_floor_rows members gs
floors_alike members fs gs (inl same) = ap (are_floor_rows members) same
floors_alike members [] gs (inr two) = absurd (omega (arith, two.0))
floors_alike members (r ∷ []) gs (inr two) = absurd (omega (arith, two.0))
floors_alike members (r ∷ x ∷ more) [] (inr two) = absurd (omega (arith, two.1))
floors_alike members (r ∷ x ∷ more) (s ∷ []) (inr two) = absurd (omega (arith, two.1))
floors_alike members (r ∷ x ∷ more) (s ∷ y ∷ rest) (inr two) = refl

has_alike : (fs gs : List Row) → IsAlike fs gs → has_rows fs ≡ has_rows gs
has_alike fs gs (inl same) = ap has_rows same
has_alike [] gs (inr two) = absurd (omega (arith, two.0))
has_alike (r ∷ fs) [] (inr two) = absurd (omega (arith, two.1))
has_alike (r ∷ fs) (s ∷ gs) (inr two) = refl

by_floor : (format : ℕ) (i : Identity) (fs gs meta : List Row) (more : Bool) → IsAlike fs gs → refusal_of format i meta fs more ≡ refusal_of format i meta gs more
by_floor format i fs gs [] more h = rw (has_alike fs gs h) refl
by_floor format i fs gs (r ∷ []) more h = rw (floors_alike _ fs gs h) refl
by_floor format i fs gs (r ∷ x ∷ rest) more h = refl

by_meta : (format : ℕ) (i : Identity) (fs ms ns : List Row) (more : Bool) → IsAlike ms ns → refusal_of format i ms fs more ≡ refusal_of format i ns fs more
by_meta format i fs ms ns more (inl same) = ap (λ rows. refusal_of format i rows fs more) same
by_meta format i fs [] ns more (inr two) = absurd (omega (arith, two.0))
by_meta format i fs (r ∷ []) ns more (inr two) = absurd (omega (arith, two.0))
by_meta format i fs (r ∷ x ∷ rest) [] more (inr two) = absurd (omega (arith, two.1))
by_meta format i fs (r ∷ x ∷ rest) (s ∷ []) more (inr two) = absurd (omega (arith, two.1))
by_meta format i fs (r ∷ x ∷ rest) (s ∷ y ∷ others) more (inr two) = refl

pub judged_alike : (format : ℕ) (i : Identity) (ms ns fs gs : List Row) (a b x y : Bool) → IsAlike ms ns → IsAlike fs gs → x ≡ a → y ≡ b →
    refusal_of format i ms fs (a || b) ≡ refusal_of format i ns gs (x || y)
judged_alike format i ms ns fs gs a b x y m f slots entries = rw (slots, entries) (by_meta format i fs ms ns (a || b) m ∙ by_floor format i fs gs ns (a || b) f)
