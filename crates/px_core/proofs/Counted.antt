-- A table of members that is marked at one place.
use Rattle.std.proofs.Common.{[], ◌∷◌, refl, zero, suc, ◌≡◌, ℕ, ◌<◌, Bool, true, false, List, length, get_or, slice_set, eqb, eqb-true, get_or-set_same, get_or-set_other, ap, ◌∙◌}
use Rattle.std.proofs.lemmas.Bool.{cond_both, eqb-false}
use Rattle.std.proofs.Math.Path.{fun_ext}
use Rattle.px_model.specs.Step.{put}
use Rattle.px_core.specs.Seen.{counted_of}

pub counted_set : (counted : List Bool) (m : ℕ) → m < length counted → counted_of (slice_set counted m true) ≡ put (counted_of counted) m true
unfolding counted_of
counted_set counted m less =
    fun_ext (λ k. cond_both (eqb k m) true (get_or counted k false) (λ (z : Bool). get_or (slice_set counted m true) k false ≡ z)
    (λ t. ap (λ (i : ℕ). get_or (slice_set counted m true) i false) (eqb-true k m t) ∙ get_or-set_same counted m true false less)
    (λ f. get_or-set_other counted m k true false (eqb-false k m f)))

Falses : List Bool → Type 0
Falses [] = Unit {0}
Falses (false ∷ xs) = Falses xs
Falses (true ∷ xs) = ⊥

false_at : (xs : List Bool) → Falses xs → (m : ℕ) → get_or xs m false ≡ false
unfolding Falses
false_at [] all m = refl
false_at (false ∷ xs) all zero = refl
false_at (false ∷ xs) all (suc m) = false_at xs all m
false_at (true ∷ xs) all m = absurd all

-- a fresh table marks nobody
pub none_counted : counted_of (false ∷ false ∷ false ∷ false ∷ false ∷ false ∷ false ∷ false ∷ false ∷ false ∷ false ∷ false ∷ false ∷ false ∷ false ∷ []) ≡ (λ m. false)
unfolding counted_of Falses
none_counted = fun_ext (λ m. false_at (false ∷ false ∷ false ∷ false ∷ false ∷ false ∷ false ∷ false ∷ false ∷ false ∷ false ∷ false ∷ false ∷ false ∷ false ∷ []) tt m)
