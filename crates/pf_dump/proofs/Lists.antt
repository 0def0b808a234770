-- Lists of strings and of paths, compared by `==`.
use Rattle.std.proofs.Common.{◌≡◌, ◌∙◌, List, [], ◌∷◌, ℕ, refl, map, Bool, ◌&&◌, ◌||◌, ap, Bor}
use Rattle.std.specs.List.{list_any}
use Rattle.std.specs.Bool.{Decides}
use Rattle.std.specs.Str.{bytes_eq}
use Rattle.std.specs.Cmp.Lexicographic.{pointwise}
use Rattle.std.proofs.lemmas.Slice.Eq.{bytes_eq-Decides, slice_eq-Decides}
use Rattle.pf_config.specs.Map.{Path, path_eq}
use Rattle.pf_config.proofs.PathFronts.{path_decides}

pointwise_now : {A : Type 0} (E : A → A → Bool) (xs ys : List (Bor A)) →
    pointwise (λ x y. E x.now y.now) xs ys ≡ pointwise E (map (λ x. x.now) xs) (map (λ x. x.now) ys)
pointwise_now E [] [] = refl
pointwise_now E [] (y ∷ ys) = refl
pointwise_now E (x ∷ xs) [] = refl
pointwise_now E (x ∷ xs) (y ∷ ys) = ap (λ b. E x.now y.now && b) (pointwise_now E xs ys)

pub texts_decide : (xs ys : List (Bor (List ℕ))) (r : Bool) → r ≡ pointwise (λ x y. bytes_eq x.now y.now) xs ys →
    Decides r (map (λ x. x.now) xs ≡ map (λ x. x.now) ys)
texts_decide xs ys r e = slice_eq-Decides bytes_eq-Decides _ _ r (e ∙ pointwise_now bytes_eq xs ys)

pub paths_decide : (xs ys : List (Bor Path)) (r : Bool) → r ≡ pointwise (λ x y. path_eq x.now y.now) xs ys →
    Decides r (map (λ x. x.now) xs ≡ map (λ x. x.now) ys)
paths_decide xs ys r e = slice_eq-Decides path_decides _ _ r (e ∙ pointwise_now path_eq xs ys)

-- whether an element passes, of what elements stand for
pub any_mapped : {X Y : Type 0} (test : Y → Bool) (seen : X → Y) (xs : List X) → list_any (λ x. test (seen x)) xs ≡ list_any test (map seen xs)
any_mapped test seen [] = refl
any_mapped test seen (x ∷ xs) = ap (λ b. test (seen x) || b) (any_mapped test seen xs)
