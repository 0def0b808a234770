-- A loop over the rows.
use Rattle.std.proofs.Common.{◌≡◌, ◌∙◌, ◌<◌, ◌+◌, ℕ, zero, suc, true, false, List, [], ◌∷◌, ◌++◌, Option, Some, None, map, take, drop, length, get_or, slice_set, ap, sym, subst, refl, arith}
use Rattle.std.specs.Prelude.{is_some, nat_lt}
use Rattle.std.proofs.lemmas.Bool.{lt-ltb}
use Rattle.std.proofs.lemmas.List.Edits.{map_over_more}

-- one more was changed in its place
pub changed : {X : Type 0} (f : X → X) (xs ys : List X) (i : ℕ) (x y : X) → i < length xs → ys ≡ map f (take i xs) ++ drop i xs →
    x ≡ get_or ys i x → y ≡ f x → slice_set ys i y ≡ map f (take (i + 1) xs) ++ drop (i + 1) xs
changed f xs ys i x y l is at e = ap (λ z. slice_set ys i z) e ∙ map_over_more f xs ys i x l is at

put : {X Y : Type 0} (f : X → Y) (xs : List X) (ys zs : List Y) (i : ℕ) (x : X) (y : Y) → i < length xs → length zs ≡ length xs →
    ys ≡ map f (take i xs) ++ drop i zs → get_or xs i x ≡ x → y ≡ f x →
    slice_set ys i y ≡ map f (take (suc i) xs) ++ drop (suc i) zs
put f [] ys zs i x y l n is at e = absurd (omega (arith, l))
put f (a ∷ xs) ys [] i x y l n is at e = absurd (let m : 0 ≡ suc (length xs) = n in omega (arith, m))
put f (a ∷ xs) ys (z ∷ zs) zero x y l n is at e = ap (λ (us : List _). slice_set us zero y) is ∙ ap (λ (u : _). u ∷ zs) (e ∙ ap f (sym at))
put f (a ∷ xs) ys (z ∷ zs) (suc i) x y l n is at e =
    let m : suc (length zs) ≡ suc (length xs) = n in
    ap (λ (us : List _). slice_set us (suc i) y) is
    ∙ ap (λ (us : List _). f a ∷ us) (put f xs (map f (take i xs) ++ drop i zs) zs i x y (omega (arith, l)) (omega (arith, m)) refl at e)

-- one more was written over what was there
pub written : {X Y : Type 0} (f : X → Y) (xs : List X) (ys zs : List Y) (i : ℕ) (x : X) (y : Y) → i < length xs → length zs ≡ length xs →
    ys ≡ map f (take i xs) ++ drop i zs → get_or xs i x ≡ x → y ≡ f x →
    slice_set ys i y ≡ map f (take (i + 1) xs) ++ drop (i + 1) zs
written f xs ys zs i x y l n is at e =
    let one : suc i ≡ i + 1 = omega arith in
    subst (λ (k : ℕ). slice_set ys i y ≡ map f (take k xs) ++ drop k zs) one (put f xs ys zs i x y l n is at e)

-- what is there is found
pub found : {X : Type 0} (r : Option X) (i n : ℕ) → is_some r ≡ nat_lt i n → r ≡ None → i < n → ⊥
found r i n e none l = let t : true ≡ false = sym (lt-ltb i n l) ∙ sym e ∙ ap is_some none in cc
