-- Walks by steps.
use Rattle.std.proofs.Common.{◌≡◌, ℕ, ◌+◌, ◌<◌, [], ◌∷◌, ◌++◌, length, take, drop, drop-cons, get_or, add-one, Option, Some, None, refl, sym, ap, ◌∙◌}
use Rattle.std.proofs.Math.Seq.{take-suc}
use Rattle.std.proofs.lemmas.List.Sums.{fold-append}
use Rattle.pf_expansion.proofs.Stepping.{not_none}
use Rattle.pf_rules.specs.Names.{Name}
use Rattle.pf_expansion.specs.Blocks.{Path}
use Rattle.pf_expansion.specs.inner.Numbers.{Steps, step_from, next_of, walk, Grows}

pub walk_none : (m : Steps) (path : Path) → walk m None path ≡ None
walk_none m [] = refl
walk_none m (n ∷ ns) = walk_none m ns

pub walk_append : (m : Steps) (from : Option ℕ) (path names : Path) → walk m from (path ++ names) ≡ walk m (walk m from path) names
walk_append m from path names = fold-append (next_of m) from path names

pub next_grows : (m n : Steps) → Grows m n → (from : Option ℕ) (name : Name) (at : ℕ) → next_of m from name ≡ Some at → next_of n from name ≡ Some at
next_grows m n g None name at e = e
next_grows m n g (Some from) name at e = g from name at e

-- a walk stays
pub walk_grows : (m n : Steps) → Grows m n → (from : Option ℕ) (path : Path) (at : ℕ) → walk m from path ≡ Some at → walk n from path ≡ Some at
walk_grows m n g from [] at e = e
walk_grows m n g from (name ∷ path) at e = step (next_of m from name) refl (λ k f. walk_grows m n g (Some k) path at f)
  where
    step : (o : Option ℕ) → next_of m from name ≡ o → ((k : ℕ) → walk m (Some k) path ≡ Some at → walk n (Some k) path ≡ Some at) → walk n (next_of n from name) path ≡ Some at
    step None f more = absurd (not_none (sym (walk_none m path) ∙ sym (ap (λ (o : Option ℕ). walk m o path) f) ∙ e))
    step (Some k) f more =
        ap (λ (o : Option ℕ). walk n o path) (next_grows m n g from name k f) ∙ more k (sym (ap (λ (o : Option ℕ). walk m o path) f) ∙ e)

-- a walk by one name more
pub walk_more : (m n : Steps) → Grows m n → (from : ℕ) (path : Path) (i at to : ℕ) (name : Name) → i < length path → name ≡ get_or path i name → walk m (Some from) (take i path) ≡ Some at → step_from n at name ≡ Some to → walk n (Some from) (take (i + 1) path) ≡ Some to
walk_more m n g from path i at to name within is e f =
    let here : take (i + 1) path ≡ take i path ++ name ∷ [] = rw add-one (take-suc path i name within) ∙ ap (λ (x : Name). take i path ++ x ∷ []) (sym is) in
    ap (λ (names : Path). walk n (Some from) names) here ∙
    walk_append n (Some from) (take i path) (name ∷ []) ∙
    ap (λ (o : Option ℕ). next_of n o name) (walk_grows m n g (Some from) (take i path) at e) ∙ f

-- a walk that stops on its way
pub walk_stops : (m : Steps) (at : ℕ) (path : Path) (i : ℕ) (name : Name) (o : Option ℕ) → i < length path → name ≡ get_or path i name → o ≡ step_from m at name → o ≡ None → None ≡ walk m (Some at) (drop i path)
walk_stops m at path i name o within is e none =
    let here : drop i path ≡ name ∷ drop (i + 1) path = rw add-one (drop-cons path i name within) ∙ ap (λ (x : Name). x ∷ drop (i + 1) path) (sym is) in
    sym (walk_none m (drop (i + 1) path)) ∙ ap (λ (x : Option ℕ). walk m x (drop (i + 1) path)) (sym none ∙ e) ∙ ap (λ (names : Path). walk m (Some at) names) (sym here)
