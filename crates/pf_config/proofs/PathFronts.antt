-- Paths that begin with others.
use Rattle.std.proofs.Common.{◌≡◌, true, false, ◌&&◌, take_all, [], ◌∷◌, ◌++◌, length, take, drop, refl, sym, arith}
use Rattle.std.specs.Bool.{Decides}
use Rattle.std.specs.List.{starts_with}
use Rattle.std.specs.Str.{bytes_eq}
use Rattle.std.proofs.lemmas.Slice.Eq.{bytes_eq-Decides, slice_eq-Decides}
use Rattle.pf_config.specs.Map.{Path, path_eq}

-- a path begins with two, one after the other
pub starts_with_both : (own p q : Path) → starts_with bytes_eq own (p ++ q) ≡ (starts_with bytes_eq own p && starts_with bytes_eq (drop (length p) own) q)
starts_with_both own [] q = refl
starts_with_both [] (n ∷ p) q = refl
starts_with_both (m ∷ own) (n ∷ p) q = elim (bytes_eq n m) as (λ b. (b && starts_with bytes_eq own (p ++ q)) ≡ ((b && starts_with bytes_eq own p) && starts_with bytes_eq (drop (length p) own) q)) [ true ↦ starts_with_both own p q | false ↦ refl ]

pub path_decides : (p q : Path) → Decides (path_eq p q) (p ≡ q)
path_decides p q = slice_eq-Decides bytes_eq-Decides p q _ refl

pub own_front : (p q : Path) → path_eq p q ≡ true → starts_with bytes_eq p q ≡ true
own_front p q h =
    let e : p ≡ q = (path_decides p q).0 h in
    let front : take (length q) p ≡ q = rw e (take_all (length q) q (omega arith)) in
    (path_decides q (take (length q) p)).1 (sym front)
