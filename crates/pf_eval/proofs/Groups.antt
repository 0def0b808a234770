-- How the groups of a packet come, a pair of words at a time.
use Rattle.std.proofs.Common.{◌≡◌, ℕ, true, false, List, [], ◌∷◌, ◌++◌, drop, Option, Some, None, codes, refl, ap, append_assoc}
use Rattle.pf_eval.specs.PacketTexts.{Word, ◌>>=◌, begins, value, name_of, groups_at, put_name}

pub groups_stop : (ws : List Word) → begins (codes "group") ws ≡ false → groups_at ws ≡ Some ([], ws)
groups_stop [] e = refl
groups_stop (w ∷ []) e = rw e refl
groups_stop (w ∷ v ∷ ws) e = rw e refl

bind_bind : {A B C : Type 0} (o : Option A) (f : A → Option B) (g : B → Option C) → ((o >>= f) >>= g) ≡ (o >>= λ x. f x >>= g)
bind_bind (Some x) f g = refl
bind_bind None f g = refl

pub groups_step : (ws : List Word) → begins (codes "group") ws ≡ true
    → groups_at ws ≡ (value name_of (drop 1 ws) >>= λ g. put_name g.0 (groups_at g.1))
unfolding value
groups_step [] e = absurd cc
groups_step (w ∷ []) e = rw e refl
groups_step (w ∷ v ∷ ws) e = rw (e, bind_bind {B = List ℕ × List Word} (name_of v) (λ x. Some (x, ws)) (λ g. put_name g.0 (groups_at g.1))) refl

-- groups that are before others
abbrev pub prepend : List Word → Option (List Word × List Word) → Option (List Word × List Word)
prepend names None = None
prepend names (Some r) = Some (names ++ r.0, r.1)

pub prepend_more : (names : List Word) (name : Word) (r : Option (List Word × List Word)) → prepend (names ++ name ∷ []) r ≡ prepend names (put_name name r)
prepend_more names name None = refl
prepend_more names name (Some r) = ap (λ (l : List Word). some (l, r.1)) (append_assoc names (name ∷ []) r.0)
  where
    some : (List Word × List Word) → Option (List Word × List Word)
    some x = Some x

pub prepend_none : (r : Option (List Word × List Word)) → prepend [] r ≡ r
prepend_none None = refl
prepend_none (Some r) = refl
