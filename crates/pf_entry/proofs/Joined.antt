-- What several writes leave.
use Rattle.std.proofs.Common.{◌≡◌, ℕ, List, [], ◌∷◌, ◌++◌, append_assoc}

pub entry_joined : (a a1 a2 a3 a4 a5 a6 : List ℕ) (f f' o k k' : ℕ) (n p p' r : List ℕ) → f' ≡ f → k' ≡ k → p' ≡ p
    → a1 ≡ a ++ f' ∷ [] → a2 ≡ a1 ++ o ∷ [] → a3 ≡ a2 ++ n → a4 ≡ a3 ++ k' ∷ [] → a5 ≡ a4 ++ p' → a6 ≡ a5 ++ r
    → a6 ≡ a ++ (f ∷ (o ∷ (n ++ (k ∷ (p ++ r)))))
entry_joined a a1 a2 a3 a4 a5 a6 f f' o k k' n p p' r ef ek ep e1 e2 e3 e4 e5 e6 =
    rw (e6, e5, e4, e3, e2, e1, ef, ek, ep) (simp append_assoc)
