-- Fields that are added one after the other.
use Rattle.std.proofs.Common.{◌≡◌, ◌∙◌, ◌++◌, ◌∷◌, [], List, ap}
use Rattle.std.proofs.lemmas.List.{append_assoc}

pub added : {A : Type 0} → (l₀ : List A) → {l₁ l₂ l₃ : List A} → (a b c : A) → l₁ ≡ l₀ ++ a ∷ [] → l₂ ≡ l₁ ++ b ∷ [] → l₃ ≡ l₂ ++ c ∷ [] →
    l₃ ≡ l₀ ++ a ∷ (b ∷ (c ∷ []))
added l₀ {l₁} {l₂} {l₃} a b c e₁ e₂ e₃ =
    e₃ ∙ (ap (λ z. z ++ c ∷ []) (e₂ ∙ (ap (λ z. z ++ b ∷ []) e₁ ∙ append_assoc l₀ (a ∷ []) (b ∷ []))) ∙ append_assoc l₀ (a ∷ (b ∷ [])) (c ∷ []))
