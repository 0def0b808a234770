-- From the invariant to the law that an entry acts once.
use Rattle.std.proofs.Common.{◌≡◌, ℕ, ◌<◌, inl, inr, List, [], ◌∷◌, refl, sym, ap, ◌∙◌}
use Rattle.std.proofs.lemmas.Bool.{cases_order}
use Rattle.px_model.specs.Node.{Entry}
use Rattle.px_model.specs.Node.Message.{Accept, Vote}
use Rattle.px_model.specs.World.{World}
use Rattle.px_model.specs.Law.{Among, NoneTwice, Chosen, Once}
use Rattle.px_model.proofs.Backed.{Acceptance, Grounds}
use Rattle.px_model.proofs.Agreement.{chosen_proposed, one_chosen}
use Rattle.px_model.proofs.Invariant.{Inv, NamedOnce}

none_twice : {C : Type 0} (xs : List (Entry C)) → NamedOnce xs → NoneTwice xs
none_twice [] once = tt
none_twice (x ∷ xs) once = ((λ a. once.0 x a refl refl), none_twice xs once.1)

one_name : {C : Type 0} (xs : List (Entry C)) → NamedOnce xs → (e f : Entry C) → Among xs e → Among xs f → e.origin ≡ f.origin → e.number ≡ f.number → e ≡ f
one_name [] once e f a b same number = absurd a
one_name {C} (x ∷ xs) once e f a b same number =
    elim a [
      | inl xe ↦ (elim b [
        | inl xf ↦ sym xe ∙ xf
        | inr fs ↦ absurd (once.0 f fs (sym same ∙ sym (ap (λ (z : Entry C). z.origin) xe)) (sym number ∙ sym (ap (λ (z : Entry C). z.number) xe)))
      ])
      | inr es ↦ (elim b [
        | inl xf ↦ absurd (once.0 e es (same ∙ sym (ap (λ (z : Entry C). z.origin) xf)) (number ∙ sym (ap (λ (z : Entry C). z.number) xf)))
        | inr fs ↦ one_name xs once.1 e f es fs same number
      ])
    ]

module _ {C : Type 0} (n : ℕ) (w : World C) (h : List (Acceptance C)) (inv : Inv n w h) where
  pub grounds : Grounds n w h
  grounds = record {
    backed = λ m b p e s. (inv.sent m (Accept b p e) s).backed;
    asked = λ m b p e s. (inv.sent m (Accept b p e) s).asked;
    unique = inv.unique;
    voted = λ m p b e s. inv.sent m (Vote b p e) s;
    proposed = inv.history;
    learned = inv.learned;
  }

  -- the same entry isn't chosen at a later position too
  not_later : (e : Entry C) (p q : ℕ) → Chosen n w p e → Chosen n w q e → p < q → ⊥
  not_later e p q c d l =
      let s = chosen_proposed n w h grounds q e d in
      let other = (inv.sent s.0 (Accept d.ballot q e) s.1).placed p l in
      other.2 (one_chosen n w h grounds p other.0 e ((inv.stored e.origin).learned p other.0 other.1) c)

  pub once : Once w
  once = record {
    one_position = λ e m p k q a b.
        elim (cases_order p q) [
          | inl same ↦ same
          | inr apart ↦ (elim apart [
            | inl l ↦ absurd (not_later e p q (inv.learned m p e a) (inv.learned k q e b) l)
            | inr l ↦ absurd (not_later e q p (inv.learned k q e b) (inv.learned m p e a) l)
          ])
        ];
    asked_once = none_twice w.asked inv.named_once;
    one_name = one_name w.asked inv.named_once;
  }
