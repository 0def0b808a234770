-- The top of slots that change.
use Rattle.std.proofs.Common.{◌≡◌, inl, inr, ℕ, zero, suc, ◌≤◌, ◌<◌, ◌+◌, true, false, Option, None, Some, refl, sym, ap, ◌∙◌, arith, nat_eq}
use Rattle.std.proofs.lemmas.Bool.{cases_lt, cases_eq, eq-eqb, ne_eqb}
use Rattle.px_model.specs.Node.{Slot, Proposal}
use Rattle.px_model.specs.Step.{put, top_below, top, positions}

-- by whether something is accepted
abbrev peak_with : {C : Type 0} → Option (Proposal C) → ℕ → ℕ → ℕ
peak_with None below here = below
peak_with (Some x) below here = here

pub below_is : {C : Type 0} (slots : ℕ → Slot C) (n : ℕ) (a : Option (Proposal C)) → (slots n).accepted ≡ a → top_below slots (suc n) ≡ peak_with a (top_below slots n) (suc n)
unfolding top_below
below_is {C} slots n None e = ap (λ (b : Option (Proposal C)). elim b [ None ↦ top_below slots n | Some x ↦ suc n ]) e
below_is {C} slots n (Some x) e = ap (λ (b : Option (Proposal C)). elim b [ None ↦ top_below slots n | Some x ↦ suc n ]) e

none_below : {C : Type 0} (slots : ℕ → Slot C) → top_below slots 0 ≡ 0
unfolding top_below
none_below slots = refl

-- slots that accepted alike have one top
same_below : {C : Type 0} (a b : ℕ → Slot C) → ((p : ℕ) → (a p).accepted ≡ (b p).accepted) → (n : ℕ) → top_below a n ≡ top_below b n
same_below a b same zero = none_below a ∙ sym (none_below b)
same_below a b same (suc n) = below_is a n (b n).accepted (same n) ∙ ap (λ t. peak_with (b n).accepted t (suc n)) (same_below a b same n) ∙ sym (below_is b n (b n).accepted refl)

pub same_top : {C : Type 0} (a b : ℕ → Slot C) → ((p : ℕ) → (a p).accepted ≡ (b p).accepted) → top a ≡ top b
unfolding top
same_top a b same = same_below a b same positions

-- nothing is accepted from the top on
low : {C : Type 0} (a : Option (Proposal C)) (t n : ℕ) → t ≤ n → peak_with a t (suc n) ≤ suc n
low None t n le = let h : t ≤ suc n = omega (arith, le) in h
low (Some x) t n le = let h : suc n ≤ suc n = omega arith in h

bounded : {C : Type 0} (slots : ℕ → Slot C) (n : ℕ) → top_below slots n ≤ n
bounded slots zero = rw (none_below slots) (omega arith)
bounded slots (suc n) = rw (below_is slots n (slots n).accepted refl) (low (slots n).accepted (top_below slots n) n (bounded slots n))

pub top_within : {C : Type 0} (slots : ℕ → Slot C) → top slots ≤ positions
unfolding top
top_within slots = bounded slots positions

-- what the top is where p accepts something and the rest is as it was
abbrev Raised : (p n before after : ℕ) → Type 0
Raised p n before after = (n ≤ p → after ≡ before) × ((p < n → before ≤ p + 1 → after ≡ p + 1) × (p < n → p + 1 ≤ before → after ≡ before))

module _ {C : Type 0} (slots : ℕ → Slot C) (p : ℕ) (s : Slot C) (x : Proposal C) (some : s.accepted ≡ Some x) where
  here : (put slots p s p).accepted ≡ Some x
  here = let same : nat_eq p p ≡ true = eq-eqb p p refl in rw same some

  other : (m : ℕ) → (m ≡ p → ⊥) → (put slots p s m).accepted ≡ (slots m).accepted
  other m ne = let apart : nat_eq m p ≡ false = ne_eqb m p ne in rw apart refl

  between : (m : ℕ) → p < suc m → (m ≡ p → ⊥) → p < m
  between m up ne = elim (cases_lt p m) [ inl lt ↦ lt | inr le ↦ absurd (ne (omega (arith, up, le))) ]

  at_most : (m : ℕ) → p < suc m → suc m ≤ p + 1 → m ≡ p
  at_most m up low = omega (arith, up, low)

  stays : (a : Option (Proposal C)) (m before after : ℕ) → (m ≡ p → ⊥) → Raised p m before after → Raised p (suc m) (peak_with a before (suc m)) (peak_with a after (suc m))
  stays None m before after ne h = (λ up. h.0 (omega (arith, up)), (λ up low. h.1.0 (between m up ne) low, λ up high. h.1.1 (between m up ne) high))
  stays (Some y) m before after ne h = (λ up. refl, (λ up low. absurd (ne (at_most m up low)), λ up high. refl))

  raised_below : (n : ℕ) → Raised p n (top_below slots n) (top_below (put slots p s) n)
  raised_below zero = (λ up. none_below (put slots p s) ∙ sym (none_below slots), (λ up low. absurd (omega (arith, up)), λ up high. absurd (omega (arith, up))))
  raised_below (suc m) = elim (cases_eq m p) [
    | inl same ↦
        let at : (put slots p s m).accepted ≡ Some x = ap (λ q. (put slots p s q).accepted) same ∙ here in
        let is : top_below (put slots p s) (suc m) ≡ suc m = below_is (put slots p s) m (Some x) at in
        let most = bounded slots (suc m) in (
          λ up. absurd (omega (arith, up, same)),
          (λ up low. is ∙ omega (arith, same), λ up high. is ∙ omega (arith, same, high, most)),
        )
    | inr ne ↦
        rw (below_is (put slots p s) m (slots m).accepted (other m ne), below_is slots m (slots m).accepted refl)
        (stays (slots m).accepted m (top_below slots m) (top_below (put slots p s) m) ne (raised_below m))
  ]

  pub raised : Raised p positions (top slots) (top (put slots p s))
  unfolding top
  raised = raised_below positions

nothing_below : {C : Type 0} (slots : ℕ → Slot C) → ((p : ℕ) → (slots p).accepted ≡ None) → (n : ℕ) → top_below slots n ≡ 0
nothing_below slots none zero = none_below slots
nothing_below slots none (suc n) = below_is slots n None (none n) ∙ nothing_below slots none n

-- with nothing accepted it is 0
pub nothing_top : {C : Type 0} (slots : ℕ → Slot C) → ((p : ℕ) → (slots p).accepted ≡ None) → top slots ≡ 0
unfolding top
nothing_top slots none = nothing_below slots none positions

-- the top that is kept follows it
pub raised_to : {C : Type 0} (old new : ℕ → Slot C) (p : ℕ) (s : Slot C) (x : Proposal C) → s.accepted ≡ Some x → ((q : ℕ) → new q ≡ put old p s q) → p < positions
    → (t : ℕ) → t ≡ top old → (u : ℕ) → (t ≤ p + 1 → u ≡ p + 1) × (p + 1 ≤ t → u ≡ t) → u ≡ top new
raised_to {C} old new p s x some done within t is u least =
    let r = raised old p s x some in
    let same : top new ≡ top (put old p s) = same_top new (put old p s) (λ q. ap (λ (y : Slot C). y.accepted) (done q)) in
    elim (cases_lt t (p + 1)) [
      | inl lt ↦ least.0 (omega (arith, lt)) ∙ sym (r.1.0 within (omega (arith, lt, is))) ∙ sym same
      | inr le ↦ least.1 (omega (arith, le)) ∙ is ∙ sym (r.1.1 within (omega (arith, le, is))) ∙ sym same
    ]
