-- How outcomes follow a log.
use Rattle.std.proofs.Common.{◌≡◌, ℕ, zero, suc, ◌+◌, ◌-◌, ◌<◌, ◌≤◌, ◌⊎◌, inl, inr, List, [], ◌∷◌, length, take, Option, Some, Result, Ok, Err, ap, sym, ◌∙◌, refl, arith, add-one, subst}
use Rattle.std.specs.Prelude.{slice_index_or}
use Rattle.px_model.specs.Node as node
use Rattle.px_model.specs.Node.{Log}
use Rattle.px_model.specs.Step.{front}
use Rattle.px_model.specs.Spelling.{Bytes, spelled}
use Rattle.pf_config.specs.Map.{Configuration}
use Rattle.pf_entry.specs.Reading.{reading}
use Rattle.pf_command.specs.Effect.{Effect, RefusedCommand}
use Rattle.pf_node.specs.declared.outcomes.Outcome.{Outcome}
use Rattle.pf_node.specs.declared.outcomes.Outcome.TheVariants.{Done, Refused}
use Rattle.pf_node.specs.Applied.{after}
use Rattle.pf_node.specs.Outcomes.{outcome_of, outcome_read, outcome_in, outcome_at}
use Rattle.pf_node.specs.inner.Outcomes.{outcomes_below}
use Rattle.pf_node.proofs.Following.{after_same}

-- ---- a command's outcome

pub done_outcome : (x : Configuration) (added removed : ℕ) (r : Result Effect RefusedCommand) →
    r ≡ Ok (record { configuration = x; added = added; removed = removed }) → Done added removed ≡ outcome_of r
done_outcome x added removed r is = sym (ap outcome_of is)

pub refused_outcome : (code line : ℕ) (r : Result Effect RefusedCommand) →
    r ≡ Err (record { code = code; line = line }) → Refused code line ≡ outcome_of r
refused_outcome code line r is = sym (ap outcome_of is)

-- ---- those of several positions

-- fewer of them
fewer : (log : Log Bytes) (k n m : ℕ) →
    take m (outcomes_below log k n) ≡ outcomes_below log k (length (take m (outcomes_below log k n)))
fewer log k n zero = refl
fewer log k zero (suc m) = refl
fewer log zero (suc n) (suc m) = refl
fewer log (suc k) (suc n) (suc m) = ap (λ (os : List Outcome). outcome_at log k ∷ os) (fewer log k n m)

-- one more
pub recorded_next : (log : Log Bytes) (k m : ℕ) (c : Configuration) (e : node.Entry Bytes) (o : Outcome)
    (old new : List Outcome) → after log k ≡ Some c → log k ≡ Some e → o ≡ outcome_read c (reading (spelled e)) →
    old ≡ outcomes_below log k (length old) → (new ≡ o ∷ take m old) ⊎ (new ≡ []) →
    new ≡ outcomes_below log (k + 1) (length new)
recorded_next log k m c e o old new a l is was (inr none) = rw none refl
recorded_next log k m c e o old new a l is was (inl more) =
    let here : o ≡ outcome_at log k = is ∙ sym (ap (λ (z : Option Configuration). outcome_in z (log k)) a
    ∙ ap (λ (z : Option (node.Entry Bytes)). outcome_in (Some c) z) l) in
    let cut : take m old ≡ outcomes_below log k (length (take m old)) =
    ap (take m) was ∙ fewer log k (length old) m ∙ ap (λ (os : List Outcome). outcomes_below log k (length (take m os))) (sym was) in
    rw (more, add-one) (ap (λ (x : Outcome). x ∷ take m old) here ∙ ap (λ (os : List Outcome). outcome_at log k ∷ os) cut)

-- what is learned from the front on changes nothing below
pub recorded_same : (log more : Log Bytes) (k n : ℕ) → ((p : ℕ) → p < k → more p ≡ log p) →
    outcomes_below log k n ≡ outcomes_below more k n
recorded_same log more k zero h = refl
recorded_same log more zero (suc n) h = refl
recorded_same log more (suc k) (suc n) h =
    let here : outcome_at log k ≡ outcome_at more k =
    sym (ap (λ (z : Option Configuration). outcome_in z (more k)) (after_same log more k (λ p b. h p (omega arith)))
    ∙ ap (λ (z : Option (node.Entry Bytes)). outcome_in (after log k) z) (h k (omega arith))) in
    let below : outcomes_below log k n ≡ outcomes_below more k n = recorded_same log more k n (λ p b. h p (omega arith)) in
    ap (λ (x : Outcome). x ∷ outcomes_below log k n) here ∙ ap (λ (os : List Outcome). outcome_at more k ∷ os) below

pub recorded_kept : (log more : Log Bytes) (k : ℕ) (os : List Outcome) → os ≡ outcomes_below log k (length os) →
    k ≤ front log → ((p : ℕ) → p < front log → more p ≡ log p) → os ≡ outcomes_below more k (length os)
recorded_kept log more k os is within below =
    is ∙ recorded_same log more k (length os) (λ p b. below p (omega arith))

-- one of them
recorded_index : (log : Log Bytes) (k n i : ℕ) (o : Outcome) → i < length (outcomes_below log k n) →
    slice_index_or (outcomes_below log k n) i o ≡ outcome_at log (k - 1 - i)
recorded_index log k zero i o within = absurd (omega arith)
recorded_index log zero (suc n) i o within = absurd (omega arith)
recorded_index log (suc k) (suc n) zero o within =
    let e : k ≡ suc k - 1 - 0 = omega arith in ap (outcome_at log) e
recorded_index log (suc k) (suc n) (suc i) o within =
    let e : k - 1 - i ≡ suc k - 1 - suc i = omega arith in
    recorded_index log k n i o (omega arith) ∙ ap (outcome_at log) e

pub recorded_at : (log : Log Bytes) (k p : ℕ) (os : List Outcome) (o : Outcome) → p < k →
    os ≡ outcomes_below log k (length os) → k - 1 - p < length os → o ≡ slice_index_or os (k - 1 - p) o →
    o ≡ outcome_at log p
recorded_at log k p os o under is within value =
    let P : List Outcome → Type 0 = λ xs. k - 1 - p < length xs in
    let h : k - 1 - p < length (outcomes_below log k (length os)) = subst P is within in
    let e : k - 1 - (k - 1 - p) ≡ p = omega arith in
    value ∙ ap (λ (xs : List Outcome). slice_index_or xs (k - 1 - p) o) is
    ∙ recorded_index log k (length os) (k - 1 - p) o h ∙ ap (outcome_at log) e
