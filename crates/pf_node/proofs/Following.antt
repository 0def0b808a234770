-- How a configuration follows a log.
use Rattle.std.proofs.Common.{◌≡◌, ℕ, zero, suc, ◌+◌, ◌<◌, ◌≤◌, Option, Some, None, ap, sym, ◌∙◌, refl, arith, add-one}
use Rattle.px_model.specs.Node as node
use Rattle.px_model.specs.Node.{Log}
use Rattle.px_model.specs.Step.{front}
use Rattle.px_model.specs.Law.{next_state}
use Rattle.px_model.specs.Spelling.{Bytes}
use Rattle.px_model.proofs.Plans.{below_front}
use Rattle.pf_config.specs.Map.{Configuration}
use Rattle.pf_node.specs.Applied.{entry_applied, after}

-- one entry more
pub after_next : (log : Log Bytes) (k : ℕ) (c x : Configuration) (e : node.Entry Bytes) →
    after log k ≡ Some c → log k ≡ Some e → x ≡ entry_applied c e → after log (k + 1) ≡ Some x
after_next log k c x e a l is =
    ap (λ (j : ℕ). after log j) (add-one k)
    ∙ ap (λ (z : Option Configuration). next_state entry_applied z (log k)) a
    ∙ ap (λ (z : Option (node.Entry Bytes)). next_state entry_applied (Some c) z) l
    ∙ ap Some (sym is)

-- what is learned from k on changes nothing below
pub after_same : (log more : Log Bytes) (k : ℕ) → ((p : ℕ) → p < k → more p ≡ log p) → after more k ≡ after log k
after_same log more zero h = refl
after_same log more (suc k) h =
    ap (λ (z : Option Configuration). next_state entry_applied z (more k)) (after_same log more k (λ p b. h p (omega arith)))
    ∙ ap (λ (z : Option (node.Entry Bytes)). next_state entry_applied (after log k) z) (h k (omega arith))

-- below the front everything is learned
pub learned_below : (log : Log Bytes) (p : ℕ) → p < front log → log p ≡ None → ⊥
learned_below log p under none = let s = below_front log p under in let e : Some s.0 ≡ None = sym s.1 ∙ none in cc

-- a configuration up to a place at or below the front stays that of the log as the log grows
pub after_kept : (log more : Log Bytes) (k : ℕ) (c : Configuration) → after log k ≡ Some c → k ≤ front log →
    ((p : ℕ) → p < front log → more p ≡ log p) → after more k ≡ Some c
after_kept log more k c a within below = after_same log more k (λ p b. below p (omega arith)) ∙ a
