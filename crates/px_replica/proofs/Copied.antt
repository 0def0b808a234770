-- A log is read one position after another.
use Rattle.std.proofs.Common.{◌≡◌, ◌∙◌, sym, ap, ℕ, ◌≤◌, ◌+◌, inl, inr, Some, None, arith}
use Rattle.std.proofs.lemmas.Bool.{cases_order, cases_lt}
use mathlib.Core.Path.{fun_ext}
use Rattle.px_model.specs.Node.{Entry, Log}
use Rattle.px_model.specs.Step.{put}
use Rattle.px_model.proofs.Basics.{put_same, put_other}
use Rattle.px_model.specs.Spelling.{Bytes}
use Rattle.px_replica.specs.inner.Copied.{IsCopied}

pub copied_some : (learned log more : Log Bytes) (p : ℕ) (e : Entry Bytes) → IsCopied learned log p → more ≡ put log p (Some e) → Some e ≡ learned p → IsCopied learned more (p + 1)
copied_some learned log more p e copied is there = record {
  below = λ q b.
      elim (cases_order q p) [
        | inl same ↦ ap more same ∙ ap (λ (f : Log Bytes). f p) is ∙ put_same log p (Some e) ∙ there ∙ ap learned (sym same)
        | inr apart ↦ (elim apart [
          | inl less ↦ ap (λ (f : Log Bytes). f q) is ∙ put_other log p (Some e) q (λ h. omega (arith, h)) ∙ copied.below q less
          | inr above ↦ absurd (omega arith)
        ])
      ];
  rest = λ q b. ap (λ (f : Log Bytes). f q) is ∙ put_other log p (Some e) q (λ h. omega (arith, h)) ∙ copied.rest q (omega arith);
}

pub copied_none : (learned log more : Log Bytes) (p : ℕ) → IsCopied learned log p → more ≡ log → None ≡ learned p → IsCopied learned more (p + 1)
copied_none learned log more p copied is there = record {
  below = λ q b.
      elim (cases_order q p) [
        | inl same ↦ ap more same ∙ ap (λ (f : Log Bytes). f p) is ∙ copied.rest p (omega arith) ∙ there ∙ ap learned (sym same)
        | inr apart ↦ (elim apart [
          | inl less ↦ ap (λ (f : Log Bytes). f q) is ∙ copied.below q less
          | inr above ↦ absurd (omega arith)
        ])
      ];
  rest = λ q b. ap (λ (f : Log Bytes). f q) is ∙ copied.rest q (omega arith);
}

-- all is read where nothing is learned from the end on
pub copied_all : (learned log : Log Bytes) (p : ℕ) → IsCopied learned log p → ((q : ℕ) → p ≤ q → learned q ≡ None) → learned ≡ log
copied_all learned log p copied none = fun_ext (λ q.
    elim (cases_lt q p) [
      | inl b ↦ sym (copied.below q b)
      | inr a ↦ none q a ∙ sym (copied.rest q a)
    ])
