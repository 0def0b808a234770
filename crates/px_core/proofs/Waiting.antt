-- The entries that still wait.
use Rattle.std.proofs.Common.{◌≡◌, Bool, true, false, not, List, [], ◌∷◌, map, filter, nat_eq, refl, ap, sym, ◌∙◌}
use Rattle.std.proofs.lemmas.Bool.{cond-true, cond-false}
use Rattle.std.specs.Cmp.Lexicographic.{pointwise}
use Rattle.px_model.specs.Node as node
use Rattle.px_model.specs.Node.{same_entry}
use Rattle.px_model.specs.Step.{without}
use Rattle.px_model.specs.Spelling.{Bytes}
use Rattle.px_model.specs.Entries.{entry_of}
use Rattle.px_model.specs.declared.entry.Entry.{Entry}

pub without_filter : (e : node.Entry Bytes) (ws : List Entry) → map entry_of (filter (λ w. not (same_entry (pointwise nat_eq) (entry_of w) e)) ws) ≡ without (pointwise nat_eq) e (map entry_of ws)
without_filter e [] = refl
without_filter e (w ∷ ws) =
    split (same_entry (pointwise nat_eq) (entry_of w) e) refl (without_filter e ws)
  where
    split : (b : Bool) → same_entry (pointwise nat_eq) (entry_of w) e ≡ b → map entry_of (filter (λ w. not (same_entry (pointwise nat_eq) (entry_of w) e)) ws) ≡ without (pointwise nat_eq) e (map entry_of ws) → map entry_of (filter (λ w. not (same_entry (pointwise nat_eq) (entry_of w) e)) (w ∷ ws)) ≡ without (pointwise nat_eq) e (map entry_of (w ∷ ws))
    split true is ih =
        ap (λ (l : List Entry). map entry_of l) (cond-false (not (same_entry (pointwise nat_eq) (entry_of w) e)) _ _ (ap not is))
        ∙ ih ∙ sym (cond-true (same_entry (pointwise nat_eq) (entry_of w) e) _ _ is)
    split false is ih =
        ap (λ (l : List Entry). map entry_of l) (cond-true (not (same_entry (pointwise nat_eq) (entry_of w) e)) _ _ (ap not is))
        ∙ ap (λ (l : List (node.Entry Bytes)). entry_of w ∷ l) ih ∙ sym (cond-false (same_entry (pointwise nat_eq) (entry_of w) e) _ _ is)
