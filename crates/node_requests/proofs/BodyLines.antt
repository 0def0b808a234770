-- The lines of a body.
use Rattle.std.proofs.Common.{◌≡◌, ◌∙◌, ℕ, List, Option, Some, None, true, false, refl, ap, IsUtf8}
use Rattle.std.specs.Prelude.{if◌then◌else◌}
use Rattle.std.specs.Str.{is_utf8}
use Rattle.std.specs.Str.Lines.{lines}
use Rattle.std.proofs.lemmas.Str.{is_utf8-from_IsUtf8, IsUtf8-from_is_utf8}
use Rattle.node_requests.specs.Routing.{lines_in}

pub some_lines : (bs s : List ℕ) (ls : List (List ℕ)) → s ≡ bs → IsUtf8 bs → ls ≡ lines s → Some ls ≡ lines_in bs
some_lines bs s ls e h l = rw (is_utf8-from_IsUtf8 bs h) (ap Some (l ∙ ap lines e))

pub no_lines : (bs : List ℕ) → (IsUtf8 bs → ⊥) → None ≡ lines_in bs
no_lines bs h = (elim (is_utf8 bs) as (λ q. is_utf8 bs ≡ q → None ≡ (if q then Some (lines bs) else None)) [
  | true ↦ λ e. absurd (h (IsUtf8-from_is_utf8 bs e))
  | false ↦ λ e. refl
]) refl
