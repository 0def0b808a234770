-- Lines of a log, one after the other.
use Rattle.std.proofs.Common.{◌≡◌, ℕ, zero, suc, ◌-◌, ◌<◌, List, ◌++◌, refl, sym, ap, ◌∙◌, arith, append_assoc}
use Rattle.px_model.specs.Node.{Log}
use Rattle.px_model.specs.Spelling.{Bytes}
use Rattle.node_requests.specs.Positions.{lines_before, log_line}

-- one line more
lines_step : (log : Log Bytes) (applied kept end n : ℕ) → 0 < n →
    lines_before log applied kept end n ≡ log_line log applied kept (end - n) ++ lines_before log applied kept end (n - 1)
lines_step log applied kept end zero some = absurd (omega arith)
lines_step log applied kept end (suc n) some = let e : suc n - 1 ≡ n = omega arith in rw e refl

-- a string with one line more
pub one_more : (log : Log Bytes) (applied kept end n : ℕ) (before after : List ℕ) → 0 < n →
    after ≡ before ++ log_line log applied kept (end - n) →
    after ++ lines_before log applied kept end (n - 1) ≡ before ++ lines_before log applied kept end n
one_more log applied kept end n before after some is =
    ap (λ (t : List ℕ). t ++ lines_before log applied kept end (n - 1)) is
    ∙ append_assoc before (log_line log applied kept (end - n)) (lines_before log applied kept end (n - 1))
    ∙ ap (λ (t : List ℕ). before ++ t) (sym (lines_step log applied kept end n some))
