-- Logs, one entry after the other.
use Rattle.std.proofs.Common.{◌≡◌, List, [], ◌∷◌, ◌++◌, fold, refl}
use Rattle.pf_config.specs.Map.{Configuration}
use Rattle.pf_entry.specs.Entry.{Entry}
use Rattle.pf_command.specs.Effect.{after, after_command, empty}

fold_more : (step : Configuration → Entry → Configuration) (c : Configuration) (es : List Entry) (e : Entry) → fold step c (es ++ e ∷ []) ≡ step (fold step c es) e
fold_more step c [] e = refl
fold_more step c (f ∷ es) e = fold_more step (step c f) es e

pub one_more : (es : List Entry) (e : Entry) → after (es ++ e ∷ []) ≡ after_command (after es) e.command
unfolding after
one_more es e = fold_more (λ (c : Configuration) (f : Entry). after_command c f.command) empty es e
