-- What only code and proofs use beside `Outcomes`.
use Rattle.std.specs.Prelude.{ℕ, zero, suc, List, [], ◌∷◌}
use Rattle.px_model.specs.Node.{Log}
use Rattle.px_model.specs.Spelling.{Bytes}
use Rattle.pf_node.specs.declared.outcomes.Outcome.{Outcome}
use Rattle.pf_node.specs.Outcomes.{outcome_at}

-- of the n positions below k, the last one first
abbrev pub outcomes_below : Log Bytes → (k n : ℕ) → List Outcome
outcomes_below log k zero = []
outcomes_below log zero (suc n) = []
outcomes_below log (suc k) (suc n) = outcome_at log k ∷ outcomes_below log k n
