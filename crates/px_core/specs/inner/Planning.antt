-- What only code and proofs use beside `Planning`.
use Rattle.std.specs.Prelude.{◌≡◌, Result, MatchResult}
use Rattle.px_model.specs.Node.{Answer}
use Rattle.px_model.specs.Spelling.{Bytes}
use Rattle.px_core.specs.declared.plan.Plan.{Plan}
use Rattle.px_core.specs.declared.plan.CoreFault.{CoreFault}
use Rattle.px_core.specs.declared.plan.CoreFault.TheVariants as fault
use Rattle.px_core.specs.declared.state.Core.{Core}
use Rattle.px_core.specs.inner.Seen.{plan_in}
use Rattle.px_core.specs.Planning.{IsRefusal}

-- ---- plans

-- what the core's code gives is this answer
abbrev pub IsAnswer : Core → Result Plan CoreFault → Answer Bytes → Type 0
IsAnswer core result answer =
    MatchResult result (λ plan. answer ≡ Answer.Planned (plan_in core plan)) (λ fault. IsRefusal fault answer)
