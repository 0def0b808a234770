-- The causes of what was judged.
use Rattle.std.specs.Prelude.{ℕ, ◌+◌, ◌||◌, Bool, List, [], ◌∷◌, nat_lt}
use Rattle.pf_expansion.specs.declared.judged.Judged.{Judged}
use Rattle.pf_expansion.specs.declared.cause.Cause.{Cause}
use Rattle.pf_expansion.specs.declared.cause.Cause.TheVariants.{Ports, NoCombination, Reserved, Twice}
use Rattle.pf_expansion.specs.declared.cause.Cause.TheVariants.{TooMany, IcmpType}

-- each cause with its test, the lowest first, behind that many rules, where a name is reserved or not, and a path comes
-- again or not
abbrev pub judged_causes : Judged → ℕ → Bool → Bool → List (Bool × Cause)
judged_causes j before reserved twice =
    (j.ports, Ports) ∷ (j.combination, NoCombination) ∷ (reserved, Reserved) ∷ (twice, Twice) ∷
    (j.many || nat_lt 1024 (before + j.rules), TooMany) ∷ (j.types, IcmpType) ∷ []
