-- Options one after another, to the end of a statement or of a rule in a block.
use Rattle.std.specs.Prelude.{ℕ, zero, suc, Bool, true, ◌||◌, List, [], ◌∷◌, Option, Some, None}
use Rattle.std.specs.Prelude.{if◌then◌else◌}
use Rattle.pf_tokens.specs.declared.symbol.Symbol.TheVariants.{Close}
use Rattle.pf_tokens.specs.Tokens.{Token, is_newline}
use Rattle.pf_tokens.specs.Productions.{Read, ◌>>=◌, is_end, is_symbol}

-- {option} to the end of the statement, each added to the options before it; no more than n are read
unfoldable pub to_end : {X : Type 0} → (X → List Token → Read X) → ℕ → X → List Token → Option X
to_end option zero x ts = None
to_end option (suc n) x ts = if is_end ts then Some x else (option x ts >>= λ r. to_end option n r.0 r.1)

-- whether a rule is over: nothing is left, or in a block a newline or the brace that closes it comes next
abbrev pub is_over : List Token → Bool
is_over [] = true
is_over (t ∷ ts) = is_newline t || is_symbol Close t

-- {option} up to where the rule is over, each added to the options before it; no more than n are read
unfoldable pub until_over : {X : Type 0} → (X → List Token → Read X) → ℕ → X → List Token → Read X
until_over option zero x ts = None
until_over option (suc n) x ts = if is_over ts then Some (x, ts)
    else (option x ts >>= λ r. until_over option n r.0 r.1)
