-- What only code and proofs use beside `Flow`.
use Rattle.std.specs.Prelude.{Bool, List, [], ◌∷◌}
use Rattle.pf_tokens.specs.Tokens.{Placed}
use Rattle.pf_tokens.specs.Macros.{Definition, replaced}

abbrev pub pulled_first : List Placed → List Placed → List Placed × List Placed → List Placed × List Placed
pulled_first [] ps others = others
pulled_first (t ∷ ts) ps others = (t ∷ ts, ps)

-- the next tokens that are there, and those of the text behind them
abbrev pub pulled_raw : List Definition → Bool → List Placed → List Placed × List Placed
pulled_raw ds defining [] = ([], [])
pulled_raw ds defining (p ∷ ps) = pulled_first (replaced ds defining p) ps (pulled_raw ds defining ps)

abbrev pub pulled : List Definition → Bool → List Placed → List Placed → List Placed × List Placed
pulled ds defining [] raw = pulled_raw ds defining raw
pulled ds defining (t ∷ ts) raw = (t ∷ ts, raw)
