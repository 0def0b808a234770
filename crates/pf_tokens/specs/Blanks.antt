-- Newlines within lists.
use Rattle.std.specs.Prelude.{ℕ, zero, suc, List, [], ◌∷◌, if◌then◌else◌}
use Rattle.pf_tokens.specs.Tokens.{Token, is_newline}
use Rattle.pf_tokens.specs.Macros.{depth_after}

-- The tokens where that many braces of a list are open: up to the brace that closes it newlines are blanks.
abbrev pub blanked : ℕ → List Token → List Token
blanked zero ts = ts
blanked (suc n) [] = []
blanked (suc n) (t ∷ ts) = if is_newline t then blanked (suc n) ts else t ∷ blanked (depth_after (suc n) t) ts
