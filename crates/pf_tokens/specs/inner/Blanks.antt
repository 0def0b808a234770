-- What only code and proofs use beside `Blanks`.
use Rattle.std.specs.Prelude.{ℕ, zero, suc}
use Rattle.pf_tokens.specs.Tokens.{Token}
use Rattle.pf_tokens.specs.Macros.{depth_after}

-- how many braces of the list are open behind the token; where none is, the list has ended
abbrev pub open_after : ℕ → Token → ℕ
open_after zero t = 0
open_after (suc n) t = depth_after (suc n) t
