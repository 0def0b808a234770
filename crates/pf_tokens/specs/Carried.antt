-- The first fault of a statement of which some tokens were passed.
use Rattle.std.specs.Prelude.{ℕ, List, Option}
use Rattle.std.specs.Option.{option_or}
use Rattle.pf_tokens.specs.declared.fault.ReadingFault.{ReadingFault}
use Rattle.pf_tokens.specs.declared.passed.Passed.{Passed}
use Rattle.pf_tokens.specs.Tokens.{Token}
use Rattle.pf_tokens.specs.Macros.{Definition}
use Rattle.pf_tokens.specs.Faults.{reading_fault}

-- the one found, else the first among these tokens, before which that many braces are open
abbrev pub carried : List Definition → Passed → ℕ → List Token → Option ReadingFault
carried ds passed depth ts = option_or passed.fault (reading_fault ds passed.count depth ts)
