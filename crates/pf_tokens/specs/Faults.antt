-- Faults while a statement is read: each is a test on one of its tokens, and the first counts.
use Rattle.std.specs.Prelude.{ℕ, ◌+◌, ◌||◌, Bool, true, false, List, [], ◌∷◌, Option, Some, None}
use Rattle.std.specs.Prelude.{is_none, nat_le, nat_lt}
use Rattle.pf_tokens.specs.declared.fault.ReadingFault.{ReadingFault}
use Rattle.pf_tokens.specs.declared.fault.ReadingFault.TheVariants.{Lexical, UnknownMacro, TooMany}
use Rattle.pf_tokens.specs.Tokens.{Token, Macro, Bad}
use Rattle.pf_tokens.specs.Macros.{Definition, text_of, depth_after}

-- a byte that begins no token, or a string that isn't closed on its line
abbrev pub is_bad : Token → Bool
is_bad Bad = true
is_bad other = false

-- a macro that isn't defined before
abbrev pub is_unknown : List Definition → Token → Bool
is_unknown ds (Macro name) = is_none (text_of ds name)
is_unknown ds other = false

-- this fault if the test holds, else what the others give
abbrev pub or_fault : Bool → ReadingFault → Option ReadingFault → Option ReadingFault
or_fault true fault others = Some fault
or_fault false fault others = others

-- The first fault among the tokens, of which that many are before, with that many open braces: a statement has
-- at most 65,536 tokens, and at most 64 of its braces are open at once.
abbrev pub reading_fault : List Definition → ℕ → ℕ → List Token → Option ReadingFault
reading_fault ds count depth [] = None
reading_fault ds count depth (t ∷ ts) =
    or_fault (is_bad t) Lexical
    (or_fault (is_unknown ds t) UnknownMacro
    (or_fault (nat_le 65536 count || nat_lt 64 (depth_after depth t)) TooMany
    (reading_fault ds (count + 1) (depth_after depth t) ts)))
