-- How a statement begins.
use Rattle.std.specs.Prelude.{◌≡◌, ℕ, Bool, true, false, List, [], ◌∷◌}
use Rattle.pf_tokens.specs.Tokens.{Placed}
use Rattle.pf_tokens.specs.Macros.{is_equals, is_some_word}

-- whether = comes first
abbrev pub begins_with_equals : List Placed → Bool
begins_with_equals [] = false
begins_with_equals (p ∷ ps) = is_equals p.token

-- a word token comes first, and is on the line
abbrev pub IsWordOn : ℕ → List Placed → Type 0
IsWordOn line [] = ⊥
IsWordOn line (p ∷ ps) = (p.line ≡ line) × (is_some_word p.token ≡ true)
