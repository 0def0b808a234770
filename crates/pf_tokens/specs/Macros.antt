-- Macros, and the tokens of a source in which they are replaced.
use Rattle.std.specs.Prelude.{ℕ, ◌+◌, ◌-◌, ◌==◌, ◌&&◌, Bool, true, false, List, [], ◌∷◌, map}
use Rattle.std.specs.Prelude.{Option, Some, None, bytes_eq, nat_lt, fold, flat_map, if◌then◌else◌}
use Rattle.pf_tokens.specs.declared.symbol.Symbol.TheVariants.{Equals, Open, Close}
use Rattle.pf_tokens.specs.Tokens.{Token, Word, Quoted, Macro, Mark, Newline, Bad, Placed, is_newline, plain_tokens}

-- a macro: its name, and the text that stands for it
pub record Definition : Type 0 where
  pub name : List ℕ
  pub text : List ℕ

-- the first text if there is one, else the other, if there is one
abbrev pub or_else : Option (List ℕ) → Option (List ℕ) → Option (List ℕ)
or_else (Some text) other = Some text
or_else None other = other

-- the text of the last definition of the name
abbrev pub text_of : List Definition → List ℕ → Option (List ℕ)
text_of [] name = None
text_of (d ∷ ds) name = or_else (text_of ds name) (if bytes_eq d.name name then Some d.text else None)

-- a token of a macro's text
abbrev pub unwritten : ℕ → Placed → Placed
unwritten line t = record { token = t.token; line = line; written = false }

-- the tokens of a macro's text, on the line of the macro; without a value the macro itself
abbrev pub text_tokens : Placed → Option (List ℕ) → List Placed
text_tokens p None = p ∷ []
text_tokens p (Some text) = map (unwritten p.line) (plain_tokens text)

-- a known macro is replaced by the tokens of its text, any other token stays as it is
abbrev pub replaced_token : List Definition → Placed → Token → List Placed
replaced_token ds p (Macro name) = text_tokens p (text_of ds name)
replaced_token ds p (Word text) = p ∷ []
replaced_token ds p (Quoted text) = p ∷ []
replaced_token ds p (Mark symbol) = p ∷ []
replaced_token ds p Newline = p ∷ []
replaced_token ds p Bad = p ∷ []

-- a known macro is replaced by the tokens of its text, except in a definition
abbrev pub replaced : List Definition → Bool → Placed → List Placed
replaced ds defining p = if defining then p ∷ [] else replaced_token ds p p.token

-- the token is a WORD
abbrev pub is_some_word : Token → Bool
is_some_word (Word text) = true
is_some_word (Quoted text) = false
is_some_word (Macro name) = false
is_some_word (Mark symbol) = false
is_some_word Newline = false
is_some_word Bad = false

-- the token is `=`
abbrev pub is_equals : Token → Bool
is_equals (Mark Equals) = true
is_equals other = false

-- whether the tokens as written begin with a word and =
-- Example: $a = b is none.
abbrev pub is_definition : List Placed → Bool
is_definition [] = false
is_definition (p ∷ []) = false
is_definition (p ∷ q ∷ more) = is_some_word p.token && is_equals q.token

-- the tokens of a statement that has begun so
-- Example: with a = in quick, pass $a is pass in quick.
abbrev pub flattened : List Definition → List Placed → List Placed
flattened ds begun = flat_map (replaced ds (is_definition begun)) begun

-- how many braces are open behind the token; no more than 65 are distinguished, since 65 refuse the text
abbrev pub depth_after : ℕ → Token → ℕ
depth_after depth (Mark Open) = if nat_lt depth 65 then depth + 1 else depth
depth_after depth (Mark Close) = depth - 1
depth_after depth other = depth

-- how many braces are open behind the tokens, where that many are open before them
abbrev pub depth_behind : ℕ → List Placed → ℕ
depth_behind depth ts = fold (λ d (t : Placed). depth_after d t.token) depth ts

-- a newline of the text that is outside braces
abbrev pub ends : ℕ → Placed → Bool
ends depth p = p.written && is_newline p.token && (depth == 0)
