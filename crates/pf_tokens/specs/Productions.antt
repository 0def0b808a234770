-- Productions: what is read from the front of a statement's tokens.
use Rattle.std.specs.Prelude.{ℕ, ◌==◌, Bool, true, false, List, [], ◌∷◌, drop, Option, Some, None}
use Rattle.std.specs.Prelude.{option_map, bytes_eq, if◌then◌else◌}
use Rattle.pf_tokens.specs.declared.symbol.Symbol.{Symbol}
use Rattle.pf_tokens.specs.declared.symbol.Symbol.TheVariants.{Open, Close, OpenParenthesis, CloseParenthesis, Comma}
use Rattle.pf_tokens.specs.declared.symbol.Symbol.TheVariants.{Slash, Not, NotEqual, Less, LessEqual, Greater}
use Rattle.pf_tokens.specs.declared.symbol.Symbol.TheVariants.{GreaterEqual, Between, Outside, Equals}
use Rattle.pf_tokens.specs.Tokens.{Token, Word, Quoted, Macro, Mark, Newline, Bad}
use Rattle.pf_tokens.specs.Blanks.{blanked}

-- a value and the tokens behind it, or none
abbrev pub Read : Type 0 → Type 0
Read X = Option (X × List Token)

infixl 10 ◌>>=◌
-- goes on with the value that there is; none where there is none
abbrev pub ◌>>=◌ : {A B : Type 0} → Option A → (A → Option B) → Option B
(Some x) >>= f = f x
None >>= f = None

-- whether no token is left
abbrev pub is_end : List Token → Bool
is_end [] = true
is_end (t ∷ ts) = false

-- whether the first token passes
abbrev pub starts : (Token → Bool) → List Token → Bool
starts test [] = false
starts test (t ∷ ts) = test t

-- whether it does, and what is left if it is taken then
abbrev pub accepted_if : (Token → Bool) → List Token → Bool × List Token
accepted_if test ts = if starts test ts then (true, drop 1 ts) else (false, ts)

-- ---- keywords

-- the token is a WORD with this text
abbrev pub is_word : List ℕ → Token → Bool
is_word word (Word text) = bytes_eq text word
is_word word (Quoted text) = false
is_word word (Macro name) = false
is_word word (Mark symbol) = false
is_word word Newline = false
is_word word Bad = false

-- whether the first token is this keyword
abbrev pub begins : List ℕ → List Token → Bool
begins word [] = false
begins word (t ∷ ts) = is_word word t

-- [word]
unfoldable pub option_at : List ℕ → List Token → Bool × List Token
option_at word ts = if begins word ts then (true, drop 1 ts) else (false, ts)

-- the text of a WORD
abbrev pub word_of : Token → Option (List ℕ)
word_of (Word text) = Some text
word_of (Quoted text) = None
word_of (Macro name) = None
word_of (Mark symbol) = None
word_of Newline = None
word_of Bad = None

-- WORD
abbrev pub word_at : List Token → Read (List ℕ)
word_at [] = None
word_at (t ∷ ts) = option_map (λ (text : List ℕ). (text, ts)) (word_of t)

-- the text of a WORD or a STRING
abbrev pub name_of : Token → Option (List ℕ)
name_of (Word text) = Some text
name_of (Quoted text) = Some text
name_of (Macro name) = None
name_of (Mark symbol) = None
name_of Newline = None
name_of Bad = None

-- WORD | STRING
abbrev pub name_at : List Token → Read (List ℕ)
name_at [] = None
name_at (t ∷ ts) = option_map (λ (text : List ℕ). (text, ts)) (name_of t)

-- ---- symbols

-- symbols in the order in which they are declared
abbrev pub number : Symbol → ℕ
number Open = 0
number Close = 1
number OpenParenthesis = 2
number CloseParenthesis = 3
number Comma = 4
number Slash = 5
number Not = 6
number NotEqual = 7
number Less = 8
number LessEqual = 9
number Greater = 10
number GreaterEqual = 11
number Between = 12
number Outside = 13
number Equals = 14

-- the token is this symbol
abbrev pub is_symbol : Symbol → Token → Bool
is_symbol symbol (Word text) = false
is_symbol symbol (Quoted text) = false
is_symbol symbol (Macro name) = false
is_symbol symbol (Mark found) = number found == number symbol
is_symbol symbol Newline = false
is_symbol symbol Bad = false

-- whether the first token is this symbol
abbrev pub begins_symbol : Symbol → List Token → Bool
begins_symbol symbol [] = false
begins_symbol symbol (t ∷ ts) = is_symbol symbol t

-- [symbol]
unfoldable pub symbol_at : Symbol → List Token → Bool × List Token
symbol_at symbol ts = if begins_symbol symbol ts then (true, drop 1 ts) else (false, ts)

-- the brace that opens a list, behind which newlines are blanks up to the brace that closes it
unfoldable pub list_opened : List Token → Bool × List Token
list_opened ts = if begins_symbol Open ts then (true, blanked 1 (drop 1 ts)) else (false, ts)
