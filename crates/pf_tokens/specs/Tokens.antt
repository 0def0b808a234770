-- The tokens of a source, each with its line.
use Rattle.std.specs.Prelude.{ℕ, zero, suc, ◌+◌, ◌-◌, ◌==◌, ◌||◌, ◌&&◌, Bool, true, false, List}
use Rattle.std.specs.Prelude.{[], ◌∷◌, map, take, drop, Option, Some, None, not, codes, nat_le}
use Rattle.std.specs.Prelude.{if◌then◌else◌, take_while}
use Rattle.std.specs.List.{prefix_len, list_any}
use Rattle.std.specs.Char.{is_ascii_alphanumeric}
use Rattle.pf_tokens.specs.declared.symbol.Symbol.{Symbol}
use Rattle.pf_tokens.specs.declared.symbol.Symbol.TheVariants.{Open, Close, OpenParenthesis, CloseParenthesis, Comma}
use Rattle.pf_tokens.specs.declared.symbol.Symbol.TheVariants.{Slash, Not, NotEqual, Less, LessEqual, Greater}
use Rattle.pf_tokens.specs.declared.symbol.Symbol.TheVariants.{GreaterEqual, Between, Outside, Equals}

-- ---- letters

-- a byte of the text, and its line
pub record Letter : Type 0 where
  pub byte : ℕ
  pub line : ℕ

-- the line of what follows the byte
abbrev pub line_after : ℕ → ℕ → ℕ
line_after line b = if b == 10 then line + 1 else line

-- Each byte with its line, the first being on this one; a backslash directly before a newline is taken out
-- together with it, and the lines are those of the text as given. (pf.conf(5): lines are joined by a backslash.)
-- Example: pa\ NL ss gives the letters of pass, the last two on line 2.
abbrev pub letters : ℕ → List ℕ → List Letter
letters line [] = []
letters line (b ∷ []) = record { byte = b; line = line } ∷ []
letters line (b ∷ c ∷ bytes) = if b == 92 && c == 10 then letters (line + 1) bytes
    else record { byte = b; line = line } ∷ letters (line_after line b) (c ∷ bytes)

-- the same of a source in which nothing is taken out
abbrev pub plain_letters : ℕ → List ℕ → List Letter
plain_letters line [] = []
plain_letters line (b ∷ bytes) = record { byte = b; line = line } ∷ plain_letters (line_after line b) bytes

-- ---- tokens

-- a WORD, a STRING, a macro's name, a symbol, a newline, or a byte that begins none of these
-- Example: "a NL is Bad at the quote.
pub data Token : Type 0 where
  Word : (text : List ℕ) → Token
  Quoted : (text : List ℕ) → Token
  Macro : (name : List ℕ) → Token
  Mark : (symbol : Symbol) → Token
  Newline : Token
  Bad : Token

-- the token is a newline
abbrev pub is_newline : Token → Bool
is_newline (Word text) = false
is_newline (Quoted text) = false
is_newline (Macro name) = false
is_newline (Mark symbol) = false
is_newline Newline = true
is_newline Bad = false

-- A token, the line of its first letter, and whether it is in the text as it is; the others are of a
-- macro's text.
pub record Placed : Type 0 where
  pub token : Token
  pub line : ℕ
  pub written : Bool

-- letters and digits, and . : _ - + * % @
abbrev pub is_word_byte : ℕ → Bool
is_word_byte b = is_ascii_alphanumeric b || list_any (λ c. c == b) (codes ".:_-+*%@")

-- letters and digits, and _
abbrev pub is_name_byte : ℕ → Bool
is_name_byte b = is_ascii_alphanumeric b || (b == 95)

-- printable ASCII and tabs, but no quote and no backslash
abbrev pub is_quoted_byte : ℕ → Bool
is_quoted_byte b = (b == 9 || (nat_le 32 b && nat_le b 126)) && not (b == 34) && not (b == 92)

-- space and tab
abbrev pub is_blank : ℕ → Bool
is_blank b = b == 32 || b == 9

-- the symbols of one letter: { } ( ) , / ! < > =
abbrev pub symbol_of : ℕ → Option Symbol
symbol_of b =
    if b == 123 then Some Open
    else (if b == 125 then Some Close
    else (if b == 40 then Some OpenParenthesis
    else (if b == 41 then Some CloseParenthesis
    else (if b == 44 then Some Comma
    else (if b == 47 then Some Slash
    else (if b == 33 then Some Not
    else (if b == 60 then Some Less
    else (if b == 62 then Some Greater
    else (if b == 61 then Some Equals
    else None)))))))))

-- the symbols of two letters: != <= >= <> ><
abbrev pub symbol_of_two : ℕ → ℕ → Option Symbol
symbol_of_two b c =
    if c == 61 then (if b == 33 then Some NotEqual else (if b == 60 then Some LessEqual
    else (if b == 62 then Some GreaterEqual else None)))
    else (if c == 62 then (if b == 60 then Some Outside else None)
    else (if c == 60 then (if b == 62 then Some Between else None)
    else None))

-- What is at the front of a source: a token, or none where it is a blank or a comment, and how many
-- letters it takes.
pub record Front : Type 0 where
  pub token : Option Token
  pub len : ℕ

-- this token, which takes one letter
abbrev pub one_letter : Token → Front
one_letter token = record { token = Some token; len = 1 }

-- a quote, its text, and a quote; a fault where the line ends before it, or a byte that may not be there
abbrev pub quoted_closed : List ℕ → ℕ → List ℕ → Front
quoted_closed bytes len [] = one_letter Bad
quoted_closed bytes len (b ∷ more) = if b == 34 then record { token = Some (Quoted (take len bytes)); len = len + 2 }
    else one_letter Bad

-- a dollar sign and a name
abbrev pub macro_front : List ℕ → ℕ → Front
macro_front bytes zero = one_letter Bad
macro_front bytes (suc n) = record { token = Some (Macro (take (suc n) bytes)); len = suc n + 1 }

-- the symbol of two letters that begins with this one, if there is one
abbrev pub longer_symbol : ℕ → List ℕ → Option Symbol
longer_symbol b [] = None
longer_symbol b (c ∷ bytes) = symbol_of_two b c

-- the longest symbol, or a byte that begins no token
abbrev pub longest : Option Symbol → Option Symbol → Front
longest (Some symbol) shorter = record { token = Some (Mark symbol); len = 2 }
longest None (Some symbol) = one_letter (Mark symbol)
longest None None = one_letter Bad

-- the token, blank or comment at the front of these bytes, which takes no letter where there are none
abbrev pub front : List ℕ → Front
front [] = record { token = None; len = 0 }
front (b ∷ bytes) =
    if is_word_byte b then record {
      token = Some (Word (take_while is_word_byte (b ∷ bytes)));
      len = prefix_len is_word_byte (b ∷ bytes);
    }
    else (if b == 10 then one_letter Newline
    else (if is_blank b then record { token = None; len = 1 }
    else (if b == 35 then record { token = None; len = prefix_len (λ c. not (c == 10)) (b ∷ bytes) }
    else (if b == 34 then quoted_closed bytes (prefix_len is_quoted_byte bytes)
    (drop (prefix_len is_quoted_byte bytes) bytes)
    else (if b == 36 then macro_front bytes (prefix_len is_name_byte bytes)
    else longest (longer_symbol b bytes) (symbol_of b))))))

-- the token, if there is one, as written on this line, and more tokens behind it
abbrev pub placed : Option Token → ℕ → List Placed → List Placed
placed None line more = more
placed (Some token) line more = record { token = token; line = line; written = true } ∷ more

-- the tokens behind that many letters, which belong to the token before
abbrev pub tokens_behind : ℕ → List Letter → List Placed
tokens_behind skip [] = []
tokens_behind (suc skip) (l ∷ ls) = tokens_behind skip ls
tokens_behind zero (l ∷ ls) =
    let f = front (l.byte ∷ map (λ (m : Letter). m.byte) ls) in
    placed f.token l.line (tokens_behind (f.len - 1) ls)

-- the tokens of a source as given
-- Example: a<=b is Word a, Mark LessEqual, Word b.
abbrev pub tokens : List ℕ → List Placed
tokens text = tokens_behind 0 (letters 1 text)

-- the tokens of a macro's text, in which no line is joined
abbrev pub plain_tokens : List ℕ → List Placed
plain_tokens text = tokens_behind 0 (plain_letters 1 text)

-- the first element, if there is one
abbrev pub first : {X : Type 0} → List X → Option X
first [] = None
first (x ∷ xs) = Some x
