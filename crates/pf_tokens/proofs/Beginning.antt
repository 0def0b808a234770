-- A parser at the start of a statement.
use Rattle.std.proofs.Common.{◌≡◌, ◌&&◌, Bool, true, false, cond, ℕ, List, [], ◌∷◌, drop, Some, None, option_map, refl, sym, ap, ◌∙◌}
use Rattle.pf_tokens.specs.declared.lexeme.Lexed.{Lexed}
use Rattle.pf_tokens.specs.Tokens.{Token, Word, Quoted, Macro, Mark, Newline, Bad, Placed, first}
use Rattle.pf_tokens.specs.Lexed.{token_of, placed_of}
use Rattle.pf_tokens.specs.Macros.{Definition, is_some_word, is_equals, is_definition, replaced_token}
use Rattle.pf_tokens.specs.Flow.{statement_raw, ending_raw, statement_left, ending_left}
use Rattle.pf_tokens.specs.inner.Flow.{pulled_raw}
use Rattle.pf_tokens.proofs.Flowing.{pulled_raw_keeps}
use Rattle.pf_tokens.proofs.Pulling.{pulled_itself}
use Rattle.pf_tokens.specs.inner.Begun.{IsWordOn, begins_with_equals}

pub begins_there : (ds : List Definition) (defining : Bool) (raw : List Placed) (p : List Placed × List Placed) → p ≡ pulled_raw ds defining raw → statement_left ds defining 0 p.0 p.1 ≡ statement_raw ds defining 0 raw
begins_there ds defining raw p e = ap (λ (q : List Placed × List Placed). statement_left ds defining 0 q.0 q.1) e ∙ (pulled_raw_keeps ds defining raw).statement 0

pub begins_later : (ds : List Definition) (defining : Bool) (raw : List Placed) (p : List Placed × List Placed) → p ≡ pulled_raw ds defining raw → ending_left ds defining 0 p.0 p.1 ≡ ending_raw ds defining 0 raw
begins_later ds defining raw p e = ap (λ (q : List Placed × List Placed). ending_left ds defining 0 q.0 q.1) e ∙ (pulled_raw_keeps ds defining raw).ending 0

-- the first two tokens
pub defines_none : (ts : List Placed) → option_map {U = Placed} placed_of None ≡ first ts → is_definition ts ≡ false
defines_none [] e = refl
defines_none (t ∷ ts) e = absurd cc

pub defines_not : (l : Lexed) (ts : List Placed) → option_map placed_of (Some l) ≡ first ts → is_some_word (token_of l.lexeme) ≡ false → is_definition ts ≡ false
defines_not l [] e other = absurd cc
defines_not l (t ∷ []) e other = refl
defines_not l (t ∷ u ∷ ts) e other =
    let same : placed_of l ≡ t = cc in
    ap (λ (p : Placed). is_some_word p.token && is_equals u.token) (sym same) ∙ ap (λ (b : Bool). b && is_equals u.token) other

-- the second
pub equals_none : (ts : List Placed) → option_map {U = Placed} placed_of None ≡ first ts → begins_with_equals ts ≡ false
equals_none [] e = refl
equals_none (t ∷ ts) e = absurd cc

pub equals_one : (l : Lexed) (ts : List Placed) → option_map placed_of (Some l) ≡ first ts → begins_with_equals ts ≡ is_equals (token_of l.lexeme)
equals_one l [] e = absurd cc
equals_one l (t ∷ ts) e =
    let same : placed_of l ≡ t = cc in
    ap (λ (p : Placed). is_equals p.token) (sym same)

word_alone : (t : Token) → is_some_word t ≡ true → is_equals t ≡ false
word_alone (Word text) e = refl
word_alone (Quoted text) e = refl
word_alone (Macro name) e = refl
word_alone (Mark symbol) e = absurd cc
word_alone Newline e = refl
word_alone Bad e = refl

pub equals_not : (line : ℕ) (ts : List Placed) → IsWordOn line ts → begins_with_equals ts ≡ false
equals_not line [] on = absurd on
equals_not line (t ∷ ts) on = word_alone t.token on.1

pub defines_behind : (l : Lexed) (ts rest : List Placed) → option_map placed_of (Some l) ≡ first ts → rest ≡ drop 1 ts → is_some_word (token_of l.lexeme) ≡ true → is_definition ts ≡ begins_with_equals rest
defines_behind l [] rest e is_rest word = absurd cc
defines_behind l (t ∷ []) rest e is_rest word = rw is_rest refl
defines_behind l (t ∷ u ∷ ts) rest e is_rest word =
    let same : placed_of l ≡ t = cc in
    let one : is_some_word t.token ≡ true = ap (λ (p : Placed). is_some_word p.token) (sym same) ∙ word in
    rw (is_rest, one) refl

-- a word stands for itself
word_replaced : (ds : List Definition) (defining : Bool) (p : Placed) (t : Token) → is_some_word t ≡ true → p ∷ [] ≡ cond defining (p ∷ []) (replaced_token ds p t)
word_replaced ds true p t e = refl
word_replaced ds false p (Word text) e = refl
word_replaced ds false p (Quoted text) e = refl
word_replaced ds false p (Macro name) e = absurd cc
word_replaced ds false p (Mark symbol) e = refl
word_replaced ds false p Newline e = refl
word_replaced ds false p Bad e = refl

pub word_pulled : (ds : List Definition) (defining : Bool) (l : Lexed) (ts rest : List Placed) → option_map placed_of (Some l) ≡ first ts → rest ≡ drop 1 ts → is_some_word (token_of l.lexeme) ≡ true → pulled_raw ds defining ts ≡ (placed_of l ∷ [], rest)
word_pulled ds defining l ts rest e is_rest word =
    pulled_itself ds defining l ts rest e is_rest (word_replaced ds defining (placed_of l) (token_of l.lexeme) word)
