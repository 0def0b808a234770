-- What is at the front of tokens.
use Rattle.std.proofs.Common.{◌≡◌, ℕ, ◌==◌, true, List, [], ◌∷◌, ◌++◌, drop, Some, refl, sym, ap, ◌∙◌, arith}
use Rattle.std.specs.Prelude.{if◌then◌else◌}
use Rattle.std.proofs.lemmas.Slice.Eq.{bytes_eq-Decides}
use Rattle.std.proofs.lemmas.Bool.{false≢true}
use Rattle.std.proofs.lemmas.Bool.Decides.{nat_tests}
use Rattle.pf_tokens.specs.declared.symbol.Symbol.{Symbol}
use Rattle.pf_tokens.specs.declared.symbol.Symbol.TheVariants.{Open, Close, OpenParenthesis, CloseParenthesis, Comma, Slash, Not, NotEqual, Less, LessEqual, Greater, GreaterEqual, Between, Outside, Equals}
use Rattle.pf_tokens.specs.Tokens.{Token, Word, Quoted, Macro, Mark, Newline, Bad}
use Rattle.pf_tokens.specs.Productions.{begins, begins_symbol, number, word_at}
use Rattle.pf_tokens.specs.inner.Shorter.{some_is}

-- ---- what was taken

-- what was taken from the front is of the grammar
pub record Took {V : Type 0} (Is : List Token → V → Type 0) (ts : List Token) (x : V × List Token) : Type 0 where
  pub piece : List Token
  pub whole : ts ≡ piece ++ x.1
  pub is : Is piece x.0

-- ---- words

pub begins_is : (word : List ℕ) (ts : List Token) → begins word ts ≡ true → ts ≡ Word word ∷ drop 1 ts
begins_is word [] e = absurd (false≢true e)
begins_is word (Word text ∷ ts) e = ap (λ (w : List ℕ). Word w ∷ ts) ((bytes_eq-Decides text word).0 e)
begins_is word (Quoted text ∷ ts) e = absurd (false≢true e)
begins_is word (Macro name ∷ ts) e = absurd (false≢true e)
begins_is word (Mark symbol ∷ ts) e = absurd (false≢true e)
begins_is word (Newline ∷ ts) e = absurd (false≢true e)
begins_is word (Bad ∷ ts) e = absurd (false≢true e)

pub word_is : (ts : List Token) (x : List ℕ × List Token) → word_at ts ≡ Some x → ts ≡ Word x.0 ∷ x.1
word_is [] x e = absurd cc
word_is (Word text ∷ ts) x e = ap (λ (y : List ℕ × List Token). Word y.0 ∷ y.1) (some_is (text, ts) x e)
word_is (Quoted text ∷ ts) x e = absurd cc
word_is (Macro name ∷ ts) x e = absurd cc
word_is (Mark symbol ∷ ts) x e = absurd cc
word_is (Newline ∷ ts) x e = absurd cc
word_is (Bad ∷ ts) x e = absurd cc

-- ---- symbols

-- the symbol with this number
symbol_with : ℕ → Symbol
symbol_with n =
    if n == 0 then Open else (if n == 1 then Close else (if n == 2 then OpenParenthesis else (if n == 3 then CloseParenthesis else (if n == 4 then Comma
    else (if n == 5 then Slash else (if n == 6 then Not else (if n == 7 then NotEqual else (if n == 8 then Less else (if n == 9 then LessEqual
    else (if n == 10 then Greater else (if n == 11 then GreaterEqual else (if n == 12 then Between else (if n == 13 then Outside else Equals)))))))))))))

symbol_again : (s : Symbol) → symbol_with (number s) ≡ s
unfolding symbol_with
symbol_again Open = refl
symbol_again Close = refl
symbol_again OpenParenthesis = refl
symbol_again CloseParenthesis = refl
symbol_again Comma = refl
symbol_again Slash = refl
symbol_again Not = refl
symbol_again NotEqual = refl
symbol_again Less = refl
symbol_again LessEqual = refl
symbol_again Greater = refl
symbol_again GreaterEqual = refl
symbol_again Between = refl
symbol_again Outside = refl
symbol_again Equals = refl

same_number : (m n : ℕ) → (m == n) ≡ true → m ≡ n
same_number m n e = grind (arith, nat_tests, e)

same_symbol : (s t : Symbol) → (number s == number t) ≡ true → s ≡ t
same_symbol s t e = sym (symbol_again s) ∙ ap symbol_with (same_number (number s) (number t) e) ∙ symbol_again t

pub symbol_is : (s : Symbol) (ts : List Token) → begins_symbol s ts ≡ true → ts ≡ Mark s ∷ drop 1 ts
symbol_is s [] e = absurd (false≢true e)
symbol_is s (Word text ∷ ts) e = absurd (false≢true e)
symbol_is s (Quoted text ∷ ts) e = absurd (false≢true e)
symbol_is s (Macro name ∷ ts) e = absurd (false≢true e)
symbol_is s (Mark found ∷ ts) e = ap (λ (q : Symbol). Mark q ∷ ts) (same_symbol found s e)
symbol_is s (Newline ∷ ts) e = absurd (false≢true e)
symbol_is s (Bad ∷ ts) e = absurd (false≢true e)
