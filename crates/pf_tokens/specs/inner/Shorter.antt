-- What is read from the front takes tokens: facts for elements of lists.
use Rattle.std.proofs.Common.{◌≡◌, ℕ, ◌<◌, ◌≤◌, Bool, true, false, List, [], ◌∷◌, drop, length}
use Rattle.std.proofs.Common.{Option, Some, None, refl, ap, arith}
use Rattle.std.specs.Prelude.{if◌then◌else◌}
use Rattle.std.proofs.lemmas.Bool.{false≢true}
use Rattle.pf_tokens.specs.declared.symbol.Symbol.{Symbol}
use Rattle.pf_tokens.specs.Tokens.{Token, Word, Quoted, Macro, Mark, Newline, Bad}
use Rattle.pf_tokens.specs.Productions.{◌>>=◌, begins, begins_symbol, word_at, name_at, option_at, symbol_at}

-- what is read in two steps has both
pub bind_some : {A B : Type 0} (o : Option A) (f : A → Option B) (y : B) → (o >>= f) ≡ Some y → (x : A) ×
    (o ≡ Some x) × (f x ≡ Some y)
bind_some (Some x) f y e = (x, refl, e)
bind_some None f y e = absurd cc

abbrev pub some : {A : Type 0} → A → Option A
some x = Some x

pub some_is : {A : Type 0} (x y : A) → some x ≡ some y → x ≡ y
some_is x y e = cc

pub begins_shorter : (word : List ℕ) (ts : List Token) → begins word ts ≡ true → length (drop 1 ts) < length ts
begins_shorter word [] e = absurd (false≢true e)
begins_shorter word (t ∷ ts) e = omega arith

pub symbol_shorter : (symbol : Symbol) (ts : List Token) → begins_symbol symbol ts ≡ true →
    length (drop 1 ts) < length ts
symbol_shorter symbol [] e = absurd (false≢true e)
symbol_shorter symbol (t ∷ ts) e = omega arith

pub word_shorter : (ts : List Token) (x : List ℕ × List Token) → word_at ts ≡ Some x → length x.1 < length ts
word_shorter [] x e = absurd cc
word_shorter (Word text ∷ ts) x e =
    omega (arith, ap (λ (y : List ℕ × List Token). length y.1) (some_is (text, ts) x e))
word_shorter (Quoted text ∷ ts) x e = absurd cc
word_shorter (Macro name ∷ ts) x e = absurd cc
word_shorter (Mark symbol ∷ ts) x e = absurd cc
word_shorter (Newline ∷ ts) x e = absurd cc
word_shorter (Bad ∷ ts) x e = absurd cc

pub name_shorter : (ts : List Token) (x : List ℕ × List Token) → name_at ts ≡ Some x → length x.1 < length ts
name_shorter [] x e = absurd cc
name_shorter (Word text ∷ ts) x e =
    omega (arith, ap (λ (y : List ℕ × List Token). length y.1) (some_is (text, ts) x e))
name_shorter (Quoted text ∷ ts) x e =
    omega (arith, ap (λ (y : List ℕ × List Token). length y.1) (some_is (text, ts) x e))
name_shorter (Macro name ∷ ts) x e = absurd cc
name_shorter (Mark symbol ∷ ts) x e = absurd cc
name_shorter (Newline ∷ ts) x e = absurd cc
name_shorter (Bad ∷ ts) x e = absurd cc

-- a token that may come next
abbrev may_take : Bool → List Token → Bool × List Token
may_take b ts = if b then (true, drop 1 ts) else (false, ts)

may_no_longer : (b : Bool) (ts : List Token) → length (may_take b ts).1 ≤ length ts
may_no_longer true [] = omega arith
may_no_longer true (t ∷ ts) = omega arith
may_no_longer false ts = omega arith

pub option_no_longer : (word : List ℕ) (ts : List Token) → length (option_at word ts).1 ≤ length ts
unfolding option_at
option_no_longer word ts = may_no_longer (begins word ts) ts

pub symbol_no_longer : (symbol : Symbol) (ts : List Token) → length (symbol_at symbol ts).1 ≤ length ts
unfolding symbol_at
symbol_no_longer symbol ts = may_no_longer (begins_symbol symbol ts) ts
