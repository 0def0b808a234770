-- What is at the front of tokens.
use Rattle.std.proofs.Common.{◌≡◌, ℕ, ◌<◌, ◌≤◌, ◌==◌, Bool, true, false, List, [], ◌∷◌, ◌++◌, drop, Option, Some, None, refl, sym, ap, ◌∙◌, arith}
use Rattle.std.specs.Prelude.{codes, if◌then◌else◌}
use Rattle.std.proofs.lemmas.Slice.Eq.{bytes_eq-Decides}
use Rattle.std.proofs.lemmas.Bool.{false≢true}
use Rattle.std.proofs.lemmas.Bool.Decides.{nat_tests}
use Rattle.pf_tokens.specs.declared.symbol.Symbol.{Symbol}
use Rattle.pf_tokens.specs.declared.symbol.Symbol.TheVariants.{Open, Close, OpenParenthesis, CloseParenthesis, Comma, Slash, Not, NotEqual, Less, LessEqual, Greater, GreaterEqual, Between, Outside, Equals}
use Rattle.pf_tokens.specs.Tokens.{Token, Word, Quoted, Macro, Mark, Newline, Bad}
use Rattle.pf_tokens.specs.Productions.{begins, begins_symbol, number, word_at}
use Rattle.pf_tokens.specs.inner.Shorter.{some_is}
use Rattle.pf_tokens.proofs.Fronts.{begins_is}
use Rattle.pf_rules.specs.Words.{Named, named}

-- ---- what may follow a part of a rule

-- the parts of a rule in their order, by the words which begin them
abbrev ranked : List Named
ranked =
    (codes "drop", 1) ∷ (codes "return", 1) ∷ (codes "in", 2) ∷ (codes "out", 2) ∷ (codes "log", 3) ∷ (codes "quick", 4)
    ∷ (codes "on", 5) ∷ (codes "inet", 6) ∷ (codes "inet6", 6) ∷ (codes "proto", 7) ∷ (codes "all", 8) ∷ (codes "from", 8)
    ∷ (codes "port", 9) ∷ (codes "to", 10) ∷ (codes "flags", 11) ∷ (codes "no", 11) ∷ (codes "keep", 11) ∷ (codes "icmp-type", 11) ∷ []

abbrev rank_in : Option ℕ → ℕ
rank_in None = 0
rank_in (Some n) = n

abbrev pub word_rank : List ℕ → ℕ
word_rank word = rank_in (named ranked word)

-- a brace ends what is before it, and no other symbol begins a part
abbrev pub mark_rank : Symbol → ℕ
mark_rank Open = 20
mark_rank Close = 20
mark_rank OpenParenthesis = 0
mark_rank CloseParenthesis = 0
mark_rank Comma = 0
mark_rank Slash = 0
mark_rank Not = 0
mark_rank NotEqual = 0
mark_rank Less = 0
mark_rank LessEqual = 0
mark_rank Greater = 0
mark_rank GreaterEqual = 0
mark_rank Between = 0
mark_rank Outside = 0
mark_rank Equals = 0

-- which part of a rule may stand here at the earliest
abbrev pub rank : List Token → ℕ
rank [] = 20
rank (Word text ∷ ts) = word_rank text
rank (Quoted text ∷ ts) = 0
rank (Macro name ∷ ts) = 0
rank (Mark symbol ∷ ts) = mark_rank symbol
rank (Newline ∷ ts) = 20
rank (Bad ∷ ts) = 0

pub not_begun : (word : List ℕ) (ts : List Token) → word_rank word < rank ts → begins word ts ≡ false
not_begun word ts h = cases (begins word ts) refl
  where
    cases : (b : Bool) → begins word ts ≡ b → b ≡ false
    cases true e = absurd (let same : rank ts ≡ word_rank word = ap rank (begins_is word ts e) in omega (arith, h, same))
    cases false e = refl

not_low : (m n : ℕ) → m ≤ 1 → 1 < n → (m == n) ≡ false
not_low m n low high = grind (arith, nat_tests, low, high)

no_mark : (s found : Symbol) → 1 < number s → 0 < mark_rank found → (number found == number s) ≡ false
no_mark s Open other h = not_low 0 (number s) (omega arith) other
no_mark s Close other h = not_low 1 (number s) (omega arith) other
no_mark s OpenParenthesis other h = absurd (omega (arith, h))
no_mark s CloseParenthesis other h = absurd (omega (arith, h))
no_mark s Comma other h = absurd (omega (arith, h))
no_mark s Slash other h = absurd (omega (arith, h))
no_mark s Not other h = absurd (omega (arith, h))
no_mark s NotEqual other h = absurd (omega (arith, h))
no_mark s Less other h = absurd (omega (arith, h))
no_mark s LessEqual other h = absurd (omega (arith, h))
no_mark s Greater other h = absurd (omega (arith, h))
no_mark s GreaterEqual other h = absurd (omega (arith, h))
no_mark s Between other h = absurd (omega (arith, h))
no_mark s Outside other h = absurd (omega (arith, h))
no_mark s Equals other h = absurd (omega (arith, h))

-- no symbol but a brace stands where a part of a rule may
pub no_symbol : (s : Symbol) (ts : List Token) → 1 < number s → 0 < rank ts → begins_symbol s ts ≡ false
no_symbol s [] other h = refl
no_symbol s (Word text ∷ ts) other h = refl
no_symbol s (Quoted text ∷ ts) other h = refl
no_symbol s (Macro name ∷ ts) other h = refl
no_symbol s (Mark symbol ∷ ts) other h = no_mark s symbol other h
no_symbol s (Newline ∷ ts) other h = refl
no_symbol s (Bad ∷ ts) other h = refl
