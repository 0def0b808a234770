-- Going past empty statements.
use Rattle.std.proofs.Common.{◌≡◌, ◌&&◌, ◌∷◌, ℕ, Bool, true, false, List, [], drop, Some, None, option_map, refl, sym, ap, ◌∙◌}
use Rattle.pf_tokens.specs.declared.lexeme.Lexed.{Lexed}
use Rattle.pf_tokens.specs.Tokens.{Token, Word, Quoted, Macro, Mark, Newline, Bad, Placed, first, is_newline}
use Rattle.pf_tokens.specs.Lexed.{placed_of}
use Rattle.pf_tokens.specs.Macros.{ends, is_some_word}
use Rattle.pf_tokens.specs.Reading.{past_newlines}
use Rattle.pf_tokens.specs.inner.Begun.{IsWordOn}

pub passed_none : (ts : List Placed) → option_map {U = Placed} placed_of None ≡ first ts → past_newlines ts ≡ []
passed_none [] e = refl
passed_none (t ∷ ts) e = absurd cc

pub passed_token : (ts : List Placed) (l : Lexed) → option_map placed_of (Some l) ≡ first ts → ends 0 (placed_of l) ≡ false → past_newlines ts ≡ ts
passed_token [] l e inner = absurd cc
passed_token (t ∷ ts) l e inner =
    let same : placed_of l ≡ t = cc in
    let other : ends 0 t ≡ false = ap (ends 0) (sym same) ∙ inner in
    rw other refl

pub passed_newline : (ts : List Placed) (l : Lexed) → option_map placed_of (Some l) ≡ first ts → ends 0 (placed_of l) ≡ true → past_newlines ts ≡ past_newlines (drop 1 ts)
passed_newline [] l e ended = absurd cc
passed_newline (t ∷ ts) l e ended =
    let same : placed_of l ≡ t = cc in
    let newline : ends 0 t ≡ true = ap (ends 0) (sym same) ∙ ended in
    rw newline refl

-- a word ends no statement
word_stays : (t : Token) → is_some_word t ≡ true → is_newline t ≡ false
word_stays (Word text) e = refl
word_stays (Quoted text) e = refl
word_stays (Macro name) e = refl
word_stays (Mark symbol) e = refl
word_stays Newline e = sym e
word_stays Bad e = refl

among : (a b c : Bool) → b ≡ false → a && b && c ≡ false
among true b c e = rw e refl
among false b c e = refl

pub passed_word : (line : ℕ) (ts : List Placed) → IsWordOn line ts → past_newlines ts ≡ ts
passed_word line [] on = absurd on
passed_word line (t ∷ ts) on =
    let other : ends 0 t ≡ false = among t.written (is_newline t.token) true (word_stays t.token on.1) in
    rw other refl

pub word_passed : (line : ℕ) (ts : List Placed) → IsWordOn line ts → option_map (λ (p : Placed). p.line) (first (past_newlines ts)) ≡ Some line
word_passed line [] on = absurd on
word_passed line (t ∷ ts) on =
    rw (passed_word line (t ∷ ts) on) (ap (λ (n : ℕ). Some n) on.0)
