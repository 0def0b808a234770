-- The brace that opens a list.
use Rattle.std.proofs.Common.{◌≡◌, ℕ, zero, suc, ◌+◌, ◌≤◌, Bool, true, false, cond, List, [], ◌∷◌, drop, Some, None, refl, sym, ap, ◌∙◌, arith}
use Rattle.std.specs.Prelude.{nat_lt}
use Rattle.std.proofs.lemmas.Bool.{false≢true}
use Rattle.std.proofs.lemmas.Bool.Decides.{nat_tests}
use Rattle.pf_tokens.specs.declared.lexeme.Lexed.{Lexed}
use Rattle.pf_tokens.specs.declared.parser.Parser.{Parser}
use Rattle.pf_tokens.specs.declared.symbol.Symbol.TheVariants.{Open, Close, OpenParenthesis, CloseParenthesis, Comma, Slash, Not, NotEqual, Less, LessEqual, Greater, GreaterEqual, Between, Outside, Equals}
use Rattle.pf_tokens.specs.Tokens.{Token, Word, Quoted, Macro, Mark, Newline, Bad}
use Rattle.pf_tokens.specs.Lexed.{token_of, placed_of}
use Rattle.pf_tokens.specs.Macros.{depth_after, ends}
use Rattle.pf_tokens.specs.Blanks.{blanked}
use Rattle.pf_tokens.specs.inner.Blanks.{open_after}
use Rattle.pf_tokens.specs.Productions.{is_symbol, begins_symbol, is_end, list_opened}
use Rattle.pf_tokens.specs.Parsing.{tokens_of, placed_left, left}
use Rattle.pf_tokens.proofs.Blanking.{blanked_twice}
use Rattle.pf_tokens.proofs.Skipping.{left_none, left_end, left_is, left_behind}

pub nothing_left : (ts : List Token) → is_end ts ≡ true → ts ≡ []
nothing_left [] e = refl
nothing_left (t ∷ ts) e = absurd (false≢true e)

pub not_opened : (ts : List Token) → begins_symbol Open ts ≡ false → list_opened ts ≡ (false, ts)
unfolding list_opened
not_opened ts e = rw e refl

opened : (ts : List Token) → begins_symbol Open ts ≡ true → list_opened ts ≡ (true, blanked 1 (drop 1 ts))
unfolding list_opened
opened ts e = rw e refl

pub none_opened : (parser : Parser) → parser.stream.next ≡ None → list_opened (left parser) ≡ (false, left parser)
none_opened parser e = not_opened (left parser) (ap (begins_symbol Open) (left_none parser e))

-- a brace that opens is the symbol
open_is : (t : Token) → is_symbol Open t ≡ true → t ≡ Mark Open
open_is (Word text) e = absurd (false≢true e)
open_is (Quoted text) e = absurd (false≢true e)
open_is (Macro name) e = absurd (false≢true e)
open_is (Mark Open) e = refl
open_is (Mark Close) e = absurd (false≢true e)
open_is (Mark OpenParenthesis) e = absurd (false≢true e)
open_is (Mark CloseParenthesis) e = absurd (false≢true e)
open_is (Mark Comma) e = absurd (false≢true e)
open_is (Mark Slash) e = absurd (false≢true e)
open_is (Mark Not) e = absurd (false≢true e)
open_is (Mark NotEqual) e = absurd (false≢true e)
open_is (Mark Less) e = absurd (false≢true e)
open_is (Mark LessEqual) e = absurd (false≢true e)
open_is (Mark Greater) e = absurd (false≢true e)
open_is (Mark GreaterEqual) e = absurd (false≢true e)
open_is (Mark Between) e = absurd (false≢true e)
open_is (Mark Outside) e = absurd (false≢true e)
open_is (Mark Equals) e = absurd (false≢true e)
open_is Newline e = absurd (false≢true e)
open_is Bad e = absurd (false≢true e)

brace_counts : (n : ℕ) → 1 ≤ cond (nat_lt n 65) (n + 1) n
brace_counts n = grind (arith, nat_tests)

module _ (parser : Parser) (l : Lexed) (at_hand : parser.stream.next ≡ Some l) (opens : begins_symbol Open (left parser) ≡ true) where
  pub inner_brace : ends parser.depth (placed_of l) ≡ false
  inner_brace = cases (ends parser.depth (placed_of l)) refl
    where
      cases : (b : Bool) → ends parser.depth (placed_of l) ≡ b → b ≡ false
      cases true ended = absurd (false≢true (sym (ap (begins_symbol Open) (left_end parser l at_hand ended)) ∙ opens))
      cases false inner = refl

  token_is : token_of l.lexeme ≡ Mark Open
  token_is = open_is (token_of l.lexeme) (sym (ap (begins_symbol Open) (left_is parser l at_hand inner_brace)) ∙ opens)

  pub counts : 1 ≤ depth_after parser.depth (token_of l.lexeme)
  counts = rw token_is (brace_counts parser.depth)

  -- the outermost list
  pub outer_opened : (new : List Token) → parser.braces ≡ 0 → new ≡ blanked 1 (drop 1 (tokens_of (placed_left parser))) → (true, new) ≡ list_opened (left parser)
  outer_opened new outer e =
      let same : drop 1 (left parser) ≡ drop 1 (tokens_of (placed_left parser)) = left_behind parser l at_hand inner_brace ∙ ap (λ (n : ℕ). blanked (open_after n (token_of l.lexeme)) (drop 1 (tokens_of (placed_left parser)))) outer in
      ap (λ (ts : List Token). true_with ts) (e ∙ ap (blanked 1) (sym same)) ∙ sym (opened (left parser) opens)
    where
      true_with : List Token → Bool × List Token
      true_with ts = (true, ts)

  -- a list in it
  pub inner_opened : (new : List Token) → (parser.braces ≡ 0 → ⊥) → new ≡ drop 1 (left parser) → (true, new) ≡ list_opened (left parser)
  inner_opened new within e =
      let same = left_behind parser l at_hand inner_brace in
      ap (λ (ts : List Token). true_with ts) (e ∙ same ∙ sym (blanked_twice 1 (open_after parser.braces (token_of l.lexeme)) (drop 1 (tokens_of (placed_left parser))) (more parser.braces within)) ∙ ap (blanked 1) (sym same)) ∙ sym (opened (left parser) opens)
    where
      true_with : List Token → Bool × List Token
      true_with ts = (true, ts)

      more : (n : ℕ) → (n ≡ 0 → ⊥) → 1 ≤ open_after n (token_of l.lexeme)
      more zero within = absurd (within refl)
      more (suc n) within = rw token_is (brace_counts (suc n))
