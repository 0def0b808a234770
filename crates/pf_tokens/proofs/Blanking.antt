-- Newlines within lists.
use Rattle.std.proofs.Common.{◌≡◌, ℕ, zero, suc, ◌+◌, ◌<◌, ◌≤◌, ◌==◌, ◌&&◌, Bool, true, false, cond, List, [], ◌∷◌, length, map, refl, sym, ap, ◌∙◌, arith}
use Rattle.std.specs.Prelude.{nat_lt}
use Rattle.std.proofs.lemmas.Bool.{false≢true}
use Rattle.std.proofs.lemmas.Bool.Decides.{nat_tests}
use Rattle.pf_tokens.specs.declared.symbol.Symbol.TheVariants.{Open, Close, OpenParenthesis, CloseParenthesis, Comma, Slash, Not, NotEqual, Less, LessEqual, Greater, GreaterEqual, Between, Outside, Equals}
use Rattle.pf_tokens.specs.Tokens.{Token, Word, Quoted, Macro, Mark, Newline, Bad, Placed, is_newline}
use Rattle.pf_tokens.specs.Macros.{Definition, depth_after, ends}
use Rattle.pf_tokens.specs.Blanks.{blanked}
use Rattle.pf_tokens.specs.inner.Blanks.{open_after}
use Rattle.pf_tokens.specs.Flow.{statement_left, ending_left}
use Rattle.pf_tokens.specs.inner.Flow.{pulled}
use Rattle.pf_tokens.specs.inner.Pending.{Blanks}
use Rattle.pf_tokens.proofs.Flowing.{pulled_keeps}

some_open : (n : ℕ) → 0 < n → (n == 0) ≡ false
some_open n some = grind (arith, nat_tests, some)

pub blanked_newline : (n : ℕ) (t : Token) (ts : List Token) → 0 < n → is_newline t ≡ true → blanked n (t ∷ ts) ≡ blanked n ts
blanked_newline zero t ts some newline = absurd (omega (arith, some))
blanked_newline (suc n) t ts some newline = rw newline refl

-- where no newline is at hand, the first token is there
pub blanked_there : (n : ℕ) (t : Token) (ts : List Token) → (0 < n → is_newline t ≡ false) → blanked n (t ∷ ts) ≡ t ∷ blanked (open_after n t) ts
blanked_there zero t ts other = refl
blanked_there (suc n) t ts other = let e = other (omega arith) in rw e refl

-- ---- depths

brace_within : (m n : ℕ) → m ≤ n → cond (nat_lt m 65) (m + 1) m ≤ cond (nat_lt n 65) (n + 1) n
brace_within m n h = grind (arith, nat_tests, h)

pub depth_within : (m n : ℕ) (t : Token) → m ≤ n → depth_after m t ≤ depth_after n t
depth_within m n (Word text) h = h
depth_within m n (Quoted text) h = h
depth_within m n (Macro name) h = h
depth_within m n (Mark Open) h = brace_within m n h
depth_within m n (Mark Close) h = omega (arith, h)
depth_within m n (Mark OpenParenthesis) h = h
depth_within m n (Mark CloseParenthesis) h = h
depth_within m n (Mark Comma) h = h
depth_within m n (Mark Slash) h = h
depth_within m n (Mark Not) h = h
depth_within m n (Mark NotEqual) h = h
depth_within m n (Mark Less) h = h
depth_within m n (Mark LessEqual) h = h
depth_within m n (Mark Greater) h = h
depth_within m n (Mark GreaterEqual) h = h
depth_within m n (Mark Between) h = h
depth_within m n (Mark Outside) h = h
depth_within m n (Mark Equals) h = h
depth_within m n Newline h = h
depth_within m n Bad h = h

pub open_within : (m n : ℕ) (t : Token) → m ≤ n → open_after m t ≤ depth_after n t
open_within zero n t h = omega arith
open_within (suc m) n t h = depth_within (suc m) n t h

-- the newlines of a list within a list are blanks already
pub blanked_twice : (m n : ℕ) (ts : List Token) → m ≤ n → blanked m (blanked n ts) ≡ blanked n ts
blanked_twice zero n ts h = refl
blanked_twice (suc m) zero ts h = absurd (omega (arith, h))
blanked_twice (suc m) (suc n) [] h = refl
blanked_twice (suc m) (suc n) (t ∷ ts) h = cases (is_newline t) refl (blanked_twice (suc m) (suc n) ts h) (blanked_twice (depth_after (suc m) t) (depth_after (suc n) t) ts (depth_within (suc m) (suc n) t h))
  where
    cases : (b : Bool) → is_newline t ≡ b → blanked (suc m) (blanked (suc n) ts) ≡ blanked (suc n) ts → blanked (depth_after (suc m) t) (blanked (depth_after (suc n) t) ts) ≡ blanked (depth_after (suc n) t) ts
        → blanked (suc m) (cond b (blanked (suc n) ts) (t ∷ blanked (depth_after (suc n) t) ts)) ≡ cond b (blanked (suc n) ts) (t ∷ blanked (depth_after (suc n) t) ts)
    cases true e same more = same
    cases false e same more = rw e (ap (λ (us : List Token). t ∷ us) more)

pub blanked_no_longer : (n : ℕ) (ts : List Token) → length (blanked n ts) ≤ length ts
blanked_no_longer zero ts = omega arith
blanked_no_longer (suc n) [] = omega arith
blanked_no_longer (suc n) (t ∷ ts) = cases (is_newline t) (blanked_no_longer (suc n) ts) (blanked_no_longer (depth_after (suc n) t) ts)
  where
    cases : (b : Bool) → length (blanked (suc n) ts) ≤ length ts → length (blanked (depth_after (suc n) t) ts) ≤ length ts → length (cond b (blanked (suc n) ts) (t ∷ blanked (depth_after (suc n) t) ts)) ≤ length (t ∷ ts)
    cases true same more = omega (arith, same)
    cases false same more = omega (arith, more)

-- ---- going past newlines

abbrev pub tokens_of : List Placed → List Token
tokens_of ps = map (λ (p : Placed). p.token) ps

newline_is : (t : Token) → is_newline t ≡ true → t ≡ Newline
newline_is (Word text) e = absurd (false≢true e)
newline_is (Quoted text) e = absurd (false≢true e)
newline_is (Macro name) e = absurd (false≢true e)
newline_is (Mark symbol) e = absurd (false≢true e)
newline_is Newline e = refl
newline_is Bad e = absurd (false≢true e)

inner_stays : (a b : Bool) (depth : ℕ) → 0 < depth → (a && b && (depth == 0)) ≡ false
inner_stays true true depth some = some_open depth some
inner_stays true false depth some = refl
inner_stays false b depth some = refl

pub inner : (depth : ℕ) (p : Placed) → 0 < depth → ends depth p ≡ false
inner depth p some = inner_stays p.written (is_newline p.token) depth some

module _ (ds : List Definition) (defining : Bool) (p : Placed) (inside text : List Placed) (newline : is_newline p.token ≡ true) where
  newline_left : (depth : ℕ) → 0 < depth → statement_left ds defining depth (p ∷ inside) text ≡ p ∷ statement_left ds defining depth inside text
  newline_left depth some = rw (inner depth p some) (ap (λ (t : Token). p ∷ statement_left ds defining (depth_after depth t) inside text) (newline_is p.token newline))

  newline_ending : (depth : ℕ) → 0 < depth → ending_left ds defining depth (p ∷ inside) text ≡ ending_left ds defining depth inside text
  newline_ending depth some = rw (inner depth p some) (ap (λ (t : Token). ending_left ds defining (depth_after depth t) inside text) (newline_is p.token newline))

  pub newline_blank : (braces : ℕ) (new : List Placed × List Placed) → 0 < braces → new ≡ pulled ds defining inside text → Blanks braces ds defining (p ∷ inside, text) new
  newline_blank braces new some e = record {
    statement = λ depth within.
        ap (λ (q : List Placed × List Placed). blanked braces (tokens_of (statement_left ds defining depth q.0 q.1))) e
        ∙ ap (λ (ps : List Placed). blanked braces (tokens_of ps)) ((pulled_keeps ds defining inside text).statement depth)
        ∙ sym (ap (λ (ps : List Placed). blanked braces (tokens_of ps)) (newline_left depth (omega (arith, some, within))) ∙ blanked_newline braces p.token _ some newline);
    ending = λ depth within.
        ap (λ (q : List Placed × List Placed). ending_left ds defining depth q.0 q.1) e
        ∙ (pulled_keeps ds defining inside text).ending depth
        ∙ sym (newline_ending depth (omega (arith, some, within)));
  }

  pub newline_tokens : (depth : ℕ) (new : List Placed × List Placed) → 0 < depth → new ≡ pulled ds defining inside text → tokens_of (statement_left ds defining depth (p ∷ inside) text) ≡ Newline ∷ tokens_of (statement_left ds defining depth new.0 new.1)
  newline_tokens depth new some e =
      ap (λ (ps : List Placed). tokens_of ps) (newline_left depth some)
      ∙ ap (λ (t : Token). t ∷ tokens_of (statement_left ds defining depth inside text)) (newline_is p.token newline)
      ∙ sym (ap (λ (ps : List Placed). Newline ∷ tokens_of ps) (ap (λ (q : List Placed × List Placed). statement_left ds defining depth q.0 q.1) e ∙ (pulled_keeps ds defining inside text).statement depth))

  pub newline_shorter : (new : List Placed × List Placed) → new ≡ pulled ds defining inside text → length (statement_left ds defining 1 new.0 new.1) < length (statement_left ds defining 1 (p ∷ inside) text)
  newline_shorter new e =
      let same : statement_left ds defining 1 new.0 new.1 ≡ statement_left ds defining 1 inside text = ap (λ (q : List Placed × List Placed). statement_left ds defining 1 q.0 q.1) e ∙ (pulled_keeps ds defining inside text).statement 1 in
      omega (arith, ap (λ (ps : List Placed). length ps) same, ap (λ (ps : List Placed). length ps) (newline_left 1 (omega arith)))

pub blanks_more : (braces : ℕ) (ds : List Definition) (defining : Bool) (old mid new : List Placed × List Placed) → Blanks braces ds defining old mid → Blanks braces ds defining mid new → Blanks braces ds defining old new
blanks_more braces ds defining old mid new a b = record {
  statement = λ depth within. b.statement depth within ∙ a.statement depth within;
  ending = λ depth within. b.ending depth within ∙ a.ending depth within;
}
