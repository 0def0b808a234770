-- Reading a list, one step after another.
use Rattle.std.proofs.Common.{◌≡◌, ℕ, zero, suc, ◌+◌, ◌-◌, ◌<◌, ◌==◌, Bool, true, false, cond, List, [], ◌∷◌, ◌++◌, length, drop, Some, None, Err, refl, sym, ap, ◌∙◌, arith, append_assoc, max}
use Rattle.std.proofs.lemmas.List.{append-nil}
use Rattle.std.proofs.lemmas.Bool.{false≢true}
use Rattle.std.proofs.lemmas.Bool.Decides.{nat_tests}
use Rattle.pf_tokens.specs.declared.symbol.Symbol.{Symbol}
use Rattle.pf_tokens.specs.declared.symbol.Symbol.TheVariants.{Open, Close, Comma}
use Rattle.pf_tokens.specs.declared.stop.Stop.{Stop}
use Rattle.pf_tokens.specs.declared.stop.Stop.TheVariants as stops
use Rattle.pf_tokens.specs.Tokens.{Token}
use Rattle.pf_tokens.specs.Blanks.{blanked}
use Rattle.pf_tokens.specs.Productions.{Read, ◌>>=◌, begins_symbol, symbol_at, list_opened}
use Rattle.pf_tokens.specs.Lists.{Elements, put, elements, list_at}
use Rattle.pf_tokens.specs.Parsing.{Parses}
use Rattle.pf_tokens.proofs.Blanking.{blanked_no_longer}

-- a token that passes is there to be taken
pub starts_some : (symbol : Symbol) (ts : List Token) → begins_symbol symbol ts ≡ true → length (drop 1 ts) < length ts
starts_some symbol [] e = absurd (false≢true e)
starts_some symbol (t ∷ ts) e = omega arith

module _ {X : Type 0} (read : List Token → Read X) (total : Read (Elements X)) where
  -- what was read before, and what is read from here
  abbrev with_front : List X → Read (Elements X) → Read (Elements X)
  with_front items more = more >>= λ m. Some (record { items = items ++ m.0.items; deepest = m.0.deepest }, m.1)

  -- what is left gives what all gives
  pub record Going (items : List X) (depth deepest : ℕ) (wanted : Bool) (ts : List Token) : Type 0 where
    pub steps : ℕ
    pub enough : length ts < steps
    pub same : with_front items (elements read steps depth deepest wanted ts) ≡ total

  -- the same with the steps in the open
  abbrev Goes : ℕ → List X → ℕ → ℕ → Bool → List Token → Type 0
  Goes n items depth deepest wanted ts = with_front items (elements read n depth deepest wanted ts) ≡ total

  open_step : (n : ℕ) (items : List X) (depth deepest : ℕ) (wanted : Bool) (ts : List Token) → length ts < n → Goes n items depth deepest wanted ts → begins_symbol Open ts ≡ true → Going items (depth + 1) (max deepest (depth + 1)) true (drop 1 ts)
  unfolding elements
  open_step zero items depth deepest wanted ts enough goes o = absurd (omega (arith, enough))
  open_step (suc n) items depth deepest wanted ts enough goes o = record { steps = n; enough = omega (arith, enough, starts_some Open ts o); same = rw o at goes }

  pub going_open : (items : List X) (depth deepest : ℕ) (wanted : Bool) (ts : List Token) → Going items depth deepest wanted ts → begins_symbol Open ts ≡ true → Going items (depth + 1) (max deepest (depth + 1)) true (drop 1 ts)
  going_open items depth deepest wanted ts g o = open_step g.steps items depth deepest wanted ts g.enough g.same o

  comma_step : (n : ℕ) (items : List X) (depth deepest : ℕ) (ts : List Token) → length ts < n → Goes n items depth deepest false ts → begins_symbol Open ts ≡ false → begins_symbol Comma ts ≡ true → Going items depth deepest true (drop 1 ts)
  unfolding elements
  comma_step zero items depth deepest ts enough goes o k = absurd (omega (arith, enough))
  comma_step (suc n) items depth deepest ts enough goes o k = record { steps = n; enough = omega (arith, enough, starts_some Comma ts k); same = rw (o, k) at goes }

  pub going_comma : (items : List X) (depth deepest : ℕ) (ts : List Token) → Going items depth deepest false ts → begins_symbol Open ts ≡ false → begins_symbol Comma ts ≡ true → Going items depth deepest true (drop 1 ts)
  going_comma items depth deepest ts g o k = comma_step g.steps items depth deepest ts g.enough g.same o k

  wanted_comma_step : (n : ℕ) (items : List X) (depth deepest : ℕ) (ts : List Token) → length ts < n → Goes n items depth deepest true ts → begins_symbol Open ts ≡ false → begins_symbol Comma ts ≡ true → total ≡ None
  unfolding elements
  wanted_comma_step zero items depth deepest ts enough goes o k = absurd (omega (arith, enough))
  wanted_comma_step (suc n) items depth deepest ts enough goes o k = sym (rw (o, k) at goes)

  pub refused_comma : (items : List X) (depth deepest : ℕ) (ts : List Token) → Going items depth deepest true ts → begins_symbol Open ts ≡ false → begins_symbol Comma ts ≡ true → total ≡ None
  refused_comma items depth deepest ts g o k = wanted_comma_step g.steps items depth deepest ts g.enough g.same o k

  -- a closing brace
  wanted_close_step : (n : ℕ) (items : List X) (depth deepest : ℕ) (ts : List Token) → length ts < n → Goes n items depth deepest true ts → begins_symbol Open ts ≡ false → begins_symbol Comma ts ≡ false → begins_symbol Close ts ≡ true → total ≡ None
  unfolding elements
  wanted_close_step zero items depth deepest ts enough goes o k q = absurd (omega (arith, enough))
  wanted_close_step (suc n) items depth deepest ts enough goes o k q = sym (rw (o, k, q) at goes)

  pub refused_close : (items : List X) (depth deepest : ℕ) (ts : List Token) → Going items depth deepest true ts → begins_symbol Open ts ≡ false → begins_symbol Comma ts ≡ false → begins_symbol Close ts ≡ true → total ≡ None
  refused_close items depth deepest ts g o k q = wanted_close_step g.steps items depth deepest ts g.enough g.same o k q

  last_step : (n : ℕ) (items : List X) (deepest : ℕ) (ts : List Token) → length ts < n → Goes n items 1 deepest false ts → begins_symbol Open ts ≡ false → begins_symbol Comma ts ≡ false → begins_symbol Close ts ≡ true → total ≡ Some (record { items = items; deepest = deepest }, drop 1 ts)
  unfolding elements
  last_step zero items deepest ts enough goes o k q = absurd (omega (arith, enough))
  last_step (suc n) items deepest ts enough goes o k q = sym (rw (o, k, q, append-nil items) at goes)

  pub ended_list : (items : List X) (deepest : ℕ) (ts : List Token) → Going items 1 deepest false ts → begins_symbol Open ts ≡ false → begins_symbol Comma ts ≡ false → begins_symbol Close ts ≡ true → total ≡ Some (record { items = items; deepest = deepest }, drop 1 ts)
  ended_list items deepest ts g o k q = last_step g.steps items deepest ts g.enough g.same o k q

  close_step : (n : ℕ) (items : List X) (depth deepest : ℕ) (ts : List Token) → length ts < n → Goes n items depth deepest false ts → begins_symbol Open ts ≡ false → begins_symbol Comma ts ≡ false → begins_symbol Close ts ≡ true → (depth == 1) ≡ false → Going items (depth - 1) deepest false (drop 1 ts)
  unfolding elements
  close_step zero items depth deepest ts enough goes o k q inner = absurd (omega (arith, enough))
  close_step (suc n) items depth deepest ts enough goes o k q inner = record { steps = n; enough = omega (arith, enough, starts_some Close ts q); same = rw (o, k, q, inner) at goes }

  pub going_close : (items : List X) (depth deepest : ℕ) (ts : List Token) → Going items depth deepest false ts → begins_symbol Open ts ≡ false → begins_symbol Comma ts ≡ false → begins_symbol Close ts ≡ true → (depth == 1) ≡ false → Going items (depth - 1) deepest false (drop 1 ts)
  going_close items depth deepest ts g o k q inner = close_step g.steps items depth deepest ts g.enough g.same o k q inner

  -- an element
  regroup : (items : List X) (x : X) (more : Read (Elements X)) → with_front items (more >>= put x) ≡ with_front (items ++ x ∷ []) more
  regroup items x None = refl
  regroup items x (Some m) = ap (λ (xs : List X). some_pair (record { items = xs; deepest = m.0.deepest }, m.1)) (sym (append_assoc items (x ∷ []) m.0.items))
    where
      some_pair : Elements X × List Token → Read (Elements X)
      some_pair p = Some p

  element_step : (n : ℕ) (items : List X) (x : X) (depth deepest : ℕ) (wanted : Bool) (ts rest : List Token) → length ts < n → Goes n items depth deepest wanted ts → begins_symbol Open ts ≡ false → begins_symbol Comma ts ≡ false → begins_symbol Close ts ≡ false
      → read ts ≡ Some (x, rest) → length rest < length ts → Going (items ++ x ∷ []) depth deepest false rest
  unfolding elements
  element_step zero items x depth deepest wanted ts rest enough goes o k q is_some shorter = absurd (omega (arith, enough))
  element_step (suc n) items x depth deepest wanted ts rest enough goes o k q is_some shorter = record { steps = n; enough = omega (arith, enough, shorter); same = sym (regroup items x (elements read n depth deepest false rest)) ∙ (rw (o, k, q, is_some) at goes) }

  pub going_element : (items : List X) (x : X) (depth deepest : ℕ) (wanted : Bool) (ts rest : List Token) → Going items depth deepest wanted ts → begins_symbol Open ts ≡ false → begins_symbol Comma ts ≡ false → begins_symbol Close ts ≡ false
      → read ts ≡ Some (x, rest) → length rest < length ts → Going (items ++ x ∷ []) depth deepest false rest
  going_element items x depth deepest wanted ts rest g o k q is_some shorter = element_step g.steps items x depth deepest wanted ts rest g.enough g.same o k q is_some shorter

  none_step : (n : ℕ) (items : List X) (depth deepest : ℕ) (wanted : Bool) (ts : List Token) → length ts < n → Goes n items depth deepest wanted ts → begins_symbol Open ts ≡ false → begins_symbol Comma ts ≡ false → begins_symbol Close ts ≡ false → read ts ≡ None → total ≡ None
  unfolding elements
  none_step zero items depth deepest wanted ts enough goes o k q is_none = absurd (omega (arith, enough))
  none_step (suc n) items depth deepest wanted ts enough goes o k q is_none = sym (rw (o, k, q, is_none) at goes)

  pub refused_element : (items : List X) (depth deepest : ℕ) (wanted : Bool) (ts : List Token) → Going items depth deepest wanted ts → begins_symbol Open ts ≡ false → begins_symbol Comma ts ≡ false → begins_symbol Close ts ≡ false → read ts ≡ None → total ≡ None
  refused_element items depth deepest wanted ts g o k q is_none = none_step g.steps items depth deepest wanted ts g.enough g.same o k q is_none

-- ---- the first brace

with_none : {X : Type 0} (more : Read (Elements X)) → (more >>= λ (m : Elements X × List Token). Some (record { items = [] ++ m.0.items; deepest = m.0.deepest }, m.1)) ≡ more
with_none None = refl
with_none (Some m) = refl

-- the list is opened, and behind its brace newlines are blanks
opened_cases : {X : Type 0} (read : List Token → Read X) (ts new : List Token) (b : Bool) → begins_symbol Open ts ≡ b → (let given : Bool × List Token = (true, new) in given ≡ cond b (true, blanked 1 (drop 1 ts)) (false, ts)) → Going read (list_at read ts) [] 1 1 true new
unfolding list_at list_opened
opened_cases read ts new true o e =
    let rest : new ≡ blanked 1 (drop 1 ts) = ap (λ (p : Bool × List Token). p.1) e in
    record {
      steps = length ts;
      enough = omega (arith, starts_some Open ts o, blanked_no_longer 1 (drop 1 ts), ap (λ (us : List Token). length us) rest);
      same = with_none (elements read (length ts) 1 1 true new) ∙ rw (o, rest) refl;
    }
opened_cases read ts new false o e = absurd (false≢true (sym (ap (λ (p : Bool × List Token). p.0) e)))

pub going_first : {X : Type 0} (read : List Token → Read X) (ts new : List Token) (r : Bool) → (let given : Bool × List Token = (r, new) in given ≡ list_opened ts) → r ≡ true → Going read (list_at read ts) [] 1 1 true new
unfolding list_opened
going_first read ts new r e is_true = opened_cases read ts new (begins_symbol Open ts) refl (ap (λ (b : Bool). with_new b) (sym is_true) ∙ e)
  where
    with_new : Bool → Bool × List Token
    with_new b = (b, new)

pub refused_first : {X : Type 0} (read : List Token → Read X) (ts new : List Token) (r : Bool) → (let given : Bool × List Token = (r, new) in given ≡ list_opened ts) → r ≡ false → list_at read ts ≡ None
unfolding list_at
refused_first read ts new r e is_false =
    let none : false ≡ (list_opened ts).0 = sym is_false ∙ ap (λ (p : Bool × List Token). p.0) e in
    rw (← none) refl

-- ---- what the parser's tests say

abbrev pub Answered : Bool → List Token → Bool × List Token → Type 0
Answered r new answer = let given : Bool × List Token = (r, new) in given ≡ answer

pub record Took (symbol : Symbol) (old new : List Token) : Type 0 where
  pub starts_so : begins_symbol symbol old ≡ true
  pub rest : new ≡ drop 1 old

pub record Kept (symbol : Symbol) (old new : List Token) : Type 0 where
  pub starts_not : begins_symbol symbol old ≡ false
  pub rest : new ≡ old

pub took : (symbol : Symbol) (old new : List Token) (r : Bool) → Answered r new (symbol_at symbol old) → r ≡ true → Took symbol old new
unfolding symbol_at
took symbol old new r e is_true = cases (begins_symbol symbol old) refl e
  where
    cases : (b : Bool) → begins_symbol symbol old ≡ b → Answered r new (cond b (true, drop 1 old) (false, old)) → Took symbol old new
    cases true s e = record { starts_so = s; rest = ap (λ (p : Bool × List Token). p.1) e }
    cases false s e = absurd (false≢true (sym (ap (λ (p : Bool × List Token). p.0) e) ∙ is_true))

pub kept : (symbol : Symbol) (old new : List Token) (r : Bool) → Answered r new (symbol_at symbol old) → r ≡ false → Kept symbol old new
unfolding symbol_at
kept symbol old new r e is_false = cases (begins_symbol symbol old) refl e
  where
    cases : (b : Bool) → begins_symbol symbol old ≡ b → Answered r new (cond b (true, drop 1 old) (false, old)) → Kept symbol old new
    cases true s e = absurd (false≢true (sym is_false ∙ ap (λ (p : Bool × List Token). p.0) e))
    cases false s e = record { starts_not = s; rest = ap (λ (p : Bool × List Token). p.1) e }

pub eq_false : (n : ℕ) → (n ≡ 1 → ⊥) → (n == 1) ≡ false
eq_false n other = grind (arith, nat_tests, other)

-- what stops an element stops the list
pub stopped : {X Y Z : Type 0} (view : Y → Z) (stop : Stop) (here there : List Token) (read : Read X) (total : Read Z) → Parses (λ (x : X). x) (Err stop) here read → (read ≡ None → total ≡ None) → Parses view (Err stop) there total
stopped view stops.Memory here there read total e refused = tt
stopped view stops.TooMany here there read total e refused = tt
stopped view stops.Syntax here there read total e refused = refused e
