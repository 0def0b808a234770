-- Options are read one after another, to the end of the statement.
use Rattle.std.proofs.Common.{◌≡◌, ℕ, zero, suc, ◌<◌, true, false, List, length, Option, Some, None, Err, refl, sym, arith}
use Rattle.pf_tokens.specs.declared.stop.Stop.{Stop}
use Rattle.pf_tokens.specs.declared.stop.Stop.TheVariants as stops
use Rattle.pf_tokens.specs.Tokens.{Token}
use Rattle.pf_tokens.specs.Productions.{Read, is_end}
use Rattle.pf_tokens.specs.Parsing.{Parses}
use Rattle.pf_statements.specs.Options.{to_end}
use Rattle.pf_statements.specs.Seen.{Spells}

module _ {X : Type 0} (option : X → List Token → Read X) (total : Option X) where
  -- what is left gives what all gives
  pub record Going (x : X) (ts : List Token) : Type 0 where
    pub steps : ℕ
    pub enough : length ts < steps
    pub same : to_end option steps x ts ≡ total

  ended_step : (n : ℕ) (x : X) (ts : List Token) → length ts < n → to_end option n x ts ≡ total → is_end ts ≡ true → total ≡ Some x
  unfolding to_end
  ended_step zero x ts enough goes e = absurd (omega (arith, enough))
  ended_step (suc n) x ts enough goes e = sym (rw e at goes)

  pub ended : (x : X) (ts : List Token) → Going x ts → is_end ts ≡ true → total ≡ Some x
  ended x ts g e = ended_step g.steps x ts g.enough g.same e

  stop_step : (n : ℕ) (x : X) (ts : List Token) → length ts < n → to_end option n x ts ≡ total → is_end ts ≡ false → option x ts ≡ None → total ≡ None
  unfolding to_end
  stop_step zero x ts enough goes e none = absurd (omega (arith, enough))
  stop_step (suc n) x ts enough goes e none = sym (rw (e, none) at goes)

  pub refused : (x : X) (ts : List Token) → Going x ts → is_end ts ≡ false → option x ts ≡ None → total ≡ None
  refused x ts g e none = stop_step g.steps x ts g.enough g.same e none

  next_step : (n : ℕ) (x y : X) (ts rest : List Token) → length ts < n → to_end option n x ts ≡ total → is_end ts ≡ false → option x ts ≡ Some (y, rest) → length rest < length ts → Going y rest
  unfolding to_end
  next_step zero x y ts rest enough goes e is shorter = absurd (omega (arith, enough))
  next_step (suc n) x y ts rest enough goes e is shorter = record { steps = n; enough = omega (arith, enough, shorter); same = rw (e, is) at goes }

  pub next : (x y : X) (ts rest : List Token) → Going x ts → is_end ts ≡ false → option x ts ≡ Some (y, rest) → length rest < length ts → Going y rest
  next x y ts rest g e is shorter = next_step g.steps x y ts rest g.enough g.same e is shorter

-- before the first option
pub begun : {X : Type 0} (option : X → List Token → Read X) (x : X) (ts : List Token) → Going option (to_end option (suc (length ts)) x ts) x ts
begun option x ts = record { steps = suc (length ts); enough = omega arith; same = refl }

-- what stops an option stops them all
pub stopped : {X Y Z W : Type 0} (view : X → Y) (seen : Z → W) (stop : Stop) (here : List Token) (read : Read Y) (total : Option W) → Parses view (Err stop) here read → (read ≡ None → total ≡ None) → Spells seen (Err stop) total
stopped view seen stops.Memory here read total e refused = tt
stopped view seen stops.TooMany here read total e refused = tt
stopped view seen stops.Syntax here read total e refused = refused e
