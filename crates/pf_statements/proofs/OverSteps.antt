-- Options are read one after another, up to where the rule is over.
use Rattle.std.proofs.Common.{◌≡◌, ℕ, zero, suc, ◌<◌, true, false, List, length, Some, None, Err, refl, sym, arith}
use Rattle.pf_tokens.specs.declared.stop.Stop.{Stop}
use Rattle.pf_tokens.specs.declared.stop.Stop.TheVariants as stops
use Rattle.pf_tokens.specs.Tokens.{Token}
use Rattle.pf_tokens.specs.Productions.{Read}
use Rattle.pf_tokens.specs.Parsing.{Parses}
use Rattle.pf_statements.specs.Options.{is_over, until_over}

module _ {X : Type 0} (option : X → List Token → Read X) (total : Read X) where
  -- what is left gives what all gives
  pub record Going (x : X) (ts : List Token) : Type 0 where
    pub steps : ℕ
    pub enough : length ts < steps
    pub same : until_over option steps x ts ≡ total

  ended_step : (n : ℕ) (x : X) (ts : List Token) → length ts < n → until_over option n x ts ≡ total → is_over ts ≡ true → total ≡ Some (x, ts)
  unfolding until_over
  ended_step zero x ts enough goes e = absurd (omega (arith, enough))
  ended_step (suc n) x ts enough goes e = sym (rw e at goes)

  pub ended : (x : X) (ts : List Token) → Going x ts → is_over ts ≡ true → total ≡ Some (x, ts)
  ended x ts g e = ended_step g.steps x ts g.enough g.same e

  stop_step : (n : ℕ) (x : X) (ts : List Token) → length ts < n → until_over option n x ts ≡ total → is_over ts ≡ false → option x ts ≡ None → total ≡ None
  unfolding until_over
  stop_step zero x ts enough goes e none = absurd (omega (arith, enough))
  stop_step (suc n) x ts enough goes e none = sym (rw (e, none) at goes)

  pub refused : (x : X) (ts : List Token) → Going x ts → is_over ts ≡ false → option x ts ≡ None → total ≡ None
  refused x ts g e none = stop_step g.steps x ts g.enough g.same e none

  next_step : (n : ℕ) (x y : X) (ts rest : List Token) → length ts < n → until_over option n x ts ≡ total → is_over ts ≡ false → option x ts ≡ Some (y, rest) → length rest < length ts → Going y rest
  unfolding until_over
  next_step zero x y ts rest enough goes e is shorter = absurd (omega (arith, enough))
  next_step (suc n) x y ts rest enough goes e is shorter = record { steps = n; enough = omega (arith, enough, shorter); same = rw (e, is) at goes }

  pub next : (x y : X) (ts rest : List Token) → Going x ts → is_over ts ≡ false → option x ts ≡ Some (y, rest) → length rest < length ts → Going y rest
  next x y ts rest g e is shorter = next_step g.steps x y ts rest g.enough g.same e is shorter

-- before the first option
pub begun : {X : Type 0} (option : X → List Token → Read X) (x : X) (ts : List Token) → Going option (until_over option (suc (length ts)) x ts) x ts
begun option x ts = record { steps = suc (length ts); enough = omega arith; same = refl }

-- what stops a part stops the whole
pub stops_too : {X Y Z W : Type 0} (view : X → Y) (seen : Z → W) (stop : Stop) (here there : List Token) (read : Read Y) (total : Read W) → Parses view (Err stop) here read → (read ≡ None → total ≡ None) → Parses seen (Err stop) there total
stops_too view seen stops.Memory here there read total e refused = tt
stops_too view seen stops.TooMany here there read total e refused = tt
stops_too view seen stops.Syntax here there read total e refused = refused e
