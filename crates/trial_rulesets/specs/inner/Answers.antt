-- An element of lists, for tests: yes or no, which may be negated.
use Rattle.std.proofs.Common.{◌≡◌, ◌<◌, Bool, true, false, cond, List, drop, length, Some, None, refl, ap}
use Rattle.std.proofs.Common.{arith}
use Rattle.std.specs.Prelude.{codes, if◌then◌else◌}
use Rattle.pf_tokens.specs.Tokens.{Token}
use Rattle.pf_tokens.specs.Productions.{Read, begins, option_at}
use Rattle.pf_tokens.specs.inner.Shorter.{some_is, begins_shorter, option_no_longer}

-- "yes" | "no"
unfoldable pub answer_at : List Token → Read Bool
answer_at ts = if begins (codes "yes") ts then Some (true, drop 1 ts)
    else (if begins (codes "no") ts then Some (false, drop 1 ts) else None)

-- ["not"] ("yes" | "no")
unfoldable pub negated_at : List Token → Read Bool
negated_at ts = answer_at (option_at (codes "not") ts).1

answer_shorter : (ts : List Token) (x : Bool × List Token) → answer_at ts ≡ Some x → length x.1 < length ts
unfolding answer_at
answer_shorter ts x e = cases (begins (codes "yes") ts) (begins (codes "no") ts) refl refl e
  where
    cases : (a b : Bool) → begins (codes "yes") ts ≡ a → begins (codes "no") ts ≡ b →
        cond {A = Read Bool} a (Some (true, drop 1 ts)) (cond {A = Read Bool} b (Some (false, drop 1 ts)) None) ≡
        Some x → length x.1 < length ts
    cases true b is_yes is_no e = omega (
      arith,
      begins_shorter (codes "yes") ts is_yes,
      ap (λ (y : Bool × List Token).
          length y.1) (some_is (true, drop 1 ts) x e),
    )
    cases false true is_yes is_no e = omega (
      arith,
      begins_shorter (codes "no") ts is_no,
      ap (λ (y : Bool × List Token). length y.1) (some_is (false, drop 1 ts) x e),
    )
    cases false false is_yes is_no e = absurd (let h = e in cc)

pub negated_shorter : (ts rest : List Token) (x : Bool) → negated_at ts ≡ Some (x, rest) → length rest < length ts
unfolding negated_at
negated_shorter ts rest x e = omega (
  arith,
  answer_shorter (option_at (codes "not") ts).1 (x, rest) e,
  option_no_longer (codes "not") ts,
)
