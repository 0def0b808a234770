-- Numbers of rules, of which no more than 1,025 are distinguished.
use Rattle.std.proofs.Common.{◌≡◌, ℕ, suc, ◌+◌, ◌-◌, ◌^◌, ◌==◌, ◌≤◌, ◌&&◌, ◌||◌, Bool, true, false, not, cond, List, [], ◌∷◌, Option, None, length, min, nat_lt, refl, sym, ap, ◌∙◌, arith}
use Rattle.std.proofs.lemmas.Bool.Decides.{nat_tests}
use Rattle.pf_rules.specs.declared.parts.FlagTest.{FlagTest}
use Rattle.pf_statements.specs.Conditions.{ConditionsText}
use Rattle.std.specs.Bool.{then_some}
use Rattle.std.specs.Option.{option_or}
use Rattle.std.proofs.lemmas.Bool.{or_parts}
use Rattle.pf_expansion.specs.Causes.{bad_ports, bad_types, has_deep_list, has_too_many, is_empty, is_too_wide, has_no_combination, lowest, condition_causes}
use Rattle.pf_expansion.specs.declared.cause.Cause.{Cause}
use Rattle.pf_expansion.specs.declared.cause.Cause.TheVariants.{Ports, NoCombination, Reserved, Twice, TooMany, IcmpType}
use Rattle.pf_expansion.specs.declared.judged.Judged.{Judged}
use Rattle.pf_expansion.specs.inner.Judged.{judged_causes}
use Rattle.pf_expansion.specs.Expansion.{combined}
use Rattle.pf_expansion.specs.Blocks.{conditions_judged, rule_count}

pub twice_capped : (n : ℕ) → min (min n (2 ^ 64 - 1)) 1025 ≡ min n 1025
twice_capped n = omega arith

not_none : (n : ℕ) → (suc n == 0) ≡ false
not_none n = grind (arith, nat_tests)

pub empty_is : {X : Type 0} (xs : List X) → is_empty xs ≡ (length xs == 0)
empty_is [] = refl
empty_is (x ∷ xs) = sym (not_none (length xs))

-- no combination is counted
pub none_counted : (test : FlagTest) (text : ConditionsText) → has_no_combination test text ≡ (not (is_too_wide text) && (rule_count test text == 0))
unfolding has_no_combination rule_count
none_counted test text = cases (is_too_wide text)
  where
    cases : (b : Bool) → (not b && is_empty (combined test text)) ≡ (not b && (cond b 0 (length (combined test text)) == 0))
    cases true = refl
    cases false = empty_is (combined test text)

-- ---- the causes of conditions are those of what was judged

many_alike : (test : FlagTest) (before : ℕ) (text : ConditionsText) → ((is_too_wide text || has_deep_list text) || nat_lt 1024 (before + rule_count test text)) ≡ has_too_many test before text
unfolding rule_count has_too_many
many_alike test before text = cases (is_too_wide text)
  where
    cases : (b : Bool) → ((b || has_deep_list text) || nat_lt 1024 (before + cond b 0 (length (combined test text)))) ≡ (b || has_deep_list text || nat_lt 1024 (before + length (combined test text)))
    cases true = refl
    cases false = refl

pub causes_alike : (test : FlagTest) (before : ℕ) (reserved : Bool) (text : ConditionsText) → lowest (judged_causes (conditions_judged test text) before reserved false) ≡ lowest (condition_causes test before reserved text)
unfolding conditions_judged
causes_alike test before reserved text =
    ap (λ (many : Bool). lowest ((bad_ports text, Ports) ∷ (has_no_combination test text, NoCombination) ∷ (reserved, Reserved) ∷ (many, TooMany) ∷ (bad_types text, IcmpType) ∷ [])) (many_alike test before text)

fourth : (a b c d e : Bool) (p q r s t : Cause) → lowest ((a, p) ∷ (b, q) ∷ (c, r) ∷ (d, s) ∷ (e, t) ∷ []) ≡ None → d ≡ false
fourth a b c false e p q r s t is = refl
fourth true b c true e p q r s t is = absurd (let h = is in cc)
fourth false true c true e p q r s t is = absurd (let h = is in cc)
fourth false false true true e p q r s t is = absurd (let h = is in cc)
fourth false false false true e p q r s t is = absurd (let h = is in cc)

below : (n : ℕ) → nat_lt 1024 n ≡ false → n ≤ 1024
below n e = grind (arith, nat_tests, e)

pub few_found : (test : FlagTest) (before : ℕ) (reserved : Bool) (text : ConditionsText) → lowest (condition_causes test before reserved text) ≡ None → before + length (combined test text) ≤ 1024
unfolding has_too_many
few_found test before reserved text e =
    below (before + length (combined test text)) (or_parts _ _ (fourth (bad_ports text) (has_no_combination test text) reserved (has_too_many test before text) (bad_types text) _ _ _ _ _ e)).1

-- the first cause that holds, as the code chooses it
pub first_chosen : (a b c d e f : Bool) → option_or (option_or (option_or (option_or (option_or (then_some a Ports) (then_some b NoCombination)) (then_some c Reserved)) (then_some d Twice)) (then_some e TooMany)) (then_some f IcmpType) ≡ lowest ((a, Ports) ∷ (b, NoCombination) ∷ (c, Reserved) ∷ (d, Twice) ∷ (e, TooMany) ∷ (f, IcmpType) ∷ [])
first_chosen true b c d e f = refl
first_chosen false true c d e f = refl
first_chosen false false true d e f = refl
first_chosen false false false true e f = refl
first_chosen false false false false true f = refl
first_chosen false false false false false true = refl
first_chosen false false false false false false = refl

-- what was chosen of what was judged is the lowest cause of the conditions
pub judged_alike : (j : Judged) (test : FlagTest) (before : ℕ) (reserved : Bool) (text : ConditionsText) (chosen : Option Cause) → j ≡ conditions_judged test text → chosen ≡ lowest (judged_causes j before reserved false) → lowest (condition_causes test before reserved text) ≡ chosen
judged_alike j test before reserved text chosen same is =
    sym (is ∙ ap (λ (k : Judged). lowest (judged_causes k before reserved false)) same ∙ causes_alike test before reserved text)
