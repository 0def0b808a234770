use Rattle.std.proofs.Common.{◌≡◌, ◌||◌, Bool, get_or, refl, sym, ap, ◌∙◌}
use Rattle.std.proofs.lemmas.List.{get_or_default}
use Rattle.pf_expansion.specs.inner.Numbers.{has_again}
use Rattle.pf_expansion.proofs.Looking.{none_in, again_there, again_more, those_more}
use Rattle.pf_expansion.proofs.block_paths.as_set.Goals as goal

pub loop-number-init : goal.loop-number-init
loop-number-init c = record {
  again = ap (λ (b : Bool). b || has_again c.args.numbers.now) (sym (none_in c.new-set.result c.new-set.ensures.empty c.args.numbers.now));
  those = λ k. rw c.new-set.ensures.empty refl;
}

pub returns-in-Ok-false-clause-again : goal.returns-in-Ok-false-clause-again
returns-in-Ok-false-clause-again c =
    again_there c.loop-number.set c.args.numbers.now c.loop-number.number-index (get_or c.args.numbers.now c.loop-number.number-index 0) c.loop-number-test.true (get_or_default c.args.numbers.now c.loop-number.number-index 0 _ c.loop-number-test.true) c.loop-number.invariant.again (sym c.in-Ok-false.field-0-test ∙ c.in-Ok-false.ensures.added)

pub loop-number-preserved : goal.loop-number-preserved
loop-number-preserved c =
    let k = get_or c.args.numbers.now c.loop-number.number-index 0 in
    let is : k ≡ get_or c.args.numbers.now c.loop-number.number-index k = get_or_default c.args.numbers.now c.loop-number.number-index 0 k c.loop-number-test.true in
    record {
      again = again_more c.loop-number.set c.insert.new.self k c.in-Ok-true.ensures.updates c.args.numbers.now c.loop-number.number-index c.loop-number-test.true is c.loop-number.invariant.again (sym c.in-Ok-true.field-0-test ∙ c.in-Ok-true.ensures.added);
      those = those_more c.loop-number.set c.insert.new.self k c.in-Ok-true.ensures.updates c.args.numbers.now c.loop-number.number-index c.loop-number-test.true is c.loop-number.invariant.those;
    }
