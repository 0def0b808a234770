use Rattle.std.proofs.Common.{◌≡◌, ◌+◌, ◌-◌, ◌*◌, ◌<◌, arith, ◌∙◌, sym, ap, length, drop, length-drop, inl, inr, [], ◌∷◌, ◌++◌, length-append, subst, min, take}
use Rattle.pf_tables.specs.Rows.{HasBit}
use Rattle.std.proofs.lemmas.Option.{slice_get_within}
use Rattle.std.proofs.lemmas.Bool.{cases_lt, eqb-true, eqb-false}
use Rattle.std.specs.Prelude.{slice_get}
use Rattle.pf_tables.proofs.Words.{bit_in_front, bit_behind}
use Rattle.pf_tables.proofs.Meeting.{within_meets}
use Rattle.pf_tables.proofs.Lists.{got_dropped, got_in_front, dropped_twice, dropped_least}
use Rattle.pf_tables.proofs.column.row_of.Goals as goal

pub loop-left-preserved : goal.loop-left-preserved
loop-left-preserved c =
    let row = c.loop-left.row.items in
    let all = c.args.intervals.now in
    let left = c.loop-left.left.now in
    let items : c.push.new.self.items ≡ row ++ c.word_of.result ∷ [] = c.in_ok-push.ensures.items in
    let grown : length c.push.new.self.items ≡ length row + 1 = ap length items ∙ length-append row (c.word_of.result ∷ []) in
    let size : length left ≡ length all - 64 * length row = ap length c.loop-left.invariant.rest ∙ length-drop (64 * length row) all in
    let some = eqb-false (length left) 0 (sym c.is_empty.ensures ∙ c.loop-left-test.true) in
    let next : 64 * length row + 64 ≡ 64 * length c.push.new.self.items = omega (arith, grown) in
    let cut = c.split_at.ensures.back ∙ ap (λ n. drop n left) c.min.ensures ∙ dropped_least 64 left ∙ ap (drop 64) c.loop-left.invariant.rest ∙ dropped_twice (64 * length row) 64 all in
    record {
      rest = cut ∙ ap (λ n. drop n all) next;
      few = omega (arith, grown, size, some, c.requires);
      marked = λ i x below at is. subst (λ r. HasBit r i) (sym items) (elim (cases_lt i (64 * length row)) [
        | inl early ↦ bit_in_front row c.word_of.result i early (c.loop-left.invariant.marked i x early at is)
        | inr past ↦
            let k = i - 64 * length row in
            let within : k < min (length left) 64 = omega (arith, size, past, below, grown, slice_get_within all i x at) in
            let place : 64 * length row + k ≡ i = omega (arith, past) in
            let got = ap (λ l. slice_get l k) c.split_at.ensures.front ∙ ap (λ n. slice_get (take n left) k) c.min.ensures ∙ got_in_front (min (length left) 64) left k within ∙ ap (λ l. slice_get l k) c.loop-left.invariant.rest ∙ got_dropped (64 * length row) all k ∙ ap (slice_get all) place ∙ at in
            bit_behind row c.word_of.result i past (omega (arith, below, grown)) (c.word_of.ensures k x got is)
      ]);
    }

pub returns-clause-marked : goal.returns-clause-marked
returns-clause-marked c n low high i x at is =
    let here = slice_get_within _ i x at in
    let none : length (drop (64 * length c.loop-left.row.items) c.args.intervals.now) ≡ 0 = ap length (sym c.loop-left.invariant.rest) ∙ eqb-true (length c.loop-left.left.now) 0 (sym c.is_empty.ensures ∙ c.loop-left-test.false) in
    c.loop-left.invariant.marked i x (omega (arith, here, none, length-drop (64 * length c.loop-left.row.items) c.args.intervals.now)) at (within_meets x c.args.first n c.args.last low high (omega (arith, c.ranges.last.fits)) is)
