use Rattle.std.proofs.Common.{arith}
use Rattle.pf_tables.proofs.Words.{mask_fits, mask_wanted, mask_others, ones_wanted, none_in, first_in}
use Rattle.pf_tables.proofs.row.Row.next.Goals as goal

pub loop-at-init : goal.loop-at-init
loop-at-init c = record {
  near = omega arith;
  fits = mask_fits c.args.from;
  wanted = λ k small past. mask_wanted c.args.from k small past;
  others = λ k small before. mask_others c.args.from k small before;
  passed = λ i low high h. absurd (omega (arith, low, high));
}

pub returns-then-word-ne0 : goal.returns-then-word-ne0
returns-then-word-ne0 c =
    let row = c.args.self.now in
    let kept = c.loop-at.invariant in
    first_in row.source.now row.destination.now row.destination_port.now c.args.from c.loop-at.at c.loop-at.mask kept.fits (kept.wanted, kept.others) kept.passed c.if-word-ne0.true

pub loop-at-preserved : goal.loop-at-preserved
loop-at-preserved c =
    let row = c.args.self.now in
    let kept = c.loop-at.invariant in
    record {
      near = omega (arith, kept.near);
      fits = omega arith;
      wanted = λ k small past. ones_wanted k small;
      others = λ k small before. absurd (omega (arith, before, kept.near));
      passed = none_in row.source.now row.destination.now row.destination_port.now c.args.from c.loop-at.at c.loop-at.mask (kept.wanted, kept.others) kept.passed c.if-word-ne0.false;
    }
