-- pass after pass
use Rattle.pf_lab.specs.Scripts.{all_delivered}
use Rattle.pf_lab.proofs.bench.Bench.run.Goals as goal

pub returns : goal.returns
returns c v is =
    let one = c.in_ok-pass.ensures v is in
    let two = c.in_ok-pass-2.ensures (all_delivered v) one in
    let three = c.in_ok-pass-3.ensures (all_delivered (all_delivered v)) two in
    c.pass-4.ensures (all_delivered (all_delivered (all_delivered v))) three
