use Rattle.pf_lab.specs.Scripts.{LabValue, with_world, delivered_below}
use Rattle.pf_lab.specs.inner.Benches.{IsBench}
use Rattle.pf_lab.proofs.bench.Bench.pass.Given as goal

-- the messages so far were delivered
abbrev pub invariant-loop-k : goal.invariant-loop-k
invariant-loop-k l = (v : LabValue) → IsBench l.fn.self v → IsBench l.self (with_world v (delivered_below v l.k))
