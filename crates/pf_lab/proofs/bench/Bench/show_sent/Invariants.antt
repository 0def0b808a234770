use Rattle.std.proofs.Common.{◌≡◌, ◌++◌, string_bytes}
use Rattle.pf_lab.specs.Scripts.{LabValue, sent_lines}
use Rattle.pf_lab.specs.inner.Benches.{IsBench}
use Rattle.pf_lab.proofs.bench.Bench.show_sent.Given as goal

-- the messages so far are shown
abbrev pub invariant-loop-k : goal.invariant-loop-k
invariant-loop-k l = (v : LabValue) → IsBench l.fn.self v → string_bytes l.out ≡ string_bytes l.fn.out ++ sent_lines v.world.sent v.shown l.k
