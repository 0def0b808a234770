use Rattle.std.proofs.Common.{◌≡◌, ◌++◌, string_bytes}
use Rattle.pf_lab.specs.Scripts.{LabValue, state_lines}
use Rattle.pf_lab.specs.inner.Benches.{IsBench}
use Rattle.pf_lab.proofs.bench.Bench.show_state.Given as goal

-- the nodes so far are shown
abbrev pub invariant-loop-m : goal.invariant-loop-m
invariant-loop-m l = (v : LabValue) → IsBench l.self v → string_bytes l.out ≡ string_bytes l.fn.out ++ state_lines v.world l.m
