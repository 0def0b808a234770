use Rattle.std.proofs.Common.{◌≤◌}
use Rattle.px_model.specs.Step.{front}
use Rattle.px_core.specs.Logs.{learned_in}
use Rattle.px_core.proofs.settling.next_front.Given as goal

abbrev pub invariant-loop-position : goal.invariant-loop-position
invariant-loop-position l = l.position ≤ front (learned_in l.learned)
