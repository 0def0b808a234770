use Rattle.std.proofs.Common.{◌≡◌}
use Rattle.px_model.specs.Step.{nothing_volatile}
use Rattle.px_core.specs.Planning.{state_of}
use Rattle.speed_calls.proofs.events.opened.Given as goal

abbrev pub invariant-loop-position : goal.invariant-loop-position
invariant-loop-position l = (state_of l.core).volatile ≡ nothing_volatile
