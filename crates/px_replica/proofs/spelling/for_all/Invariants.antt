-- those so far are spelled
use Rattle.px_model.specs.Step.{to_all}
use Rattle.px_model.specs.Seen.{message_of}
use Rattle.px_wire.specs.Message.{group}
use Rattle.px_replica.specs.Spelled.{AreSpelled}
use Rattle.px_replica.proofs.spelling.for_all.Given as goal

abbrev pub invariant-loop-to : goal.invariant-loop-to
invariant-loop-to l = AreSpelled (group l.m) (to_all l.to l.m.me (message_of l.message)) l.all.items
