-- n members were never heard
use Rattle.std.specs.Prelude.{replicate}
use Rattle.std.specs.List.{AllZip}
use Rattle.px_transport.specs.Receiving.{unheard, IsHeard}
use Rattle.px_transport.proofs.receiver.Receiver.new.Given as goal

abbrev pub invariant-loop : goal.invariant-loop
invariant-loop l = AllZip IsHeard (replicate l.counter unheard) l.entries.items
