-- what was heard of the members that are left
use Rattle.std.specs.Prelude.{◌≡◌, List, drop}
use Rattle.px_packet.specs.Reassembling.{earlier}
use Rattle.px_transport.specs.Receiving.{Heard, due_of, Hears}
use Rattle.px_packet.specs.declared.start.Start.{Start}
use Rattle.px_transport.proofs.receiver.Receiver.due.Given as goal

abbrev pub invariant-loop-i : goal.invariant-loop-i
invariant-loop-i l = (mine : Start) (hs : List Heard) → Hears mine hs l.fn.self →
    earlier l.first (due_of (drop l.i hs)) ≡ due_of hs
