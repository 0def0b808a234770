-- what is due first of the members before this one
use Rattle.std.proofs.Common.{◌≡◌, List}
use Rattle.px_transport.specs.Receiving.{Heard, Hears}
use Rattle.px_transport.specs.Wiring.{sealer_of, outgoing_of, receiver_of, due_of_first}
use Rattle.px_transport.proofs.packet_wire.PacketWire.next_due.Given as goal

abbrev pub invariant-loop-member : goal.invariant-loop-member
invariant-loop-member g l =
    (hs : List Heard) → Hears (sealer_of l.fn.self).start hs (receiver_of l.fn.self) →
    l.due ≡ due_of_first (sealer_of l.fn.self) (outgoing_of l.fn.self) hs l.member
