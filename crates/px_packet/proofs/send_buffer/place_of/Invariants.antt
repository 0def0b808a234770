-- none so far is the datagram
use Rattle.std.proofs.Common.{◌≡◌, ◌+◌, drop}
use Rattle.px_packet.specs.Sending.{place_of}
use Rattle.px_packet.proofs.send_buffer.place_of.Given as goal

abbrev pub invariant-loop-i : goal.invariant-loop-i
invariant-loop-i l = l.i + place_of (drop l.i l.cuts) l.datagram ≡ place_of l.cuts l.datagram
