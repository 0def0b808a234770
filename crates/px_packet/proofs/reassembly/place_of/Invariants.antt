-- none so far is the datagram of the piece
use Rattle.std.proofs.Common.{◌≡◌, ◌+◌, drop}
use Rattle.std.specs.List.{position_or_len}
use Rattle.px_packet.specs.Seen.{seen}
use Rattle.px_packet.specs.Reassembling.{is_of}
use Rattle.px_packet.proofs.reassembly.place_of.Given as goal

abbrev pub invariant-loop-i : goal.invariant-loop-i
invariant-loop-i l =
    l.i + position_or_len (is_of (seen l.piece)) (drop l.i l.partials) ≡ position_or_len (is_of (seen l.piece)) l.partials
