-- so far all that are lacked were sent
use Rattle.std.proofs.Common.{◌≡◌, ◌++◌, List, length, take}
use Rattle.px_transport.specs.Wires.{Adds}
use Rattle.px_packet.specs.Pieces.{count_of}
use Rattle.px_transport.specs.Sending.{Unsealed, Sends, pieces, pieces_from}
use Rattle.px_transport.specs.Senders.{sealer_of, outgoing_of}
use Rattle.px_transport.proofs.sender.Sender.send_pieces.Given as goal

abbrev pub invariant-loop-index : goal.invariant-loop-index
invariant-loop-index g l = record {
  first : List Unsealed;
  split : take l.most (pieces l.to.member l.to.echo l.held l.datagram) ≡
      first ++ take l.left (pieces_from l.to.member l.to.echo l.held l.datagram l.index);
  sends : Sends (sealer_of l.fn.self) first (Adds (g.W.Wire.traffic l.fn.inner) (g.W.Wire.traffic l.inner))
      (outgoing_of l.fn.self) (outgoing_of l.self);
  sealer : sealer_of l.self ≡ sealer_of l.fn.self;
  keys : l.self.keys ≡ l.fn.self.keys;
  same : g.W.Wire.identity l.inner ≡ g.W.Wire.identity l.fn.inner;
  count : l.count ≡ count_of (length l.datagram);
}
