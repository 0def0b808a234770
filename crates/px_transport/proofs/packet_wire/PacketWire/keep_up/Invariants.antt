-- what is due was done towards the members before this one
use Rattle.std.proofs.Common.{◌≡◌, ◌≤◌}
use Rattle.std.specs.List.{range_with_len}
use Rattle.px_transport.specs.Wiring.{inner_of, sealer_of, IsSameMember, IsSameCount, DoesAll, Leads, duties_to}
use Rattle.px_transport.proofs.packet_wire.PacketWire.keep_up.Given as goal

abbrev pub invariant-loop-member : goal.invariant-loop-member
invariant-loop-member g l = record {
  does : Leads g.W.Wire.traffic l.fn.self l.self
      (DoesAll (sealer_of l.fn.self) l.now (duties_to (sealer_of l.fn.self) (range_with_len 0 l.member)));
  member : IsSameMember l.fn.self l.self;
  count : IsSameCount l.fn.self l.self;
  members : l.self.sender.members ≡ l.fn.self.sender.members;
  rises : l.fn.self.failures ≤ l.self.failures;
  same : g.W.Wire.identity (inner_of l.self) ≡ g.W.Wire.identity (inner_of l.fn.self);
}
