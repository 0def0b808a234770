-- the state was sent, and n reports
use Rattle.std.proofs.Common.{◌≡◌, ◌≤◌, ◌∷◌, replicate}
use Rattle.px_transport.specs.Wiring.{inner_of, sealer_of, IsSameMember, IsSameCount, DoesAll, Leads, State, Report}
use Rattle.px_transport.proofs.packet_wire.PacketWire.keep_up_with.Given as goal

abbrev pub invariant-loop : goal.invariant-loop
invariant-loop g l = record {
  does : Leads g.W.Wire.traffic l.fn.self l.self
      (DoesAll (sealer_of l.fn.self) l.now (State l.member ∷ replicate l.counter (Report l.member)));
  member : IsSameMember l.fn.self l.self;
  count : IsSameCount l.fn.self l.self;
  members : l.self.sender.members ≡ l.fn.self.sender.members;
  rises : l.fn.self.failures ≤ l.self.failures;
  same : g.W.Wire.identity (inner_of l.self) ≡ g.W.Wire.identity (inner_of l.fn.self);
}
