-- what the wire below gave goes over both
use Rattle.std.proofs.Common.{subst, option_map, take}
use Rattle.px_transport.specs.Wires.{Adds, gives}
use Rattle.px_transport.proofs.Layers.{faulty_passes}
use Rattle.px_transport.proofs.faulty.FaultyWireWire.recv.Goals as goal

pub returns-clause-gave : goal.returns-clause-gave
returns-clause-gave g c =
    faulty_passes _ _ _
    (subst (λ x. Adds (g.W.Wire.traffic x) (g.W.Wire.traffic c.recv.new.self) (gives (option_map (λ n. take n c.recv.new.into) c.recv.result)))
    c.misses_recv.ensures.rest.0 c.recv.ensures.gave)
