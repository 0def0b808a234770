-- it is lost, or goes over both
use Rattle.px_transport.proofs.Layers.{faulty_loses, faulty_passes}
use Rattle.px_transport.proofs.faulty.FaultyWireWire.send.Goals as goal

pub returns-then-self-le1-clause-handed : goal.returns-then-self-le1-clause-handed
returns-then-self-le1-clause-handed g c = faulty_loses _ _ _ _ (λ es h. h)

pub returns-clause-handed : goal.returns-clause-handed
returns-clause-handed g c = faulty_passes _ _ _ c.send.ensures.handed
