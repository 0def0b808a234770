-- the wire stays the member's, and the one below is given back
use Rattle.std.proofs.Common.{◌∙◌, [], sym, ap}
use Rattle.px_transport.specs.Loopback.{below_of}
use Rattle.node_control.proofs.AtSockets.{me_is, below_is, route_below}
use Rattle.node_control.proofs.at_socket.run_over.Goals as goal

pub returns-clause-hosted : goal.returns-clause-hosted
returns-clause-hosted g c new =
    let r = c.run_member-ended.ensures.hosted [] (c.new-wire.ensures.traffic new) in (
      c.run_member-ended.new.wire,
      r.0,
      sym c.into_inner.ensures,
      me_is _ _ (g.W.Wire.identity (below_of c.run_member-ended.new.wire)) (g.W.Wire.identity (below_of c.new-wire.result))
          c.run_member-ended.ensures.same ∙ c.new-wire.ensures.me ∙ c.me.ensures,
      r.1,
      r.2,
    )

pub returns-clause-turns : goal.returns-clause-turns
returns-clause-turns g c none new =
    let r = c.run_member-ended.ensures.turns none [] (c.new-wire.ensures.traffic new) in (
      c.run_member-ended.new.wire,
      r.0,
      sym c.into_inner.ensures,
      me_is _ _ (g.W.Wire.identity (below_of c.run_member-ended.new.wire)) (g.W.Wire.identity (below_of c.new-wire.result))
          c.run_member-ended.ensures.same ∙ c.new-wire.ensures.me ∙ c.me.ensures,
      r.1,
      r.2,
    )

pub returns-clause-same : goal.returns-clause-same
returns-clause-same g c =
    ap (λ (w : _). (g.W.Wire.identity w).sealing) c.into_inner.ensures
    ∙ below_is _ _ (g.W.Wire.identity (below_of c.run_member-ended.new.wire)) (g.W.Wire.identity (below_of c.new-wire.result))
    c.run_member-ended.ensures.same
    ∙ ap (λ (w : _). (g.W.Wire.identity w).sealing) c.new-wire.ensures.below

pub returns-clause-route : goal.returns-clause-route
returns-clause-route g c =
    ap (λ (w : _). (g.W.Wire.identity w).route) c.into_inner.ensures
    ∙ route_below _ _ (g.W.Wire.identity (below_of c.run_member-ended.new.wire)) (g.W.Wire.identity (below_of c.new-wire.result))
    c.run_member-ended.ensures.same
    ∙ ap (λ (w : _). (g.W.Wire.identity w).route) c.new-wire.ensures.below
