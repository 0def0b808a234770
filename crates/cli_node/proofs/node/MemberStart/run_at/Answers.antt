-- a run at the socket, without keys or with them
use Rattle.std.proofs.Common.{◌∙◌, ap, inr, sym}
use Rattle.node_udp.specs.Members.{me_of, peers_of, route_of}
use Rattle.cli_node.proofs.Refusing.{wire_is}
use Rattle.cli_node.proofs.Sealed.{as_sealed, hearing_is}
use Rattle.cli_node.proofs.node.MemberStart.run_at.Goals as goal

pub returns-in_default-sealing-clause-ran : goal.returns-in_default-sealing-clause-ran
returns-in_default-sealing-clause-ran g c = inr (
  c.run_at_socket-ended.result.0,
  c.ended_outcome.ensures,
  c.run_at_socket-ended.ensures.made,
  λ honest.
      let r = c.run_at_socket-ended.ensures.ran (wire_is _ _ _ c.in-Ok.is c.requires.new) honest c.requires.failed in (
        peers_of c.in-Ok.wire,
        wire_is _ _ _ c.in-Ok.is c.requires.peers,
        r.0,
        hearing_is g.R.Records c.args.self.now.m _ _ c.args.records c.run_at_socket-ended.result.1 r.0 _ _ _ _ c.in_default-sealing.is
            c.hears_asks-hears.ensures
            (ap (route_of (peers_of c.in-Ok.wire)) (wire_is _ _ _ c.in-Ok.is c.requires.own ∙ sym c.requires.is)) r.2,
      ),
)

pub returns-clause-ran : goal.returns-clause-ran
returns-clause-ran g c = inr (
  c.run_sealed_at_socket-ended.result.0,
  c.ended_outcome-2.ensures,
  c.run_sealed_at_socket-ended.ensures.made,
  λ honest.
      let r = c.run_sealed_at_socket-ended.ensures.ran c.in-Ok-sealed.ensures.new honest c.requires.failed in (
        peers_of c.in-Ok.wire,
        wire_is _ _ _ c.in-Ok.is c.requires.peers,
        r.0,
        hearing_is g.R.Records c.args.self.now.m _ _ c.args.records c.run_sealed_at_socket-ended.result.1 r.0 _ _ _ _ c.in-Some.is
            c.hears_asks-hears.ensures
            (ap (λ (w : _). route_of (peers_of w) (me_of w)) c.in-Ok-sealed.ensures.inner
            ∙ ap (route_of (peers_of c.in-Ok.wire)) (wire_is _ _ _ c.in-Ok.is c.requires.own ∙ sym c.requires.is))
            (as_sealed _ _ _ _ _ _ _ _ _ _ _ c.in-Ok-sealed.ensures.keys c.in-Ok-sealed.ensures.sealer r.2),
      ),
)
