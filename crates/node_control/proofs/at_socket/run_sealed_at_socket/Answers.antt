-- the run over the wire is one of packets at its socket
use Rattle.px_transport.specs.Wiring.{keys_of, sealer_of}
use Rattle.node_control.proofs.AtSockets.{runs_sealed, runs_sealed_by, route_is, sealing_is}
use Rattle.node_control.proofs.at_socket.run_sealed_at_socket.Goals as goal

pub returns-clause-same : goal.returns-clause-same
returns-clause-same g c = sealing_is _ _ _ _ c.run_over.ensures.same

pub returns-clause-ran : goal.returns-clause-ran
returns-clause-ran g c new honest fresh =
    let same = sealing_is _ _ _ _ c.run_over.ensures.same in
    let r = runs_sealed g.R.Records g.S.Socket g.met.R.Records.settled c.calls_are_steps.ensures c.hosted_runs_are_traces.ensures c.args.m
    c.args.hears_asks c.args.records c.run_over.result.1 c.run_over.result.0 c.run_over.result.2 honest fresh (c.run_over.ensures.hosted new) in (
      r.0,
      r.1,
      runs_sealed_by g.R.Records c.args.m c.args.hears_asks c.args.records c.run_over.result.1 r.0 _ _
          (keys_of c.run_over.result.2) (keys_of c.args.wire) (sealer_of c.run_over.result.2) (sealer_of c.args.wire)
          (route_is _ _ c.run_over.ensures.route) same.0 same.1 r.2,
    )

pub returns-clause-hosted : goal.returns-clause-hosted
returns-clause-hosted g c new = let r = c.run_over.ensures.hosted new in (r.1, r.5)

pub returns-clause-turns : goal.returns-clause-turns
returns-clause-turns g c none new = let r = c.run_over.ensures.turns none new in (r.1, r.5)
