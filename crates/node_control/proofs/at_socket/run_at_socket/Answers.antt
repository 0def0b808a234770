-- the run over the wire is one at its socket
use Rattle.node_control.proofs.AtSockets.{runs_at, runs_at_by, route_is}
use Rattle.node_control.proofs.at_socket.run_at_socket.Goals as goal

pub returns-clause-ran : goal.returns-clause-ran
returns-clause-ran g c new honest fresh =
    let r = runs_at g.R.Records g.S.Socket g.met.R.Records.settled c.hosted_runs_are_traces.ensures c.args.m c.args.hears_asks
    c.args.records c.run_over.result.1 c.run_over.result.0 c.run_over.result.2 honest fresh (c.run_over.ensures.hosted new) in (
      r.0,
      r.1,
      runs_at_by g.R.Records c.args.m c.args.hears_asks c.args.records c.run_over.result.1 r.0 _ _
          (route_is _ _ c.run_over.ensures.route) r.2,
    )

pub returns-clause-hosted : goal.returns-clause-hosted
returns-clause-hosted g c new = let r = c.run_over.ensures.hosted new in (r.1, r.5)

pub returns-clause-turns : goal.returns-clause-turns
returns-clause-turns g c none new = let r = c.run_over.ensures.turns none new in (r.1, r.5)
