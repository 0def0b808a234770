-- no control socket, or a run with it or without
use Rattle.node_loop.proofs.Still.{unasked}
use Rattle.node_control.proofs.Rounds.{no_control, some_control, socketless_front, socketless_reports}
use Rattle.node_control.proofs.member.run_at.Goals as goal

pub returns-in-Err-clause-hosted : goal.returns-in-Err-clause-hosted
returns-in-Err-clause-hosted g c es t =
    (es, t, unasked c.args.node es c.args.hears_asks _ (socketless_reports _ _ _ c.in-Err.ensures.fault))

pub returns-in-Err-clause-turns : goal.returns-in-Err-clause-turns
returns-in-Err-clause-turns g c none = absurd (some_control _ _ c.in-Err.is (c.open_at.ensures.none none))

pub returns-clause-turns : goal.returns-clause-turns
returns-clause-turns g c none =
    c.run_node-ended.ensures.turns (no_control _ _ c.in-Ok.is (c.open_at.ensures.none none))

pub returns-in-Err-clause-made : goal.returns-in-Err-clause-made
returns-in-Err-clause-made g c = socketless_front _ _ c.in-Err.ensures.fault
