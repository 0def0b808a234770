-- one round more
use Rattle.std.proofs.Common.{rules, ◌≡◌, ◌∙◌, [], Option, None, arith, refl, subst}
use Rattle.px_replica.specs.declared.fault.NodeFault.{NodeFault}
use Rattle.px_replica.specs.Faults.{fault_of}
use Rattle.px_transport.specs.Wires.{Moves}
use Rattle.node_loop.specs.Hosting.{Hosted}
use Rattle.node_loop.specs.Turns.{Served, in_loop}
use Rattle.node_loop.proofs.Chains.{served_none, same_all}
use Rattle.node_loop.proofs.Hosting.{hosted_none}
use Rattle.px_transport.proofs.Traffic.{adds_none}
use Rattle.node_loop.proofs.Looking.{looks_never, looks_then}
use Rattle.node_loop.proofs.Clocks.{timed_then}
use Rattle.node_control.proofs.Rounds.{hosted_over, turns_then}
use Rattle.node_control.proofs.running.passes.Goals as goal

pub loop-round-init : goal.loop-round-init
loop-round-init g c = record {
  hosted = λ es t. (es, t, hosted_none _ _ refl);
  turns = λ none. (λ es t. (es, t, served_none _ _ (same_all _)), none);
  left = omega arith;
  looks = looks_never (g.T.Timer.timer_events c.args.timer.now);
  timed = (
    [],
    adds_none (g.S.Stopwatch.readings c.args.clock.now) (g.S.Stopwatch.readings c.args.clock.now) (λ rs h. h),
    ([], refl, adds_none (g.T.Timer.timer_events c.args.timer.now) (g.T.Timer.timer_events c.args.timer.now) (λ ts h. h)),
  );
  same = refl;
}

pub loop-round-preserved : goal.loop-round-preserved
loop-round-preserved g c = record {
  hosted = hosted_over (g.W.Wire.traffic c.args.wire.now) (g.W.Wire.traffic c.loop-round.wire) (g.W.Wire.traffic c.pass.new.wire)
      (λ es. in_loop c.args.service.now.handler.node es c.args.buffers.now) (λ es. in_loop c.loop-round.service.handler.node es c.loop-round.buffers)
      (λ es. in_loop c.pass.new.service.handler.node es c.pass.new.buffers) _ c.loop-round.invariant.hosted c.in_ok-used.ensures.hosted;
  turns = λ none. turns_then (g.W.Wire.traffic c.args.wire.now) (g.W.Wire.traffic c.loop-round.wire) (g.W.Wire.traffic c.pass.new.wire)
      (λ es. in_loop c.args.service.now.handler.node es c.args.buffers.now) (λ es. in_loop c.loop-round.service.handler.node es c.loop-round.buffers)
      (λ es. in_loop c.pass.new.service.handler.node es c.pass.new.buffers) _ c.loop-round.control c.pass.new.control (c.loop-round.invariant.turns none) c.in_ok-used.ensures.turns;
  left = omega (arith, c.loop-round.invariant.left, c.in_ok-used.ensures.few);
  looks = looks_then c.loop-round._round 1 (g.T.Timer.timer_events c.args.timer.now) (g.T.Timer.timer_events c.loop-round.timer) (g.T.Timer.timer_events c.pass.new.timer)
      c.loop-round.invariant.looks c.in_ok-used.ensures.looks;
  timed = timed_then c.args.start (g.S.Stopwatch.readings c.args.clock.now) (g.S.Stopwatch.readings c.loop-round.clock)
      (g.S.Stopwatch.readings c.microseconds-now.new.clock) (g.T.Timer.timer_events c.args.timer.now) (g.T.Timer.timer_events c.loop-round.timer)
      (g.T.Timer.timer_events c.pass.new.timer) c.microseconds-now.result c.loop-round.invariant.timed c.microseconds-now.ensures c.in_ok-used.ensures.at;
  same = c.pass.ensures.same ∙ c.loop-round.invariant.same;
}

pub returns-in_err-used-clause-hosted : goal.returns-in_err-used-clause-hosted
returns-in_err-used-clause-hosted g c =
    let is : fault_of c.pass.result ≡ fault_of c.from_residual.result = search rules in
    hosted_over (g.W.Wire.traffic c.args.wire.now) (g.W.Wire.traffic c.loop-round.wire) (g.W.Wire.traffic c.pass.new.wire)
    (λ es. in_loop c.args.service.now.handler.node es c.args.buffers.now) (λ es. in_loop c.loop-round.service.handler.node es c.loop-round.buffers)
    (λ es. in_loop c.pass.new.service.handler.node es c.pass.new.buffers) _ c.loop-round.invariant.hosted
    (subst (λ (a : Option NodeFault). Moves (g.W.Wire.traffic c.loop-round.wire) (g.W.Wire.traffic c.pass.new.wire)
    (λ es es'. Hosted (in_loop c.loop-round.service.handler.node es c.loop-round.buffers)
    (in_loop c.pass.new.service.handler.node es' c.pass.new.buffers) a)) is c.pass.ensures.hosted)

pub returns-in_err-used-clause-turns : goal.returns-in_err-used-clause-turns
returns-in_err-used-clause-turns g c none =
    let is : fault_of c.pass.result ≡ fault_of c.from_residual.result = search rules in
    turns_then (g.W.Wire.traffic c.args.wire.now) (g.W.Wire.traffic c.loop-round.wire) (g.W.Wire.traffic c.pass.new.wire)
    (λ es. in_loop c.args.service.now.handler.node es c.args.buffers.now) (λ es. in_loop c.loop-round.service.handler.node es c.loop-round.buffers)
    (λ es. in_loop c.pass.new.service.handler.node es c.pass.new.buffers) _ c.loop-round.control c.pass.new.control (c.loop-round.invariant.turns none)
    (subst (λ (a : Option NodeFault). c.loop-round.control ≡ None → Moves (g.W.Wire.traffic c.loop-round.wire)
    (g.W.Wire.traffic c.pass.new.wire) (λ es es'. Served (in_loop c.loop-round.service.handler.node es c.loop-round.buffers)
    (in_loop c.pass.new.service.handler.node es' c.pass.new.buffers) a) × (c.pass.new.control ≡ None)) is c.pass.ensures.turns)
