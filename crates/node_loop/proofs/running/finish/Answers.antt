-- one round more, and a wait
use Rattle.std.proofs.Common.{rules, ◌≡◌, ◌∙◌, [], ◌∷◌, Option, arith, refl, subst}
use Rattle.px_replica.specs.declared.fault.NodeFault.{NodeFault}
use Rattle.px_replica.specs.Faults.{fault_of}
use Rattle.px_transport.specs.Wires.{Moves}
use Rattle.px_transport.proofs.Traffic.{adds_none}
use Rattle.node_loop.specs.Timing.{TimerEvent}
use Rattle.node_loop.specs.Turns.{Served, in_loop}
use Rattle.node_loop.proofs.Chains.{served_none, same_all}
use Rattle.node_loop.proofs.Looking.{ends_then}
use Rattle.node_loop.proofs.Clocks.{timed_then}
use Rattle.node_loop.proofs.Given.{over_then, over_same}
use Rattle.node_loop.proofs.running.finish.Goals as goal

pub loop-round-init : goal.loop-round-init
loop-round-init g c = record {
  served = λ es t. (es, t, served_none _ _ (same_all _));
  grows = omega arith;
  looks = ([], refl, c.end.ensures.timer_events);
  timed = (
    [],
    adds_none (g.S.Stopwatch.readings c.args.clock.now) (g.S.Stopwatch.readings c.args.clock.now) (λ rs h. h),
    (TimerEvent.Ends ∷ [], refl, c.end.ensures.timer_events),
  );
  left = omega arith;
  same = refl;
}

pub returns-in_err-made-clause-served : goal.returns-in_err-made-clause-served
returns-in_err-made-clause-served g c =
    let is : fault_of c.round.result ≡ fault_of c.from_residual.result = search rules in
    over_then (g.W.Wire.traffic c.args.wire.now) (g.W.Wire.traffic c.loop-round.wire) (g.W.Wire.traffic c.round.new.wire)
    (λ es. in_loop c.args.node.now es c.args.buffers.now) (λ es. in_loop c.loop-round.node es c.loop-round.buffers)
    (λ es. in_loop c.round.new.node es c.round.new.buffers) _ c.loop-round.invariant.served
    (subst (λ (a : Option NodeFault). Moves (g.W.Wire.traffic c.loop-round.wire) (g.W.Wire.traffic c.round.new.wire)
    (λ es es'. Served (in_loop c.loop-round.node es c.loop-round.buffers) (in_loop c.round.new.node es' c.round.new.buffers) a))
    is c.round.ensures.served)

pub loop-round-preserved : goal.loop-round-preserved
loop-round-preserved g c = record {
  served = over_then (g.W.Wire.traffic c.args.wire.now) (g.W.Wire.traffic c.loop-round.wire) (g.W.Wire.traffic c.wait.new.self)
      (λ es. in_loop c.args.node.now es c.args.buffers.now) (λ es. in_loop c.loop-round.node es c.loop-round.buffers)
      (λ es. in_loop c.round.new.node es c.round.new.buffers) _ c.loop-round.invariant.served
      (over_then (g.W.Wire.traffic c.loop-round.wire) (g.W.Wire.traffic c.round.new.wire) (g.W.Wire.traffic c.wait.new.self)
      (λ es. in_loop c.loop-round.node es c.loop-round.buffers) (λ es. in_loop c.round.new.node es c.round.new.buffers)
      (λ es. in_loop c.round.new.node es c.round.new.buffers) _ c.in_ok-made.ensures.served
      (over_same (g.W.Wire.traffic c.round.new.wire) (g.W.Wire.traffic c.wait.new.self)
      (λ es. in_loop c.round.new.node es c.round.new.buffers) (λ es. in_loop c.round.new.node es c.round.new.buffers)
      c.wait.ensures.quiet (λ es. same_all (in_loop c.round.new.node es c.round.new.buffers))));
  grows = omega (arith, c.loop-round.invariant.grows, c.round.ensures.grows);
  looks = ends_then c.loop-round._round (g.T.Timer.timer_events c.args.timer.now) (g.T.Timer.timer_events c.loop-round.timer)
      (g.T.Timer.timer_events c.round.new.timer) c.loop-round.invariant.looks c.in_ok-made.ensures.looks;
  timed = timed_then c.args.start (g.S.Stopwatch.readings c.args.clock.now) (g.S.Stopwatch.readings c.loop-round.clock)
      (g.S.Stopwatch.readings c.microseconds.new.clock) (g.T.Timer.timer_events c.args.timer.now) (g.T.Timer.timer_events c.loop-round.timer)
      (g.T.Timer.timer_events c.round.new.timer) c.microseconds.result c.loop-round.invariant.timed c.microseconds.ensures c.in_ok-made.ensures.at;
  left = omega (arith, c.loop-round.invariant.left, c.in_ok-made.ensures.wait, c.max.ensures, c.saturating_sub-left.ensures);
  same = c.wait.ensures.same ∙ (c.round.ensures.same ∙ c.loop-round.invariant.same);
}
