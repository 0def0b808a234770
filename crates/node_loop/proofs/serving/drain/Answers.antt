-- one datagram more
use Rattle.std.proofs.Common.{rules, ◌≡◌, ◌∙◌, Option, arith, refl, subst}
use Rattle.px_replica.specs.declared.fault.NodeFault.{NodeFault}
use Rattle.px_replica.specs.Faults.{fault_of}
use Rattle.px_transport.specs.Wires.{Moves}
use Rattle.node_loop.specs.Turns.{Served, in_loop}
use Rattle.node_loop.proofs.Chains.{served_none, same_all, saw_more, saw_no_more}
use Rattle.node_loop.proofs.Counting.{counts_more, counts_no_more}
use Rattle.node_loop.proofs.Given.{over_then}
use Rattle.node_loop.proofs.serving.drain.Goals as goal

pub loop-handled-init : goal.loop-handled-init
loop-handled-init g c = record {
  served = λ es t. (es, t, served_none _ _ (same_all _));
  saw = λ es t. (es, t, (same_all _, refl));
  counts = λ es t. (es, t, (same_all _, refl));
  heads = search rules;
  grows = omega arith;
  same = refl;
}

pub loop-handled-preserved : goal.loop-handled-preserved
loop-handled-preserved g c = record {
  served = over_then (g.W.Wire.traffic c.args.wire.now) (g.W.Wire.traffic c.loop-handled.wire) (g.W.Wire.traffic c.take_one.new.wire)
      (λ es. in_loop c.args.node.now es c.args.buffers.now) (λ es. in_loop c.loop-handled.node es c.loop-handled.buffers)
      (λ es. in_loop c.take_one.new.node es c.take_one.new.buffers) _ c.loop-handled.invariant.served c.in_ok-take_one.ensures.served;
  saw = λ es t.
      let r = c.loop-handled.invariant.saw es t in
      let s = c.in_ok-take_one.ensures.saw r.0 r.1 in
      (s.0, s.1, saw_more c.loop-handled.handled _ _ _ _ _ _ _ c.in_ok-take_one.field-0 c.if-not-branch.false (omega arith) r.2 s.2);
  counts = λ es t.
      let r = c.loop-handled.invariant.counts es t in
      let s = c.in_ok-take_one.ensures.counts r.0 r.1 in
      (s.0, s.1, counts_more c.loop-handled.handled _ _ _ _ _ _ _ c.in_ok-take_one.field-0 c.if-not-branch.false (omega arith) r.2 s.2);
  heads = search rules;
  grows = omega (arith, c.loop-handled.invariant.grows, c.take_one.ensures.grows);
  same = c.take_one.ensures.same ∙ c.loop-handled.invariant.same;
}

pub returns-then-not-branch-clause-served : goal.returns-then-not-branch-clause-served
returns-then-not-branch-clause-served g c =
    over_then (g.W.Wire.traffic c.args.wire.now) (g.W.Wire.traffic c.loop-handled.wire) (g.W.Wire.traffic c.take_one.new.wire)
    (λ es. in_loop c.args.node.now es c.args.buffers.now) (λ es. in_loop c.loop-handled.node es c.loop-handled.buffers)
    (λ es. in_loop c.take_one.new.node es c.take_one.new.buffers) _ c.loop-handled.invariant.served c.in_ok-take_one.ensures.served

pub returns-then-not-branch-clause-saw : goal.returns-then-not-branch-clause-saw
returns-then-not-branch-clause-saw g c es t =
    let r = c.loop-handled.invariant.saw es t in
    let s = c.in_ok-take_one.ensures.saw r.0 r.1 in
    (s.0, s.1, saw_no_more c.loop-handled.handled _ _ _ _ _ _ c.in_ok-take_one.field-0 c.if-not-branch.true r.2 s.2)

pub returns-in_err-take_one-clause-served : goal.returns-in_err-take_one-clause-served
returns-in_err-take_one-clause-served g c =
    let is : fault_of c.take_one.result ≡ fault_of c.from_residual.result = search rules in
    over_then (g.W.Wire.traffic c.args.wire.now) (g.W.Wire.traffic c.loop-handled.wire) (g.W.Wire.traffic c.take_one.new.wire)
    (λ es. in_loop c.args.node.now es c.args.buffers.now) (λ es. in_loop c.loop-handled.node es c.loop-handled.buffers)
    (λ es. in_loop c.take_one.new.node es c.take_one.new.buffers) _ c.loop-handled.invariant.served
    (subst (λ (a : Option NodeFault). Moves (g.W.Wire.traffic c.loop-handled.wire) (g.W.Wire.traffic c.take_one.new.wire)
    (λ es es'. Served (in_loop c.loop-handled.node es c.loop-handled.buffers)
    (in_loop c.take_one.new.node es' c.take_one.new.buffers) a)) is c.take_one.ensures.served)

pub returns-then-not-branch-clause-counts : goal.returns-then-not-branch-clause-counts
returns-then-not-branch-clause-counts g c es t =
    let r = c.loop-handled.invariant.counts es t in
    let s = c.in_ok-take_one.ensures.counts r.0 r.1 in
    (s.0, s.1, counts_no_more c.loop-handled.handled _ _ _ _ _ _ c.in_ok-take_one.field-0 c.if-not-branch.true r.2 s.2)
