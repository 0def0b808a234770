-- one wait more
use Rattle.std.proofs.Common.{◌≡◌, ◌∙◌, arith, ◌-◌, ◌+◌, ℕ, refl, subst}
use Rattle.px_wire.specs.Message.{group}
use Rattle.node_udp.specs.declared.answer.AskAnswer.TheVariants.{NoAnswer}
use Rattle.node_udp.specs.Asking.{Listens}
use Rattle.node_udp.proofs.Asked.{heard_at, passed_at, ended_at}
use Rattle.node_udp.proofs.asking.listen_on.Goals as goal

pub loop-wait-init : goal.loop-wait-init
loop-wait-init g c = record {
  heard = λ es t.
      let all : c.args.waits - 0 ≡ c.args.waits = omega arith in
      (es, t, λ a end l. subst (λ (n : ℕ). Listens (group c.args.m.now) c.args.node n es a end) all l);
  same = refl;
}

pub returns-in-Some-clause-heard : goal.returns-in-Some-clause-heard
returns-in-Some-clause-heard g c es t =
    let w = c.loop-wait._wait in
    let r = c.loop-wait.invariant.heard es t in
    let s = c.in-Some.ensures.heard r.0 r.1 in (
      s.0,
      s.1,
      r.2 c.in-Some.answer s.0
          (heard_at (group c.args.m.now) c.args.node (c.args.waits - w) (c.args.waits - (w + 1)) r.0 c.in-Some.answer s.0
          (omega (arith, c.loop-wait-test.true)) s.2),
    )

pub loop-wait-preserved : goal.loop-wait-preserved
loop-wait-preserved g c = record {
  heard = λ es t.
      let w = c.loop-wait._wait in
      let r = c.loop-wait.invariant.heard es t in
      let s = c.in_default.ensures.heard r.0 r.1 in (
        s.0,
        s.1,
        λ a end l. r.2 a end
            (passed_at (group c.args.m.now) c.args.node (c.args.waits - w) (c.args.waits - (w + 1)) r.0 s.0 a end
            (omega (arith, c.loop-wait-test.true)) s.2 l),
      );
  same = c.in_default.ensures.same ∙ c.loop-wait.invariant.same;
}

pub returns-clause-heard : goal.returns-clause-heard
returns-clause-heard g c es t =
    let w = c.loop-wait._wait in
    let r = c.loop-wait.invariant.heard es t in (
      r.0,
      r.1,
      r.2 NoAnswer r.0 (ended_at (group c.args.m.now) c.args.node (c.args.waits - w) r.0 (omega (arith, c.loop-wait-test.false))),
    )
