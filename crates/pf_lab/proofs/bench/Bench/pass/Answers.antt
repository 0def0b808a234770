-- one message after the other
use Rattle.std.proofs.Common.{rules, arith, ◌≡◌, ◌+◌, ℕ, List, length, sym, ap, subst}
use Rattle.px_replica.specs.declared.datagram.Datagram.{Datagram}
use Rattle.pf_lab.specs.Scripts.{with_world, delivered_below}
use Rattle.pf_lab.specs.inner.Benches.{IsBench}
use Rattle.pf_lab.specs.declared.bench.Bench.{Bench}
use Rattle.pf_lab.proofs.Lines.{pass_begins, stays_delivered, more_delivered, pass_done}
use Rattle.pf_lab.proofs.bench.Bench.pass.Goals as goal
use Rattle.pf_lab.proofs.bench.Bench.pass.Goals.{then-not-is_delivered+in_ok-deliver, else-not-is_delivered}

pub loop-k-init : goal.loop-k-init
loop-k-init c v is = pass_begins _ v c.min-first.result is (omega (arith, c.min-first.ensures))

pub loop-k-preserved : goal.loop-k-preserved
loop-k-preserved c v is =
    let so = c.loop-k.invariant v is in
    elim c.if-not-is_delivered.branch [
      | then-not-is_delivered+in_ok-deliver w ↦ subst (λ (b : Bench). IsBench b (with_world v (delivered_below v (c.loop-k.k + 1)))) (sym w.self-is)
          (more_delivered c.loop-k.self _ v c.loop-k.k so (search rules) (w.in_ok-deliver.ensures (with_world v (delivered_below v c.loop-k.k)) so))
      | else-not-is_delivered w ↦ subst (λ (b : Bench). IsBench b (with_world v (delivered_below v (c.loop-k.k + 1)))) (sym w.self-is)
          (stays_delivered c.loop-k.self v c.loop-k.k so (search rules))
    ]

pub returns : goal.returns
returns c v is =
    let all : c.loop-k.k ≡ length c.sent-sent.result.now = omega (arith, c.loop-k-test.false, c.loop-k.auto.k-end) in
    pass_done c.args.self.now c.loop-k.self v (length c.sent-sent.result.now) c.clear.new.self is
    (subst (λ (k : ℕ). IsBench c.loop-k.self (with_world v (delivered_below v k))) all (c.loop-k.invariant v is))
    (ap (λ (ds : List Datagram). length ds) c.sent-sent.ensures) c.clear.ensures.items
