-- one message after the other
use Rattle.std.proofs.Common.{arith, ◌≡◌, ◌≤◌, ℕ, List, length, sym, ap, subst, refl, ◌∙◌}
use Rattle.std.specs.Prelude.{slice_get, Some}
use Rattle.std.proofs.lemmas.Option.{slice_get_read}
use Rattle.px_replica.specs.Spelled.{IsSpelled}
use Rattle.px_replica.specs.declared.datagram.Datagram.{Datagram}
use Rattle.pf_lab.specs.Labs.{cluster_of}
use Rattle.pf_lab.proofs.Lines.{shown_begins, shows_one, all_are_shown, shows_all}
use Rattle.pf_lab.proofs.bench.Bench.show_sent.Goals as goal

pub loop-k-init : goal.loop-k-init
loop-k-init c v is = shown_begins v c.args.self.now c.min-first.result _ is (omega (arith, c.min-first.ensures))

pub loop-k-preserved : goal.loop-k-preserved
loop-k-preserved c v is =
    let b = c.args.self.now in
    let k = c.loop-k.k in
    let d = c.index-sent-k.result in
    let at : slice_get c.sent-sent.result.now k ≡ Some d =
    slice_get_read c.sent-sent.result.now (length c.sent-sent.result.now) k d refl (omega (arith, c.loop-k-test.true)) c.index-sent-k.is in
    shows_one v b k d _ _ _ is (omega (arith, c.min-first.ensures, c.loop-k-test.true, c.loop-k.auto.k))
    (subst (λ (ds : List Datagram). slice_get ds k ≡ Some d) c.sent-sent.ensures at)
    (c.loop-k.invariant v is)
    (λ x h. c.in_ok-push_datagram.ensures x (subst (λ (n : ℕ). 1 ≤ n) (sym is.members) is.some)
    (subst (λ (n : ℕ). n ≤ 15) (sym is.members) is.few)
    (subst (λ (n : ℕ). IsSpelled (cluster_of n) x d) (sym is.members) h))

-- in the end all are shown, and count as shown
pub returns : goal.returns
returns c v is =
    let sent = ap (λ (ds : List Datagram). length ds) c.sent-sent.ensures in
    let all : c.loop-k.k ≡ length c.sent-sent.result.now = omega (arith, c.loop-k-test.false, c.loop-k.auto.k-end) in (
      shows_all c.args.self.now v _ is sent,
      all_are_shown v c.args.self.now c.loop-k.k _ _ is (all ∙ sent) (c.loop-k.invariant v is),
    )
