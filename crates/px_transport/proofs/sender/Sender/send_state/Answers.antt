-- it isn't due
use Rattle.std.proofs.Common.{rules, ◌≡◌, ◌∙◌, true, [], ◌∷◌, ◌<◌, length, refl, ap, subst, arith}
use Rattle.std.specs.Prelude.{nat_lt, slice_set}
use Rattle.px_transport.specs.Sending.{to_member, next_state, state, stated}
use Rattle.px_transport.specs.Senders.{sealer_of, outgoing_of}
use Rattle.px_transport.proofs.Sending.{upto_none, upto_if, at_index}
use Rattle.px_transport.proofs.sender.Sender.send_state.Goals as goal

pub returns-then-now-due-clause-sends : goal.returns-then-now-due-clause-sends
returns-then-now-due-clause-sends g c =
    let os = outgoing_of c.args.self.now in
    let o = to_member os c.args.to.member in
    let inside : c.args.to.member < length os = omega (arith, c.requires.to, c.args.self.now.size) in
    let place : c.from-place.result ≡ c.args.to.member = search rules in
    let last : c.index-last.result.now ≡ o =
    at_index os c.args.to.member c.from-place.result c.index-last.result.now place inside c.index-last.ensures in
    let e : c.due.result ≡ next_state o c.args.to.echo =
    c.due.ensures ∙ ap (λ x. next_state x c.args.to.echo) last in
    let now : nat_lt c.args.now c.due.result ≡ true = search rules in
    let due : nat_lt c.args.now (next_state o c.args.to.echo) ≡ true = subst (λ x. nat_lt c.args.now x ≡ true) e now in
    let below = g.W.Wire.traffic c.args.inner.now in
    upto_if (sealer_of c.args.self.now) (nat_lt c.args.now (next_state o c.args.to.echo)) true []
    (state c.args.to.member c.args.to.echo ∷ []) below os (slice_set os c.args.to.member (stated c.args.now c.args.to.echo o)) below os
    (λ _. upto_none _ _ _ below _ (λ _. refl)) (λ f. absurd cc)
