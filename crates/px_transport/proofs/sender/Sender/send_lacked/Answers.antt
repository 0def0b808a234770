-- nothing is kept under that name
use Rattle.std.proofs.Common.{rules, ◌≡◌, ◌∙◌, ◌<◌, length, None, ap, sym, arith}
use Rattle.px_packet.specs.Sending.{cut_with}
use Rattle.px_transport.specs.Sending.{to_member, again_of, burst}
use Rattle.px_transport.specs.Senders.{outgoing_of}
use Rattle.px_transport.proofs.Sending.{upto_none, at_index, take_nil}
use Rattle.px_transport.proofs.sender.Sender.send_lacked.Goals as goal

pub returns-in_default-clause-sends : goal.returns-in_default-clause-sends
returns-in_default-clause-sends g c =
    let os = outgoing_of c.args.self.now in
    let o = to_member os c.args.to.member in
    let inside : c.args.to.member < length os = omega (arith, c.requires.to, c.args.self.now.size) in
    let place : c.from.result ≡ c.args.to.member = search rules in
    let read : c.index-outgoing.result.now ≡ o =
    at_index os c.args.to.member c.from.result c.index-outgoing.result.now place inside c.index-outgoing.ensures in
    let n : cut_with c.index-outgoing.result.now.sent c.args.held.name ≡ None = search rules in
    let none : cut_with o.sent c.args.held.name ≡ None =
    ap (λ x. cut_with x.sent c.args.held.name) (sym read) ∙ n in
    upto_none _ _ _ (g.W.Wire.traffic c.args.inner.now) _ (λ _. ap (λ x. burst os c.args.to.member (again_of c.args.to.member c.args.to.echo c.args.held x)) none
    ∙ take_nil o.left)
