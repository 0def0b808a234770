-- the packet is handed over, or nothing is
use Rattle.std.proofs.Common.{rules, ◌≡◌, ◌∙◌, ℕ, ◌+◌, ◌<◌, List, [], ◌∷◌, ◌++◌, length, subst, ap, arith}
use Rattle.std.specs.Prelude.{slice_set}
use Rattle.px_transport.specs.Wires.{Handed, Adds}
use Rattle.px_packet.specs.Keyed.{key_of}
use Rattle.px_packet.specs.Headers.{header_bytes}
use Rattle.px_packet.specs.Packets.{sealed}
use Rattle.px_transport.specs.Sending.{Unsealed, header_of, to_member, counted, counted_for}
use Rattle.px_transport.specs.Senders.{sealer_of, outgoing_of}
use Rattle.px_transport.proofs.Sending.{upto_none, upto_one, at_index, set_at}
use Rattle.px_transport.proofs.sender.Sender.send_packet.Goals as goal

pub returns-in_default-clause-sends : goal.returns-in_default-clause-sends
returns-in_default-clause-sends g c = upto_none _ _ _ (g.W.Wire.traffic c.args.inner.now) _ (λ f. absurd cc)

pub returns-then-is_err-clause-sends : goal.returns-then-is_err-clause-sends
returns-then-is_err-clause-sends g c = upto_none _ _ _ (g.W.Wire.traffic c.args.inner.now) _ (λ f. absurd cc)

pub returns-clause-sends : goal.returns-clause-sends
returns-clause-sends g c =
    let a = c.args in
    let s = sealer_of a.self.now in
    let os = outgoing_of a.self.now in
    let inside : a.to.member < length os = omega (arith, c.requires, a.self.now.size) in
    let place : c.from-place.result ≡ a.to.member = search rules in
    let o : c.index-last.result.now ≡ to_member os a.to.member =
    at_index os a.to.member c.from-place.result c.index-last.result.now place inside c.index-last.ensures in
    let p : Unsealed = record { to = a.to.member; echo = a.to.echo; kind = a.kind; body = a.body.now } in
    let bytes : ℕ → List ℕ = λ n. sealed (key_of a.self.now.keys) (header_bytes (header_of s p n) ++ a.body.now) in
    let P : List ℕ → Type 0 =
    λ b. Adds (g.W.Wire.traffic a.inner.now) (g.W.Wire.traffic c.send.new.self) (Handed a.to.member b ∷ []) in
    let m : c.in-Some.counter ≡ c.index-last.result.now.counter + 1 = search rules in
    let n : c.in-Some.counter ≡ (to_member os a.to.member).counter + 1 = m ∙ ap (λ x. x.counter + 1) o in
    let b : c.seal.new.buffer.items ≡ bytes c.in-Some.counter = search rules in
    let e : c.as_slice.result.now ≡ bytes ((to_member os a.to.member).counter + 1) =
    c.as_slice.ensures.value ∙ b ∙ ap bytes n in
    let kept : slice_set os c.from-place.result c.count.new.self ≡ counted_for os a.to.member =
    set_at os a.to.member c.from-place.result c.index_mut-outgoing.result.now c.count.new.self counted place inside
    c.index_mut-outgoing.ensures.value c.count.ensures in
    upto_one s c.send.result p (g.W.Wire.traffic a.inner.now) os (g.W.Wire.traffic c.send.new.self)
    (slice_set os c.from-place.result c.count.new.self) (subst P e c.send.ensures.handed) kept
