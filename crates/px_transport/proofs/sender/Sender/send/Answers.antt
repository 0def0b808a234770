-- all pieces are sent under its name
use Rattle.std.proofs.Common.{rules, ◌≡◌, ℕ, List, false, [], ◌∷◌, ◌∙◌, ◌<◌, ◌^◌, length, take, subst, ap, arith, inr}
use Rattle.std.specs.Prelude.{slice_set}
use Rattle.px_transport.specs.Wires.{Adds}
use Rattle.px_packet.specs.Sending.{name_of}
use Rattle.px_transport.specs.Sending.{ToMember, SendsUpTo, to_member, named, whole, pieces, burst, is_short, named_for}
use Rattle.px_transport.specs.Senders.{sealer_of, outgoing_of}
use Rattle.px_transport.proofs.Sending.{upto_if, at_index, set_at}
use Rattle.px_transport.proofs.sender.Sender.send.Goals as goal

pub returns-clause-sends : goal.returns-clause-sends
returns-clause-sends g c =
    let a = c.args in
    let s = sealer_of a.self.now in
    let os = outgoing_of a.self.now in
    let m = a.datagram.now in
    let long : is_short m ≡ false = search rules in
    let inside : a.to.member < length os = omega (arith, c.requires.to, a.self.now.size) in
    let place : c.from.result ≡ a.to.member = search rules in
    let o = c.index_mut-outgoing.result.now in
    let read : o ≡ to_member os a.to.member =
    at_index os a.to.member c.from.result o place inside c.index_mut-outgoing.ensures.value in
    let name : c.in-Some.name ≡ name_of (to_member os a.to.member).sent m =
    c.in-Some.ensures.name ∙ ap (λ x. name_of x.sent m) read in
    let kept : slice_set os c.from.result c.name.new.self ≡ named_for os a.to.member m =
    set_at os a.to.member c.from.result o c.name.new.self (named m) place inside c.index_mut-outgoing.ensures.value
    c.in-Some.ensures.after in
    let left : c.left-left.result ≡ (to_member os a.to.member).left = c.left-left.ensures ∙ ap (λ x. x.left) read in
    let P : ℕ → ℕ → List ToMember → Type 0 =
    λ k n o. SendsUpTo s c.send_pieces.result (take k (pieces a.to.member a.to.echo (record { name = n; bits = 0 }) m))
    (Adds (g.W.Wire.traffic a.inner.now) (g.W.Wire.traffic c.send_pieces.new.inner)) o
    (outgoing_of c.send_pieces.new.self) in
    let sends : P c.left-left.result c.in-Some.name (slice_set os c.from.result c.name.new.self) =
    c.send_pieces.ensures.sends in
    let all : P (to_member os a.to.member).left (name_of (to_member os a.to.member).sent m) (named_for os a.to.member m) =
    subst (P (to_member os a.to.member).left (name_of (to_member os a.to.member).sent m)) kept
    (subst (λ n. P (to_member os a.to.member).left n (slice_set os c.from.result c.name.new.self)) name
    (subst (λ k. P k c.in-Some.name (slice_set os c.from.result c.name.new.self)) left sends)) in
    let few : c.in-Some.name < 2 ^ 32 = omega arith in
    let short : name_of (to_member os a.to.member).sent m < 2 ^ 32 = subst (λ n. n < 2 ^ 32) name few in
    inr (
      (λ _. short),
      upto_if s (is_short m) c.send_pieces.result (whole a.to.member a.to.echo m ∷ [])
          (burst os a.to.member (pieces a.to.member a.to.echo (record { name = name_of (to_member os a.to.member).sent m; bits = 0 }) m))
          (g.W.Wire.traffic a.inner.now) os (named_for os a.to.member m) (g.W.Wire.traffic c.send_pieces.new.inner)
          (outgoing_of c.send_pieces.new.self) (λ f. absurd cc) (λ _. all),
    )
