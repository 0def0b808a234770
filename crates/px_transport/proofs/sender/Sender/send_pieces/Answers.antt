-- one more piece is sent, or isn't
use Rattle.std.proofs.Common.{rules, ◌≡◌, ◌∙◌, suc, ◌+◌, ◌-◌, ◌<◌, true, false, ℕ, List, [], ◌∷◌, ◌++◌, length, take, ap, arith, refl, subst}
use Rattle.px_packet.specs.declared.kind.Kind.TheVariants as kinds
use Rattle.px_packet.specs.Pieces.{count_of, piece_bytes, piece_of}
use Rattle.px_transport.specs.Wires.{Adds}
use Rattle.px_packet.specs.Held.{has_bit}
use Rattle.px_transport.specs.Sending.{SendsUpTo, piece, pieces, pieces_from}
use Rattle.px_transport.specs.Senders.{sealer_of, outgoing_of}
use Rattle.px_transport.proofs.Sending.{upto_none, take_held, take_lacked, piece_fails, piece_splits, piece_sends}
use Rattle.px_transport.proofs.sender.Sender.send_pieces.Goals as goal

pub returns-then-is_err-clause-sends : goal.returns-then-is_err-clause-sends
returns-then-is_err-clause-sends g c =
    let i = c.loop-index.index in
    let inv = c.loop-index.invariant in
    let a = c.args in
    let l : i < count_of (length a.datagram.now) = search rules in
    let lacks : has_bit a.held.bits i ≡ false = search rules in
    let n = c.loop-index.left in
    let some : 0 < n = search rules in
    let more : n ≡ suc (n - 1) = omega (arith, some) in
    let p = piece a.to.member a.to.echo a.held.name a.datagram.now i in
    let all = take a.most (pieces a.to.member a.to.echo a.held a.datagram.now) in
    let rest = take n (pieces_from a.to.member a.to.echo a.held a.datagram.now i) in
    let then = take (n - 1) (pieces_from a.to.member a.to.echo a.held a.datagram.now (i + 1)) in
    piece_fails (sealer_of a.self.now) (sealer_of c.loop-index.self) false all inv.first rest p then
    (g.W.Wire.traffic a.inner.now) (outgoing_of a.self.now) (g.W.Wire.traffic c.loop-index.inner) (outgoing_of c.loop-index.self)
    (g.W.Wire.traffic c.loop-index.inner) (outgoing_of c.loop-index.self) inv.split
    (take_lacked n (n - 1) a.to.member a.to.echo a.held a.datagram.now i more l lacks) inv.sealer refl inv.sends
    (upto_none _ _ _ (g.W.Wire.traffic c.loop-index.inner) _ (λ f. absurd cc))

pub returns-then-not-send_packet-clause-sends : goal.returns-then-not-send_packet-clause-sends
returns-then-not-send_packet-clause-sends g c =
    let i = c.loop-index.index in
    let inv = c.loop-index.invariant in
    let a = c.args in
    let l : i < count_of (length a.datagram.now) = search rules in
    let lacks : has_bit a.held.bits i ≡ false = search rules in
    let failed : c.send_packet.result ≡ false = search rules in
    let n = c.loop-index.left in
    let some : 0 < n = search rules in
    let more : n ≡ suc (n - 1) = omega (arith, some) in
    let p = piece a.to.member a.to.echo a.held.name a.datagram.now i in
    let all = take a.most (pieces a.to.member a.to.echo a.held a.datagram.now) in
    let rest = take n (pieces_from a.to.member a.to.echo a.held a.datagram.now i) in
    let then = take (n - 1) (pieces_from a.to.member a.to.echo a.held a.datagram.now (i + 1)) in
    let body : c.as_slice.result.now ≡ piece_bytes (piece_of a.held.name a.datagram.now i) = search rules in
    let P : List ℕ → Type 0 =
    λ b. SendsUpTo (sealer_of c.loop-index.self) c.send_packet.result
    (record { to = a.to.member; echo = a.to.echo; kind = kinds.Piece; body = b } ∷ [])
    (Adds (g.W.Wire.traffic c.loop-index.inner) (g.W.Wire.traffic c.send_packet.new.inner)) (outgoing_of c.loop-index.self)
    (outgoing_of c.send_packet.new.self) in
    let sends : P (piece_bytes (piece_of a.held.name a.datagram.now i)) = subst P body c.send_packet.ensures.sends in
    piece_fails (sealer_of a.self.now) (sealer_of c.loop-index.self) c.send_packet.result all inv.first rest p then
    (g.W.Wire.traffic a.inner.now) (outgoing_of a.self.now) (g.W.Wire.traffic c.loop-index.inner) (outgoing_of c.loop-index.self)
    (g.W.Wire.traffic c.send_packet.new.inner) (outgoing_of c.send_packet.new.self) inv.split
    (take_lacked n (n - 1) a.to.member a.to.echo a.held a.datagram.now i more l lacks) inv.sealer failed inv.sends sends

pub loop-index-preserved : goal.loop-index-preserved
loop-index-preserved g c =
    let i = c.loop-index.index in
    let inv = c.loop-index.invariant in
    let a = c.args in
    let l : i < count_of (length a.datagram.now) = search rules in
    let lacks : has_bit a.held.bits i ≡ false = search rules in
    let sent : c.send_packet.result ≡ true = search rules in
    let n = c.loop-index.left in
    let some : 0 < n = search rules in
    let more : n ≡ suc (n - 1) = omega (arith, some) in
    let p = piece a.to.member a.to.echo a.held.name a.datagram.now i in
    let all = take a.most (pieces a.to.member a.to.echo a.held a.datagram.now) in
    let rest = take n (pieces_from a.to.member a.to.echo a.held a.datagram.now i) in
    let then = take (n - 1) (pieces_from a.to.member a.to.echo a.held a.datagram.now (i + 1)) in
    let body : c.as_slice.result.now ≡ piece_bytes (piece_of a.held.name a.datagram.now i) = search rules in
    let P : List ℕ → Type 0 =
    λ b. SendsUpTo (sealer_of c.loop-index.self) c.send_packet.result
    (record { to = a.to.member; echo = a.to.echo; kind = kinds.Piece; body = b } ∷ [])
    (Adds (g.W.Wire.traffic c.loop-index.inner) (g.W.Wire.traffic c.send_packet.new.inner)) (outgoing_of c.loop-index.self)
    (outgoing_of c.send_packet.new.self) in
    let sends : P (piece_bytes (piece_of a.held.name a.datagram.now i)) = subst P body c.send_packet.ensures.sends in
    record {
      first = inv.first ++ p ∷ [];
      split = piece_splits all inv.first rest p then inv.split
          (take_lacked n (n - 1) a.to.member a.to.echo a.held a.datagram.now i more l lacks);
      sends = piece_sends (sealer_of a.self.now) (sealer_of c.loop-index.self) c.send_packet.result inv.first p
          (g.W.Wire.traffic a.inner.now) (outgoing_of a.self.now) (g.W.Wire.traffic c.loop-index.inner)
          (outgoing_of c.loop-index.self) (g.W.Wire.traffic c.send_packet.new.inner)
          (outgoing_of c.send_packet.new.self) inv.sealer sent inv.sends sends;
      sealer = search rules;
      keys = search rules;
      same = c.send_packet.ensures.same ∙ inv.same;
      count = inv.count;
    }

pub loop-index-preserved-then-has : goal.loop-index-preserved-then-has
loop-index-preserved-then-has g c =
    let i = c.loop-index.index in
    let inv = c.loop-index.invariant in
    let a = c.args in
    let l : i < count_of (length a.datagram.now) = search rules in
    let has : has_bit a.held.bits i ≡ true = search rules in
    record {
      first = inv.first;
      split = inv.split
          ∙ ap (λ x. inv.first ++ x) (take_held c.loop-index.left a.to.member a.to.echo a.held a.datagram.now i l has);
      sends = inv.sends;
      sealer = inv.sealer;
      keys = inv.keys;
      same = inv.same;
      count = inv.count;
    }
