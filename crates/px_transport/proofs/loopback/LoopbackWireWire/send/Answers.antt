-- it is kept, or goes over the wire below
use Rattle.std.proofs.Common.{rules, ◌≡◌, [], ◌∷◌, ◌++◌, subst, sym}
use Rattle.px_transport.specs.Wires.{Adds, IsQuiet, Handed}
use Rattle.px_transport.specs.Loopback.{below_of, kept_of, me_of}
use Rattle.px_transport.proofs.Layers.{looped_below, looped_kept}
use Rattle.px_transport.proofs.loopback.LoopbackWireWire.send.Goals as goal

pub returns-then-is_ok-clause-handed : goal.returns-then-is_ok-clause-handed
returns-then-is_ok-clause-handed g c =
    let w = c.args.self.now in
    let v = c.keep.new.self in
    let own : c.args.to ≡ me_of w = search rules in
    let kept : kept_of v ≡ kept_of w ++ c.args.bytes.now ∷ [] = search rules in
    looped_kept (g.W.Wire.traffic (below_of w)) (g.W.Wire.traffic (below_of v)) w v c.args.to c.args.bytes.now c.keep.ensures.below.1 own kept
    (subst (λ b. IsQuiet (g.W.Wire.traffic (below_of w)) (g.W.Wire.traffic b)) (sym c.keep.ensures.below.0) (λ es h. h))

pub returns-clause-handed : goal.returns-clause-handed
returns-clause-handed g c =
    let w = c.args.self.now in
    let adds : Adds (g.W.Wire.traffic (below_of w)) (g.W.Wire.traffic c.send.new.self) (Handed c.args.to c.args.bytes.now ∷ []) = search rules in
    looped_below (g.W.Wire.traffic (below_of w)) (g.W.Wire.traffic c.send.new.self) w _ _ (search rules) (search rules) adds
