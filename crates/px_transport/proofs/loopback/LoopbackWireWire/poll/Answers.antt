-- what was kept first, or what the wire below gave
use Rattle.std.proofs.Common.{rules, ◌∙◌, subst, sym, option_map, take, length}
use Rattle.px_transport.specs.Wires.{Adds, IsQuiet, gives}
use Rattle.px_transport.specs.Loopback.{below_of}
use Rattle.px_transport.proofs.Layers.{looped_below, looped_returned}
use Rattle.px_transport.proofs.loopback.LoopbackWireWire.poll.Goals as goal

pub returns-in-Some-clause-gave : goal.returns-in-Some-clause-gave
returns-in-Some-clause-gave g c =
    let w = c.args.self.now in
    let v = c.take_kept.new.self in
    looped_returned (g.W.Wire.traffic (below_of w)) (g.W.Wire.traffic (below_of v)) w v (length c.args.into.now)
    (take c.in-Some.n c.take_kept.new.into) c.in-Some.ensures.below.1 c.in-Some.ensures.next
    (subst (λ b. IsQuiet (g.W.Wire.traffic (below_of w)) (g.W.Wire.traffic b)) (sym c.in-Some.ensures.below.0) (λ es h. h))

pub returns-clause-gave : goal.returns-clause-gave
returns-clause-gave g c =
    let w = c.args.self.now in
    let v = c.take_kept.new.self in
    let none = c.take_kept.ensures.none (search rules) in
    looped_below (g.W.Wire.traffic (below_of w)) (g.W.Wire.traffic c.poll.new.self) w (record v { below = c.poll.new.self }) _ c.take_kept.ensures.below.1 (none.1 ∙ sym none.0)
    (subst (λ b. Adds (g.W.Wire.traffic b) (g.W.Wire.traffic c.poll.new.self) (gives (option_map (λ n. take n c.poll.new.into) c.poll.result)))
    c.take_kept.ensures.below.0 c.poll.ensures.gave)
