-- the body is the pieces that were read
use Rattle.std.proofs.Common.{rules, ◌≡◌, ap, sym, subst}
use Rattle.px_packet.specs.declared.kind.Kind.{Kind}
use Rattle.px_transport.specs.Receiving.{Memory, Held, Enough, IsHeard, as_held, with_body}
use Rattle.px_transport.proofs.Bodies.{held_read}
use Rattle.px_transport.proofs.receiver.Entry.take_body.Goals as goal

pub returns-in-Some : goal.returns-in-Some
returns-in-Some c h is =
    let a = c.args in
    let held = c.in-Some.held in
    let P : Kind → Type 0 =
    λ k. (m : Memory) × IsHeard (with_body m h k a.body.now a.now).heard a.self.now ×
    (Held held ≡ (with_body m h k a.body.now a.now).given) in
    subst P (sym c.in-PiecesHeld.is)
    (Enough, is, ap as_held (sym (held_read a.body.now held (search rules) (search rules) c.in-Some.ensures)))
