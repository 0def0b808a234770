-- it is known by the packet's start
use Rattle.std.proofs.Common.{arith, ap, ◌≡◌}
use Rattle.px_packet.specs.declared.start.Start.{Start}
use Rattle.px_packet.specs.Arrivals.{known_after}
use Rattle.px_transport.proofs.Entries.{header_anew, header_again}
use Rattle.px_transport.proofs.receiver.Entry.take_header.Goals as goal

pub returns-then-before-start-clause-after : goal.returns-then-before-start-clause-after
returns-then-before-start-clause-after c h is =
    let known = c.take-arrival.ensures.after h.known is.known_is in
    let before : c.start-before.result.number ≡ h.known.start.number =
    ap (λ (s : Start). s.number) (c.start-before.ensures h.known is.known_is) in
    let now : c.start.result.number ≡ (known_after c.args.mine h.known c.args.header.now).start.number =
    ap (λ (s : Start). s.number) (c.start.ensures (known_after c.args.mine h.known c.args.header.now) known) in
    header_anew c.args.mine h c.args.header.now c.take-arrival.new.self c.new.result known
    (omega (arith, before, now, c.if-before-start.true)) c.new.ensures

pub returns-else-before-start-clause-after : goal.returns-else-before-start-clause-after
returns-else-before-start-clause-after c h is =
    let known = c.take-arrival.ensures.after h.known is.known_is in
    let before : c.start-before.result.number ≡ h.known.start.number =
    ap (λ (s : Start). s.number) (c.start-before.ensures h.known is.known_is) in
    let now : c.start.result.number ≡ (known_after c.args.mine h.known c.args.header.now).start.number =
    ap (λ (s : Start). s.number) (c.start.ensures (known_after c.args.mine h.known c.args.header.now) known) in
    header_again c.args.mine h c.args.header.now c.take-arrival.new.self c.args.self.now.reassembly known
    (omega (arith, before, now, c.if-before-start.false)) is.unfinished_is
