-- a member and no member
use Rattle.std.proofs.Common.{rules, arith, refl, ◌≤◌, ◌<◌, length}
use Rattle.px_transport.specs.Receiving.{of_member, seen}
use Rattle.px_transport.proofs.Entries.{heard_at, packet_handled, no_member}
use Rattle.px_transport.proofs.receiver.Receiver.take.Goals as goal

pub returns-in_default : goal.returns-in_default
returns-in_default c mine hs is =
    let past : length c.args.self.now.entries.items ≤ c.args.header.now.from =
    grind (arith, c.in_default.ensures.variant, c.from.ensures) in
    no_member mine hs c.args.self.now c.args.header.now c.args.body.now c.args.now is past

pub returns : goal.returns
returns c mine hs is =
    let g = c.args.header.now in
    let inside : c.from.result < length c.args.self.now.entries.items = search rules in
    let here = heard_at mine hs c.args.self.now c.from.result g.from c.in-Some.entry.now is c.from.ensures inside
    c.in-Some.ensures.value in
    packet_handled mine hs c.args.self.now _ c.from.result g c.args.body.now c.args.now c.take.new.self
    (seen c.take.result) is c.from.ensures inside refl refl (c.take.ensures (of_member hs g.from) here)
