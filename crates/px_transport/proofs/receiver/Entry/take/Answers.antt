-- the packet is accepted
use Rattle.std.proofs.Common.{rules, ◌∙◌, sym}
use Rattle.px_transport.specs.Receiving.{with_header, seen}
use Rattle.px_transport.proofs.Entries.{body_handled}
use Rattle.px_transport.proofs.receiver.Entry.take.Goals as goal

pub returns : goal.returns
returns c h is =
    body_handled c.args.mine h c.args.header.now c.args.body.now c.args.now c.take_body.new.self (seen c.take_body.result)
    (sym (c.take_header-arrival.ensures.arrival h is) ∙ search rules)
    (c.take_body.ensures (with_header c.args.mine h c.args.header.now) (c.take_header-arrival.ensures.after h is))
