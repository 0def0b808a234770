-- a member and no member
use Rattle.std.proofs.Common.{rules, arith, ap, sym, ◌≤◌, ◌<◌, length}
use Rattle.px_transport.specs.Receiving.{Heard, of_member}
use Rattle.px_transport.proofs.Entries.{heard_at, past_end}
use Rattle.px_transport.proofs.receiver.Receiver.start_of.Goals as goal

pub returns-in_default : goal.returns-in_default
returns-in_default c mine hs is =
    let past : length c.args.self.now.entries.items ≤ c.args.member = grind (arith, c.get.ensures, c.from.ensures, c.deref.ensures) in
    ap (λ (h : Heard). h.known.start) (sym (past_end hs c.args.self.now.entries.items c.args.member is.heard past))

pub returns : goal.returns
returns c mine hs is =
    let inside : c.from.result < length c.args.self.now.entries.items = search rules in
    c.start.ensures (of_member hs c.args.member).known
    (heard_at mine hs c.args.self.now c.from.result c.args.member c.in-Some.entry.now is c.from.ensures inside (search rules)).known_is
