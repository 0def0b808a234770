-- a member and no member
use Rattle.std.proofs.Common.{rules, arith, ap, sym, refl, ◌≡◌, ◌≤◌, ◌<◌, ◌∙◌, None, length}
use Rattle.px_packet.specs.Reassembling.{due_held, due_after}
use Rattle.px_transport.specs.Receiving.{Heard}
use Rattle.px_transport.proofs.Entries.{entry_of, heard_at, hears_past, hears_set, past_end}
use Rattle.px_transport.proofs.receiver.Receiver.report.Goals as goal

pub returns-in_err-entry-clause-held : goal.returns-in_err-entry-clause-held
returns-in_err-entry-clause-held c mine hs is =
    let none : c.from_residual.result ≡ None = search rules in
    let past : length c.args.self.now.entries.items ≤ c.args.member = grind (arith, c.in_err-entry.ensures.variant, c.from.ensures) in
    none ∙ ap (λ (h : Heard). due_held c.args.now h.unfinished)
    (sym (past_end hs c.args.self.now.entries.items c.args.member is.heard past))

pub returns-in_err-entry-clause-after : goal.returns-in_err-entry-clause-after
returns-in_err-entry-clause-after c mine hs is =
    let past : length c.args.self.now.entries.items ≤ c.args.member = grind (arith, c.in_err-entry.ensures.variant, c.from.ensures) in
    hears_past mine hs c.args.self.now c.args.member _ is past

pub returns-clause-held : goal.returns-clause-held
returns-clause-held c mine hs is =
    let inside : c.from.result < length c.args.self.now.entries.items = search rules in
    let here = heard_at mine hs c.args.self.now c.from.result c.args.member c.in_ok-entry.entry.now is c.from.ensures inside
    c.in_ok-entry.ensures.value in
    c.report.ensures.held ∙ ap (due_held c.args.now) here.unfinished_is

pub returns-clause-after : goal.returns-clause-after
returns-clause-after c mine hs is =
    let e = c.in_ok-entry.entry.now in
    let inside : c.from.result < length c.args.self.now.entries.items = search rules in
    let here = heard_at mine hs c.args.self.now c.from.result c.args.member e is c.from.ensures inside c.in_ok-entry.ensures.value in
    hears_set mine hs c.args.self.now _ c.from.result c.args.member _ (entry_of e.peer c.report.new.self) is
    (record {
      known_is = here.known_is;
      unfinished_is = c.report.ensures.after ∙ ap (due_after c.args.now) here.unfinished_is;
    })
    c.from.ensures refl refl
