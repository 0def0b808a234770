use Rattle.std.proofs.Common.{◌≡◌, ◌∙◌, rules, sym, true, false}
use Rattle.px_store.proofs.Turns.{pass_none, pass_first}
use Rattle.px_store.proofs.ahead.Ahead.pass.Goals as goal

pub returns-then-not-has_row-clause-row : goal.returns-then-not-has_row-clause-row
returns-then-not-has_row-clause-row c = λ table ahead.
    let none : c.has_row-has_row.result ≡ false = search rules in
    (pass_none c.args.self.now.next c.args.self.now.end table c.args.self.now.rows.items c.requires ahead (sym c.has_row-has_row.ensures ∙ none)).0

pub returns-clause-row : goal.returns-clause-row
returns-clause-row c = λ table ahead.
    let first : c.has_row-has_row.result ≡ true = search rules in
    (pass_first c.args.self.now.next c.args.self.now.end table c.args.self.now.rows.items c.pop_front.result c.pop_front.new.self.items c.requires ahead (sym c.has_row-has_row.ensures ∙ first) c.pop_front.ensures.items c.pop_front.ensures.rest).0

pub returns-clause-rest : goal.returns-clause-rest
returns-clause-rest c = λ table ahead.
    let first : c.has_row-has_row.result ≡ true = search rules in
    (pass_first c.args.self.now.next c.args.self.now.end table c.args.self.now.rows.items c.pop_front.result c.pop_front.new.self.items c.requires ahead (sym c.has_row-has_row.ensures ∙ first) c.pop_front.ensures.items c.pop_front.ensures.rest).1
