use Rattle.std.proofs.Common.{◌∙◌, sym, ap, drop, List}
use Rattle.pf_tokens.specs.Tokens.{Token}
use Rattle.pf_tokens.proofs.Skipping.{left_none, left_end, left_behind}
use Rattle.pf_tokens.proofs.parser.Parser.skip.Goals as goal

pub returns-in_default-clause-left : goal.returns-in_default-clause-left
returns-in_default-clause-left c = let none = left_none c.args.self.now c.in_default.is in none ∙ sym (ap (λ (ts : List Token). drop 1 ts) none)

pub returns-then-not-ends-clause-left : goal.returns-then-not-ends-clause-left
returns-then-not-ends-clause-left c = rw c.open_after.ensures at c.take.ensures.left ∙ sym (left_behind c.args.self.now c.in-Some.token c.in-Some.is (sym c.ends.ensures ∙ c.if-not-ends.true))

pub returns-else-not-ends-clause-left : goal.returns-else-not-ends-clause-left
returns-else-not-ends-clause-left c = let none = left_end c.args.self.now c.in-Some.token c.in-Some.is (sym c.ends.ensures ∙ c.if-not-ends.false) in none ∙ sym (ap (λ (ts : List Token). drop 1 ts) none)
