use Rattle.std.proofs.Common.{◌∙◌, sym, ap, drop, List}
use Rattle.pf_tokens.specs.Tokens.{Placed}
use Rattle.pf_tokens.specs.Parsing.{Later}
use Rattle.pf_tokens.proofs.Skipping.{later_none, later_behind}
use Rattle.pf_tokens.proofs.Opening.{nothing_left}
use Rattle.pf_tokens.proofs.parser.Parser.finish.Goals as goal

pub returns-in-None : goal.returns-in-None
returns-in-None c = c.plain.ensures ∙ sym (ap (λ (ps : List Placed). drop 1 ps) (sym (ap (λ (l : Later). l.behind) c.loop-parser.invariant) ∙ later_none c.loop-parser.parser c.in-None.is))

pub returns-in-Some : goal.returns-in-Some
returns-in-Some c = sym (ap (λ (ps : List Placed). drop 1 ps) (sym (ap (λ (l : Later). l.behind) c.loop-parser.invariant)) ∙ later_behind c.loop-parser.parser _ c.in-Some.is (nothing_left _ (sym c.at_end.ensures ∙ c.loop-parser-test.false)))
