use Rattle.std.proofs.Common.{◌∙◌, sym, ap}
use Rattle.std.proofs.lemmas.Bool.{false≢true}
use Rattle.pf_tokens.specs.Parsing.{Later, left}
use Rattle.pf_tokens.proofs.Skipping.{fault_reported}
use Rattle.pf_tokens.proofs.Opening.{nothing_left}
use Rattle.pf_tokens.proofs.parser.Parser.fault.Goals as goal
use Rattle.pf_tokens.proofs.parser.Parser.fault.Goals.{then-loop-parser-test+else-not-at_end, else-loop-parser-test}

pub returns : goal.returns
returns c = fault_reported c.loop-parser.parser (λ none. elim c.loop-parser-test.branch [
  | then-loop-parser-test+else-not-at_end w ↦ nothing_left (left c.loop-parser.parser) (sym w.at_end.ensures ∙ w.if-not-at_end.false)
  | else-loop-parser-test w ↦ absurd (false≢true (sym none ∙ w.loop-parser-test.ensures))
]) ∙ ap (λ (l : Later). l.fault) c.loop-parser.invariant
