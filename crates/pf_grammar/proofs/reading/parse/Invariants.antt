use Rattle.std.proofs.Common.{◌≡◌, length}
use Rattle.pf_tokens.specs.Tokens.{tokens}
use Rattle.pf_tokens.specs.Left.{tokens_left}
use Rattle.pf_grammar.specs.Reading.{nothing}
use Rattle.pf_grammar.specs.inner.Gathering.{sofar_of}
use Rattle.pf_grammar.proofs.ReadingSteps.{from, Room}
use Rattle.pf_grammar.proofs.reading.parse.Given as goal

-- what is left gives what all gives
abbrev pub invariant-statements : goal.invariant-statements
invariant-statements l = record {
  same : from l.fn.place l.fn.profile (sofar_of l.gathered) (tokens_left l.lexer) ≡ from l.fn.place l.fn.profile nothing (tokens l.fn.text);
  few : Room (sofar_of l.gathered).content.items;
}

abbrev pub decreases-statements : goal.decreases-statements
decreases-statements l = length (tokens_left l.lexer)
