use Rattle.std.proofs.Common.{◌≡◌, length}
use Rattle.pf_tokens.specs.Left.{tokens_left}
use Rattle.pf_tokens.specs.Reading.{past_newlines}
use Rattle.pf_tokens.proofs.lexer.Lexer.next_statement.Given as goal

abbrev pub invariant-loop-token : goal.invariant-loop-token
invariant-loop-token l = record {
  ahead : tokens_left l.ahead ≡ tokens_left l.self;
  same : past_newlines (tokens_left l.self) ≡ past_newlines (tokens_left l.fn.self);
}

abbrev pub decreases-loop-token : goal.decreases-loop-token
decreases-loop-token l = length (tokens_left l.ahead)
