use Rattle.std.proofs.Common.{◌≡◌, length}
use Rattle.pf_tokens.specs.Left.{tokens_left}
use Rattle.pf_tokens.proofs.lexer.Lexer.pass_steps.Given as goal

abbrev pub invariant-loop-first : goal.invariant-loop-first
invariant-loop-first l = record {
  left : tokens_left l.self ≡ tokens_left l.fn.self;
  rest : l.self.rest.now ≡ l.fn.self.rest.now;
}

abbrev pub decreases-loop-first : goal.decreases-loop-first
decreases-loop-first l = length l.self.steps.now
