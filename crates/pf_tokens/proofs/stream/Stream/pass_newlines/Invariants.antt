use Rattle.std.proofs.Common.{◌≡◌, length}
use Rattle.pf_tokens.specs.Flow.{statement_left}
use Rattle.pf_tokens.specs.Pending.{pending, known}
use Rattle.pf_tokens.specs.inner.Pending.{Stays, Blanks, statement_tokens}
use Rattle.pf_tokens.specs.Carried.{carried}
use Rattle.pf_tokens.proofs.stream.Stream.pass_newlines.Given as goal

abbrev pub invariant-loop-self : goal.invariant-loop-self
invariant-loop-self l = record {
  blanks : Blanks l.braces (known l.fn.self) l.fn.self.defining (pending l.fn.self) (pending l.self);
  fault : carried (known l.fn.self) l.passed l.depth (statement_tokens (known l.fn.self) l.fn.self.defining l.depth (pending l.self)) ≡ carried (known l.fn.self) l.fn.passed l.depth (statement_tokens (known l.fn.self) l.fn.self.defining l.depth (pending l.fn.self));
  stays : Stays l.fn.self l.self;
}

abbrev pub decreases-loop-self : goal.decreases-loop-self
decreases-loop-self l = length (statement_left (known l.self) l.self.defining 1 (pending l.self).0 (pending l.self).1)
