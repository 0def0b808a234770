use Rattle.std.proofs.Common.{◌≡◌, [], length}
use Rattle.pf_tokens.specs.Left.{tokens_left}
use Rattle.pf_tokens.specs.inner.Flow.{pulled_raw}
use Rattle.pf_tokens.specs.Pending.{known}
use Rattle.pf_tokens.specs.inner.Pending.{Stays}
use Rattle.pf_tokens.proofs.stream.Stream.pull.Given as goal

-- what is pulled of the rest is what is pulled of all
abbrev pub invariant-loop-token : goal.invariant-loop-token
invariant-loop-token l = record {
  same : pulled_raw (known l.fn.self) l.fn.self.defining (tokens_left l.self.text) ≡ pulled_raw (known l.fn.self) l.fn.self.defining (tokens_left l.fn.self.text);
  inside : tokens_left l.self.inside ≡ [];
  stays : Stays l.fn.self l.self;
}

abbrev pub decreases-loop-token : goal.decreases-loop-token
decreases-loop-token l = length (tokens_left l.self.text)
