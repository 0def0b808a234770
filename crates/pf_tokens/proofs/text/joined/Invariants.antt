use Rattle.std.proofs.Common.{◌≡◌, ◌++◌, length}
use Rattle.pf_tokens.specs.inner.Joined.{joined, joints}
use Rattle.pf_tokens.proofs.text.joined.Given as goal

-- with what is left it gives all
abbrev pub invariant-loop-first : goal.invariant-loop-first
invariant-loop-first l = record {
  bytes : l.bytes.items ++ joined l.rest ≡ joined l.text;
  steps : l.steps.items ++ joints (length l.bytes.items) l.rest ≡ joints 0 l.text;
}

abbrev pub decreases-loop-first : goal.decreases-loop-first
decreases-loop-first l = length l.rest
