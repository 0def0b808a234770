use Rattle.std.proofs.Common.{◌≡◌, length}
use Rattle.pf_tokens.specs.inner.Joined.{is_continued}
use Rattle.pf_tokens.proofs.text.is_continued.Given as goal

abbrev pub invariant-loop-first : goal.invariant-loop-first
invariant-loop-first l = is_continued l.rest ≡ is_continued l.text

abbrev pub decreases-loop-first : goal.decreases-loop-first
decreases-loop-first l = length l.rest
