use Rattle.std.proofs.Common.{◌≡◌, Some, drop}
use Rattle.pf_expansion.specs.inner.Numbers.{walk}
use Rattle.pf_expansion.proofs.numbers.Numbers.walk.Given as goal

-- the way that is left leads on from here
abbrev pub invariant-loop-name : goal.invariant-loop-name
invariant-loop-name l = walk l.self.steps (Some l.from) l.names ≡ walk l.self.steps (Some l.at) (drop l.name-index l.names)
