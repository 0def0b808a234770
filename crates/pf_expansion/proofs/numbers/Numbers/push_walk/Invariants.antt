use Rattle.std.proofs.Common.{◌≡◌, Some, take}
use Rattle.pf_expansion.specs.inner.Numbers.{Grows, walk}
use Rattle.pf_expansion.proofs.numbers.Numbers.push_walk.Given as goal

-- the way so far leads here
abbrev pub invariant-loop-name : goal.invariant-loop-name
invariant-loop-name l = record {
  grows : Grows l.initial.self.steps l.self.steps;
  found : walk l.self.steps (Some l.fn.from) (take l.name-index l.names) ≡ Some l.at;
  kept : l.self.found ≡ l.initial.self.found;
}
