use Rattle.std.proofs.Common.{take}
use Rattle.pf_tables.specs.inner.Bloom.{MayContainAll}
use Rattle.pf_tables.proofs.bloom.BloomFilter.rebuild.Given as goal

-- the keys gone past were inserted
abbrev pub invariant-loop-key : goal.invariant-loop-key
invariant-loop-key l = MayContainAll l.self (take l.key-index l.keys)
