use Rattle.std.proofs.Common.{◌≡◌, map, take}
use Rattle.pf_tables.specs.inner.Keys.{key_of}
use Rattle.pf_tables.proofs.keys.keys_of.Given as goal

-- the numbers of the entries gone past
abbrev pub invariant-loop-entry : goal.invariant-loop-entry
invariant-loop-entry l = l.keys.items ≡ map key_of (take l.entry-index l.entries)
