use Rattle.std.proofs.Common.{◌≡◌, ◌+◌, ◌≤◌, drop, map, length}
use Rattle.pf_entry.specs.Owned.{addresses_value}
use Rattle.pf_arguments.specs.Asked.{entry_of, each}
use Rattle.pf_arguments.proofs.Each.{behind}
use Rattle.pf_arguments.proofs.addresses.read_entries.Given as goal

-- the values so far and the lowest fault so far, and then what the remaining arguments give
abbrev pub invariant-loop-word : goal.invariant-loop-word
invariant-loop-word l = behind (addresses_value l.list.items) l.found (each entry_of (map (λ w. w.now) (drop l.word-index l.words))) ≡ each entry_of (map (λ w. w.now) l.words)
