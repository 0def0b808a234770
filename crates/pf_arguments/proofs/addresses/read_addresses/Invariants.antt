use Rattle.std.proofs.Common.{◌≡◌, drop, map}
use Rattle.pf_addr.specs.Spelling.{addr_of}
use Rattle.pf_arguments.specs.Asked.{each}
use Rattle.pf_arguments.proofs.Each.{behind}
use Rattle.pf_arguments.proofs.addresses.read_addresses.Given as goal

-- the values so far and the lowest fault so far, and then what the remaining arguments give
abbrev pub invariant-loop-word : goal.invariant-loop-word
invariant-loop-word l = behind l.list.items l.found (each addr_of (map (λ w. w.now) (drop l.word-index l.words))) ≡ each addr_of (map (λ w. w.now) l.words)
