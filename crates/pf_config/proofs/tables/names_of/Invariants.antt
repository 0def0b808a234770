use Rattle.std.proofs.Common.{◌≡◌, ◌++◌, drop, map}
use Rattle.pf_config.proofs.tables.names_of.Given as goal

abbrev pub invariant-loop-entry : goal.invariant-loop-entry
invariant-loop-entry l = map (λ n. n.now) l.names.items ++ map (λ t. t.0) (drop l.entry-index l.tables) ≡ map (λ t. t.0) l.tables
