use Rattle.std.proofs.Common.{◌≡◌, ◌++◌, drop}
use Rattle.std.specs.Prelude.{filter}
use Rattle.pf_config.specs.inner.Referring.{stays_by}
use Rattle.pf_config.proofs.unused.listed_tables.Given as goal

abbrev pub invariant-loop-entry : goal.invariant-loop-entry
invariant-loop-entry l = l.next.items ++ filter (stays_by l.names) (drop l.entry-index l.entry-items) ≡ filter (stays_by l.names) l.entry-items
