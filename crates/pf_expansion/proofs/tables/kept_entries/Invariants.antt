use Rattle.std.proofs.Common.{◌≡◌, ◌≤◌, drop, fold, length}
use Rattle.pf_expansion.specs.Tables.{with_first, first_of_each}
use Rattle.pf_expansion.specs.inner.Tables.{AreKeys}
use Rattle.pf_expansion.proofs.tables.kept_entries.Given as goal

-- what is kept so far, and what is left of the list
abbrev pub invariant-loop-entry : goal.invariant-loop-entry
invariant-loop-entry l = record {
  same : fold with_first l.found.items (drop l.entry-index l.entries) ≡ first_of_each l.entries;
  few : length l.found.items ≤ 4096;
  keys : AreKeys l.prefixes l.found.items;
}
