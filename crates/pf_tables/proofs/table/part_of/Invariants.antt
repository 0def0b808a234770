use Rattle.std.proofs.Common.{◌≡◌, drop, []}
use Rattle.std.specs.Prelude.{filter}
use Rattle.pf_tables.specs.Tables.{is_of}
use Rattle.pf_tables.specs.Parts.{joined, ArePartsBefore}
use Rattle.pf_tables.proofs.table.part_of.Given as goal

-- the part is among what is left
abbrev pub invariant-loop-part : goal.invariant-loop-part
invariant-loop-part l = record {
  found : filter (is_of l.v6 l.len) (joined (drop l.part-index l.parts)) ≡ filter (is_of l.v6 l.len) (joined l.parts);
  apart : ArePartsBefore (drop l.part-index l.parts) [];
}
