use Rattle.std.proofs.Common.{◌≡◌, ◌+◌, drop, take}
use Rattle.std.specs.List.{prefix_len}
use Rattle.pf_tables.specs.Tables.{is_of}
use Rattle.pf_tables.specs.Parts.{AreBlocks}
use Rattle.pf_tables.proofs.parted.front_len.Given as goal

abbrev pub invariant-loop-entry : goal.invariant-loop-entry
invariant-loop-entry l = record {
  here : l.count ≡ l.entry-index;
  counted : l.entry-index + prefix_len (is_of l.v6 l.len) (drop l.entry-index l.entries) ≡ prefix_len (is_of l.v6 l.len) l.entries;
  blocks : AreBlocks (take l.entry-index l.entries);
}
