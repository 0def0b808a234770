use Rattle.std.proofs.Common.{◌≡◌}
use Rattle.pf_tables.proofs.edits.place_of.Given as goal

abbrev pub invariant-loop-part : goal.invariant-loop-part
invariant-loop-part l = l.at ≡ l.part-index
