use Rattle.std.proofs.Common.{length, ◌≡◌, ◌<◌, get_or}
use Rattle.pf_tables.proofs.column.bounds_of.Given as goal

abbrev pub invariant-loop-start : goal.invariant-loop-start
invariant-loop-start l = (0 < length l.bounds.items) × (get_or l.bounds.items 0 4294967296 ≡ 0)
