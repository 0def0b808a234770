use Rattle.std.proofs.Common.{take}
use Rattle.std.specs.Fmt.{HasWritten, IsPlainFormatter}
use Rattle.std.specs.List.{flat_map}
use Rattle.pf_show.specs.inner.Spaced.{table_line}
use Rattle.pf_show.proofs.tables.TableLinesDisplay.fmt.Given as goal

-- what is written so far is what was gone past
abbrev pub invariant-loop-table : goal.invariant-loop-table
invariant-loop-table g l =
    IsPlainFormatter l.fn.f → HasWritten g.W.Write.write_str_gives l.fn.f (flat_map table_line (take l.table-index l.self.0.now)) l.f
