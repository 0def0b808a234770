use Rattle.std.proofs.Common.{take}
use Rattle.std.specs.Fmt.{HasWritten, IsPlainFormatter}
use Rattle.std.specs.List.{flat_map}
use Rattle.pf_show.specs.Shown.{spaced_entry}
use Rattle.pf_show.proofs.tables.EntriesDisplay.fmt.Given as goal

-- what is written so far is what was gone past
abbrev pub invariant-loop-entry : goal.invariant-loop-entry
invariant-loop-entry g l =
    IsPlainFormatter l.fn.f → HasWritten g.W.Write.write_str_gives l.fn.f (flat_map spaced_entry (take l.entry-index l.self.0.now)) l.f
