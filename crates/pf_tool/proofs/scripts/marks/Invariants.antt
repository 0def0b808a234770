use Rattle.std.proofs.Common.{◌≡◌, ◌++◌, drop}
use Rattle.std.specs.List.{flat_map}
use Rattle.pf_scripts.specs.Seen.{printed_values}
use Rattle.pf_tool.specs.Tool.{marks}
use Rattle.pf_tool.proofs.scripts.marks.Given as goal

-- the marks so far, and those of the pieces that are left
abbrev pub invariant-loop-piece : goal.invariant-loop-piece
invariant-loop-piece l = l.found.items ++ flat_map marks (printed_values (drop l.piece-index l.printed)) ≡ flat_map marks (printed_values l.printed)
