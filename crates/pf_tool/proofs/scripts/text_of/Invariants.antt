use Rattle.std.proofs.Common.{◌≡◌, ◌++◌, drop, string_bytes}
use Rattle.std.specs.List.{flat_map}
use Rattle.pf_scripts.specs.Ctl.{text_of}
use Rattle.pf_scripts.specs.Seen.{printed_values}
use Rattle.pf_tool.proofs.scripts.text_of.Given as goal

-- the text so far, and that of the pieces that are left
abbrev pub invariant-loop-piece : goal.invariant-loop-piece
invariant-loop-piece l = string_bytes l.text ++ flat_map text_of (printed_values (drop l.piece-index l.printed)) ≡ flat_map text_of (printed_values l.printed)
