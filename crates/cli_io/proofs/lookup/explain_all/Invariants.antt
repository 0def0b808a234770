use Rattle.std.proofs.Common.{◌≡◌, ◌++◌, drop, string_bytes}
use Rattle.cli_io.specs.Explained.{paragraphs}
use Rattle.cli_io.proofs.lookup.explain_all.Given as goal

-- the paragraphs so far, and those of the rows that are left
abbrev pub invariant-loop-row : goal.invariant-loop-row
invariant-loop-row l = string_bytes l.text ++ paragraphs (drop l.row-index l.table) ≡ paragraphs l.table
