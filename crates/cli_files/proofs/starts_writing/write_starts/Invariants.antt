-- the lines of the members that are left come behind what was written
use Rattle.std.proofs.Common.{◌≡◌, ◌++◌, drop}
use Rattle.cli_files.specs.StartsTexts.{lines_of, starts_text}
use Rattle.cli_files.proofs.starts_writing.write_starts.Given as goal

abbrev pub invariant-loop-member : goal.invariant-loop-member
invariant-loop-member l = l.text.items ++ lines_of (drop l.member-index l.members) ≡ starts_text l.members
