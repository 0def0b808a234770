-- of a string of some members, the first of them were read
use Rattle.std.proofs.Common.{◌≡◌, List, length, take}
use Rattle.cli_files.specs.declared.known.KnownMember as declared
use Rattle.cli_files.specs.StartsTexts.{starts_text, AreFit}
use Rattle.cli_files.proofs.starts_reading.read_starts.Given as goal

abbrev pub invariant-loop-i : goal.invariant-loop-i
invariant-loop-i l = record {
  count : length l.members.items ≡ l.i;
  first : (ms : List declared.KnownMember) → AreFit ms → l.text ≡ starts_text ms → l.members.items ≡ take l.i ms;
}
