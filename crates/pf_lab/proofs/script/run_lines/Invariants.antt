use Rattle.std.proofs.Common.{◌≡◌, ◌++◌, None, length, option_map, string_bytes}
use Rattle.pf_scripts.specs.Lines.{lines}
use Rattle.pf_scripts.specs.inner.Seen.{waiting_of}
use Rattle.pf_lab.specs.Scripts.{LabValue, new_lab, printed_from}
use Rattle.pf_lab.specs.inner.Benches.{IsBench}
use Rattle.pf_lab.proofs.script.run_lines.Given as goal

-- what is printed so far, and then what the lines that are left print at the lab
abbrev pub invariant-loop-line : goal.invariant-loop-line
invariant-loop-line l = (v : LabValue) × IsBench l.bench v × (string_bytes l.out ++ printed_from v (option_map waiting_of l.waiting) (lines l.left) ≡ string_bytes l.fn.out ++ printed_from (new_lab l.members) None (lines l.behind))

abbrev pub decreases-loop-line : goal.decreases-loop-line
decreases-loop-line l = length l.left
