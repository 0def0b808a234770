use Rattle.std.proofs.Common.{◌≡◌, length}
use Rattle.pf_scripts.specs.Lines.{lines}
use Rattle.cli_follow.specs.Members.{members_among, members_reported}
use Rattle.cli_follow.proofs.members.members_reported.Given as goal

abbrev pub invariant-loop-line : goal.invariant-loop-line
invariant-loop-line l = members_among (lines l.left) ≡ members_reported l.fn.status

abbrev pub decreases-loop-line : goal.decreases-loop-line
decreases-loop-line l = length l.left
