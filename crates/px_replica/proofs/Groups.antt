-- How many members a group has.
use Rattle.std.proofs.Common.{◌≤◌, leb}
use Rattle.std.proofs.lemmas.Bool.{leb-true}
use Rattle.pf_entry.proofs.Takes.{both_true}
use Rattle.px_wire.specs.declared.membership.Membership.{Membership}

pub some_members : (m : Membership) → 1 ≤ m.members
some_members m = leb-true 1 m.members (both_true (leb 1 m.members) (leb m.members 15) m.counted).0

pub few_members : (m : Membership) → m.members ≤ 15
few_members m = leb-true m.members 15 (both_true (leb 1 m.members) (leb m.members 15) m.counted).1
