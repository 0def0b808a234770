use Rattle.std.proofs.Common.{◌≡◌, length}
use Rattle.pf_eval.specs.PacketTexts.{groups_at}
use Rattle.pf_eval.specs.inner.Cursors.{left}
use Rattle.pf_eval.proofs.Groups.{prepend}
use Rattle.pf_eval.proofs.cursor.Cursor.groups.Given as goal

-- the groups so far, and those that are left
abbrev pub invariant-loop-self : goal.invariant-loop-self
invariant-loop-self l = prepend l.groups.items (groups_at (left l.self)) ≡ groups_at (left l.fn.self)

abbrev pub decreases-loop-self : goal.decreases-loop-self
decreases-loop-self l = length (left l.self)
