use Rattle.std.proofs.Common.{◌≡◌, length}
use Rattle.pf_dump.proofs.same.same_entries.Given as goal

-- where the rests are the same, and only there, all is
abbrev pub invariant-loop-left : goal.invariant-loop-left
invariant-loop-left l = record {
  all : l.left ≡ l.right → l.fn.a ≡ l.fn.b;
  back : l.fn.a ≡ l.fn.b → l.left ≡ l.right;
}

abbrev pub decreases-loop-left : goal.decreases-loop-left
decreases-loop-left l = length l.left
