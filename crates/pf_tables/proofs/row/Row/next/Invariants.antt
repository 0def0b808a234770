use Rattle.std.proofs.Common.{length, ◌-◌, ◌≡◌, ◌≤◌, ℕ, ◌+◌, ◌*◌, ◌<◌, ◌^◌}
use Rattle.std.specs.Int.{bit_at}
use Rattle.pf_tables.specs.Rows.{IsPassed}
use Rattle.pf_tables.proofs.row.Row.next.Given as goal

-- the mask has the bits of the places from the wanted one on; none of the words before has a place
abbrev pub invariant-loop-at : goal.invariant-loop-at
invariant-loop-at l = record {
  near : l.from < 64 * l.at + 64;
  fits : l.mask < 2 ^ 64;
  wanted : (k : ℕ) → k < 64 → l.from ≤ 64 * l.at + k → bit_at l.mask k ≡ 1;
  others : (k : ℕ) → k < 64 → 64 * l.at + k < l.from → bit_at l.mask k ≡ 0;
  passed : IsPassed l.self l.from (64 * l.at);
}

abbrev pub decreases-loop-at : goal.decreases-loop-at
decreases-loop-at l = length l.self.source.now - l.at
