use Rattle.std.proofs.Common.{◌≡◌, ℕ, ◌||◌, drop, take}
use Rattle.std.specs.Prelude.{nat_eq}
use Rattle.std.specs.List.{list_any}
use Rattle.std.specs.Ordering.{nat_cmp}
use Rattle.std.specs.BTreeSet.{contains}
use Rattle.pf_expansion.specs.inner.Numbers.{has_again}
use Rattle.pf_expansion.proofs.block_paths.as_set.Given as goal

-- the set has the numbers so far; one comes again where one that is left is in the set, or comes again
abbrev pub invariant-loop-number : goal.invariant-loop-number
invariant-loop-number l = record {
  again : has_again l.numbers ≡ (list_any (contains nat_cmp l.set) (drop l.number-index l.numbers) || has_again (drop l.number-index l.numbers));
  those : (k : ℕ) → contains nat_cmp l.set k ≡ list_any (nat_eq k) (take l.number-index l.numbers);
}
