-- what is read so far
use Rattle.std.proofs.Common.{◌≡◌, ◌<◌, ℕ}
use Rattle.px_model.specs.Step.{nothing_volatile}
use Rattle.px_records.specs.Records.{IsRead}
use Rattle.px_replica.specs.Calls.{IsBadEntry}
use Rattle.px_replica.specs.inner.Copied.{IsCopied}
use Rattle.px_replica.specs.Members.{volatile_of, log_of, group_of}
use Rattle.px_replica.proofs.opening.remember_below.Given as goal

abbrev pub invariant-loop-position : goal.invariant-loop-position
invariant-loop-position g l = record {
  copied : g.R.Records.is_honest l.records → IsCopied (g.R.Records.stored l.fn.records).learned (log_of l.member) l.position;
  read : IsRead g.R.Records.is_honest g.R.Records.stored g.R.Records.may_leave g.R.Records.failed g.R.Records.is_good l.fn.records l.records;
  good : g.R.Records.is_honest l.records → (p : ℕ) → p < l.position →
      IsBadEntry g.R.Records l.fn.records (group_of l.fn.member).members p → ⊥;
  works : g.R.Records.failed l.records ≡ 0;
  same : g.R.Records.members l.records ≡ g.R.Records.members l.fn.records;
  nothing : volatile_of l.member ≡ nothing_volatile;
  volatile : volatile_of l.member ≡ volatile_of l.fn.member;
  group : group_of l.member ≡ group_of l.fn.member;
}
