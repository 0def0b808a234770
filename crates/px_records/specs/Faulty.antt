-- A keeper with one commit that fails.
use Rattle.std.specs.Prelude.{◌≡◌, ◌≢◌, ◌<◌, ℕ, Bool, true, false, if◌then◌else◌}
use Rattle.std.proofs.Math.Nat.{suc-ne-zero}
use Rattle.px_model.specs.Node.{Record}
use Rattle.px_model.specs.Spelling.{Bytes}
use Rattle.px_records.specs.Records.{Place, IsRead}
use Rattle.px_records.specs.declared.faulty.FaultyRecords.{FaultyRecords}
use Rattle.px_records.specs.declared.faulty.When.{When}

-- the record that it keeps
abbrev pub inner_of : {R : Type 0} → FaultyRecords R → R
inner_of f = f.inner

-- how many commits are left up to the one that fails, 0 where none will
abbrev pub left_of : {R : Type 0} → FaultyRecords R → ℕ
left_of f = f.left

-- whether that one fails before its change or after
abbrev pub when_of : {R : Type 0} → FaultyRecords R → When
when_of f = f.when

-- whether that one has failed
abbrev pub has_failed_of : {R : Type 0} → FaultyRecords R → Bool
has_failed_of f = f.has_failed

-- its own failure, else those of the record
abbrev pub failures_of : (has_failed : Bool) → (inside : ℕ) → ℕ
failures_of has_failed inside = if has_failed then 1 else inside

-- how many calls have failed, with those of the record inside
abbrev pub failed_in : {R : Type 0} → (failed : R → ℕ) → FaultyRecords R → ℕ
failed_in failed f = failures_of f.has_failed (failed f.inner)

-- no call has failed, and the next commit is the one that fails
abbrev pub IsDue : {R : Type 0} → (failed : R → ℕ) → FaultyRecords R → Type 0
IsDue failed f = (failed_in failed f ≡ 0) × (f.left ≡ 1)

-- no call has failed, and the next commit isn't the one that fails
abbrev pub IsSpared : {R : Type 0} → (failed : R → ℕ) → FaultyRecords R → Type 0
IsSpared failed f = (failed_in failed f ≡ 0) × (f.left ≢ 1)

-- which commit fails, how, and whether it has, is as it was
abbrev pub FailsAlike : {R : Type 0} → (old new : FaultyRecords R) → Type 0
FailsAlike old new = (new.left ≡ old.left) × (new.when ≡ old.when) × (new.has_failed ≡ old.has_failed)

-- what a call that reads does, in the terms of the record that it keeps
pub record ReadsBelow {R : Type 0} (honest trusted : R → Type 0) (stored : R → Record Bytes) (members : R → ℕ)
    (may_leave : R → Record Bytes → Type 0) (failed : R → ℕ) (good : R → Place → Type 0)
    (old new : FaultyRecords R) : Type 0 where
  pub read : IsRead (λ (f : FaultyRecords R). honest (inner_of f)) (λ f. stored (inner_of f))
      (λ f. may_leave (inner_of f)) (failed_in failed) (λ f. good (inner_of f)) old new
  pub keeps : honest (inner_of old) → trusted (inner_of new) → honest (inner_of new)
  pub later : 0 < failed_in failed old → new ≡ old
  pub same : members (inner_of new) ≡ members (inner_of old)
  pub alike : FailsAlike old new

-- where none has failed, nor has the record
pub none_inside : (has_failed : Bool) (inside : ℕ) → failures_of has_failed inside ≡ 0 → inside ≡ 0
none_inside true inside e = absurd (suc-ne-zero 0 e)
none_inside false inside e = e
