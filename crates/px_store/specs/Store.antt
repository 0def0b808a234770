-- What a connection shows of a record, and what the calls do to that.
use Rattle.std.specs.Prelude.{ℕ}
use Rattle.px_model.specs.Node.{Record}
use Rattle.px_model.specs.Spelling.{Bytes}
use Rattle.px_records.specs.Records.{Place}

-- what a connection shows of the record that it keeps
pub record Stored : Type 1 where
  -- what was written is what is read; clauses on values hold then
  pub is_honest : Type 0
  -- the record, while no call has failed
  pub kept : Record Bytes
  -- the row read there is one that a commit may have written
  pub is_good : Place → Type 0
  -- what the next open may find after a stop at this moment
  pub may_leave : Record Bytes → Type 0
  -- how many calls have failed
  pub failed : ℕ
