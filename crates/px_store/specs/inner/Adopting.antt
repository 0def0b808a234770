-- What only code and proofs use beside `Adopting`.
use Rattle.std.specs.Prelude.{◌≡◌, Result, Ok, Err}
use Rattle.sqlite.specs.State.{State}
use Rattle.px_model.specs.Node.{Record}
use Rattle.px_model.specs.Spelling.{Bytes}
use Rattle.px_store.specs.Tables.{schema_3}
use Rattle.px_store.specs.Seen.{record_in}
use Rattle.px_store.specs.declared.fault.AdoptFault.{AdoptFault}
use Rattle.px_store.specs.Adopting.{IsVerdict}

-- the answer is a verdict: 73, 72 or 71
abbrev pub IsRefused : {X : Type 0} → Result X AdoptFault → Type 0
IsRefused (Ok x) = ⊥
IsRefused (Err e) = IsVerdict e

-- a store of format 3 that shows this record
pub record Shows (d : Record Bytes) (new : State) : Type 0 where
  pub schema : new.now.schema ≡ schema_3
  pub is : record_in new.now.trees ≡ d
