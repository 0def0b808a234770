-- What was read of a record for a step.
use Rattle.std.specs.Prelude.{ℕ}
use Rattle.px_model.specs.Node.{Record}
use Rattle.px_model.specs.Fits.{Passes, RecordFits}
use Rattle.px_model.specs.Spelling.{Bytes}
use Rattle.px_wire.specs.Sent.{is_command}

-- every row of the record can be spelled
abbrev pub IsSound : (members : ℕ) → Record Bytes → Type 0
IsSound n d = RecordFits (Passes is_command) n d
