-- Compiled lists of intervals.
use Rattle.std.specs.Prelude.{ℕ, List}
use Rattle.pf_tables.specs.declared.interval.Interval.{Interval}
use Rattle.pf_tables.specs.declared.classes.Classes.{Classes}
use Rattle.pf_tables.specs.declared.row.Row.{Row}
use Rattle.pf_tables.specs.Rows.{Marks}
use Rattle.pf_tables.specs.Columns.{IsColumnOf}

-- they are made of these intervals
pub record IsClassesOf (sources destinations ports : List Interval) (c : Classes) : Type 0 where
  pub source : IsColumnOf sources c.source
  pub destination : IsColumnOf destinations c.destination
  pub destination_port : IsColumnOf ports c.destination_port

-- whatever intervals they are made of, the rows have bits wherever these hold the numbers
abbrev pub IsRowOf : Classes → (source destination port : ℕ) → Row → Type 0
IsRowOf c source destination port row =
    (sources destinations ports : List Interval) → IsClassesOf sources destinations ports c →
    Marks sources source row.source.now × Marks destinations destination row.destination.now
    × Marks ports port row.destination_port.now
