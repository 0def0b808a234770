-- What only code and proofs use beside `Judging`.
use Rattle.std.specs.Prelude.{List, [], Option, Some}
use Rattle.std.specs.Prelude.{None, Vec}
use Rattle.std.specs.declared.alloc.Global.{Global}
use Rattle.sqlite_value.specs.Order.{Row}

-- the rows that were read, if that table was asked
abbrev pub rows_in : Option (Vec Row Global) → List Row
rows_in None = []
rows_in (Some rows) = rows.items
