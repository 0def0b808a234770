-- What only code and proofs use beside `Fields`.
use Rattle.std.specs.Prelude.{ℕ, List}
use Rattle.std.specs.Prelude.{take, drop, is_some}
use Rattle.px_wire.specs.Fields.{Field, field, lent_in, len}

-- ---- the fields

-- an entry of that many bytes, of whatever origin
abbrev pub any_entry : (at len : ℕ) → List ℕ → Field
any_entry at len bytes = field at len 57 (is_some (lent_in (take len (drop at bytes))))
