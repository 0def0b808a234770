-- A log that is being read from a record.
use Rattle.std.specs.Prelude.{◌≡◌, ℕ, ◌<◌, ◌≤◌, None}
use Rattle.px_model.specs.Node.{Log}
use Rattle.px_model.specs.Spelling.{Bytes}

-- the log has what is learned below p, and nothing from p on
pub record IsCopied (learned log : Log Bytes) (p : ℕ) : Type 0 where
  pub below : (q : ℕ) → q < p → log q ≡ learned q
  pub rest : (q : ℕ) → p ≤ q → log q ≡ None
