-- What only code and proofs use beside `Spelled`.
use Rattle.std.specs.Prelude.{ℕ}
use Rattle.px_model.specs.Node as node
use Rattle.px_model.specs.Node.{Envelope}
use Rattle.px_model.specs.Spelling.{Bytes}

-- a message on its way
abbrev pub envelope : (me to : ℕ) → node.Message Bytes → Envelope Bytes
envelope me to x = record { sender = me; addressee = to; message = x }
