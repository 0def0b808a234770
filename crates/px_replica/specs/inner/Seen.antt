-- What only code and proofs use beside `Seen`.
use Rattle.std.specs.Prelude.{◌≡◌, ◌≤◌, ℕ}
use Rattle.px_model.specs.Node.{Record}
use Rattle.px_model.specs.Step.{positions}
use Rattle.px_model.specs.Fits.{Passes, MetaFits, SlotFits}
use Rattle.px_model.specs.Spelling.{Bytes}
use Rattle.px_model.specs.Seen.{meta_of, slot_of, IsRead}
use Rattle.px_model.specs.declared.message.Reads.{Reads}
use Rattle.px_wire.specs.Sent.{is_command}
use Rattle.px_replica.specs.declared.look.Seen.{Seen}

-- what was read is the record's, as far as a step reads it
pub record IsSeen (d : Record Bytes) (reads : Reads) (s : Seen) : Type 0 where
  pub meta : meta_of s.meta ≡ d.meta
  pub read : IsRead reads d (slot_of s.slot) s.top

-- what was read can be spelled, whatever keeps the record
pub record SeenFits (members : ℕ) (s : Seen) : Type 0 where
  pub meta : MetaFits members (meta_of s.meta)
  pub here : SlotFits (Passes is_command) members (slot_of s.slot)
  pub top_within : s.top ≤ positions
