-- Bytes that were read.
use Rattle.std.specs.Prelude.{ℕ, Bool, true, Option, Some, None, Vec}
use Rattle.std.specs.declared.alloc.Global.{Global}
use Rattle.px_model.specs.Node.{Entry}
use Rattle.px_model.specs.Spelling.{Bytes}
use Rattle.px_store.specs.Entries.{entry_of, is_entry}

-- the entry that they spell
abbrev pub read_in : Option (Vec ℕ Global) → Option (Entry Bytes)
read_in None = None
read_in (Some e) = Some (entry_of e.items)

-- if there are any, they spell an entry that was submitted to a member
abbrev pub is_entry_in : (members : ℕ) → Option (Vec ℕ Global) → Bool
is_entry_in members None = true
is_entry_in members (Some e) = is_entry members e.items
