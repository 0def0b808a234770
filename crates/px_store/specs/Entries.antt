-- What the record decodes of an entry's bytes: its origin, and its number there.
use Rattle.std.specs.Prelude.{ℕ, ◌^◌, Bool, false, ◌&&◌, Option, None, Some, [], nat_lt}
use Rattle.px_model.specs.Node.{Entry}
use Rattle.px_model.specs.Spelling.{Bytes, entry_in}

-- bytes that are too few have some reading
abbrev pub shown_by : Option (Entry Bytes) → Entry Bytes
shown_by None = record { origin = 0; number = 0; command = [] }
shown_by (Some e) = e

-- the entry that the bytes spell
unfoldable pub entry_of : Bytes → Entry Bytes
entry_of bytes = shown_by (entry_in bytes)

-- there is an entry, a member is its origin, and its number is below 2^48
abbrev pub is_member's : (members : ℕ) → Option (Entry Bytes) → Bool
is_member's members None = false
is_member's members (Some e) = nat_lt e.origin members && nat_lt e.number (2 ^ 48)

-- the bytes spell an entry that was submitted to a member
unfoldable pub is_entry : (members : ℕ) → Bytes → Bool
is_entry members bytes = is_member's members (entry_in bytes)
