-- What the members see of an entry's spelling: the member that the command was submitted to, its number there, and the
-- command's bytes. How these spell a command is left to the caller.
use Rattle.std.specs.Prelude.{ℕ, List, [], ◌∷◌, ◌++◌, Option, Some, None, take, drop, length, slice_index}
use Rattle.std.specs.Prelude.{if◌then◌else◌, nat_le}
use Rattle.std.specs.Int.{to_be_bytes, from_be_bytes, w64}
use Rattle.px_model.specs.Node as node

-- a command is its bytes
abbrev pub Bytes : Type 0
Bytes = List ℕ

-- a spelling without the origin and the number: its format byte, and the bytes from 10 on
unfoldable pub command_in : Bytes → Bytes
command_in bytes = take 1 bytes ++ drop 10 bytes

-- the entry that the bytes spell: byte 1 is its origin, bytes 2 to 9 are its number; none where they are fewer than ten
unfoldable pub entry_in : Bytes → Option (node.Entry Bytes)
entry_in bytes = if nat_le 10 (length bytes) then Some (record {
  origin = slice_index bytes 1;
  number = from_be_bytes w64 (take 8 (drop 2 bytes));
  command = command_in bytes;
}) else None

-- the spelling of an entry
unfoldable pub spelled : node.Entry Bytes → Bytes
spelled e = ((take 1 e.command ++ e.origin ∷ []) ++ to_be_bytes w64 e.number) ++ drop 1 e.command
