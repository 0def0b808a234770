-- Reading an entry from left to right: the inverse of the spelling. A field is a value and the bytes after it.
use Rattle.std.specs.Prelude.{ℕ, zero, suc, ◌+◌, ◌*◌, ◌^◌, ◌==◌, ◌&&◌, ◌||◌, not, Bool, true}
use Rattle.std.specs.Prelude.{false, nat_le, nat_lt, List, [], ◌∷◌, length, take, drop, Option, Some, None}
use Rattle.std.specs.Prelude.{if◌then◌else◌}
use Rattle.std.specs.Int.{Width, w16, w32, w64, byte_len, from_be_bytes}
use Rattle.pf_addr.specs.declared.addr.Addr.{Addr}
use Rattle.pf_addr.specs.declared.addr.Addr.TheVariants.{V4, V6}
use Rattle.pf_addr.specs.Blocks.{block_at}
use Rattle.pf_rules.specs.declared.profile.Profile.{Profile}
use Rattle.pf_rules.specs.declared.profile.Profile.TheVariants.{One, Two}
use Rattle.pf_entry.specs.Entry.{Address, Command, load, flush_rules, flush_tables, flush_all, add, delete, replace}
use Rattle.pf_entry.specs.Entry.{flush_table, Entry, is_name, is_table, is_origin}

infixl 10 ◌>>=◌
-- goes on with what was read, if it was read; else none
abbrev pub ◌>>=◌ : {A B : Type 0} → Option A → (A → Option B) → Option B
(Some x) >>= f = f x
None >>= f = None

-- a value that is allowed
abbrev pub only : {A : Type 0} → Bool → A → Option A
only true x = Some x
only false x = None

-- one byte; none where no byte is left
abbrev pub byte_at : List ℕ → Option (ℕ × List ℕ)
byte_at [] = None
byte_at (b ∷ rest) = Some (b, rest)

-- a number of this width, the highest byte first; none where its bytes aren't all there
abbrev pub number_at : Width → List ℕ → Option (ℕ × List ℕ)
number_at w bytes =
    if nat_lt (length bytes) (byte_len w) then None
    else Some (from_be_bytes w (take (byte_len w) bytes), drop (byte_len w) bytes)

-- that many bytes
abbrev pub text_at : ℕ → List ℕ → Option (List ℕ × List ℕ)
text_at n bytes = if nat_lt (length bytes) n then None else Some (take n bytes, drop n bytes)

-- a length of one byte, and the bytes
unfoldable pub counted_at : List ℕ → Option (List ℕ × List ℕ)
counted_at bytes = do
  n ← byte_at bytes
  text_at n.0 n.1

-- a length of one byte, and a name that a path may have
unfoldable pub name_at : List ℕ → Option (List ℕ × List ℕ)
name_at bytes = do
  name ← counted_at bytes
  only (is_name name.0) name

-- that many of one kind
unfoldable pub many_at : {A : Type 0} → (List ℕ → Option (A × List ℕ)) → ℕ → List ℕ →
    Option (List A × List ℕ)
many_at item zero bytes = Some ([], bytes)
many_at item (suc n) bytes = do
  first ← item bytes
  others ← many_at item n first.1
  Some (first.0 ∷ others.0, others.1)

-- that many names, each behind its length
abbrev pub names_at : ℕ → List ℕ → Option (List (List ℕ) × List ℕ)
names_at n bytes = many_at name_at n bytes

-- how many names, 8 at most, and each of them
unfoldable pub path_at : List ℕ → Option (List (List ℕ) × List ℕ)
path_at bytes = do
  n ← byte_at bytes
  if nat_lt 8 n.0 then None else names_at n.0 n.1

-- a length of one byte, and a table's name
unfoldable pub table_at : List ℕ → Option (List ℕ × List ℕ)
table_at bytes = do
  name ← counted_at bytes
  only (is_table name.0) name

-- whether an address is negated: 0 for no, 1 for yes; none for another byte
unfoldable pub sign_at : List ℕ → Option (Bool × List ℕ)
sign_at [] = None
sign_at (zero ∷ rest) = Some (false, rest)
sign_at (suc zero ∷ rest) = Some (true, rest)
sign_at (suc (suc n) ∷ rest) = None

-- an address of this family: 4 bytes of IPv4, 16 of IPv6; none for another family
unfoldable pub base_at : ℕ → List ℕ → Option (Addr × List ℕ)
base_at family bytes =
    if family == 4 then (number_at w32 bytes >>= λ n. Some (V4 n.0, n.1))
    else if family == 6 then
    (number_at w64 bytes >>= λ high. number_at w64 high.1 >>= λ low.
    Some (V6 (high.0 * 2 ^ 64 + low.0), low.1))
    else None

-- an address, negated or not: sign, family, length, and bits of which the host bits are cleared
unfoldable pub address_at : List ℕ → Option (Address × List ℕ)
address_at bytes = do
  sign ← sign_at bytes
  family ← byte_at sign.1
  len ← byte_at family.1
  base ← base_at family.0 len.1
  block ← block_at base.0 len.0
  Some (record { negated = sign.0; prefix = block }, base.1)

-- that many addresses, one after another
abbrev pub addresses_at : ℕ → List ℕ → Option (List Address × List ℕ)
addresses_at n bytes = many_at address_at n bytes

-- how many addresses, that many at least and 4096 at most, and each of them
unfoldable pub list_at : ℕ → List ℕ → Option (List Address × List ℕ)
list_at least bytes = do
  n ← number_at w16 bytes
  if nat_lt n.0 least || nat_lt 4096 n.0 then None else addresses_at n.0 n.1

-- a load at this path: its text, behind a length of four bytes
unfoldable pub load_at : Profile → List (List ℕ) → List ℕ → Option (Command × List ℕ)
load_at profile path bytes = do
  n ← number_at w32 bytes
  text ← text_at n.0 n.1
  Some (load path profile text.0, text.1)

-- a table and its addresses
unfoldable pub change_at : ℕ → List ℕ → Option (List ℕ × List Address × List ℕ)
change_at least bytes = do
  table ← table_at bytes
  list ← list_at least table.1
  Some (table.0, list.0, list.1)

-- an add at this path: a table, and one address at least
unfoldable pub add_at : List (List ℕ) → List ℕ → Option (Command × List ℕ)
add_at path bytes = do
  x ← change_at 1 bytes
  Some (add path x.0 x.1, x.2)

-- a delete at this path: a table, and one address at least
unfoldable pub delete_at : List (List ℕ) → List ℕ → Option (Command × List ℕ)
delete_at path bytes = do
  x ← change_at 1 bytes
  Some (delete path x.0 x.1, x.2)

-- a replace at this path: a table and its addresses, which may be none
unfoldable pub replace_at : List (List ℕ) → List ℕ → Option (Command × List ℕ)
replace_at path bytes = do
  x ← change_at 0 bytes
  Some (replace path x.0 x.1, x.2)

-- the flush of a table at this path
unfoldable pub flush_table_at : List (List ℕ) → List ℕ → Option (Command × List ℕ)
flush_table_at path bytes = do
  table ← table_at bytes
  Some (flush_table path table.0, table.1)

-- what follows the path, by format and kind
unfoldable pub rest_at : ℕ → ℕ → List (List ℕ) → List ℕ → Option (Command × List ℕ)
rest_at format kind path bytes =
    if kind == 1 then
    (if format == 1 then load_at One path bytes else if format == 2 then load_at Two path bytes else None)
    else if not (format == 1) then None
    else if kind == 2 then Some (flush_rules path, bytes)
    else if kind == 3 then Some (flush_tables path, bytes)
    else if kind == 4 then Some (flush_all path, bytes)
    else if kind == 5 then add_at path bytes
    else if kind == 6 then delete_at path bytes
    else if kind == 7 then replace_at path bytes
    else if kind == 8 then flush_table_at path bytes
    else None

-- kind, path, rest, of an entry of this format
unfoldable pub command_at : ℕ → List ℕ → Option (Command × List ℕ)
command_at format bytes = do
  kind ← byte_at bytes
  path ← path_at kind.1
  rest_at format kind.0 path.0 path.1

-- who asked, and the number there
unfoldable pub asked_at : List ℕ → Option ((ℕ × ℕ) × List ℕ)
asked_at bytes = do
  origin ← byte_at bytes
  number ← number_at w64 origin.1
  only (is_origin origin.0 && nat_lt number.0 (2 ^ 48)) ((origin.0, number.0), number.1)

-- format, origin, number, command
unfoldable pub entry_at : List ℕ → Option (Entry × List ℕ)
entry_at bytes = do
  format ← byte_at bytes
  asked ← asked_at format.1
  command ← command_at format.0 asked.1
  Some (record { origin = asked.0.0; number = asked.0.1; command = command.0 }, command.1)

-- the entry that all of the bytes spell
unfoldable pub reading : List ℕ → Option Entry
reading bytes = do
  whole ← only (nat_le (length bytes) 32768) bytes
  entry ← entry_at whole
  only (length entry.1 == 0) entry.0

-- what was read first, nothing where it was not
abbrev pub first_or_none : {A : Type 0} → Option (List A × List ℕ) → List A
first_or_none None = []
first_or_none (Some x) = x.0

-- that many names that begin the bytes, or no name where they don't spell that many
abbrev pub names_in : ℕ → List ℕ → List (List ℕ)
names_in count bytes = first_or_none (names_at count bytes)

-- that many addresses that begin the bytes, or none where they don't spell that many
abbrev pub addresses_in : ℕ → List ℕ → List Address
addresses_in count bytes = first_or_none (addresses_at count bytes)
