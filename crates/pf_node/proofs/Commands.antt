-- The bytes of a command are those of an entry without who asked and the number.
use Rattle.std.proofs.Common.{◌≡◌, ◌∙◌, ℕ, ◌≤◌, true, leb, List, length, take, drop, Option, Some, None, refl, ap, arith}
use Rattle.std.specs.Prelude.{option_map, IfSome, IsSome, slice_index}
use Rattle.std.specs.Int.{from_be_bytes, w64}
use Rattle.std.proofs.lemmas.Bool.{le-leb}
use Rattle.pf_entry.specs.Entry as entries
use Rattle.pf_entry.specs.Entry.{EntryBytes, spelling}
use Rattle.pf_entry.proofs.Takes.{IsBytes, some_is}
use Rattle.px_model.specs.Node as node
use Rattle.px_model.specs.Spelling.{Bytes, command_in, entry_in}
use Rattle.px_model.specs.Entries.{view_of}
use Rattle.px_model.specs.declared.entry.EntryView.{EntryView}
use Rattle.px_wire.specs.Message.{Lent, IsSpelling}
use Rattle.px_wire.specs.Sent.{is_command}
use Rattle.px_wire.proofs.Commands.{command_of_spelling}
use Rattle.px_wire.proofs.Lending.{ten_bytes}

abbrev read_as : List ℕ → node.Entry Bytes
read_as bytes = record {
  origin = slice_index bytes 1;
  number = from_be_bytes w64 (take 8 (drop 2 bytes));
  command = command_in bytes;
}

is_read : (bytes : List ℕ) → 10 ≤ length bytes → entry_in bytes ≡ Some (read_as bytes)
unfolding entry_in
is_read bytes long = let t : leb 10 (length bytes) ≡ true = le-leb 10 (length bytes) long in rw t refl

long_bytes : (e : entries.Entry) (bytes : List ℕ) → EntryBytes e bytes → 10 ≤ length bytes
long_bytes e bytes d = let n : length bytes ≡ length (spelling e) = ap length d.spelled in omega (arith, n, ten_bytes e)

-- what spells an entry is read
pub read_some : (e : entries.Entry) (bytes : List ℕ) (r : Option EntryView) → EntryBytes e bytes →
    option_map view_of r ≡ entry_in bytes → IsSome r
read_some e bytes None d same = let is : None ≡ Some (read_as bytes) = same ∙ is_read bytes (long_bytes e bytes d) in absurd cc
read_some e bytes (Some v) d same = refl

-- as its command
pub read_command : (e : entries.Entry) (bytes : List ℕ) (r : Option EntryView) → EntryBytes e bytes →
    option_map view_of r ≡ entry_in bytes → IfSome r (λ v. (view_of v).command ≡ command_in (spelling e))
read_command e bytes None d same = tt
read_command e bytes (Some v) d same =
    let is : view_of v ≡ read_as bytes = some_is _ _ (same ∙ is_read bytes (long_bytes e bytes d)) in
    ap (λ (x : node.Entry Bytes). x.command) is ∙ ap command_in d.spelled

-- which has a spelling
pub read_spelled : (e : entries.Entry) (bytes : List ℕ) (r : Option EntryView) → IsBytes bytes → EntryBytes e bytes →
    option_map view_of r ≡ entry_in bytes → IfSome r (λ v. is_command (view_of v).command ≡ true)
read_spelled e bytes None fits d same = tt
read_spelled e bytes (Some v) fits d same =
    let is : view_of v ≡ read_as bytes = some_is _ _ (same ∙ is_read bytes (long_bytes e bytes d)) in
    let lent : Lent = record { origin = e.origin; number = e.number; bytes = bytes } in
    let spells : IsSpelling lent = record { entry = e; spelled = d; origin = refl; number = refl } in
    ap is_command (ap (λ (x : node.Entry Bytes). x.command) is) ∙ (command_of_spelling lent fits spells).0
