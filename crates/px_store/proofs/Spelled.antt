-- Entries and their bytes.
use Rattle.std.proofs.Common.{◌≡◌, ◌≤◌, ◌^◌, ℕ, suc, [], ◌∷◌, ◌++◌, length, drop, Bool, true, false, Option, None, Some, refl, sym, ap, ◌∙◌, arith, length-append}
use Rattle.std.specs.Prelude.{nat_le, if◌then◌else◌}
use Rattle.std.specs.Int.{to_be_bytes, from_be_bytes, w64}
use Rattle.std.proofs.lemmas.Bool.{and_parts, ltb-true, le-leb, lt-ltb}
use Rattle.std.proofs.lemmas.Nat.{from_be_bytes-to_be_bytes_8}
use Rattle.px_model.specs.Bounds.{AnyCommand}
use Rattle.px_model.specs.Node.{Entry}
use Rattle.px_model.specs.Spelling.{Bytes, command_in, entry_in, spelled}
use Rattle.px_model.specs.Fits.{EntryFits}
use Rattle.px_model.specs.Entries.{entry_of as entry_value}
use Rattle.px_model.specs.declared.entry.Entry as code
use Rattle.px_store.specs.Entries.{entry_of, is_entry, is_member's, shown_by}

-- the command of an entry has the byte that names its format
long_enough : (bytes : Bytes) → 10 ≤ length bytes → 1 ≤ length (command_in bytes)
unfolding command_in
long_enough [] long = absurd (omega (arith, long))
long_enough (x ∷ xs) long = let h : 1 ≤ suc (length (drop 9 xs)) = omega arith in h

pub command_long : (e : code.Entry) → 1 ≤ length (entry_value e).command
unfolding entry_value
command_long e = long_enough e.bytes.value.items e.long

-- good bytes spell an entry that fits
pub entry_fits : (n : ℕ) (bytes : Bytes) → is_entry n bytes ≡ true → EntryFits AnyCommand n (entry_of bytes)
unfolding is_entry entry_of entry_in
entry_fits n bytes ok = go (nat_le 10 (length bytes)) refl ok
  where
    go : (b : Bool) → nat_le 10 (length bytes) ≡ b → is_entry n bytes ≡ true → EntryFits AnyCommand n (entry_of bytes)
    go true long ok =
        let parts = and_parts _ _ (rw long at ok) in
        rw long (record { origin = ltb-true _ _ parts.0; number = ltb-true _ _ parts.1; command = tt })
    go false short ok = absurd (let e = rw short at ok in cc)

pub shows : (a : Option (Entry Bytes)) (bytes : Bytes) (e : Entry Bytes) → a ≡ entry_in bytes → a ≡ Some e → e ≡ entry_of bytes
unfolding entry_of
shows a bytes e is some = let same : Some e ≡ entry_in bytes = sym some ∙ is in ap shown_by same

-- the spelling of an entry that fits spells it
pub reads_back : (n : ℕ) (e : Entry Bytes) → EntryFits AnyCommand n e → 1 ≤ length e.command → entry_of (spelled e) ≡ e
unfolding entry_of entry_in spelled command_in
reads_back n e fits long = go e.command long
  where
    go : (c : Bytes) → 1 ≤ length c → shown_by (entry_in (spelled (record { origin = e.origin; number = e.number; command = c }))) ≡ record { origin = e.origin; number = e.number; command = c }
    go [] long = absurd (omega (arith, long))
    go (x ∷ xs) long =
        let bytes = x ∷ e.origin ∷ (to_be_bytes w64 e.number ++ xs) in
        let eight : length (to_be_bytes w64 e.number) ≡ 8 = refl in
        let enough : nat_le 10 (length bytes) ≡ true = le-leb 10 (length bytes) (omega (arith, length-append (to_be_bytes w64 e.number) xs, eight)) in
        let number : from_be_bytes w64 (to_be_bytes w64 e.number) ≡ e.number = from_be_bytes-to_be_bytes_8 e.number (let k = fits.number in omega (arith, k)) in
        ap (λ (b : Bool). shown_by (if b then Some (record { origin = e.origin; number = from_be_bytes w64 (to_be_bytes w64 e.number); command = x ∷ xs }) else None)) enough
        ∙ ap (λ (k : ℕ). record { origin = e.origin; number = k; command = x ∷ xs }) number

-- and it is a good one
pub spells_entry : (n : ℕ) (e : Entry Bytes) → EntryFits AnyCommand n e → 1 ≤ length e.command → is_entry n (spelled e) ≡ true
unfolding is_entry entry_in spelled command_in
spells_entry n e fits long = go e.command long
  where
    go : (c : Bytes) → 1 ≤ length c → is_entry n (spelled (record { origin = e.origin; number = e.number; command = c })) ≡ true
    go [] long = absurd (omega (arith, long))
    go (x ∷ xs) long =
        let bytes = x ∷ e.origin ∷ (to_be_bytes w64 e.number ++ xs) in
        let eight : length (to_be_bytes w64 e.number) ≡ 8 = refl in
        let enough : nat_le 10 (length bytes) ≡ true = le-leb 10 (length bytes) (omega (arith, length-append (to_be_bytes w64 e.number) xs, eight)) in
        let number : from_be_bytes w64 (to_be_bytes w64 e.number) ≡ e.number = from_be_bytes-to_be_bytes_8 e.number (let k = fits.number in omega (arith, k)) in
        ap (λ (b : Bool). is_member's n (if b then Some (record { origin = e.origin; number = from_be_bytes w64 (to_be_bytes w64 e.number); command = x ∷ xs }) else None)) enough
        ∙ ap (λ (k : ℕ). is_member's n (Some (record { origin = e.origin; number = k; command = x ∷ xs }))) number
        ∙ rw (lt-ltb e.origin n fits.origin, lt-ltb e.number (2 ^ 48) fits.number) refl
