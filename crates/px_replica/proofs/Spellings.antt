-- An entry's bytes spell it exactly where its command has a spelling.
use Rattle.std.proofs.Common.{◌≡◌, ◌∙◌, ℕ, ◌^◌, ◌<◌, true, false, Bool, List, [], ◌∷◌, length, take, drop, refl, sym, ap, subst, arith}
use Rattle.std.specs.Prelude.{IfOk, IsOkAnd, IsTrue, Result, Ok, Err, slice_index_or}
use Rattle.std.specs.Result.{is_ok}
use Rattle.std.specs.Int.{w64, to_be_bytes, from_be_bytes}
use Rattle.pf_entry.specs.Entry as entries
use Rattle.pf_entry.specs.Entry.{EntryBytes, is_origin}
use Rattle.pf_entry.proofs.Takes.{IsBytes, wide64}
use Rattle.px_model.specs.Node.{Entry}
use Rattle.px_model.specs.Spelling.{Bytes, command_in, spelled}
use Rattle.px_wire.specs.Message.{Lent, IsSpelling}
use Rattle.px_wire.specs.Sent.{asked_by, is_command}
use Rattle.px_wire.proofs.Commands.{asked_spells, command_of_spelling}
use Rattle.px_wire.proofs.Lending.{ten_bytes}

-- what is spelled has a command
pub spelling_command : (o k : ℕ) (c : Bytes) (x : entries.Entry) → k < 2 ^ 48 → IsBytes (asked_by o k c) →
    EntryBytes x (asked_by o k c) → is_command c ≡ true
unfolding spelled command_in
spelling_command o k [] x small fits d =
    let n : 9 ≡ length (entries.spelling x) = ap length d.spelled in
    absurd (omega (arith, n, ten_bytes x))
spelling_command o k (f ∷ rest) x small fits d =
    let origin : o ≡ x.origin = ap (λ (b : List ℕ). slice_index_or b 1 0) d.spelled in
    let number : from_be_bytes w64 (to_be_bytes w64 k) ≡ from_be_bytes w64 (to_be_bytes w64 x.number) =
    ap (λ (b : List ℕ). from_be_bytes w64 (take 8 (drop 2 b))) d.spelled in
    let theirs : x.number < 2 ^ 48 = d.fits.number in
    let one : k ≡ x.number =
    sym (wide64.again k (omega (arith, small))) ∙ number ∙ wide64.again x.number (omega (arith, theirs)) in
    let lent : Lent = record { origin = o; number = k; bytes = asked_by o k (f ∷ rest) } in
    let is : IsSpelling lent = record { entry = x; spelled = d; origin = sym origin; number = sym one } in
    (command_of_spelling lent fits is).0

refused : (b : Bool) → (b ≡ true → ⊥) → false ≡ b
refused false h = refl
refused true h = absurd (h refl)

-- an entry is decoded exactly where its command has a spelling
pub decoded : {V E : Type 0} (view : V → entries.Entry) (e : Entry Bytes) (bytes : List ℕ) (r : Result V E) →
    bytes ≡ spelled e → IsTrue (is_origin e.origin) → e.number < 2 ^ 48 → IsBytes bytes →
    IfOk r (λ v. EntryBytes (view v) bytes) →
    ((x : entries.Entry) → EntryBytes x bytes → IsOkAnd r (λ v. view v ≡ x)) →
    is_ok r ≡ is_command e.command
decoded view e bytes (Ok v) is origin small fits found only =
    sym (spelling_command e.origin e.number e.command (view v) small (subst IsBytes is fits)
    (subst (λ (b : List ℕ). EntryBytes (view v) b) is found))
decoded view e bytes (Err f) is origin small fits found only =
    refused (is_command e.command) (λ h.
    let s = asked_spells e.origin e.number e.command h origin small in
    only s.entry (subst (λ (b : List ℕ). EntryBytes s.entry b) (sym is) s.spelled))
