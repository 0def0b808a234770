-- The members' view of an entry's bytes is the entry.
use Rattle.std.proofs.Common.{◌≡◌, ℕ, ◌^◌, ◌<◌, ◌≤◌, true, leb, length, List, Option, Some, None, sym, ap, subst, ◌∙◌, arith}
use Rattle.std.specs.Prelude.{option_map, IfSome}
use Rattle.std.proofs.lemmas.Bool.{le-leb}
use Rattle.pf_entry.specs.Entry as entries
use Rattle.pf_entry.specs.Reading.{reading}
use Rattle.pf_entry.proofs.Takes.{IsBytes, wide64, some_is}
use Rattle.pf_entry.proofs.Whole.{reading_takes}
use Rattle.px_model.specs.Node as node
use Rattle.px_model.specs.Spelling.{Bytes, command_in, entry_in, spelled}
use Rattle.px_model.specs.Entries.{view_of}
use Rattle.px_model.specs.declared.entry.EntryView.{EntryView}
use Rattle.px_wire.specs.Message.{Lent}
use Rattle.px_wire.specs.Fields.{lent, lent_in}
use Rattle.px_wire.specs.Seen.{lent_of}

abbrev seen : (o k : ℕ) → Bytes → node.Entry Bytes
seen o k c = record { origin = o; number = k; command = c }

pub ten_bytes : (e : entries.Entry) → 10 ≤ length (entries.spelling e)
ten_bytes e = omega arith

spelling_seen : (e : entries.Entry) → e.number < 2 ^ 64 → entry_in (entries.spelling e) ≡ Some (seen e.origin e.number (command_in (entries.spelling e)))
unfolding entry_in
spelling_seen e lt =
    let long : leb 10 (length (entries.spelling e)) ≡ true = le-leb 10 (length (entries.spelling e)) (ten_bytes e) in
    rw long (ap (λ (k : ℕ). Some (seen e.origin k (command_in (entries.spelling e)))) (wide64.again e.number lt))

bytes_seen : (bytes : List ℕ) (e : entries.Entry) → entries.EntryBytes e bytes → entry_in bytes ≡ Some (seen e.origin e.number (command_in bytes))
bytes_seen bytes e d =
    let small : e.number < 2 ^ 48 = d.fits.number in
    subst (λ (b : List ℕ). entry_in b ≡ Some (seen e.origin e.number (command_in b))) (sym d.spelled) (spelling_seen e (omega (arith, small)))

none_some : {A : Type 0} (x : A) → None ≡ Some x → ⊥
none_some x e = absurd cc

abbrev lent_from : (o k : ℕ) → List ℕ → Option Lent
lent_from o k bytes = Some (record { origin = o; number = k; bytes = bytes })

view_lends : (bytes : List ℕ) (e : entries.Entry) (r : Option EntryView) → option_map view_of r ≡ Some (seen e.origin e.number (command_in bytes)) → IfSome r (λ v. spelled (view_of v) ≡ bytes) → option_map lent_of r ≡ Some (lent bytes e)
view_lends bytes e None same text = absurd (none_some (seen e.origin e.number (command_in bytes)) same)
view_lends bytes e (Some v) same text =
    let is : view_of v ≡ seen e.origin e.number (command_in bytes) = some_is _ _ same in
    let o : (view_of v).origin ≡ e.origin = ap (λ (x : node.Entry Bytes). x.origin) is in
    let k : (view_of v).number ≡ e.number = ap (λ (x : node.Entry Bytes). x.number) is in
    ap (λ (x : ℕ). lent_from x (view_of v).number (spelled (view_of v))) o
    ∙ ap (λ (x : ℕ). lent_from e.origin x (spelled (view_of v))) k
    ∙ ap (λ (x : List ℕ). lent_from e.origin e.number x) text

-- what spells an entry is lent as that entry
pub read_lends : (bytes : List ℕ) (e : entries.Entry) (r : Option EntryView) → IsBytes bytes → Some e ≡ reading bytes → option_map view_of r ≡ entry_in bytes → IfSome r (λ v. spelled (view_of v) ≡ bytes) → option_map lent_of r ≡ lent_in bytes
unfolding lent_in
read_lends bytes e r fits read same text =
    let d = reading_takes bytes e fits (sym read) in
    view_lends bytes e r (same ∙ bytes_seen bytes e d) text ∙ ap (λ (x : Option entries.Entry). option_map (lent bytes) x) read
