-- The format of a store follows from whose it is.
use Rattle.std.proofs.Common.{◌≡◌, ℕ, List, [], ◌∷◌, Bool, true, false, not, cond, ◌&&◌, Some, None, refl, sym, ◌∙◌}
use Rattle.std.proofs.lemmas.Bool.{ne_eqb, and_parts, eqb-true}
use Rattle.std.specs.Prelude.{Result, Ok, Err, IfErr, OnOk}
use Rattle.sqlite_value.specs.Order.{Row, column}
use Rattle.sqlite.specs.Tree.{Trees}
use Rattle.sqlite.specs.State.{State}
use Rattle.px_model.specs.Node.{Record}
use Rattle.px_model.specs.Spelling.{Bytes}
use Rattle.px_store.specs.Tables.{schema_3}
use Rattle.px_store.specs.Adopting.{IsVerdict}
use Rattle.px_store.specs.inner.Adopting.{Shows}
use Rattle.px_store.specs.Seen.{seen, meta_columns, floor_columns, number_in, is_number}
use Rattle.px_store.specs.Formats.{trees_at, number_of}
use Rattle.px_store.specs.Judging.{refusal, refusal_of, has_rows, has_format, names_member, has_numbers, has_owner, are_floor_rows, IsOwn}
use Rattle.px_store.specs.declared.calls.Identity.{Identity}
use Rattle.px_store.specs.declared.formats.Format.{Format}
use Rattle.px_store.specs.declared.formats.Format.TheVariants.{One, Two, Three}
use Rattle.px_store.specs.declared.fault.AdoptFault.{AdoptFault}
use Rattle.px_store.specs.declared.fault.AdoptFault.TheVariants.{StoreVersion, BadStore, WrongNode}

-- the first test holds where nothing is refused
first_holds : (a b c : Bool) → cond (not a) (Some StoreVersion) (cond (not b) (Some BadStore) (cond c None (Some WrongNode))) ≡ None → a ≡ true
first_holds false b c e = absurd cc
first_holds true b c e = refl

-- where it doesn't hold the refusal is 73
first_fails : (a b c : Bool) (e : AdoptFault) → a ≡ false → cond (not a) (Some StoreVersion) (cond (not b) (Some BadStore) (cond c None (Some WrongNode))) ≡ Some e → e ≡ StoreVersion
first_fails true b c e is h = absurd cc
first_fails false b c e is h = cc

-- the row of a store that isn't refused as one of this format has the format
one_row : (n : ℕ) (id : Identity) (floor : List Row) (r : Row) (more : Bool) → refusal_of n id (r ∷ []) floor more ≡ None → has_format n r ≡ true
one_row n id floor r more h = first_holds (has_format n r) (names_member r && has_numbers r && are_floor_rows (number_in (column r 3)) floor) (has_owner id r) h

number_of_format : (n : ℕ) (r : Row) → has_format n r ≡ true → number_in (column r 1) ≡ n
number_of_format n r h = eqb-true (number_in (column r 1)) n (and_parts (is_number (column r 1)) _ h).1

other_format : (n : ℕ) (r : Row) → has_format 3 r ≡ true → (n ≡ 3 → ⊥) → has_format n r ≡ false
other_format n r h ne =
    let is : is_number (column r 1) ≡ true = (and_parts (is_number (column r 1)) _ h).0 in
    rw (is, ne_eqb (number_in (column r 1)) n (λ e. ne (sym e ∙ number_of_format 3 r h))) refl

-- a store that isn't refused as one of format 3 is refused as one of another with 73
other : (n : ℕ) (id : Identity) (rows floor3 floor : List Row) (more3 more : Bool) → (n ≡ 3 → ⊥) → has_rows rows ≡ true → refusal_of 3 id rows floor3 more3 ≡ None
    → (e : AdoptFault) → refusal_of n id rows floor more ≡ Some e → e ≡ StoreVersion
other n id [] floor3 floor more3 more ne has own e h = absurd cc
other n id (r ∷ x ∷ rest) floor3 floor more3 more ne has own e h = absurd cc
other n id (r ∷ []) floor3 floor more3 more ne has own e h =
    first_fails (has_format n r) (names_member r && has_numbers r && are_floor_rows (number_in (column r 3)) floor) (has_owner id r) e
    (other_format n r (one_row 3 id floor3 r more3 own) ne) h

-- and isn't taken
none_other : (n : ℕ) (id : Identity) (rows floor3 floor : List Row) (more3 more : Bool) → has_rows rows ≡ true → refusal_of 3 id rows floor3 more3 ≡ None
    → refusal_of n id rows floor more ≡ None → n ≡ 3
none_other n id [] floor3 floor more3 more has own h = absurd cc
none_other n id (r ∷ x ∷ rest) floor3 floor more3 more has own h = absurd cc
none_other n id (r ∷ []) floor3 floor more3 more has own h =
    sym (number_of_format n r (one_row n id floor r more h)) ∙ number_of_format 3 r (one_row 3 id floor3 r more3 own)

three_is : (f : Format) → number_of f ≡ 3 → f ≡ Three
three_is One e = absurd cc
three_is Two e = absurd cc
three_is Three e = refl

-- a store whose rows are those of format 3 is taken as one of format 3
pub own_three : (f : Format) (id : Identity) (db : Trees) → IsOwn id db → refusal f id db ≡ None → f ≡ Three
own_three f id db own h =
    three_is f (none_other (number_of f) id (seen meta_columns (db 0) 1) (seen floor_columns (trees_at Three db 2) 1) (seen floor_columns (trees_at f db 2) 1) _ _ own.row own.adopted h)

none_some : (e : AdoptFault) → None ≡ Some e → ⊥
none_some e h = cc

-- else it is refused with 73
pub own_refused : (f : Format) (id : Identity) (db : Trees) → IsOwn id db → (e : AdoptFault) → refusal f id db ≡ Some e → e ≡ StoreVersion
own_refused One id db own e h =
    other 1 id (seen meta_columns (db 0) 1) (seen floor_columns (trees_at Three db 2) 1) (seen floor_columns (trees_at One db 2) 1) _ _ (λ x. cc) own.row own.adopted e h
own_refused Two id db own e h =
    other 2 id (seen meta_columns (db 0) 1) (seen floor_columns (trees_at Three db 2) 1) (seen floor_columns (trees_at Two db 2) 1) _ _ (λ x. cc) own.row own.adopted e h
own_refused Three id db own e h = absurd (none_some e (sym own.adopted ∙ h))

pub judged_own : {X : Type 0} (r : Result X AdoptFault) (f : Format) (id : Identity) (db : Trees) → IfErr r (λ e. IsVerdict e → refusal f id db ≡ Some e) → IsOwn id db
    → IfErr r (λ e. IsVerdict e → e ≡ StoreVersion)
judged_own (Ok x) f id db h own = tt
judged_own (Err e) f id db h own = λ verdict. own_refused f id db own e (h verdict)

pub never_own : {X : Type 0} (r : Result X AdoptFault) → IfErr r (λ e. IsVerdict e → ⊥) → IfErr r (λ e. IsVerdict e → e ≡ StoreVersion)
never_own (Ok x) h = tt
never_own (Err e) h = λ verdict. absurd (h verdict)

pub shows_tables : {X : Type 0} (r : Result X AdoptFault) (d : Record Bytes) (new : State) → OnOk r (Shows d new) → OnOk r (new.now.schema ≡ schema_3)
shows_tables (Ok x) d new h = h.schema
shows_tables (Err e) d new h = tt

pub on_ok : {X : Type 0} {P : Type 0} (r : Result X AdoptFault) → P → OnOk r P
on_ok (Ok x) p = p
on_ok (Err e) p = tt
