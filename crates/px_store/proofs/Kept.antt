-- Each of the four statements that write, on the rows and on the record.
use Rattle.std.proofs.Common.{◌≡◌, inl, inr, ℕ, ℤ, pos, List, [], ◌∷◌, map, Bool, true, false, cond, Some, refl, sym, ap, ◌∙◌}
use Rattle.std.proofs.lemmas.Bool.{cases_eq, eq-eqb, ne_eqb}
use Rattle.sqlite.specs.declared.types.Value.{Value}
use Rattle.sqlite.specs.declared.types.Value.TheVariants.{Null, Int, Blob}
use Rattle.sqlite_value.specs.Order.{Row}
use Rattle.sqlite.specs.Kind.TheVariants.{Integer}
use Rattle.sqlite.specs.Ops.{unary}
use Rattle.sqlite.specs.Cast.{cast, cast_row}
use Rattle.sqlite.specs.Tree.{Trees}
use Rattle.std.proofs.Math.Path.{fun_ext}
use Rattle.px_model.specs.Node.{Record, Meta, Slot, Log}
use Rattle.px_model.specs.Spelling.{Bytes}
use Rattle.px_model.specs.Step.{put}
use Rattle.px_store.specs.Entries.{entry_of}
use Rattle.px_store.specs.Tables.{meta, slots, floor, learned}
use Rattle.px_store.specs.inner.Tables.{put_meta, put_slot, put_floor, put_learned, meta_params, slot_params}
use Rattle.px_store.specs.Seen.{rows_at, shown, seen, slot_in, learned_in, number_at, slot_columns, learned_columns}
use Rattle.px_store.specs.Seen.{meta_columns, meta_row, floor_columns, record_in}
use Rattle.px_store.specs.inner.Seen.{IsKeyed, slot_row, slot_with, learned_row, floor_row}
use Rattle.px_store.specs.inner.Effect.{Puts}
use Rattle.px_store.proofs.Texts.{replace, meta_terms, slot_terms, floor_terms, learned_terms}
use Rattle.px_store.proofs.Above.{slot_one}
use Rattle.px_store.proofs.Puts.{Goes, replaced, keyed, others_at}

-- ---- values are stored as they are

either : (b : Bool) (x : Value) → cond b x x ≡ x
either true x = refl
either false x = refl

cast_int : (n : ℤ) → cast Integer (Int n) ≡ Int n
unfolding unary
cast_int n = either _ (Int n)

cast_null : cast Integer Null ≡ Null
unfolding unary
cast_null = either _ Null

-- ---- each statement on the rows

abbrev stored_meta : (cluster members node round number : ℕ) → Row
stored_meta c m n round number = Null ∷ Int (pos 3) ∷ Int (pos c) ∷ Int (pos m) ∷ Int (pos n) ∷ Int (pos round) ∷ Int (pos number) ∷ []

cast_meta : (c m n round number : ℕ) → cast_row meta (Int (pos 1) ∷ stored_meta c m n round number) ≡ Int (pos 1) ∷ stored_meta c m n round number
cast_meta c m n round number =
    rw (cast_int (pos 1), cast_null, cast_int (pos 3), cast_int (pos c), cast_int (pos m), cast_int (pos n), cast_int (pos round), cast_int (pos number)) refl

pub goes_meta : (c m n round number : ℕ) → Goes put_meta (replace 0 meta_terms 8) (meta_params c m n round number) 0 1 meta_columns (meta_row 3 c m n round number)
goes_meta c m n round number limit mode db tally after h =
    let r = replaced limit mode.keys meta (meta_params c m n round number) 1 (stored_meta c m n round number) (cast_meta c m n round number) refl refl 0 8 meta_terms refl mode db tally after h in
    (record { put = ap (map (shown meta_columns)) r.0.alone; others = λ keys. r.0.others (keyed (2 ∷ 3 ∷ 4 ∷ 5 ∷ 6 ∷ 7 ∷ []) 1 (rows_at (db 0) 1) keys); trees = r.0.trees }, r.1)

abbrev stored_slot : (promised ballot : ℕ) → List ℕ → Row
stored_slot a b e = Null ∷ Int (pos a) ∷ Int (pos b) ∷ Blob e ∷ []

cast_slot : (p a b : ℕ) (e : List ℕ) → cast_row slots (Int (pos p) ∷ stored_slot a b e) ≡ Int (pos p) ∷ stored_slot a b e
cast_slot p a b e = rw (cast_int (pos p), cast_null, cast_int (pos a), cast_int (pos b)) refl

pub goes_slot : (p a b : ℕ) (e : List ℕ) → Goes put_slot (replace 1 slot_terms 5) (slot_params p a b e) 1 p slot_columns (slot_row p a b e)
goes_slot p a b e limit mode db tally after h =
    let r = replaced limit mode.keys slots (slot_params p a b e) p (stored_slot a b e) (cast_slot p a b e) refl refl 1 5 slot_terms refl mode db tally after h in
    (record { put = ap (map (shown slot_columns)) r.0.alone; others = λ keys. r.0.others (keyed (2 ∷ 3 ∷ 4 ∷ []) p (rows_at (db 1) p) keys); trees = r.0.trees }, r.1)

cast_floor : (b : ℕ) → cast_row floor (Int (pos 1) ∷ Null ∷ Int (pos b) ∷ []) ≡ Int (pos 1) ∷ Null ∷ Int (pos b) ∷ []
cast_floor b = rw (cast_int (pos 1), cast_null, cast_int (pos b)) refl

pub goes_floor : (b : ℕ) → Goes put_floor (replace 2 floor_terms 3) (Int (pos b) ∷ []) 2 1 floor_columns (floor_row b)
goes_floor b limit mode db tally after h =
    let r = replaced limit mode.keys floor (Int (pos b) ∷ []) 1 (Null ∷ Int (pos b) ∷ []) (cast_floor b) refl refl 2 3 floor_terms refl mode db tally after h in
    (record { put = ap (map (shown floor_columns)) r.0.alone; others = λ keys. r.0.others (keyed (2 ∷ []) 1 (rows_at (db 2) 1) keys); trees = r.0.trees }, r.1)

cast_learned : (p : ℕ) (e : List ℕ) → cast_row learned (Int (pos p) ∷ Null ∷ Blob e ∷ []) ≡ Int (pos p) ∷ Null ∷ Blob e ∷ []
cast_learned p e = rw (cast_int (pos p), cast_null) refl

pub goes_learned : (p : ℕ) (e : List ℕ) → Goes put_learned (replace 3 learned_terms 3) (Int (pos p) ∷ Blob e ∷ []) 3 p learned_columns (learned_row p e)
goes_learned p e limit mode db tally after h =
    let r = replaced limit mode.keys learned (Int (pos p) ∷ Blob e ∷ []) p (Null ∷ Blob e ∷ []) (cast_learned p e) refl refl 3 3 learned_terms refl mode db tally after h in
    (record { put = ap (map (shown learned_columns)) r.0.alone; others = λ keys. r.0.others (keyed (2 ∷ []) p (rows_at (db 3) p) keys); trees = r.0.trees }, r.1)

-- ---- and on the record

-- the row that was put reads so
pub slot_back : (p a b : ℕ) (e : List ℕ) → slot_in (slot_row p a b e ∷ []) ≡ slot_with a b e
slot_back p a b e = sym (slot_one (slot_row p a b e) refl)

abbrev Slots : Type 0
Slots = ℕ → Slot Bytes

module _ (old db : Trees) where
  abbrev was : Record Bytes
  was = record_in old

  whole : (meta : Meta) (slots : Slots) (log : Log Bytes) → (record_in db).meta ≡ meta → ((p : ℕ) → (record_in db).slots p ≡ slots p) → ((p : ℕ) → (record_in db).learned p ≡ log p)
      → record_in db ≡ record { meta = meta; slots = slots; learned = log }
  whole meta slots log m s l =
      ap (λ (x : Meta). record { meta = x; slots = (record_in db).slots; learned = (record_in db).learned }) m
      ∙ ap (λ (x : Slots). record { meta = meta; slots = x; learned = (record_in db).learned }) (fun_ext s)
      ∙ ap (λ (x : Log Bytes). record { meta = meta; slots = slots; learned = x }) (fun_ext l)

  pub meta_kept : (c m n round number : ℕ) → Puts 0 1 meta_columns (meta_row 3 c m n round number) old db
      → record_in db ≡ record was { meta = record was.meta { round = round; number = number } }
  meta_kept c m n round number h =
      let two : db 2 ≡ old 2 = h.trees 2 (λ e. cc) in
      let r : number_at 5 (seen meta_columns (db 0) 1) ≡ round = ap (number_at 5) h.put in
      let k : number_at 6 (seen meta_columns (db 0) 1) ≡ number = ap (number_at 6) h.put in
      whole _ _ _ (rw (r, k, two) refl) (λ p. ap (λ rows. slot_in (seen slot_columns rows p)) (h.trees 1 (λ e. cc)))
      (λ p. ap (λ rows. learned_in (seen learned_columns rows p)) (h.trees 3 (λ e. cc)))

  pub floor_kept : (b : ℕ) → Puts 2 1 floor_columns (floor_row b) old db → record_in db ≡ record was { meta = record was.meta { floor = b } }
  floor_kept b h =
      let zero : db 0 ≡ old 0 = h.trees 0 (λ e. cc) in
      let f : number_at 1 (seen floor_columns (db 2) 1) ≡ b = ap (number_at 1) h.put in
      whole _ _ _ (rw (f, zero) refl) (λ p. ap (λ rows. slot_in (seen slot_columns rows p)) (h.trees 1 (λ e. cc)))
      (λ p. ap (λ rows. learned_in (seen learned_columns rows p)) (h.trees 3 (λ e. cc)))

  pub slot_kept : (p a b : ℕ) (e : List ℕ) → IsKeyed p (seen slot_columns (old 1) p) → Puts 1 p slot_columns (slot_row p a b e) old db → record_in db ≡ record was { slots = put was.slots p (slot_with a b e) }
  slot_kept p a b e keys h =
      let zero : db 0 ≡ old 0 = h.trees 0 (λ e. cc) in
      let two : db 2 ≡ old 2 = h.trees 2 (λ e. cc) in
      whole _ (put was.slots p (slot_with a b e)) _ (rw (zero, two) refl) (λ q. elim (cases_eq q p) [
        | inl same ↦ rw (eq-eqb q p same) (ap (λ k. slot_in (seen slot_columns (db 1) k)) same ∙ ap slot_in h.put ∙ slot_back p a b e)
        | inr other ↦ rw (ne_eqb q p other) (ap (λ rows. slot_in (map (shown slot_columns) rows)) (others_at p q other (old 1) (db 1) (h.others keys)))
      ])
      (λ p. ap (λ rows. learned_in (seen learned_columns rows p)) (h.trees 3 (λ e. cc)))

  pub learned_kept : (p : ℕ) (e : List ℕ) → IsKeyed p (seen learned_columns (old 3) p) → Puts 3 p learned_columns (learned_row p e) old db → record_in db ≡ record was { learned = put was.learned p (Some (entry_of e)) }
  learned_kept p e keys h =
      let zero : db 0 ≡ old 0 = h.trees 0 (λ e. cc) in
      let two : db 2 ≡ old 2 = h.trees 2 (λ e. cc) in
      whole _ _ (put was.learned p (Some (entry_of e))) (rw (zero, two) refl) (λ p. ap (λ rows. slot_in (seen slot_columns rows p)) (h.trees 1 (λ e. cc)))
      (λ q. elim (cases_eq q p) [
        | inl same ↦ rw (eq-eqb q p same) (ap (λ k. learned_in (seen learned_columns (db 3) k)) same ∙ ap learned_in h.put)
        | inr other ↦ rw (ne_eqb q p other) (ap (λ rows. learned_in (map (shown learned_columns) rows)) (others_at p q other (old 3) (db 3) (h.others keys)))
      ])
