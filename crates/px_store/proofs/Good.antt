-- What a commit writes leaves good rows good.
use Rattle.std.proofs.Common.{◌≡◌, ◌⊎◌, inl, inr, ℕ, pos, ◌<◌, List, [], ◌∷◌, map, Bool, true, false, not, None, Some, Option, Ordering, Less, Equal, Greater, refl, sym, ap, subst, ◌∙◌}
use Rattle.std.specs.Ordering.{is_gt, is_eq}
use Rattle.std.proofs.lemmas.Bool.{cases_Bool, cases_eq, eq-eqb, ne_eqb}
use Rattle.sqlite.specs.declared.types.Value.{Value}
use Rattle.sqlite.specs.declared.types.Value.TheVariants.{Int}
use Rattle.sqlite_value.specs.Order.{Row, column, value_cmp}
use Rattle.sqlite_value.proofs.OrderLemmas.{value_cmp_total}
use Rattle.sqlite_rules.specs.Lists.{Has}
use Rattle.sqlite_trees.specs.Tree.{has_rowid, without_rowid}
use Rattle.sqlite.specs.Tree.{Trees}
use Rattle.sqlite.specs.State.{State}
use Rattle.px_model.specs.Node.{Proposal}
use Rattle.px_model.specs.Spelling.{Bytes}
use Rattle.px_model.specs.Step.{positions}
use Rattle.px_records.specs.Records.{Place}
use Rattle.px_records.specs.Records.Place.{SlotAt, EntryAt, LastSlot, LastEntry}
use Rattle.px_store.specs.Seen.{rows_at, seen, shown, slot_columns, learned_columns, slot_in, has_ballot, any_row, is_above, is_slot, are_slot_rows, are_learned_rows, IsLastGood, record_in}
use Rattle.px_store.specs.Entries.{is_entry}
use Rattle.px_store.specs.Ready.{is_good, IsSlotGood, IsEntryGood, stored_of}
use Rattle.px_store.specs.inner.Seen.{IsKeyed, slot_row, learned_row}
use Rattle.px_store.specs.inner.Effect.{Puts}
use Rattle.px_store.specs.inner.NewRows.{IsPut, Replaces, IsGoodRow}
use Rattle.px_store.specs.inner.Store.{StaysGood}
use Rattle.px_store.specs.declared.calls.Identity.{Identity}
use Rattle.px_store.specs.declared.calls.NewRow.{NewRow}
use Rattle.px_store.specs.declared.calls.NewRow.TheVariants.{Meta, Slot, Floor, Learned}
use Rattle.px_store.proofs.Puts.{has_filter, others_at}
use Rattle.px_store.proofs.Tops.{filter_has}
use Rattle.px_store.proofs.Above.{truth_of}
use Rattle.px_store.proofs.Stored.{slot_keyed, learned_keyed}
use Rattle.px_store.proofs.Highest.{some_in, only_key}

-- ---- rows under a key and beside it

either : (p : ℕ) (rows : List Row) (x : Row) → Has rows x → Has (rows_at rows p) x ⊎ Has (without_rowid (pos p) rows) x
either p rows x h = elim (cases_Bool (has_rowid (pos p) x)) [
  | inl at ↦ inl (has_filter (has_rowid (pos p)) rows x h at)
  | inr off ↦ inr (has_filter (λ r. not (has_rowid (pos p) r)) rows x h (ap not off))
]

first_is : (a b : Row) (xs ys : List Row) → a ∷ xs ≡ b ∷ ys → a ≡ b
first_is a b xs ys e = cc

-- the row that is shown
only_row : (columns : List ℕ) (rows : List Row) (row : Row) → map (shown columns) rows ≡ row ∷ [] → (y : Row) × Has rows y × (shown columns y ≡ row)
only_row columns [] row e = absurd cc
only_row columns (y ∷ more) row e = (y, inl refl, first_is (shown columns y) row (map (shown columns) more) [] e)

is_equal : (o : Ordering) → is_eq o ≡ true → o ≡ Equal
is_equal Less e = absurd cc
is_equal Equal e = refl
is_equal Greater e = absurd cc

-- ---- the last row

module _ (test : Row → Bool) (columns : List ℕ) (first : (y : Row) → column (shown columns y) 0 ≡ column y 0) (p : ℕ) (old new : List Row) (was now : ℕ → Type 0)
    (stays : (q : ℕ) → was q → now q) (keyed : IsKeyed p (seen columns new p)) (within : p < positions) (fine : now p) (others : without_rowid (pos p) new ≡ without_rowid (pos p) old)
    (passes : (x : Row) → Has (rows_at old p) x → test x ≡ true → (y : Row) × Has (rows_at new p) y × (test y ≡ true)) where
  -- a last row beside the key was the last
  was_last : (r : Row) → ((x : Row) → Has new x → test x ≡ true → is_gt (value_cmp (column x 0) (column r 0)) ≡ false)
      → (x : Row) → Has old x → test x ≡ true → is_gt (value_cmp (column x 0) (column r 0)) ≡ false
  was_last r most x has there = elim (either p old x has) [
    | inl at ↦
        let y = passes x at there in
        let high = most y.0 (filter_has (has_rowid (pos p)) new y.0 y.1).0 y.2 in
        let key = only_key columns first p (rows_at new p) y.0 y.1 keyed in
        let even = is_equal _ (filter_has (has_rowid (pos p)) old x at).1 in
        ap is_gt (value_cmp_total.congr (column x 0) (Int (pos p)) (column r 0) even) ∙ subst (λ (v : Value). is_gt (value_cmp v (column r 0)) ≡ false) key high
    | inr off ↦ most x (filter_has (λ r. not (has_rowid (pos p) r)) new x (subst (λ rows. Has rows x) (sym others) off)).0 there
  ]

  last_stays : IsLastGood test was old → IsLastGood test now new
  last_stays good r (has, there, most) = elim (either p new r has) [
    | inl at ↦ (p, within, only_key columns first p (rows_at new p) r at keyed, fine)
    | inr off ↦
        let back = (filter_has (λ r. not (has_rowid (pos p) r)) old r (subst (λ rows. Has rows r) others off)).0 in
        let g = good r (back, there, was_last r most) in
        (g.0, g.1, g.2, stays g.0 g.3)
  ]

-- ---- slots

slot_fine : (members p a b : ℕ) (e : List ℕ) → is_slot members a b e ≡ true → are_slot_rows members p (slot_row p a b e ∷ []) ≡ true
slot_fine members p a b e good = rw (eq-eqb p p refl, good) refl

no_proposal : (a : Option (Proposal Bytes)) (x : Proposal Bytes) → a ≡ None → a ≡ Some x → ⊥
no_proposal a x none some = let e : None ≡ Some x = sym none ∙ some in cc

module _ (members : ℕ) (old new : Trees) (p a b : ℕ) (e : List ℕ) (keys : IsKeyed p (seen slot_columns (old 1) p)) (h : Puts 1 p slot_columns (slot_row p a b e) old new)
    (within : p < positions) (good : is_slot members a b e ≡ true) (none : b ≡ 0 → (slot_in (seen slot_columns (old 1) p)).accepted ≡ None) where
  slot_put : IsSlotGood members (new 1) p
  slot_put = ap (are_slot_rows members p) h.put ∙ slot_fine members p a b e good

  slot_stays : (q : ℕ) → IsSlotGood members (old 1) q → IsSlotGood members (new 1) q
  slot_stays q was = elim (cases_eq q p) [
    | inl same ↦ subst (IsSlotGood members (new 1)) (sym same) slot_put
    | inr other ↦ ap (λ rows. are_slot_rows members q (map (shown slot_columns) rows)) (others_at p q other (old 1) (new 1) (h.others keys)) ∙ was
  ]

  slot_passes : (x : Row) → Has (rows_at (old 1) p) x → has_ballot x ≡ true → (y : Row) × Has (rows_at (new 1) p) y × (has_ballot y ≡ true)
  slot_passes x has there =
      let y = only_row slot_columns (rows_at (new 1) p) (slot_row p a b e) h.put in
      let some : b ≡ 0 → ⊥ = λ zero. let s = some_in (rows_at (old 1) p) x has there in no_proposal _ s.0 (none zero) s.1 in
      let ballot : column y.0 3 ≡ Int (pos b) = ap (λ (r : Row). column r 2) y.2 in
      (y.0, y.1, ap is_above ballot ∙ truth_of b ∙ ap not (ne_eqb b 0 some))

  slots_stay : (x : Place) → is_good members old x → is_good members new x
  slots_stay (SlotAt q) was = slot_stays q was
  slots_stay (EntryAt q) was = subst (λ rows. IsEntryGood members rows q) (sym (h.trees 3 (λ e. cc))) was
  slots_stay LastSlot was =
      last_stays has_ballot slot_columns (λ y. refl) p (old 1) (new 1) (IsSlotGood members (old 1)) (IsSlotGood members (new 1)) slot_stays (slot_keyed members p (seen slot_columns (new 1) p) slot_put) within slot_put (h.others keys) slot_passes was
  slots_stay LastEntry was = subst (λ rows. IsLastGood any_row (IsEntryGood members rows) rows) (sym (h.trees 3 (λ e. cc))) was

-- ---- learned entries

entry_fine : (members p : ℕ) (e : List ℕ) → is_entry members e ≡ true → are_learned_rows members p (learned_row p e ∷ []) ≡ true
entry_fine members p e good = rw (eq-eqb p p refl, good) refl

module _ (members : ℕ) (old new : Trees) (p : ℕ) (e : List ℕ) (keys : IsKeyed p (seen learned_columns (old 3) p)) (h : Puts 3 p learned_columns (learned_row p e) old new)
    (within : p < positions) (good : is_entry members e ≡ true) where
  entry_put : IsEntryGood members (new 3) p
  entry_put = ap (are_learned_rows members p) h.put ∙ entry_fine members p e good

  entry_stays : (q : ℕ) → IsEntryGood members (old 3) q → IsEntryGood members (new 3) q
  entry_stays q was = elim (cases_eq q p) [
    | inl same ↦ subst (IsEntryGood members (new 3)) (sym same) entry_put
    | inr other ↦ ap (λ rows. are_learned_rows members q (map (shown learned_columns) rows)) (others_at p q other (old 3) (new 3) (h.others keys)) ∙ was
  ]

  entry_passes : (x : Row) → Has (rows_at (old 3) p) x → any_row x ≡ true → (y : Row) × Has (rows_at (new 3) p) y × (any_row y ≡ true)
  entry_passes x has there = let y = only_row learned_columns (rows_at (new 3) p) (learned_row p e) h.put in (y.0, y.1, refl)

  entries_stay : (x : Place) → is_good members old x → is_good members new x
  entries_stay (SlotAt q) was = subst (λ rows. IsSlotGood members rows q) (sym (h.trees 1 (λ e. cc))) was
  entries_stay (EntryAt q) was = entry_stays q was
  entries_stay LastSlot was = subst (λ rows. IsLastGood has_ballot (IsSlotGood members rows) rows) (sym (h.trees 1 (λ e. cc))) was
  entries_stay LastEntry was =
      last_stays any_row learned_columns (λ y. refl) p (old 3) (new 3) (IsEntryGood members (old 3)) (IsEntryGood members (new 3)) entry_stays (learned_keyed members p (seen learned_columns (new 3) p) entry_put) within entry_put (h.others keys) entry_passes was

-- ---- each row that is put

same_rows : (members : ℕ) (old new : Trees) → new 1 ≡ old 1 → new 3 ≡ old 3 → (x : Place) → is_good members old x → is_good members new x
same_rows members old new one three (SlotAt q) was = subst (λ rows. IsSlotGood members rows q) (sym one) was
same_rows members old new one three (EntryAt q) was = subst (λ rows. IsEntryGood members rows q) (sym three) was
same_rows members old new one three LastSlot was = subst (λ rows. IsLastGood has_ballot (IsSlotGood members rows) rows) (sym one) was
same_rows members old new one three LastEntry was = subst (λ rows. IsLastGood any_row (IsEntryGood members rows) rows) (sym three) was

pub rows_stay : (members f g : ℕ) (id : Identity) (r : NewRow) (bytes : Bytes) (old new : State) → Replaces r (stored_of members f old) → IsGoodRow members r bytes (record_in old.committed.trees)
    → IsPut id r bytes old.committed.trees new.committed.trees → StaysGood (stored_of members f old) (stored_of members g new)
rows_stay members f g id (Meta round number) bytes old new good fit h = same_rows members old.committed.trees new.committed.trees (h.trees 1 (λ e. cc)) (h.trees 3 (λ e. cc))
rows_stay members f g id (Slot p a b) bytes old new good fit h =
    slots_stay members old.committed.trees new.committed.trees p a b bytes (slot_keyed members p (seen slot_columns (old.committed.trees 1) p) good) h fit.0 fit.1.0 fit.1.1
rows_stay members f g id (Floor ballot) bytes old new good fit h = same_rows members old.committed.trees new.committed.trees (h.trees 1 (λ e. cc)) (h.trees 3 (λ e. cc))
rows_stay members f g id (Learned p) bytes old new good fit h =
    entries_stay members old.committed.trees new.committed.trees p bytes (learned_keyed members p (seen learned_columns (old.committed.trees 3) p) good) h fit.0 fit.1
