-- What the last row shows of the record.
use Rattle.std.proofs.Common.{◌≡◌, inl, inr, ℕ, pos, zero, suc, ◌<◌, List, [], ◌∷◌, map, Bool, true, false, None, Some, IsSome, Ordering, Less, Equal, Greater, refl, sym, ap, subst, ◌∙◌, arith}
use Rattle.std.specs.Ordering.{is_gt, is_eq, int_cmp, ordering_reverse}
use Rattle.sqlite.specs.declared.types.Value.{Value}
use Rattle.sqlite.specs.Tree.{Trees}
use Rattle.px_records.specs.Records.Place.{SlotAt, EntryAt, LastSlot, LastEntry}
use Rattle.px_store.specs.Ready.{is_good, IsSlotGood, IsEntryGood}
use Rattle.px_store.proofs.Stored.{slot_keyed, learned_keyed}
use Rattle.std.proofs.lemmas.Bool.{cases_lt, cases_Bool, le-ltb}
use Rattle.sqlite.specs.declared.types.Value.TheVariants.{Int}
use Rattle.sqlite_value.specs.Order.{Row, column, value_cmp}
use Rattle.sqlite_value.proofs.OrderLemmas.{value_cmp-Int, value_cmp_total}
use Rattle.sqlite_rules.specs.Lists.{Has}
use Rattle.sqlite_trees.specs.Tree.{has_rowid}
use Rattle.px_model.specs.Node.{Slot, Proposal}
use Rattle.px_model.specs.Step.{top_below, top, positions}
use Rattle.px_model.specs.Spelling.{Bytes}
use Rattle.px_records.specs.Records.{IsEnd}
use Rattle.px_records.proofs.Peaks.{below_is, nothing_top}
use Rattle.px_store.specs.Entries.{entry_of}
use Rattle.px_store.specs.Seen.{rows_at, seen, shown, slot_columns, learned_columns, slot_in, learned_in, accepted_in}
use Rattle.px_store.specs.Seen.{number_in, bytes_in, has_ballot, any_row, IsLastGood}
use Rattle.px_store.specs.inner.Seen.{EndsAt, IsKeyed}
use Rattle.px_store.proofs.Puts.{has_filter}
use Rattle.px_store.proofs.Tops.{filter_has}
use Rattle.px_store.proofs.Above.{greater}

-- ---- keys

over : (q n : ℕ) → n < q → (x : Row) → has_rowid (pos q) x ≡ true → is_gt (value_cmp (column x 0) (Int (pos n))) ≡ true
over q n up x has = go (value_cmp (column x 0) (Int (pos q))) refl has
  where
    go : (o : Ordering) → value_cmp (column x 0) (Int (pos q)) ≡ o → is_eq o ≡ true → is_gt (value_cmp (column x 0) (Int (pos n))) ≡ true
    go Equal e it = ap is_gt (value_cmp_total.congr (column x 0) (Int (pos q)) (Int (pos n)) e) ∙ ap is_gt (value_cmp-Int (pos q) (pos n)) ∙ greater q n up
    go Less e it = absurd cc
    go Greater e it = absurd cc

pub same_key : (n : ℕ) → is_eq (value_cmp (Int (pos n)) (Int (pos n))) ≡ true
same_key n =
    let even : int_cmp (pos n) (pos n) ≡ Equal = rw (le-ltb n n (omega arith)) refl in
    ap is_eq (value_cmp-Int (pos n) (pos n)) ∙ ap is_eq even

-- the rows of a higher key don't pass
module _ (test : Row → Bool) (rows : List Row) (n : ℕ) (most : (x : Row) → Has rows x → test x ≡ true → is_gt (value_cmp (column x 0) (Int (pos n))) ≡ false) where
  none_over : (q : ℕ) → n < q → (x : Row) → Has (rows_at rows q) x → test x ≡ false
  none_over q up x h =
      let both = filter_has (has_rowid (pos q)) rows x h in
      elim (cases_Bool (test x)) [
        | inl passes ↦ absurd (let e : true ≡ false = sym (over q n up x both.1) ∙ most x both.0 passes in cc)
        | inr not_it ↦ not_it
      ]

-- ---- slots

none_in : (rows : List Row) → ((r : Row) → Has rows r → has_ballot r ≡ false) → accepted_in (map (shown slot_columns) rows) ≡ None
none_in [] h = refl
none_in (r ∷ rows) h = rw (h r (inl refl)) (none_in rows (λ x k. h x (inr k)))

abbrev proposal : Row → Proposal Bytes
proposal r = record { ballot = number_in (column r 3); entry = entry_of (bytes_in (column r 4)) }

pub some_in : (rows : List Row) (r : Row) → Has rows r → has_ballot r ≡ true → (x : Proposal Bytes) × (accepted_in (map (shown slot_columns) rows) ≡ Some x)
some_in [] r h there = absurd h
some_in (y ∷ rows) r h there = go (has_ballot y) refl h (λ later. some_in rows r later there)
  where
    Found : List Row → Type 0
    Found found = (x : Proposal Bytes) × (accepted_in (map (shown slot_columns) found) ≡ Some x)

    go : (b : Bool) → has_ballot y ≡ b → Has (y ∷ rows) r → (Has rows r → Found rows) → Found (y ∷ rows)
    go true is h more = (proposal y, rw is refl)
    go false is (inl same) more = absurd (let e : false ≡ true = sym is ∙ ap has_ballot (sym same) ∙ there in cc)
    go false is (inr later) more = let found = more later in (found.0, rw is found.1)

-- nothing is accepted above n
nothing_above : {C : Type 0} (slots : ℕ → Slot C) (n : ℕ) (x : Proposal C) → (slots n).accepted ≡ Some x → ((q : ℕ) → n < q → (slots q).accepted ≡ None) → (m : ℕ) → n < m → top_below slots m ≡ suc n
nothing_above slots n x some none zero up = absurd (omega (arith, up))
nothing_above slots n x some none (suc m) up = elim (cases_lt n m) [
  | inl lt ↦ below_is slots m None (none m lt) ∙ nothing_above slots n x some none m lt
  | inr le ↦
      let same : m ≡ n = omega (arith, up, le) in
      below_is slots m (Some x) (ap (λ p. (slots p).accepted) same ∙ some) ∙ ap suc same
]

highest : {C : Type 0} (slots : ℕ → Slot C) (n : ℕ) (x : Proposal C) → (slots n).accepted ≡ Some x → ((q : ℕ) → n < q → (slots q).accepted ≡ None) → n < positions → top slots ≡ suc n
unfolding top
highest slots n x some none within = nothing_above slots n x some none positions within

pub top_is : (rows : List Row) (t : ℕ) → EndsAt has_ballot rows t → t ≡ top (λ p. slot_in (seen slot_columns rows p))
top_is rows zero none =
    sym (nothing_top (λ p. slot_in (seen slot_columns rows p)) (λ p. none_in (rows_at rows p) (λ r h. none r (filter_has (has_rowid (pos p)) rows r h).0)))
top_is rows (suc n) (within, (r, has, there, key), most) =
    let some = some_in (rows_at rows n) r (has_filter (has_rowid (pos n)) rows r has (rw key (same_key n))) there in
    sym (highest (λ p. slot_in (seen slot_columns rows p)) n some.0 some.1 (λ q up. none_in (rows_at rows q) (none_over has_ballot rows n most q up)) within)

-- ---- learned entries

empty_in : (rows : List Row) → ((r : Row) → Has rows r → ⊥) → learned_in (map (shown learned_columns) rows) ≡ None
empty_in [] h = refl
empty_in (r ∷ rows) h = absurd (h r (inl refl))

full_in : (rows : List Row) (r : Row) → Has rows r → IsSome (learned_in (map (shown learned_columns) rows))
full_in [] r h = absurd h
full_in (y ∷ rows) r h = refl

pub end_is : (rows : List Row) (t : ℕ) → EndsAt any_row rows t → IsEnd (λ p. learned_in (seen learned_columns rows p)) t
end_is rows zero none = λ p. empty_in (rows_at rows p) (λ r h. let e : true ≡ false = none r (filter_has (has_rowid (pos p)) rows r h).0 in absurd cc)
end_is rows (suc n) (within, (r, has, there, key), most) = (
  full_in (rows_at rows n) r (has_filter (has_rowid (pos n)) rows r has (rw key (same_key n))),
  λ p up. empty_in (rows_at rows p) (λ x h. let e : true ≡ false = none_over any_row rows n most p (omega (arith, up)) x h in absurd cc),
)

-- ---- the last row is good

-- where one row shows a key, that is the row's
pub only_key : (columns : List ℕ) → ((y : Row) → column (shown columns y) 0 ≡ column y 0) → (p : ℕ) (rows : List Row) (r : Row) → Has rows r → IsKeyed p (map (shown columns) rows) → column r 0 ≡ Int (pos p)
only_key columns keeps p [] r has key = absurd has
only_key columns keeps p (y ∷ []) r (inl same) key = ap (λ z. column z 0) same ∙ sym (keeps y) ∙ key
only_key columns keeps p (y ∷ []) r (inr none) key = absurd none
only_key columns keeps p (y ∷ z ∷ more) r has key = absurd key

neither : (o : Ordering) → is_gt o ≡ false → is_gt (ordering_reverse o) ≡ false → is_eq o ≡ true
neither Less a b = absurd cc
neither Equal a b = refl
neither Greater a b = absurd cc

last_good : (test : Row → Bool) (columns : List ℕ) → ((y : Row) → column (shown columns y) 0 ≡ column y 0) → (good : ℕ → Type 0) (rows : List Row) → ((p : ℕ) → good p → IsKeyed p (seen columns rows p))
    → (t : ℕ) → EndsAt test rows t → ((p : ℕ) → t ≡ suc p → good p) → IsLastGood test good rows
last_good test columns keeps good rows keys zero none named r (has, there, greatest) = absurd (let e : true ≡ false = sym there ∙ none r has in cc)
last_good test columns keeps good rows keys (suc n) (within, (s, also, passes, at), most) named r (has, there, greatest) =
    let low = most r has there in
    let high : is_gt (value_cmp (Int (pos n)) (column r 0)) ≡ false = subst (λ (v : Value). is_gt (value_cmp v (column r 0)) ≡ false) at (greatest s also passes) in
    let even = neither (value_cmp (column r 0) (Int (pos n))) low (sym (ap is_gt (value_cmp_total.antisymm _ _)) ∙ high) in
    let is = named n refl in
    (n, within, only_key columns keeps n (rows_at rows n) r (has_filter (has_rowid (pos n)) rows r has even) (keys n is), is)

pub last_slot : (members : ℕ) (db : Trees) (t : ℕ) → EndsAt has_ballot (db 1) t → ((p : ℕ) → t ≡ suc p → is_good members db (SlotAt p)) → is_good members db LastSlot
last_slot members db t ends named =
    last_good has_ballot slot_columns (λ y. refl) (IsSlotGood members (db 1)) (db 1) (λ p good. slot_keyed members p (seen slot_columns (db 1) p) good) t ends named

pub last_entry : (members : ℕ) (db : Trees) (t : ℕ) → EndsAt any_row (db 3) t → ((p : ℕ) → t ≡ suc p → is_good members db (EntryAt p)) → is_good members db LastEntry
last_entry members db t ends named =
    last_good any_row learned_columns (λ y. refl) (IsEntryGood members (db 3)) (db 3) (λ p good. learned_keyed members p (seen learned_columns (db 3) p) good) t ends named
