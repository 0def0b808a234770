-- What a store that is opened shows.
use Rattle.std.proofs.Common.{◌≡◌, ◌⊎◌, inl, inr, ℕ, pos, ◌<◌, ◌≤◌, ◌^◌, List, [], ◌∷◌, map, Bool, true, false, not, cond, ◌&&◌, ◌||◌, None, Some, refl, sym, ap, subst, subst₂, ◌∙◌, arith, length}
use Rattle.std.proofs.lemmas.Bool.{ne_eqb, and_parts, and_from, eqb-true, eq-eqb, lt-ltb, le-leb}
use Rattle.sqlite.specs.declared.types.Value.TheVariants.{Int}
use Rattle.sqlite_value.specs.Order.{Row, column}
use Rattle.sqlite.specs.Effect.{Database}
use Rattle.sqlite.specs.Tree.{Trees}
use Rattle.sqlite.specs.State.{State}
use Rattle.px_model.specs.Node.{Record}
use Rattle.px_model.specs.Spelling.{Bytes}
use Rattle.px_model.specs.World.{nothing_stored}
use Rattle.px_store.specs.Formats.{record_at, trees_at, number_of, schema_at, tables_in, has_table}
use Rattle.px_store.specs.declared.formats.Format.{Format}
use Rattle.px_store.specs.declared.formats.Format.TheVariants.{One, Two, Three}
use Rattle.px_store.specs.inner.Making.{Brought}
use Rattle.px_store.specs.Adopting.{IsSame, Began, AreBrought, IsBrought, IsMade}
use Rattle.px_store.specs.inner.Adopting.{Shows}
use Rattle.px_store.specs.Judging.{refusal, refusal_of, are_floor_rows, has_format, names_member, has_numbers, has_owner, is_member_of, has_rows}
use Rattle.px_store.specs.declared.fault.AdoptFault.TheVariants.{StoreVersion, BadStore, WrongNode}
use Rattle.std.specs.Prelude.{nat_lt, nat_le}
use Rattle.px_store.specs.Seen.{number_at, number_in, slot_in, learned_in, slot_columns, learned_columns, record_in}
use Rattle.px_store.specs.Seen.{rows_at, seen, shown, meta_columns, meta_row, floor_columns}
use Rattle.px_store.specs.inner.Seen.{floor_rows, HasNumber, IsMetaIn, IsFloorIn}
use Rattle.px_store.specs.inner.Effect.{IsAlike}
use Rattle.px_store.specs.declared.calls.Identity.{Identity}
use Rattle.px_store.proofs.Above.{number_is}

number_in_row : (r : Row) (at n : ℕ) → HasNumber r at n → column r at ≡ Int (pos n)
number_in_row r at n h = number_is (column r at) h.0 ∙ ap (λ k. Int (pos k)) h.1

module _ (c m n round number : ℕ) where
  one_row : (x : Row) → IsMetaIn c m n round number (shown meta_columns x ∷ []) → shown meta_columns x ≡ meta_row 3 c m n round number
  one_row x h =
      let r = shown meta_columns x in
      let a : column x 0 ≡ Int (pos 1) = number_in_row r 0 1 h.0 in
      let b : column x 2 ≡ Int (pos 3) = number_in_row r 1 3 h.1.0 in
      let d : column x 3 ≡ Int (pos c) = number_in_row r 2 c h.1.1.0 in
      let e : column x 4 ≡ Int (pos m) = number_in_row r 3 m h.1.1.1.0 in
      let f : column x 5 ≡ Int (pos n) = number_in_row r 4 n h.1.1.1.1.0 in
      let i : column x 6 ≡ Int (pos round) = number_in_row r 5 round h.1.1.1.1.1.0 in
      let j : column x 7 ≡ Int (pos number) = number_in_row r 6 number h.1.1.1.1.1.1 in
      rw (a, b, d, e, f, i, j) refl

  meta_from : (found answer : List Row) → map (shown meta_columns) found ≡ answer → IsMetaIn c m n round number answer → map (shown meta_columns) found ≡ meta_row 3 c m n round number ∷ []
  meta_from found answer same h = go found (subst (IsMetaIn c m n round number) (sym same) h)
    where
      go : (found : List Row) → IsMetaIn c m n round number (map (shown meta_columns) found) → map (shown meta_columns) found ≡ meta_row 3 c m n round number ∷ []
      go [] h = absurd h
      go (x ∷ []) h = ap (λ r. r ∷ []) (one_row x h)
      go (x ∷ y ∷ more) h = absurd h

  pub meta_shown : (rows answer : List Row) → IsAlike (seen meta_columns rows 1) answer → IsMetaIn c m n round number answer → seen meta_columns rows 1 ≡ meta_row 3 c m n round number ∷ []
  meta_shown rows answer (inl same) h = meta_from (rows_at rows 1) answer same h
  meta_shown rows [] (inr two) h = absurd h
  meta_shown rows (r ∷ []) (inr two) h = absurd (omega (arith, two.1))
  meta_shown rows (r ∷ x ∷ more) (inr two) h = absurd h

floor_from : (b : ℕ) (found answer : List Row) → map (shown floor_columns) found ≡ answer → IsFloorIn b answer → map (shown floor_columns) found ≡ floor_rows b
floor_from b found answer same h = go found (subst (IsFloorIn b) (sym same) h)
  where
    go : (found : List Row) → IsFloorIn b (map (shown floor_columns) found) → map (shown floor_columns) found ≡ floor_rows b
    go [] h = rw h refl
    go (x ∷ []) h =
        let r = shown floor_columns x in
        let a : column x 0 ≡ Int (pos 1) = number_in_row r 0 1 h.0 in
        let d : column x 2 ≡ Int (pos b) = number_in_row r 1 b h.1.0 in
        let more = h.1.1 in
        rw (a, d, ne_eqb b 0 (λ e. omega (arith, e, more))) refl
    go (x ∷ y ∷ more) h = absurd h

pub floor_shown : (b : ℕ) (rows answer : List Row) → IsAlike (seen floor_columns rows 1) answer → IsFloorIn b answer → seen floor_columns rows 1 ≡ floor_rows b
floor_shown b rows answer (inl same) h = floor_from b (rows_at rows 1) answer same h
floor_shown b rows [] (inr two) h = absurd (omega (arith, two.1))
floor_shown b rows (r ∷ []) (inr two) h = absurd (omega (arith, two.1))
floor_shown b rows (r ∷ x ∷ more) (inr two) h = absurd h

-- fewer than two rows are those that were asked for
pub alike_few : (rows answer : List Row) → IsAlike rows answer → length answer < 2 → rows ≡ answer
alike_few rows answer (inl same) few = same
alike_few rows answer (inr two) few = absurd (let k = two.1 in omega (arith, k, few))

-- ---- the record that was brought

build : (round number : ℕ) (slots floor learned : List Row) → Record Bytes
build round number slots floor learned = record {
  meta = record { round = round; number = number; floor = number_at 1 (seen floor_columns floor 1) };
  slots = λ p. slot_in (seen slot_columns slots p);
  learned = λ p. learned_in (seen learned_columns learned p);
}

built : (a b c d : ℕ) (s t u v w x : List Row) → a ≡ b → c ≡ d → s ≡ t → u ≡ v → w ≡ x → build a c s u w ≡ build b d t v x
built a b c d s t u v w x p q r k l =
    ap (λ n. build n c s u w) p ∙ ap (λ n. build b n s u w) q ∙ ap (λ n. build b d n u w) r ∙ ap (λ n. build b d t n w) k ∙ ap (λ n. build b d t v n) l

-- rows that were brought of a store of a format show its record
brought_shows : (f : Format) (id : Identity) (was db : Trees) → AreBrought id (number_at 5 (seen meta_columns (was 0) 1)) (number_at 6 (seen meta_columns (was 0) 1)) (was 1) (trees_at f was 2) (trees_at f was 3) db
    → record_in db ≡ record_at f was
unfolding build
brought_shows One id was db b = built _ _ _ _ _ _ _ _ _ _ (ap (number_at 5) b.meta_is) (ap (number_at 6) b.meta_is) b.slots_be b.floor_be b.learned_be
brought_shows Two id was db b = built _ _ _ _ _ _ _ _ _ _ (ap (number_at 5) b.meta_is) (ap (number_at 6) b.meta_is) b.slots_be b.floor_be b.learned_be
brought_shows Three id was db b = built _ _ _ _ _ _ _ _ _ _ (ap (number_at 5) b.meta_is) (ap (number_at 6) b.meta_is) b.slots_be b.floor_be b.learned_be

anew_shows : (id : Identity) (db : Trees) → AreBrought id 0 0 [] [] [] db → record_in db ≡ nothing_stored
unfolding build
anew_shows id db b = built _ _ _ _ _ _ _ _ _ _ (ap (number_at 5) b.meta_is) (ap (number_at 6) b.meta_is) b.slots_be b.floor_be b.learned_be

as_rows : {id : Identity} {round number : ℕ} {s f l : List Row} {new : State} → Brought id round number s f l new → AreBrought id round number s f l new.now.trees
as_rows b = record { meta_is = b.meta; slots_be = b.slots_are; floor_be = b.floor_are; learned_be = b.learned_are }

-- ---- what was brought may be taken again

-- of three tests the last two hold where nothing is refused
both_hold : (a b c : Bool) → cond (not a) (Some StoreVersion) (cond (not b) (Some BadStore) (cond c None (Some WrongNode))) ≡ None → (b ≡ true) × (c ≡ true)
both_hold false b c e = absurd cc
both_hold true false c e = absurd cc
both_hold true true false e = absurd cc
both_hold true true true e = (refl, refl)

none_refused : (a b c : Bool) → a ≡ true → b ≡ true → c ≡ true → cond (not a) (Some StoreVersion) (cond (not b) (Some BadStore) (cond c None (Some WrongNode))) ≡ None
none_refused a b c p q r = rw (p, q, r) refl

-- a store that isn't refused has a floor that the node may have promised
floor_accepted : (format : ℕ) (id : Identity) (meta floor : List Row) (more : Bool) → refusal_of format id meta floor more ≡ None → are_floor_rows id.members floor ≡ true
floor_accepted format id [] [] more e = refl
floor_accepted format id [] (r ∷ rest) more e = absurd cc
floor_accepted format id (r ∷ x ∷ rest) floor more e = absurd cc
floor_accepted format id (r ∷ []) floor more e =
    let held = both_hold (has_format format r) (names_member r && has_numbers r && are_floor_rows (number_in (column r 3)) floor) (has_owner id r) e in
    let owner = and_parts _ _ (and_parts _ _ held.1).1 in
    let members : number_in (column r 3) ≡ id.members = eqb-true (number_in (column r 3)) id.members owner.0 in
    subst (λ n. are_floor_rows n floor ≡ true) members (and_parts (names_member r && has_numbers r) _ held.0).1

again : (id : Identity) (round number : ℕ) (s f l : List Row) (db : Trees) → AreBrought id round number s f l db → round < 2 ^ 48 → number ≤ 2 ^ 48 → are_floor_rows id.members (seen floor_columns f 1) ≡ true
    → is_member_of id.cluster id.members id.node ≡ true → refusal Three id db ≡ None
again id round number s f l db b low most floor member =
    let row = meta_row 3 id.cluster id.members id.node round number in
    let floors = seen floor_columns (db 2) 1 in
    let good : are_floor_rows id.members floors ≡ true = subst (λ (rows : List Row). are_floor_rows id.members (seen floor_columns rows 1) ≡ true) (sym b.floor_be) floor in
    let numbers : (nat_lt round (2 ^ 48) && nat_le number (2 ^ 48)) ≡ true = and_from _ _ (lt-ltb round (2 ^ 48) low) (le-leb number (2 ^ 48) most) in
    let whole = and_from _ _ (and_from _ _ member numbers) good in
    let owner = and_from _ _ (eq-eqb id.cluster id.cluster refl) (and_from _ _ (eq-eqb id.members id.members refl) (eq-eqb id.node id.node refl)) in
    ap (λ rows. refusal_of 3 id rows floors (has_rows (db 1) || has_rows (db 3))) b.meta_is ∙ none_refused true _ _ refl whole owner

pub whole_from : (f : Format) (id : Identity) (was : Trees) (round number : ℕ) → refusal f id was ≡ None → number_at 5 (seen meta_columns (was 0) 1) ≡ round → number_at 6 (seen meta_columns (was 0) 1) ≡ number
    → round < 2 ^ 48 → number ≤ 2 ^ 48 → (db : Trees) → AreBrought id round number (was 1) (trees_at f was 2) (trees_at f was 3) db → IsBrought f id was db
whole_from f id was round number adopted r k low most db b =
    let here = subst₂ (λ (x y : ℕ). AreBrought id x y (was 1) (trees_at f was 2) (trees_at f was 3) db) (sym r) (sym k) b in
    let floor = floor_accepted (number_of f) id (seen meta_columns (was 0) 1) (seen floor_columns (trees_at f was 2) 1) _ adopted in
    record { rows = here; shows = brought_shows f id was db here; again = again id round number (was 1) (trees_at f was 2) (trees_at f was 3) db b low most floor }

pub whole_anew : (id : Identity) (db : Trees) → AreBrought id 0 0 [] [] [] db → IsMade id db
whole_anew id db b = record { rows = b; shows = anew_shows id db b; again = again id 0 0 [] [] [] db b (omega arith) (omega arith) refl }

pub shows_from : (f : Format) (id : Identity) (was : Trees) (round number : ℕ) (new : State) → number_at 5 (seen meta_columns (was 0) 1) ≡ round → number_at 6 (seen meta_columns (was 0) 1) ≡ number
    → Brought id round number (was 1) (trees_at f was 2) (trees_at f was 3) new → Shows (record_at f was) new
shows_from f id was round number new r k b =
    record { schema = b.schema; is = brought_shows f id was new.now.trees (subst₂ (λ (x y : ℕ). AreBrought id x y (was 1) (trees_at f was 2) (trees_at f was 3) new.now.trees) (sym r) (sym k) (as_rows b)) }

pub same_then : {a b c : State} → IsSame a b → IsSame b c → IsSame a c
same_then h k = record { now = k.now ∙ h.now; auto = k.auto }

pub still : {a b : State} {f : Format} → IsSame a b → Began f a → Began f b
still h began = record { schema = ap (λ (d : Database). d.schema) h.now ∙ began.schema; auto = h.auto }

-- beside what could be found before there is one thing more, of which this holds
pub brought_more : (Old New P : Trees → Type 0) (whole : Trees) → ((db : Trees) → New db → Old db ⊎ (db ≡ whole)) → P whole → (db : Trees) → New db → Old db ⊎ P db
brought_more Old New P whole h p db left = elim (h db left) [ inl was ↦ inl was | inr same ↦ inr (subst P (sym same) p) ]

-- ---- formats

-- a table that the format has shows its rows, and one that it lacks none
pub with_table : (t : ℕ) (f : Format) (db : Trees) → has_table t f ≡ true → trees_at f db t ≡ db t
with_table t f db has = rw has refl

pub without_table : (t : ℕ) (f : Format) (db : Trees) → has_table t f ≡ false → trees_at f db t ≡ []
without_table t f db lacks = rw lacks refl

pub tables_of : (f : Format) → length (schema_at f).tables ≡ tables_in f
tables_of One = refl
tables_of Two = refl
tables_of Three = refl
