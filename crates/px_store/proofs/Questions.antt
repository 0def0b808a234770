-- Each statement that only reads: what it means, and what it makes of a connection.
use Rattle.std.proofs.Common.{◌≡◌, inl, inr, ℕ, List, [], true, false, Ok, Err, refl, sym, ap, subst, ◌∙◌}
use Rattle.std.specs.Prelude.{IsTrue, Vec}
use Rattle.std.specs.declared.alloc.Global.{Global}
use Rattle.sqlite_value.specs.Order.{Row}
use Rattle.sqlite.specs.Effect.{Database}
use Rattle.sqlite.specs.State.{State, HasCleanDisk, Survives, Shown, FailsToQuery, CommitsShowing}
use Rattle.sqlite.specs.Listing.{understood}
use Rattle.sqlite.specs.declared.error.Error.{Error}
use Rattle.sqlite.proofs.Callers.{IsPlain, never_commits}
use Rattle.sqlite.specs.Tree.{Trees}
use Rattle.px_model.specs.declared.record.Meta as kept
use Rattle.px_store.specs.Tables.{schema_3}
use Rattle.px_store.specs.Seen.{seen, meta_columns, slot_columns, floor_columns, learned_columns, has_ballot, any_row}
use Rattle.px_store.specs.inner.Seen.{IsLast}
use Rattle.px_store.specs.inner.Effect.{IsAlike, IsStill, Serves}
use Rattle.px_store.specs.Adopting.{LeavesOld}
use Rattle.px_store.specs.inner.Ahead.{AreAlike, IsAhead}
use Rattle.px_store.specs.Formats.{schema_at, has_table, trees_at}
use Rattle.px_store.specs.inner.Store.{OnlyReads}
use Rattle.px_store.specs.Ready.{stored_of}
use Rattle.px_store.specs.inner.Ready.{IsMeta}
use Rattle.px_store.specs.declared.ahead.Ahead.{Ahead}
use Rattle.px_store.specs.declared.calls.Identity.{Identity}
use Rattle.px_store.specs.Adopting.{Began}
use Rattle.px_store.specs.inner.Questions.{asked_by, given_with, table_of, Answers, Looked}
use Rattle.px_store.specs.declared.formats.Format.{Format}
use Rattle.px_store.specs.declared.formats.Format.TheVariants.{One, Two, Three}
use Rattle.px_store.specs.declared.calls.Question.{Question}
use Rattle.px_store.specs.declared.calls.Question.TheVariants.{Meta, Floor, Slot, Learned, Span, Top, End, LastSlot}
use Rattle.px_store.specs.declared.calls.Trouble.{Trouble}
use Rattle.px_store.specs.declared.calls.Trouble.TheVariants.{Memory}
use Rattle.px_store.proofs.Texts.{with_ballot, meta_project, slot_project, pair_project, meta_names, slot_names, floor_names, learned_names, meta_asks, floor_asks, slot_asks, learned_asks, span_asks, top_asks, end_asks, last_asks}
use Rattle.px_store.proofs.Puts.{served}
use Rattle.px_store.proofs.Gets.{and_true, finds, reads_only, query_fails}
use Rattle.px_store.proofs.Tops.{ends}
use Rattle.px_store.proofs.Turns.{spans}
use Rattle.px_store.proofs.Stored.{reads}
use Rattle.px_store.proofs.Adopts.{with_table, without_table}

-- the format of today has each table
pub three_has : (q : Question) → has_table (table_of q) Three ≡ true
three_has Meta = refl
three_has Floor = refl
three_has (Slot p) = refl
three_has (Learned p) = refl
three_has (Span first end) = refl
three_has Top = refl
three_has End = refl
three_has LastSlot = refl

plain_at : (f : Format) (q : Question) → has_table (table_of q) f ≡ true → IsPlain (understood (schema_at f) (asked_by q))
plain_at f Meta has = (meta_asks f).means.plain
plain_at f Floor has = (floor_asks f has).means.plain
plain_at f (Slot p) has = (slot_asks f).means.plain
plain_at f (Learned p) has = (learned_asks f has).means.plain
plain_at f (Span first end) has = (span_asks f has).means.plain
plain_at f Top has = (top_asks f).means.plain
plain_at f End has = (end_asks f has).means.plain
plain_at f LastSlot has = (last_asks f).means.plain

answers : (f : Format) (q : Question) → has_table (table_of q) f ≡ true → (old new : State) (rows : List Row) → old.now.schema ≡ schema_at f → Shown (asked_by q) (given_with q) old new rows → Answers q old.now.trees rows
answers f Meta has old new rows is h = finds 0 meta_project meta_columns (λ db. refl) (λ given r. refl) (schema_at f) (asked_by Meta) meta_names (meta_asks f) old new 1 rows is h
answers f Floor has old new rows is h = finds 2 pair_project floor_columns (λ db. refl) (λ given r. refl) (schema_at f) (asked_by Floor) floor_names (floor_asks f has) old new 1 rows is h
answers f (Slot p) has old new rows is h = finds 1 slot_project slot_columns (λ db. refl) (λ given r. refl) (schema_at f) (asked_by (Slot p)) slot_names (slot_asks f) old new p rows is h
answers f (Learned p) has old new rows is h = finds 3 pair_project learned_columns (λ db. refl) (λ given r. refl) (schema_at f) (asked_by (Learned p)) learned_names (learned_asks f has) old new p rows is h
answers f (Span first end) has old new rows is h = spans f has old new first end rows is h
answers f Top has old new rows is h = ends 1 with_ballot has_ballot (λ r. and_true (has_ballot r)) (λ db. refl) old.now.trees (schema_at f) (asked_by Top) (top_asks f) old new rows is refl h
answers f End has old new rows is h = ends 3 [] any_row (λ r. refl) (λ db. refl) old.now.trees (schema_at f) (asked_by End) (end_asks f has) old new rows is refl h
answers f LastSlot has old new rows is h = ends 1 [] any_row (λ r. refl) (λ db. refl) old.now.trees (schema_at f) (asked_by LastSlot) (last_asks f) old new rows is refl h

-- ---- what it makes of a connection

module _ (f : Format) (q : Question) (has : has_table (table_of q) f ≡ true) (old mid : State) (began : Began f old) (settled : IsTrue old.is_open → old.now ≡ old.committed)
    (clean : HasCleanDisk mid) (survives : Survives old mid (CommitsShowing (asked_by q) (given_with q) old)) where
  plain : IsPlain (understood old.now.schema (asked_by q))
  plain = subst (λ s. IsPlain (understood s (asked_by q))) (sym began.schema) (plain_at f q has)

  stops : LeavesOld old mid
  stops db left = elim (survives.crash clean db left) [
    | inl was ↦ was
    | inr made ↦ absurd (never_commits (asked_by q) (given_with q) old db plain made)
  ]

  pub looked : (rows : Vec Row Global) → Shown (asked_by q) (given_with q) old mid rows.items → Looked q (Ok rows) old mid
  looked rows h =
      let u = reads_only (asked_by q) (given_with q) old mid rows.items plain h in
      record {
        ok = (
          answers f q has old mid rows.items began.schema h,
          record {
            begun = settled u.0.was_open;
            now = u.0.now_is;
            committed = u.0.committed_is;
            auto = u.0.mode ∙ began.auto;
            is_open = u.0.is_open;
          },
        );
        memory = λ is. absurd cc;
        stop = stops;
      }

  pub not_looked : (new : State) (e : Error) (trouble : Trouble) → FailsToQuery (asked_by q) (given_with q) old mid e → LeavesOld mid new → (trouble ≡ Memory → Serves mid new) → Looked q (Err trouble) old new
  not_looked new e trouble h left serves = record {
    ok = tt;
    memory = λ is. served old mid new settled (query_fails (asked_by q) (given_with q) old mid e began.auto settled plain h) (serves (let same = is in cc));
    stop = λ db l. stops db (left db l);
  }

-- ---- a table that a format lacks has no rows

pub answers_at : (f : Format) (q : Question) (db : Trees) (rows : List Row) → has_table (table_of q) f ≡ true → Answers q db rows → Answers q (trees_at f db) rows
answers_at f Meta db rows has h = subst (λ (t : List Row). IsAlike (seen meta_columns t 1) rows) (sym (with_table 0 f db has)) h
answers_at f Floor db rows has h = subst (λ (t : List Row). IsAlike (seen floor_columns t 1) rows) (sym (with_table 2 f db has)) h
answers_at f (Slot p) db rows has h = subst (λ (t : List Row). IsAlike (seen slot_columns t p) rows) (sym (with_table 1 f db has)) h
answers_at f (Learned p) db rows has h = subst (λ (t : List Row). IsAlike (seen learned_columns t p) rows) (sym (with_table 3 f db has)) h
answers_at f (Span first end) db rows has h = subst (λ (t : List Row). AreAlike first end t rows) (sym (with_table 3 f db has)) h
answers_at f Top db rows has h = subst (λ (t : List Row). IsLast has_ballot t rows) (sym (with_table 1 f db has)) h
answers_at f End db rows has h = subst (λ (t : List Row). IsLast any_row t rows) (sym (with_table 3 f db has)) h
answers_at f LastSlot db rows has h = subst (λ (t : List Row). IsLast any_row t rows) (sym (with_table 1 f db has)) h

pub answers_none : (f : Format) (q : Question) (db : Trees) → has_table (table_of q) f ≡ false → Answers q (trees_at f db) []
answers_none f Meta db lacks = subst (λ (t : List Row). IsAlike (seen meta_columns t 1) []) (sym (without_table 0 f db lacks)) (inl refl)
answers_none f Floor db lacks = subst (λ (t : List Row). IsAlike (seen floor_columns t 1) []) (sym (without_table 2 f db lacks)) (inl refl)
answers_none f (Slot p) db lacks = subst (λ (t : List Row). IsAlike (seen slot_columns t p) []) (sym (without_table 1 f db lacks)) (inl refl)
answers_none f (Learned p) db lacks = subst (λ (t : List Row). IsAlike (seen learned_columns t p) []) (sym (without_table 3 f db lacks)) (inl refl)
answers_none f (Span first end) db lacks = subst (λ (t : List Row). AreAlike first end t []) (sym (without_table 3 f db lacks)) (λ p low high. inl refl)
answers_none f Top db lacks = subst (λ (t : List Row). IsLast has_ballot t []) (sym (without_table 1 f db lacks)) (λ r has. absurd has)
answers_none f End db lacks = subst (λ (t : List Row). IsLast any_row t []) (sym (without_table 3 f db lacks)) (λ r has. absurd has)
answers_none f LastSlot db lacks = subst (λ (t : List Row). IsLast any_row t []) (sym (without_table 1 f db lacks)) (λ r has. absurd has)

-- each format has the first two
pub first_has : (f : Format) → has_table 0 f ≡ true
first_has One = refl
first_has Two = refl
first_has Three = refl

pub second_has : (f : Format) → has_table 1 f ≡ true
second_has One = refl
second_has Two = refl
second_has Three = refl

-- ---- what the keeper sees of it

pub only_read : (members f g : ℕ) (old new : State) → (HasCleanDisk new → HasCleanDisk old) → (HasCleanDisk new → (g ≡ 0 → IsStill old new) × LeavesOld old new)
    → OnlyReads (stored_of members f old) (stored_of members g new)
only_read members f g old new was h = reads members f g old new was (λ honest none. ((h honest).0 none).committed) (λ honest. (h honest).1)

pub read_ready : (id : Identity) (m : kept.Meta) (old new : State) → old.now.schema ≡ schema_3 → IsMeta id m old.committed.trees → IsStill old new
    → (new.now.schema ≡ schema_3) × ((new.in_transaction ≡ false) × ((new.is_open ≡ true) × IsMeta id m new.committed.trees))
read_ready id m old new has is s =
    (ap (λ (d : Database). d.schema) s.now ∙ has, (s.auto, (s.is_open, subst (λ (d : Database). IsMeta id m d.trees) (sym s.committed) is)))

-- what was read ahead
pub still_ahead : (a : Ahead) (old new : State) → IsStill old new → IsAhead a.next a.end (old.committed.trees 3) a.rows.items → IsAhead a.next a.end (new.committed.trees 3) a.rows.items
still_ahead a old new s h = subst (λ (d : Database). IsAhead a.next a.end (d.trees 3) a.rows.items) (sym s.committed) h
