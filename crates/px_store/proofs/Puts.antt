-- What a statement that replaces one row does to the rows.
use Rattle.std.proofs.Common.{◌≡◌, ◌≢◌, ◌⊎◌, inl, inr, ℕ, ℤ, pos, List, [], ◌∷◌, filter, map, Bool, true, false, not, cond, ◌&&◌, ◌||◌, Option, None, Some, Ok, Err, Result, Equal, refl, sym, ap, subst, subst₂, append-nil, ◌∙◌}
use Rattle.std.specs.Ordering.{is_eq}
use Rattle.std.specs.Prelude.{IsTrue, MatchBool, length, ◌/◌}
use Rattle.std.proofs.lemmas.Bool.{cases_Bool}
use Rattle.sqlite.specs.declared.types.Value.{Value}
use Rattle.sqlite.specs.declared.types.Value.TheVariants.{Null, Int, Real, Text, Blob}
use Rattle.sqlite_value.specs.Order.{Row, value_cmp}
use Rattle.sqlite_value.specs.Keys.{first_key}
use Rattle.sqlite_value.proofs.OrderLemmas.{value_cmp-Null, value_cmp-Int}
use Rattle.std.specs.Cmp.{int_cmp_is}
use Rattle.sqlite.specs.Collation.TheVariants.{Binary}
use Rattle.sqlite.specs.Ops.{binary, is_true, from_truth}
use Rattle.sqlite.specs.Term.{Term}
use Rattle.sqlite.specs.Table.{Table}
use Rattle.sqlite.specs.Schema.{Schema}
use Rattle.sqlite.specs.Command.{Command}
use Rattle.sqlite.specs.Cast.{cast_row}
use Rattle.sqlite.specs.Edit.{with_rowid, edit_of, without_all, is_taken, id_in}
use Rattle.sqlite_schema.specs.declared.schema.Keys.{Keys}
use Rattle.sqlite.specs.Rowids.TheVariants.{Chosen, Above, Given}
use Rattle.sqlite.specs.Tree.{Trees}
use Rattle.sqlite_schema.specs.declared.command.Conflict.TheVariants.{Replace}
use Rattle.sqlite_schema.specs.Rules.{equal}
use Rattle.sqlite_rules.specs.Keys.{AreConflicts, conflicts}
use Rattle.sqlite_rules.specs.Lists.{Has}
use Rattle.sqlite_rules.specs.Calls.{ids_of}
use Rattle.sqlite_rules.specs.declared.error.Refusal.{Refusal}
use Rattle.sqlite_trees.specs.Tree.{rowid, has_rowid, put_row, without_rowid}
use Rattle.sqlite.specs.declared.error.Error.{Error}
use Rattle.sqlite.specs.declared.run.Mode.{Mode}
use Rattle.sqlite.specs.Effect.{Database, value_rows}
use Rattle.sqlite.specs.Does.{Tally, OnRows}
use Rattle.sqlite.specs.Rows.{Written, Task, Upserts, Judged, Puts as PutsOne, Clears, TriesEach, Tries, count_of, rowids_for, nothing, mended, stamped}
use Rattle.sqlite.specs.State.{State, mode_of, Executes, ExecutesIn, IsNotRun, CommitsBy, IsUnchanged, IsRolledBack, Fails, shows_rows}
use Rattle.sqlite.specs.Does.{Does}
use Rattle.sqlite.specs.Listing.{understood}
use Rattle.sqlite.proofs.Callers.{IsPlain, command_of, statement_of, runs_as, one_step}
use Rattle.px_store.specs.Tables.{schema_3}
use Rattle.px_store.specs.Seen.{rows_at, shown}
use Rattle.px_store.specs.inner.Seen.{IsKeyed}
use Rattle.px_store.specs.inner.Effect.{Puts, IsSettled, IsStill, Stays, Serves}
use Rattle.px_store.proofs.Texts.{replace, Means}
use Rattle.px_store.proofs.Rows.{put_other, put_same, without_other, without_twice, apart, or_false}

-- ---- keys

pub truth_back : (b : Bool) → is_true (from_truth (Some b)) ≡ b
truth_back true = refl
truth_back false = refl

-- SQL finds a key equal where the tree does
pub equal_rowid : (v : Value) (p : ℤ) → equal Binary v (Int p) ≡ is_eq (value_cmp v (Int p))
unfolding binary
equal_rowid Null p = sym (ap is_eq (value_cmp-Null (Int p)))
equal_rowid (Int n) p = truth_back _
equal_rowid (Real x) p = truth_back _
equal_rowid (Text t) p = truth_back _
equal_rowid (Blob b) p = truth_back _

and_or : (b : Bool) → ((b && true) || false) ≡ b
and_or true = refl
and_or false = refl

conflict_is : (table : Table) (r rest : Row) (p : ℤ) → conflicts None [] table (Int p ∷ rest) r ≡ has_rowid p r
unfolding first_key
conflict_is table r rest p = and_or _ ∙ equal_rowid (rowid r) p

pub went : {B E R : Type 0} {b : B} {Stops : E → Type 0} → ((stop : E) × Stops stop × (Ok b ≡ Err stop)) ⊎ R → R
went (inl stopped) = absurd (let e = stopped.2 in cc)
went (inr on) = on

pub same_value : {B E : Type 0} {a b : B} → ◌≡◌ {A = Result B E} (Ok a) (Ok b) → a ≡ b
same_value e = cc

pub has_filter : (t : Row → Bool) (rows : List Row) (r : Row) → Has rows r → t r ≡ true → Has (filter t rows) r
has_filter t [] r h it = absurd h
has_filter t (x ∷ rows) r (inl same) it = let x_is : t x ≡ true = rw (← same) it in rw x_is (inl same)
has_filter t (x ∷ rows) r (inr later) it = go (t x) (has_filter t rows r later it)
  where
    go : (b : Bool) → Has (filter t rows) r → Has (cond b (x ∷ filter t rows) (filter t rows)) r
    go true h = inr h
    go false h = h

not_and_true : (b : Bool) → (not b && true) ≡ true → b ≡ false
not_and_true true e = absurd cc
not_and_true false e = refl

-- where no row has the new one's key, none is found under it
free : (p : ℕ) (rest : Row) (rows : List Row) → is_taken rows (Int (pos p) ∷ rest) ≡ false → rows_at rows p ≡ []
free p rest [] none = refl
free p rest (r ∷ rows) none =
    let parts = or_false (has_rowid (pos p) r) (is_taken rows (Int (pos p) ∷ rest)) none in
    rw parts.0 (free p rest rows parts.1)

-- the rows under a key have it
pub keyed : (columns : List ℕ) (p : ℕ) (at : List Row) → IsKeyed p (map (shown (0 ∷ columns)) at) → (r : Row) → Has at r → rowid r ≡ Int (pos p)
keyed columns p [] k r h = absurd h
keyed columns p (x ∷ []) k r (inl same) = ap rowid same ∙ k
keyed columns p (x ∷ []) k r (inr h) = absurd h
keyed columns p (x ∷ y ∷ more) k r h = absurd k

-- rows under one key are taken out, and the others stay
spared : (p : ℕ) (found rows : List Row) → ((x : Row) → Has found x → x ≡ Int (pos p) ∷ []) → without_rowid (pos p) (without_all rows (ids_of found)) ≡ without_rowid (pos p) rows
spared p [] rows all = refl
spared p (x ∷ found) rows all =
    let id : id_in (rowid x) ≡ pos p = ap (λ (r : Row). id_in (rowid r)) (all x (inl refl)) in
    rw id (spared p found (without_rowid (pos p) rows) (λ y h. all y (inr h)) ∙ without_twice (pos p) rows)

-- rows under another key are those that are left
pub others_at : (p q : ℕ) → q ≢ p → (old new : List Row) → without_rowid (pos p) new ≡ without_rowid (pos p) old → rows_at new q ≡ rows_at old q
others_at p q ne old new same =
    sym (without_other (pos p) (pos q) new (apart p q ne)) ∙ ap (λ rows. rows_at rows q) same ∙ without_other (pos p) (pos q) old (apart p q ne)

uncounts : (b x : Bool) (A B : Type 0) → b ≡ false → MatchBool (cond b x false) A B → B
uncounts true x A B e h = absurd cc
uncounts false x A B e h = h

-- ---- one row in the place of another

module _ (limit : Option ℕ) (keys : Keys) (table : Table) (params : Row) (p : ℕ) (rest : Row) (casts : cast_row table (Int (pos p) ∷ rest) ≡ Int (pos p) ∷ rest) where
  abbrev new : Row
  new = Int (pos p) ∷ rest

  abbrev task : Task
  task = record { limit = limit; keys = keys; schema = schema_3; table = table; params = params }

  -- under the key of the new row it is alone, and the rest is as it was
  pub record IsIn (old now : Trees) : Type 0 where
    pub alone : rows_at (now table.tree) p ≡ new ∷ []
    pub others : ((r : Row) → Has (rows_at (old table.tree) p) r → rowid r ≡ Int (pos p)) → without_rowid (pos p) (now table.tree) ≡ without_rowid (pos p) (old table.tree)
    pub trees : (t : ℕ) → t ≢ table.tree → now t ≡ old t

  puts : (db : Trees) (one : Written) → PutsOne task new db (Ok one) → IsIn db one.trees × (without_rowid (pos p) (one.trees table.tree) ≡ without_rowid (pos p) (db table.tree))
  puts db one h =
      let g = went h in
      let a = one_step schema_3 keys db g.0 (edit_of db table [] Given 0 (new ∷ [])) refl g.1 in
      let same : one.trees ≡ g.0 = ap (λ (w : Written). w.trees) (same_value g.2) in
      let is_used : is_taken (db table.tree) new ≡ false =
      not_and_true _ (subst (λ r. (not (is_taken (db table.tree) r) && true) ≡ true) casts a.fresh) in
      let rows : one.trees table.tree ≡ put_row new (db table.tree) =
      ap (λ (t : Trees). t table.tree) same ∙ a.rows ∙ ap (λ r. put_row r (db table.tree)) casts in
      let it : has_rowid (pos p) new ≡ true = ap is_eq (value_cmp-Int (pos p) (pos p) ∙ sym (int_cmp_is (pos p) (pos p) Equal refl)) in
      let none = free p rest (db table.tree) is_used in
      let others : without_rowid (pos p) (one.trees table.tree) ≡ without_rowid (pos p) (db table.tree) =
      ap (without_rowid (pos p)) rows ∙ put_other (λ r. not (has_rowid (pos p) r)) new (db table.tree) (ap not it) is_used in (
        record {
          alone = ap (λ rows. rows_at rows p) rows ∙ put_same (has_rowid (pos p)) new (db table.tree) it is_used none;
          others = λ _. others;
          trees = λ t ne. ap (λ (db : Trees). db t) same ∙ a.others t ne tt;
        },
        others,
      )

  clears : (db : Trees) (one : Written) (found : List Row)
      → AreConflicts None [] table (db table.tree) new found → Clears task Replace new db found (Ok one) → IsIn db one.trees
  clears db one [] c h = (puts db one h).0
  clears db one (x ∷ more) c h =
      let g = went h in
      let a = one_step schema_3 keys db g.0 (edit_of db table (ids_of (x ∷ more)) Given 0 []) refl g.1 in
      let b = puts g.0 one g.2 in
      let ids : ((r : Row) → Has (rows_at (db table.tree) p) r → rowid r ≡ Int (pos p)) → (y : Row) → Has (x ∷ more) y → y ≡ Int (pos p) ∷ [] = λ keyed y h.
      let s = c.sound y h in
      s.3 ∙ ap (λ v. v ∷ []) (keyed s.0 (has_filter (has_rowid (pos p)) (db table.tree) s.0 s.1 (sym (conflict_is table s.0 rest (pos p)) ∙ s.2))) in
      let left : g.0 table.tree ≡ without_all (db table.tree) (ids_of (x ∷ more)) = a.rows in
      record {
        alone = b.0.alone;
        others = λ keyed. b.1 ∙ ap (without_rowid (pos p)) left ∙ spared p (x ∷ more) (db table.tree) (ids keyed);
        trees = λ t ne. b.0.trees t ne ∙ a.others t ne tt;
      }

  judged : (db : Trees) (verdict : Option Refusal) (one : Written) → Judged task Replace [] new db verdict (Ok one) → Upserts task Replace new db [] (Ok one)
  judged db None one h = h
  judged db (Some why) one h = absurd cc

  tries : (db : Trees) (one : Written) → Tries task Replace [] new db (Ok one) → Upserts task Replace new db [] (Ok one)
  tries db one (inl h) = absurd (let e = h.1 in cc)
  tries db one (inr h) = judged db h.0 one h.2

  module _ (uncounted : table.is_counted ≡ false) (mends : mended Replace table new ≡ new) (place width : ℕ) (terms : List Term)
      (gives : value_rows (stamped table params) width (length terms / width) terms ≡ new ∷ []) where
    with_key : (top : ℤ) (rows : List Row) → with_rowid (rowids_for table top) rows (cast_row table (mended Replace table new)) ≡ new
    with_key top rows =
        ap (λ b. with_rowid (cond b (Above top) Chosen) rows (cast_row table (mended Replace table new))) uncounted
        ∙ ap (with_rowid Chosen rows) (ap (cast_row table) mends ∙ casts)

    -- what the statement means, for the rows of the table
    pub replaced : (mode : Mode) (db : Trees) (tally : Tally) (after : Database)
        → OnRows task mode None (replace place terms width) db (Ok (tally, after)) → IsIn db after.trees × (after.schema ≡ schema_3)
    replaced mode db tally after h =
        let done = went h in
        let now = ap (λ (p : Tally × Database). p.1) (same_value (went (went done.2).2).2) in
        let given = went done.1 in
        let counter = went given.2 in
        let tried = went counter.2 in
        let counted = went tried.2 in
        let rows_are : given.0 ≡ new ∷ [] = given.1.1 ∙ gives in
        let each = went (subst (λ rows. TriesEach task Replace [] rows (count_of counter.0) (nothing db) (Ok tried.0)) rows_are tried.1) in
        let tried_row = subst (λ r. Tries task Replace [] r db (Ok each.0)) (with_key (count_of counter.0) (db table.tree)) each.1 in
        let u = tries db each.0 tried_row in
        let next : counted.0 ≡ tried.0.0.trees = same_value (uncounts table.is_counted _ _ _ uncounted counted.1) in
        let trees : done.0.trees ≡ each.0.trees =
        ap (λ (w : Written). w.trees) (same_value counted.2) ∙ next ∙ ap (λ (t : Written × ℤ). t.0.trees) (same_value each.2) in
        let all : after.trees ≡ each.0.trees = ap (λ (d : Database). d.trees) now ∙ trees in
        (subst (IsIn db) (sym all) (clears db each.0 u.0 u.1 u.2), ap (λ (d : Database). d.schema) now)

-- ---- the whole statement

abbrev at_schema : Schema → Trees → Database
at_schema schema trees = record { schema = schema; trees = trees }

-- what the text means of these trees
abbrev pub Goes : (text : List ℕ) (command : Command) (params : Row) (tree p : ℕ) (columns : List ℕ) → Row → Type 0
Goes text command params tree p columns row =
    (limit : Option ℕ) (mode : Mode) (db : Trees) (tally : Tally) (after : Database)
    → Does limit mode params (at_schema schema_3 db) (statement_of text (understood schema_3 text)) None command (Ok (tally, after))
    → Puts tree p columns row db after.trees × (after.schema ≡ schema_3)

module _ (text : List ℕ) (place width : ℕ) (terms : List Term) (means : Means schema_3 text (replace place terms width)) (params : Row) (tree p : ℕ) (columns : List ℕ) (row : Row)
    (goes : Goes text (replace place terms width) params tree p columns row) (old : State) (has : old.now.schema ≡ schema_3) where
  abbrev whole : List ℕ
  whole = statement_of text (understood schema_3 text)

  does : (tally : Tally) (after : Database) → Does old.step_limit (mode_of old) params old.now whole None (replace place terms width) (Ok (tally, after))
      → Puts tree p columns row old.now.trees after.trees × (after.schema ≡ schema_3)
  does tally after h =
      goes old.step_limit (mode_of old) old.now.trees tally after
      (subst (λ s. Does old.step_limit (mode_of old) params (at_schema s old.now.trees) whole None (replace place terms width) (Ok (tally, after))) has h)

  pub keeps : (new : State) (count : ℕ) → old.in_transaction ≡ false → Executes text params old new (Ok count)
      → Puts tree p columns row old.now.trees new.now.trees × IsSettled new
  keeps new count auto h =
      let w = runs_as text params old new schema_3 has (replace place terms width) means.is means.plain count h in
      let d = does w.tally new.now w.changed in (
        d.0,
        record {
          committed = w.shown.committed_is ∙ ap (λ c. cond c old.committed new.now) auto;
          schema = d.1;
          auto = w.shown.mode ∙ auto;
          is_open = w.shown.is_open;
        },
      )

  -- inside a transaction too
  pub inside : (new : State) (count : ℕ) → Executes text params old new (Ok count) → Puts tree p columns row old.now.trees new.now.trees × (new.now.schema ≡ schema_3)
  inside new count h =
      let w = runs_as text params old new schema_3 has (replace place terms width) means.is means.plain count h in
      does w.tally new.now w.changed

  -- and so is what a crash in the midst may leave
  pub leaves : (db : Trees) → CommitsBy text params old db → Puts tree p columns row old.now.trees db
  unfolding CommitsBy
  leaves db h =
      let known = sym h.1.is ∙ ap (λ s. understood s text) has in
      let bare = subst IsPlain (sym known) means.plain in
      let kind : h.0.command ≡ replace place terms width = ap command_of known ∙ means.is in
      elim h.2 [
        | inl ends ↦ absurd (elim ends.0 [ inl is ↦ (let e = sym kind ∙ is in cc) | inr is ↦ (let e = sym kind ∙ is.2 in cc) ])
        | inr writes ↦
            let plain = rw (bare.0, bare.1, append-nil params) at writes.3 in
            let changed = subst₂ (λ k t. Does old.step_limit (mode_of old) params old.now t None k (Ok (writes.1, writes.2))) kind (ap (statement_of text) known) plain in
            subst (λ t. Puts tree p columns row old.now.trees t) (sym writes.5) (does writes.1 writes.2 changed).0
      ]

-- ---- a statement that is refused or fails leaves the last commit

pub unchanged : (old new : State) → old.in_transaction ≡ false → (IsTrue old.is_open → old.now ≡ old.committed) → IsUnchanged old new → Stays old new
unchanged s t auto settled h = record {
  now = λ is_open. h.0.now_is ∙ settled h.0.was_open;
  committed = λ is_open. h.0.committed_is;
  auto = h.0.mode ∙ auto;
  was_open = λ is_open. h.0.was_open;
}

pub undone : (old new : State) → IsRolledBack old new → Stays old new
undone s t h = record { now = λ is_open. (h.undone is_open).0; committed = λ is_open. (h.undone is_open).1; auto = h.autocommit; was_open = h.was_open }

pub fails : (old new : State) (big : Type 0) (e : Error) → Fails old new big e → IsRolledBack old new
fails s t big e h = h.3

pub refused : (old new : State) (sql : List ℕ) (params : Row) (e : Error) → old.in_transaction ≡ false → (IsTrue old.is_open → old.now ≡ old.committed) → Executes sql params old new (Err e) → Stays old new
unfolding ExecutesIn IsNotRun
refused old new sql params e auto settled (inl (inl h)) = unchanged old new auto settled h.1
refused old new sql params e auto settled (inl (inr h)) = undone old new (fails old new _ e h)
refused old new sql params e auto settled (inr h) = elim (cases_Bool (shows_rows false h.0)) [
  | inl shows ↦ unchanged old new auto settled (rw shows at h.2).1
  | inr runs ↦ elim (rw runs at h.2) [ inl same ↦ unchanged old new auto settled same.1 | inr failed ↦ undone old new (fails old new _ e failed) ]
]

-- when out of memory and the connection still serves, nothing changed
pub served : (old mid new : State) → (IsTrue old.is_open → old.now ≡ old.committed) → Stays old mid → Serves mid new → IsStill old new
served s m t settled stays serves =
    let begun = settled (stays.was_open serves.was_open) in record {
      begun = begun;
      now = serves.now ∙ stays.now serves.was_open ∙ sym begun;
      committed = serves.committed ∙ stays.committed serves.was_open;
      auto = serves.auto ∙ stays.auto;
      is_open = serves.is_open;
    }
