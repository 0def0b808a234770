-- Each row that is put: what its statement means, and what it makes of the rows and of the record.
use Rattle.std.proofs.Common.{◌≡◌, ◌⊎◌, inl, inr, ℕ, List, [], ◌∷◌, true, false, Ok, Err, Result, OnOk, refl, sym, subst, ◌∙◌}
use Rattle.sqlite.specs.Term.{Term}
use Rattle.sqlite.specs.Effect.{Database}
use Rattle.sqlite.specs.Tree.{Trees}
use Rattle.sqlite.specs.State.{State, HasCleanDisk, Executes, Survives, CommitsBy}
use Rattle.sqlite.specs.declared.error.Error.{Error}
use Rattle.px_model.specs.Spelling.{Bytes}
use Rattle.px_model.specs.declared.record.Meta as kept
use Rattle.px_records.specs.declared.records.StoreFault.{StoreFault}
use Rattle.px_records.specs.declared.records.StoreFault.TheVariants as fault
use Rattle.px_store.specs.Tables.{schema_3}
use Rattle.px_store.specs.Seen.{record_in, seen, meta_columns, meta_row}
use Rattle.sqlite_value.specs.Order.{Row}
use Rattle.px_store.specs.inner.Effect.{IsSettled, Serves}
use Rattle.px_store.specs.Adopting.{LeavesOld}
use Rattle.px_store.specs.inner.Store.{Changed}
use Rattle.px_store.specs.Ready.{stored_of}
use Rattle.px_store.specs.inner.Ready.{IsMeta, IsNamed, IsOwned}
use Rattle.px_store.specs.Adopting.{Began}
use Rattle.px_store.specs.declared.formats.Format.TheVariants.{Three}
use Rattle.px_store.specs.inner.NewRows.{text_of, params_of, tree_of, key_of, columns_of, row_of, IsPut, Wrote, with_row, meta_with, HasFloor, Replaces}
use Rattle.px_store.specs.declared.calls.Identity.{Identity}
use Rattle.px_store.specs.declared.calls.NewRow.{NewRow}
use Rattle.px_store.specs.declared.calls.NewRow.TheVariants.{Meta, Slot, Floor, Learned}
use Rattle.px_store.specs.declared.calls.Trouble.{Trouble}
use Rattle.px_store.specs.declared.calls.Trouble.TheVariants.{Memory, Failed}
use Rattle.px_store.proofs.Texts.{replace, Means, meta_terms, slot_terms, floor_terms, learned_terms, meta_put, slot_put, floor_put, learned_put}
use Rattle.px_store.proofs.Puts.{Goes, keeps, leaves, refused, served}
use Rattle.px_store.proofs.Kept.{goes_meta, goes_slot, goes_floor, goes_learned, meta_kept, slot_kept, floor_kept, learned_kept}
use Rattle.px_store.proofs.Stored.{keeps as all_kept, committed_put, slot_keyed, learned_keyed, other_put, floor_put as floor_shown, meta_put as meta_shown}

-- ---- the statement

abbrev terms_of : NewRow → List Term
terms_of (Meta round number) = meta_terms
terms_of (Slot p promised ballot) = slot_terms
terms_of (Floor ballot) = floor_terms
terms_of (Learned p) = learned_terms

abbrev width_of : NewRow → ℕ
width_of (Meta round number) = 8
width_of (Slot p promised ballot) = 5
width_of (Floor ballot) = 3
width_of (Learned p) = 3

means : (r : NewRow) → Means schema_3 (text_of r) (replace (tree_of r) (terms_of r) (width_of r))
means (Meta round number) = meta_put
means (Slot p promised ballot) = slot_put
means (Floor ballot) = floor_put
means (Learned p) = learned_put

goes : (id : Identity) (r : NewRow) (bytes : Bytes) → Goes (text_of r) (replace (tree_of r) (terms_of r) (width_of r)) (params_of id r bytes) (tree_of r) (key_of r) (columns_of r) (row_of id r bytes)
goes id (Meta round number) bytes = goes_meta id.cluster id.members id.node round number
goes id (Slot p promised ballot) bytes = goes_slot p promised ballot bytes
goes id (Floor ballot) bytes = goes_floor ballot
goes id (Learned p) bytes = goes_learned p bytes

-- ---- what it makes of a connection

module _ (id : Identity) (r : NewRow) (bytes : Bytes) (old mid : State) (began : Began Three old) (begun : old.now ≡ old.committed)
    (clean : HasCleanDisk mid) (survives : Survives old mid (CommitsBy (text_of r) (params_of id r bytes) old)) where
  stops : (db : Trees) → mid.may_leave db → old.may_leave db ⊎ IsPut id r bytes old.committed.trees db
  stops db left = elim (survives.crash clean db left) [
    | inl was ↦ inl was
    | inr made ↦
        let put = leaves (text_of r) (tree_of r) (width_of r) (terms_of r) (means r) (params_of id r bytes) (tree_of r) (key_of r) (columns_of r) (row_of id r bytes) (goes id r bytes) old began.schema db made in
        inr (subst (λ (d : Database). IsPut id r bytes d.trees db) begun put)
  ]

  pub wrote : (count : ℕ) (x : Unit {0}) → Executes (text_of r) (params_of id r bytes) old mid (Ok count) → Wrote id r bytes (Ok x) old mid
  wrote count x h =
      let k = keeps (text_of r) (tree_of r) (width_of r) (terms_of r) (means r) (params_of id r bytes) (tree_of r) (key_of r) (columns_of r) (row_of id r bytes) (goes id r bytes) old began.schema mid count began.auto h in
      record {
        ok = (committed_put (tree_of r) (key_of r) (columns_of r) (row_of id r bytes) old mid k.1 begun k.0, k.1);
        memory = λ e. absurd cc;
        stop = stops;
      }

  pub not_wrote : (new : State) (e : Error) (trouble : Trouble) → Executes (text_of r) (params_of id r bytes) old mid (Err e) → LeavesOld mid new → (trouble ≡ Memory → Serves mid new)
      → Wrote id r bytes (Err trouble) old new
  not_wrote new e trouble h left serves = record {
    ok = tt;
    memory = λ is. served old mid new (λ _. begun) (refused old mid _ _ e began.auto (λ _. begun) h) (serves (let same = is in cc));
    stop = λ db l. stops db (left db l);
  }

-- ---- what it makes of the record

abbrev pub store_result : Result (Unit {0}) Trouble → Result (Unit {0}) StoreFault
store_result (Ok x) = Ok x
store_result (Err Memory) = Err fault.Memory
store_result (Err Failed) = Err fault.Failed

store_result_ok : (r : Result (Unit {0}) Trouble) (A B : Type 0) → (A → B) → OnOk r A → OnOk (store_result r) B
store_result_ok (Ok x) A B f h = f h
store_result_ok (Err Memory) A B f h = h
store_result_ok (Err Failed) A B f h = h

store_memory : (r : Result (Unit {0}) Trouble) → store_result r ≡ Err fault.Memory → r ≡ Err Memory
store_memory (Ok x) e = absurd cc
store_memory (Err Memory) e = refl
store_memory (Err Failed) e = absurd cc

row_kept : (members f : ℕ) (id : Identity) (r : NewRow) (bytes : Bytes) (old : State) (db : Trees) → Replaces r (stored_of members f old) → IsPut id r bytes old.committed.trees db
    → record_in db ≡ with_row r bytes (record_in old.committed.trees)
row_kept members f id (Meta round number) bytes old db good h = meta_kept old.committed.trees db id.cluster id.members id.node round number h
row_kept members f id (Slot p promised ballot) bytes old db good h = slot_kept old.committed.trees db p promised ballot bytes (slot_keyed members p _ good) h
row_kept members f id (Floor ballot) bytes old db good h = floor_kept old.committed.trees db ballot h
row_kept members f id (Learned p) bytes old db good h = learned_kept old.committed.trees db p bytes (learned_keyed members p _ good) h

pub changed : (members f g : ℕ) (id : Identity) (r : NewRow) (bytes : Bytes) (answer : Result (Unit {0}) Trouble) (old new : State) → Replaces r (stored_of members f old) → Wrote id r bytes answer old new
    → Changed (with_row r bytes (record_in old.committed.trees)) (store_result answer) (stored_of members f old) (stored_of members g new)
changed members f g id r bytes answer old new good w = record {
  ok = store_result_ok answer (IsPut id r bytes old.committed.trees new.committed.trees × IsSettled new) _ (λ h. row_kept members f id r bytes old new.committed.trees good h.0) w.ok;
  memory = λ is. all_kept members f g old new (w.memory (store_memory answer is)).committed;
  stop = λ d left. elim (w.stop left.0 left.1) [
    | inl was ↦ inl (left.0, was, left.2)
    | inr made ↦ inr (left.2 ∙ row_kept members f id r bytes old left.0 good made)
  ];
}

-- ---- what the keeper has beside the connection

meta_after : (id : Identity) (r : NewRow) (bytes : Bytes) (m : kept.Meta) (old new : Trees) → HasFloor r → IsMeta id m old → IsPut id r bytes old new → IsMeta id (meta_with r m) new
meta_after id (Meta round number) bytes m old new floor is p = meta_shown id m round number old new is p
meta_after id (Slot q promised ballot) bytes m old new floor is p = other_put id m old new is (p.trees 0 (λ e. cc)) (p.trees 2 (λ e. cc))
meta_after id (Floor ballot) bytes m old new floor is p = floor_shown id m ballot old new is floor p
meta_after id (Learned q) bytes m old new floor is p = other_put id m old new is (p.trees 0 (λ e. cc)) (p.trees 2 (λ e. cc))

pub still_ready : (id : Identity) (r : NewRow) (bytes : Bytes) (m n : kept.Meta) (old new : State) → n ≡ meta_with r m → HasFloor r → IsMeta id m old.committed.trees → IsPut id r bytes old.committed.trees new.committed.trees × IsSettled new
    → (new.now.schema ≡ schema_3) × ((new.in_transaction ≡ false) × ((new.is_open ≡ true) × IsMeta id n new.committed.trees))
still_ready id r bytes m n old new agrees floor is w =
    (w.1.schema, (w.1.auto, (w.1.is_open, subst (λ (x : kept.Meta). IsMeta id x new.committed.trees) (sym agrees) (meta_after id r bytes m old.committed.trees new.committed.trees floor is w.0))))

-- ---- whose it is

named_of : (id : Identity) (rows : List Row) (round number : ℕ) → rows ≡ meta_row 3 id.cluster id.members id.node round number ∷ [] → IsNamed id rows
named_of id rows round number is = subst (IsNamed id) (sym is) refl

-- the rows for the whole node name it
pub meta_named : (id : Identity) (m : kept.Meta) (db : Trees) → IsMeta id m db → IsNamed id (seen meta_columns (db 0) 1)
meta_named id m db is = named_of id _ m.round m.number is.0

-- and so does what a stop leaves while a row is put
pub still_owned : (id : Identity) (r : NewRow) (bytes : Bytes) (m : kept.Meta) (answer : Result (Unit {0}) Trouble) (old new : State) → (HasCleanDisk new → HasCleanDisk old) → HasFloor r
    → (HasCleanDisk old → IsMeta id m old.committed.trees) → IsOwned id old → (HasCleanDisk new → Wrote id r bytes answer old new) → IsOwned id new
still_owned id r bytes m answer old new was floor is owned wrote = λ clean db left. elim ((wrote clean).stop db left) [
  | inl before ↦ owned (was clean) db before
  | inr made ↦ meta_named id (meta_with r m) db (meta_after id r bytes m old.committed.trees db floor (is (was clean)) made)
]
