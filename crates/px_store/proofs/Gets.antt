-- What a statement that reads by a key answers.
use Rattle.std.proofs.Common.{◌≡◌, inl, inr, ℕ, pos, List, [], ◌∷◌, ◌++◌, map, filter, Bool, true, false, cond, ◌&&◌, refl, sym, ap, subst, subst₂, ◌∙◌, length, arith}
use Rattle.std.specs.List.{flat_map, list_all}
use Rattle.std.specs.Prelude.{IsTrue}
use Rattle.std.specs.List.Sorted.{IsPermutation}
use Rattle.std.proofs.lemmas.List.Sorted.{IsPermutation-map, length_permutation}
use Rattle.sqlite.specs.declared.types.Value.TheVariants.{Null, Int}
use Rattle.sqlite_value.specs.Order.{Row}
use Rattle.sqlite.specs.Query.{Query, IsAnswer, output, Output, matches}
use Rattle.sqlite.specs.Schema.{Schema}
use Rattle.sqlite.specs.Term.{Term, holds, eval_all}
use Rattle.sqlite.specs.Program.{overlay}
use Rattle.sqlite.specs.Tree.{Trees}
use Rattle.sqlite_trees.specs.Tree.{rowid, has_rowid}
use Rattle.sqlite.specs.declared.error.Error.{Error}
use Rattle.sqlite.specs.State.{State, Shown, FailsToQuery, IsNotRun, IsUnchanged}
use Rattle.sqlite.specs.Listing.{understood}
use Rattle.sqlite.proofs.Callers.{IsPlain, reads_as, one_permutation}
use Rattle.px_store.specs.Seen.{shown, seen}
use Rattle.px_store.specs.inner.Effect.{Stays, IsAlike}
use Rattle.px_store.proofs.Texts.{rows_by, by_key, with_key, select, Asks}
use Rattle.px_store.proofs.Puts.{equal_rowid, unchanged, undone, fails}

pub and_true : (b : Bool) → (b && true) ≡ b
and_true true = refl
and_true false = refl

pub map_map : {X Y Z : Type 0} (f : Y → Z) (g : X → Y) (h : X → Z) → ((x : X) → f (g x) ≡ h x) → (xs : List X) → map f (map g xs) ≡ map h xs
map_map f g h same [] = refl
map_map f g h same (x ∷ xs) = rw (same x, map_map f g h same xs) refl

pub alike : (rows answer : List Row) → IsPermutation rows answer → IsAlike rows answer
alike rows answer h = go rows answer (length_permutation rows answer h) h
  where
    go : (rows answer : List Row) → length answer ≡ length rows → IsPermutation rows answer → IsAlike rows answer
    go [] [] same h = inl refl
    go [] (y ∷ ys) same h = absurd (omega (arith, same))
    go (x ∷ []) ys same h = inl (sym (one_permutation x ys h))
    go (x ∷ y ∷ xs) [] same h = absurd (omega (arith, same))
    go (x ∷ y ∷ xs) (z ∷ []) same h = absurd (omega (arith, same))
    go (x ∷ y ∷ xs) (z ∷ w ∷ ws) same h = inr (omega arith, omega arith)

-- the rows that pass a test
module _ (tree : ℕ) (filters project : List Term) (columns : List ℕ) (given : Row) (test : Row → Bool) (tests : (r : Row) → list_all (holds (given ∷ r ∷ [])) filters ≡ test r)
    (bare : (db : Trees) → overlay db [] tree ≡ db tree) (shows : (r : Row) → eval_all project (given ∷ r ∷ []) ≡ shown columns r) where
  abbrev query : Query
  query = rows_by tree filters project

  found : (db : Trees) → matches (overlay db []) query.filter query.from (given ∷ []) ≡ map (λ r. given ∷ r ∷ []) (filter test (db tree))
  found db = ap (λ rows. flat_map (λ r. cond (list_all (holds (given ∷ r ∷ [])) filters) ((given ∷ r ∷ []) ∷ []) []) rows) (bare db) ∙ go (db tree)
    where
      go : (rows : List Row) → flat_map (λ r. cond (list_all (holds (given ∷ r ∷ [])) filters) ((given ∷ r ∷ []) ∷ []) []) rows ≡ map (λ r. given ∷ r ∷ []) (filter test rows)
      go [] = refl
      go (r ∷ rows) = rw (tests r, go rows) (one (test r))
        where
          one : (b : Bool) → cond b ((given ∷ r ∷ []) ∷ []) [] ++ map (λ r. given ∷ r ∷ []) (filter test rows) ≡ map (λ r. given ∷ r ∷ []) (cond b (r ∷ filter test rows) (filter test rows))
          one true = refl
          one false = refl

  -- the answer shows them, in some order
  answered : (db : Trees) (rows : List Row) → IsAnswer query (overlay db []) given rows → IsPermutation (map (shown columns) (filter test (db tree))) rows
  answered db rows a =
      let staged = a.grouped ∙ found db in
      let kept : a.kept ≡ map (output query) (map (λ r. given ∷ r ∷ []) (filter test (db tree))) = a.distinct ∙ ap (map (output query)) staged in
      let outs : map (λ (o : Output). o.1) a.kept ≡ map (shown columns) (filter test (db tree)) =
      ap (map (λ (o : Output). o.1)) kept ∙ map_map (λ (o : Output). o.1) (output query) (λ e. eval_all project e) (λ e. refl) _ ∙ map_map (λ e. eval_all project e) (λ r. given ∷ r ∷ []) (shown columns) shows _ in
      subst₂ IsPermutation outs (sym a.shown) (IsPermutation-map (λ (o : Output). o.1) a.kept a.ordered a.same)

  pub shows_passing : (schema : Schema) (text : List ℕ) (names : List (List ℕ)) → Asks schema text query names → (old new : State) (rows : List Row) → old.now.schema ≡ schema → Shown text given old new rows
      → IsPermutation (map (shown columns) (filter test (old.now.trees tree))) rows
  shows_passing schema text names asks old new rows has h =
      answered old.now.trees rows ((reads_as text given old new schema has (select query names) asks.means.is asks.means.plain asks.unlisted rows h).answer Null)

-- the rows of a key
module _ (tree : ℕ) (project : List Term) (columns : List ℕ) (bare : (db : Trees) → overlay db [] tree ≡ db tree) (shows : (given r : Row) → eval_all project (given ∷ r ∷ []) ≡ shown columns r)
    (schema : Schema) (text : List ℕ) (names : List (List ℕ)) (asks : Asks schema text (by_key tree project) names) where
  pub finds : (old new : State) (p : ℕ) (rows : List Row) → old.now.schema ≡ schema → Shown text (Int (pos p) ∷ []) old new rows → IsAlike (seen columns (old.now.trees tree) p) rows
  finds old new p rows has h =
      let given : Row = Int (pos p) ∷ [] in
      alike _ _ (shows_passing tree with_key project columns given (has_rowid (pos p)) (λ r. and_true _ ∙ equal_rowid (rowid r) (pos p)) bare (shows given) schema text names asks old new rows has h)

-- ---- a query changes nothing

pub reads_only : (text : List ℕ) (params : Row) (old new : State) (rows : List Row) → IsPlain (understood old.now.schema text) → Shown text params old new rows → IsUnchanged old new
unfolding Shown
reads_only text params old new rows plain h =
    let none = (subst IsPlain h.1.is plain).0 in
    (rw none at h.2).3

pub query_fails : (text : List ℕ) (params : Row) (old new : State) (e : Error) → old.in_transaction ≡ false → (IsTrue old.is_open → old.now ≡ old.committed) → IsPlain (understood old.now.schema text) → FailsToQuery text params old new e → Stays old new
unfolding FailsToQuery IsNotRun
query_fails text params old new e auto settled plain (inl (inl h)) = unchanged old new auto settled h.1
query_fails text params old new e auto settled plain (inl (inr h)) = undone old new (fails old new _ e h)
query_fails text params old new e auto settled plain (inr h) =
    let none = (subst IsPlain h.1.is plain).0 in
    unchanged old new auto settled (rw none at h.2).3
