-- What the statement that asks for the last accepted proposal answers.
use Rattle.std.proofs.Common.{◌≡◌, inl, inr, ℕ, List, [], ◌∷◌, ◌++◌, filter, map, All, Bool, true, false, cond, Ordering, Less, Equal, Greater, refl, sym, ap, subst, ◌∙◌, arith}
use Rattle.std.specs.List.{flat_map, list_all}
use Rattle.std.specs.List.Sorted.{IsPermutation, IsSorted, IsSortedBy}
use Rattle.std.specs.Ordering.{is_lt, is_gt, ordering_reverse}
use Rattle.std.proofs.lemmas.Bool.{cases_Bool}
use Rattle.std.proofs.lemmas.List.Elements.{All-cons, All-head, All-tail}
use Rattle.std.proofs.lemmas.List.Sorted.{All-permutation, IsPermutation-sym, ranks_by, IsStrictWeakOrder-flip, sorted_far}
use Rattle.sqlite.specs.declared.types.Value.TheVariants.{Null}
use Rattle.sqlite_value.specs.Order.{Row, column, value_cmp}
use Rattle.sqlite_value.proofs.OrderLemmas.{value_cmp_total, then-Equal}
use Rattle.sqlite.specs.Query.{Query, IsAnswer, output, output_cmp, page, Output, matches}
use Rattle.sqlite.specs.Term.{Term, holds}
use Rattle.sqlite.specs.Program.{overlay}
use Rattle.sqlite.specs.Tree.{Trees}
use Rattle.sqlite_rules.specs.Lists.{Has}
use Rattle.sqlite.specs.State.{State, Shown}
use Rattle.sqlite.proofs.Callers.{reads_as}
use Rattle.px_store.specs.Seen.{any_row}
use Rattle.px_store.specs.inner.Seen.{IsLast}
use Rattle.sqlite.specs.Schema.{Schema}
use Rattle.px_store.specs.Judging.{has_rows}
use Rattle.px_store.proofs.Texts.{last_row, select, top_names, Asks}
use Rattle.px_store.proofs.Puts.{has_filter}
use Rattle.px_store.proofs.Gets.{map_map}

pub filter_has : (t : Row → Bool) (rows : List Row) (r : Row) → Has (filter t rows) r → Has rows r × (t r ≡ true)
filter_has t [] r h = absurd h
filter_has t (x ∷ rows) r h = go (t x) refl h (filter_has t rows r)
  where
    go : (b : Bool) → t x ≡ b → Has (cond b (x ∷ filter t rows) (filter t rows)) r → (Has (filter t rows) r → Has rows r × (t r ≡ true)) → Has (x ∷ rows) r × (t r ≡ true)
    go true is (inl same) more = (inl same, rw same is)
    go true is (inr later) more = let m = more later in (inr m.0, m.1)
    go false is h more = let m = more h in (inr m.0, m.1)

all_map : (P : Output → Type 0) (f : Row → Output) (rows : List Row) → ((r : Row) → Has rows r → P (f r)) → All P (map f rows)
all_map P f [] h = λ i d low. absurd (omega (arith, low))
all_map P f (r ∷ rows) h = All-cons P (f r) (map f rows) (h r (inl refl)) (all_map P f rows (λ x has. h x (inr has)))

map_all : (P : Output → Type 0) (f : Row → Output) (rows : List Row) → All P (map f rows) → (r : Row) → Has rows r → P (f r)
map_all P f [] all r h = absurd h
map_all P f (x ∷ rows) all r (inl same) = subst (λ y. P (f y)) (sym same) (All-head P (f x) (map f rows) all)
map_all P f (x ∷ rows) all r (inr h) = map_all P f rows (All-tail P (f x) (map f rows) all) r h

not_above : (o : Ordering) → is_lt o ≡ false → is_gt (ordering_reverse o) ≡ false
not_above Less e = absurd cc
not_above Equal e = refl
not_above Greater e = refl

out : Row → Output
out r = (column r 0 ∷ [], column r 0 ∷ [])

module _ (tree : ℕ) (filters : List Term) (test : Row → Bool) (tests : (r : Row) → list_all (holds ([] ∷ r ∷ [])) filters ≡ test r)
    (bare : (db : Trees) → overlay db [] tree ≡ db tree) (db : Trees) where
  abbrev query : Query
  query = last_row tree filters

  passing : List Row
  passing = filter test (db tree)

  staged_is : matches (overlay db []) query.filter query.from ([] ∷ []) ≡ map (λ r. [] ∷ r ∷ []) passing
  unfolding passing
  staged_is = ap (λ rows. flat_map (λ r. cond (list_all (holds ([] ∷ r ∷ [])) filters) (([] ∷ r ∷ []) ∷ []) []) rows) (bare db) ∙ go (db tree)
    where
      go : (rows : List Row) → flat_map (λ r. cond (list_all (holds ([] ∷ r ∷ [])) filters) (([] ∷ r ∷ []) ∷ []) []) rows ≡ map (λ r. [] ∷ r ∷ []) (filter test rows)
      go [] = refl
      go (r ∷ rows) = rw (tests r, go rows) (one (test r))
        where
          one : (b : Bool) → cond b (([] ∷ r ∷ []) ∷ []) [] ++ map (λ r. [] ∷ r ∷ []) (filter test rows) ≡ map (λ r. [] ∷ r ∷ []) (cond b (r ∷ filter test rows) (filter test rows))
          one true = refl
          one false = refl

  abbrev Shows : Output → Type 0
  Shows o = (r : Row) × Has passing r × (o ≡ out r)

  last_of : (kept ordered : List Output) → kept ≡ map out passing → IsPermutation kept ordered → IsSorted (output_cmp query) ordered → (rows : List Row)
      → rows ≡ page query [] (map (λ (o : Output). o.1) ordered) → IsLast test (db tree) rows
  unfolding passing out
  last_of kept [] is same sorted rows shown =
      let nothing : All (λ (o : Output). ⊥) kept = All-permutation (λ o. ⊥) [] kept (IsPermutation-sym kept [] same) (λ i d low. absurd (omega (arith, low))) in
      let none : (r : Row) → Has (db tree) r → test r ≡ false = λ r h. elim (cases_Bool (test r)) [
        | inl good ↦ absurd (map_all (λ o. ⊥) out passing (subst (All (λ (o : Output). ⊥)) is nothing) r (has_filter test (db tree) r h good))
        | inr bad ↦ bad
      ] in
      subst (IsLast test (db tree)) (sym shown) none
  last_of kept (o ∷ more) is same sorted rows shown =
      let key : Output → Rattle.sqlite.specs.declared.types.Value.Value = λ x. column x.0 0 in
      let weak = IsStrictWeakOrder-flip _ (ranks_by value_cmp_total key) in
      let up : IsSortedBy (λ x y. is_lt (value_cmp (key y) (key x))) (o ∷ more) = λ k d low high. sym (ap is_lt (then-Equal _)) ∙ sorted k d low high in
      let member = All-permutation Shows kept (o ∷ more) same (subst (All Shows) (sym is) (all_map Shows out passing (λ r h. (r, h, refl)))) 0 o (omega arith) in
      let first = filter_has test (db tree) member.0 member.1 in
      let below : All (λ x. is_gt (value_cmp (key x) (key o)) ≡ false) (o ∷ more) = λ j d low.
      ap is_gt (value_cmp_total.antisymm _ _) ∙ not_above _ (sorted_far (λ x y. is_lt (value_cmp (key y) (key x))) weak (o ∷ more) up 0 j d (omega arith) low) in
      let all = subst (All (λ x. is_gt (value_cmp (key x) (key o)) ≡ false)) is (All-permutation (λ x. is_gt (value_cmp (key x) (key o)) ≡ false) (o ∷ more) kept (IsPermutation-sym kept (o ∷ more) same) below) in
      let top : key o ≡ column member.0 0 = ap key member.2 in
      let most : (x : Row) → Has (db tree) x → test x ≡ true → is_gt (value_cmp (column x 0) (column member.0 0)) ≡ false = λ x h yes.
      ap (λ v. is_gt (value_cmp (column x 0) v)) (sym top) ∙ map_all (λ y. is_gt (value_cmp (key y) (key o)) ≡ false) out passing all x (has_filter test (db tree) x h yes) in
      subst (IsLast test (db tree)) (sym shown) (member.0, first.0, first.1, ap (λ (x : Output). x.1) member.2, most)

  pub last_is : (rows : List Row) → IsAnswer query (overlay db []) [] rows → IsLast test (db tree) rows
  unfolding out
  last_is rows a =
      last_of a.kept a.ordered (a.distinct ∙ ap (map (output query)) (a.grouped ∙ staged_is) ∙ map_map (output query) (λ r. [] ∷ r ∷ []) out (λ r. refl) passing) a.same a.sorted rows a.shown

  module _ (schema : Schema) (text : List ℕ) (asks : Asks schema text query top_names) where
    pub ends : (old new : State) (rows : List Row) → old.now.schema ≡ schema → old.now.trees ≡ db → Shown text [] old new rows → IsLast test (db tree) rows
    ends old new rows has same h =
        last_is rows (subst (λ (t : Trees). IsAnswer query (overlay t []) [] rows) same ((reads_as text [] old new schema has (select query top_names) asks.means.is asks.means.plain asks.unlisted rows h).answer Null))

-- an answer with no row comes of no rows alone
pub last_some : (tree rows : List Row) → IsLast any_row tree rows → has_rows rows ≡ has_rows tree
last_some [] [] h = refl
last_some (r ∷ more) [] h = let never = h r (inl refl) in absurd cc
last_some [] (a ∷ []) (r, has, good, is, above) = absurd has
last_some (r ∷ more) (a ∷ []) h = refl
last_some tree (a ∷ b ∷ more) h = absurd h
