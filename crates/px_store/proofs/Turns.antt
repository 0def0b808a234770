-- Rows that are read ahead of a reader that asks them in turn.
use Rattle.std.proofs.Common.{◌≡◌, ◌≢◌, inl, inr, ℕ, ◌+◌, ◌≤◌, ◌<◌, pos, List, [], ◌∷◌, map, filter, Bool, true, false, cond, ◌&&◌, Ordering, Less, Equal, Greater, refl, sym, ap, subst, ◌∙◌, length, arith, nat_eq}
use Rattle.std.specs.Prelude.{nat_le, nat_lt, drop, Option, None, Some, option_to_list, ◌++◌}
use Rattle.std.specs.List.{list_all}
use Rattle.std.specs.List.Sorted.{IsPermutation}
use Rattle.std.specs.Ordering.{is_eq, int_cmp}
use Rattle.std.proofs.lemmas.Bool.{and_parts, and_from, leb-true, le-leb, le-ltb, lt-ltb, cases_eq, eqb-true, eq-eqb}
use Rattle.sqlite.specs.declared.types.Value.{Value}
use Rattle.sqlite.specs.declared.types.Value.TheVariants.{Null, Int, Real, Text, Blob}
use Rattle.sqlite_value.specs.Order.{Row, column, value_cmp}
use Rattle.sqlite_value.proofs.OrderLemmas.{value_cmp-Int, value_cmp-Null, value_cmp_total}
use Rattle.sqlite.specs.Collation.TheVariants.{Binary}
use Rattle.sqlite.specs.Ops.{binary, is_true}
use Rattle.sqlite_sql.specs.Ops.{test}
use Rattle.sqlite_sql.specs.declared.ops.BinaryOp.TheVariants.{Compare}
use Rattle.sqlite_sql.specs.declared.ops.CompareOp.{CompareOp}
use Rattle.sqlite_sql.specs.declared.ops.CompareOp.TheVariants.{Lt, Ge}
use Rattle.sqlite.specs.Term.{holds}
use Rattle.sqlite_trees.specs.Tree.{has_rowid}
use Rattle.sqlite_trees.proofs.ListLemmas.{IsPermutation-filter}
use Rattle.sqlite.specs.State.{State, Shown}
use Rattle.px_store.specs.inner.Tables.{get_span, span_params}
use Rattle.px_store.specs.Formats.{schema_at, has_table}
use Rattle.px_store.specs.Seen.{rows_at, shown, seen, learned_columns, is_number, number_in, is_key}
use Rattle.px_store.specs.inner.Effect.{IsAlike}
use Rattle.px_store.specs.inner.Ahead.{rises, has_first, AreAlike, IsAhead}
use Rattle.px_store.specs.declared.formats.Format.{Format}
use Rattle.px_store.proofs.Texts.{in_span, pair_project, learned_names, span_asks}
use Rattle.px_store.proofs.Puts.{truth_back}
use Rattle.px_store.proofs.Rows.{apart}
use Rattle.px_store.proofs.Above.{number_is}
use Rattle.px_store.proofs.Gets.{alike, shows_passing}

-- ---- the statement

filter_both : (t u : Row → Bool) → ((r : Row) → u r ≡ true → t r ≡ true) → (rows : List Row) → filter u (filter t rows) ≡ filter u rows
filter_both t u within [] = refl
filter_both t u within (r ∷ rows) = go (t r) refl (u r) refl (filter_both t u within rows)
  where
    go : (a : Bool) → t r ≡ a → (b : Bool) → u r ≡ b → filter u (filter t rows) ≡ filter u rows → filter u (cond a (r ∷ filter t rows) (filter t rows)) ≡ cond b (r ∷ filter u rows) (filter u rows)
    go true x true y more = rw (y, more) refl
    go true x false y more = rw (y, more) refl
    go false x true y more = absurd (let e : false ≡ true = sym x ∙ within r y in cc)
    go false x false y more = more

filter_map : (u : Row → Bool) (f : Row → Row) → ((r : Row) → u (f r) ≡ u r) → (rows : List Row) → filter u (map f rows) ≡ map f (filter u rows)
filter_map u f same [] = refl
filter_map u f same (r ∷ rows) = rw (same r, filter_map u f same rows) (go (u r))
  where
    go : (b : Bool) → cond b (f r ∷ map f (filter u rows)) (map f (filter u rows)) ≡ map f (cond b (r ∷ filter u rows) (filter u rows))
    go true = refl
    go false = refl

equal_is : (o : Ordering) → is_eq o ≡ true → o ≡ Equal
equal_is Less e = absurd cc
equal_is Equal e = refl
equal_is Greater e = absurd cc

-- SQL compares a row's key as the number that it equals
compares : (op : CompareOp) (v : Value) (p n : ℕ) → is_eq (value_cmp v (Int (pos p))) ≡ true → is_true (binary (Compare op Binary) v (Int (pos n))) ≡ test op (int_cmp (pos p) (pos n))
unfolding binary
compares op v p n e = go v (value_cmp_total.congr v (Int (pos p)) (Int (pos n)) (equal_is (value_cmp v (Int (pos p))) e) ∙ value_cmp-Int (pos p) (pos n)) e
  where
    go : (v : Value) → value_cmp v (Int (pos n)) ≡ int_cmp (pos p) (pos n) → is_eq (value_cmp v (Int (pos p))) ≡ true → is_true (binary (Compare op Binary) v (Int (pos n))) ≡ test op (int_cmp (pos p) (pos n))
    go Null same e = absurd (let f : false ≡ true = sym (ap is_eq (value_cmp-Null (Int (pos p)))) ∙ e in cc)
    go (Int k) same e = truth_back _ ∙ ap (test op) same
    go (Real x) same e = truth_back _ ∙ ap (test op) same
    go (Text t) same e = truth_back _ ∙ ap (test op) same
    go (Blob b) same e = truth_back _ ∙ ap (test op) same

not_below : (p n : ℕ) → n ≤ p → test Ge (int_cmp (pos p) (pos n)) ≡ true
not_below p n low = rw (le-ltb p n low) (go (nat_lt n p))
  where
    go : (b : Bool) → test Ge (cond b Greater Equal) ≡ true
    go true = refl
    go false = refl

below : (p n : ℕ) → p < n → test Lt (int_cmp (pos p) (pos n)) ≡ true
below p n high = rw (lt-ltb p n high) refl

passes : (first end p : ℕ) → first ≤ p → p < end → (r : Row) → has_rowid (pos p) r ≡ true → list_all (holds (span_params first end ∷ r ∷ [])) in_span ≡ true
passes first end p low high r it =
    and_from _ _ (compares Ge (column r 0) p first it ∙ not_below p first low) (and_from _ _ (compares Lt (column r 0) p end it ∙ below p end high) refl)

pub spans : (f : Format) → has_table 3 f ≡ true → (old new : State) (first end : ℕ) (rows : List Row) → old.now.schema ≡ schema_at f → Shown get_span (span_params first end) old new rows → AreAlike first end (old.now.trees 3) rows
spans f has old new first end rows is h = λ p low high.
    let test : Row → Bool = λ r. list_all (holds (span_params first end ∷ r ∷ [])) in_span in
    let same = shows_passing 3 in_span pair_project learned_columns (span_params first end) test (λ r. refl) (λ db. refl) (λ r. refl) (schema_at f) get_span learned_names (span_asks f has) old new rows is h in
    let key = has_rowid (pos p) in
    alike _ _ (subst (λ (xs : List Row). IsPermutation xs (rows_at rows p)) (filter_map key (shown learned_columns) (λ r. refl) (filter test (old.now.trees 3)) ∙ ap (map (shown learned_columns)) (filter_both test key (passes first end p low high) (old.now.trees 3)))
    (IsPermutation-filter key _ rows same))

-- ---- rows in rising order

not_equal : (o : Ordering) → o ≢ Equal → is_eq o ≡ false
not_equal Less ne = refl
not_equal Equal ne = absurd (ne refl)
not_equal Greater ne = refl

same_key : (k p : ℕ) (r : Row) → column r 0 ≡ Int (pos k) → k ≡ p → has_rowid (pos p) r ≡ true
same_key k p r key e =
    let even : int_cmp (pos p) (pos p) ≡ Equal = rw (le-ltb p p (omega arith)) refl in
    rw (key, e) (ap is_eq (value_cmp-Int (pos p) (pos p)) ∙ ap is_eq even)

other_key : (k p : ℕ) (r : Row) → column r 0 ≡ Int (pos k) → k ≢ p → has_rowid (pos p) r ≡ false
other_key k p r key ne = rw key (not_equal _ (apart p k ne))

abbrev key_of : Row → ℕ
key_of r = number_in (column r 0)

rises_on : (n : ℕ) (r : Row) (more : List Row) → rises n (r ∷ more) ≡ true → (column r 0 ≡ Int (pos (key_of r))) × (n ≤ key_of r) × (rises (key_of r + 1) more ≡ true)
rises_on n r more up =
    let a = and_parts (is_number (column r 0)) (nat_le n (key_of r) && rises (key_of r + 1) more) up in
    let b = and_parts (nat_le n (key_of r)) (rises (key_of r + 1) more) a.1 in
    (number_is (column r 0) a.0, leb-true n (key_of r) b.0, b.1)

none_below : (n p : ℕ) (rows : List Row) → rises n rows ≡ true → p < n → rows_at rows p ≡ []
none_below n p [] up low = refl
none_below n p (r ∷ more) up low =
    let h = rises_on n r more up in
    let at_least = h.1 in
    rw (other_key (key_of r) p r h.0 (λ e. omega (arith, e, at_least, low))) (none_below (key_of r + 1) p more h.2 (omega (arith, at_least, low)))

-- a key has one row
one_row : (n p : ℕ) (rows : List Row) → rises n rows ≡ true → length (rows_at rows p) < 2
one_row n p [] up = omega arith
one_row n p (r ∷ more) up =
    let h = rises_on n r more up in
    elim (cases_eq (key_of r) p) [
      | inl e ↦ rw (same_key (key_of r) p r h.0 e, none_below (key_of r + 1) p more h.2 (omega (arith, e))) (omega arith)
      | inr ne ↦ rw (other_key (key_of r) p r h.0 ne) (one_row (key_of r + 1) p more h.2)
    ]

only_one : (rows answer : List Row) → IsAlike rows answer → length answer < 2 → rows ≡ answer
only_one rows answer (inl same) few = same
only_one rows answer (inr two) few = absurd (let more = two.1 in omega (arith, few, more))

pub held : (first end : ℕ) (table rows : List Row) → rises first rows ≡ true → AreAlike first end table rows → IsAhead first end table rows
held first end table rows up same = (up, λ p low high. only_one (seen learned_columns table p) (rows_at rows p) (same p low high) (one_row first p rows up))

-- no position is there
pub none_held : (table : List Row) → IsAhead 0 0 table []
none_held table = (refl, λ p low high. absurd (omega (arith, high)))

-- ---- the position that comes next is passed

pub pass_some : (n end : ℕ) (table : List Row) (r : Row) (more : List Row) → n < end → IsAhead n end table (r ∷ more) → is_key n (column r 0) ≡ true → (seen learned_columns table n ≡ r ∷ []) × IsAhead (n + 1) end table more
pass_some n end table r more within (up, same) is =
    let h = rises_on n r more up in
    let at : key_of r ≡ n = eqb-true (key_of r) n (and_parts (is_number (column r 0)) (nat_eq (key_of r) n) is).1 in
    let on : rises (n + 1) more ≡ true = subst (λ (k : ℕ). rises (k + 1) more ≡ true) at h.2 in
    let one : rows_at (r ∷ more) n ≡ r ∷ [] = rw (same_key (key_of r) n r h.0 at, none_below (n + 1) n more on (omega arith)) refl in
    (same n (omega arith) within ∙ one, (on, λ p low high. same p (omega (arith, low)) high ∙ rw (other_key (key_of r) p r h.0 (λ e. omega (arith, e, at, low))) refl))

pub pass_none : (n end : ℕ) (table rows : List Row) → n < end → IsAhead n end table rows → has_first n rows ≡ false → (seen learned_columns table n ≡ []) × IsAhead (n + 1) end table rows
pass_none n end table [] within (up, same) not_it = (same n (omega arith) within, (refl, λ p low high. same p (omega (arith, low)) high))
pass_none n end table (r ∷ more) within (up, same) not_it =
    let h = rises_on n r more up in
    let number : is_number (column r 0) ≡ true = ap is_number h.0 in
    let ne : key_of r ≢ n = λ e. let f : true ≡ false = sym (and_from _ _ number (eq-eqb (key_of r) n e)) ∙ not_it in cc in
    let at_least = h.1 in
    let on : rises (n + 1) (r ∷ more) ≡ true = and_from _ _ number (and_from _ _ (le-leb (n + 1) (key_of r) (omega (arith, at_least, ne))) h.2) in
    (same n (omega arith) within ∙ none_below (n + 1) n (r ∷ more) on (omega arith), (on, λ p low high. same p (omega (arith, low)) high))

-- what `pop_front` gives and leaves
pub pass_first : (n end : ℕ) (table rows : List Row) (row : Option Row) (more : List Row) → n < end → IsAhead n end table rows → has_first n rows ≡ true → rows ≡ option_to_list row ++ more → more ≡ drop 1 rows
    → (seen learned_columns table n ≡ option_to_list row) × IsAhead (n + 1) end table more
pass_first n end table [] row more within ahead first items rest = absurd cc
pass_first n end table (r ∷ rows) None more within ahead first items rest = absurd (let e = ap length (items ∙ rest) in omega (arith, e))
pass_first n end table (r ∷ rows) (Some x) more within ahead first items rest = pass_some n end table x more within (subst (IsAhead n end table) items ahead) (subst (λ (xs : List Row). has_first n xs ≡ true) items first)

-- ---- the test

pub rises_more : (n k : ℕ) (r : Row) (more : List Row) → is_number (column r 0) ≡ true → number_in (column r 0) ≡ k → n ≤ k → rises (k + 1) more ≡ true → rises n (r ∷ more) ≡ true
rises_more n k r more number is low up = and_from _ _ number (and_from _ _ (le-leb n (key_of r) (omega (arith, is, low))) (subst (λ (k : ℕ). rises (k + 1) more ≡ true) (sym is) up))
