-- How many entries come and go.
use Rattle.std.proofs.Common.{◌≡◌, ℕ, ◌+◌, ◌≤◌, Bool, true, false, ◌&&◌, ◌||◌, cond, List, [], ◌∷◌, ◌++◌, length, refl, sym, ap, ap₂, ◌∙◌, arith, length-append}
use Rattle.std.specs.declared.cmp.Ordering.TheVariants.{Less, Equal, Greater}
use Rattle.std.specs.Prelude.{if◌then◌else◌, filter, not}
use Rattle.std.specs.List.{list_all, list_any}
use Rattle.std.specs.Ordering.{is_lt, is_eq}
use Rattle.std.proofs.lemmas.List.Elements.{filter-append}
use Rattle.std.proofs.lemmas.List.Filters.{length-filter_both}
use Rattle.std.proofs.lemmas.Map.Views.{any-filter_same}
use Rattle.pf_addr.specs.Blocks.{Block}
use Rattle.pf_addr.specs.Order.{prefix_cmp}
use Rattle.pf_addr.proofs.Order.{is_equal, itself, same, turned, turned_less}
use Rattle.pf_rules.specs.declared.ruleset.TableEntry.{TableEntry}
use Rattle.pf_tables.specs.Tables.{bool_eq}
use Rattle.pf_tables.specs.Contents.{is_prefix, entries_before, entries_behind, put_entry, with_entries, contents_of, same_entry, unlisted, without_entries, count_without}
use Rattle.pf_tables.proofs.Lookups.{both_true}

abbrev count : (TableEntry → Bool) → List TableEntry → ℕ
count t es = length (filter t es)

-- ---- one entry more

apart : (t : TableEntry → Bool) (p : Block) (es : List TableEntry) → list_any (is_prefix p) es ≡ false → count t (entries_before p es) + count t (entries_behind p es) ≡ count t es
apart t p [] h = refl
apart t p (e ∷ es) h =
    (elim (prefix_cmp e.prefix p) as (λ o. prefix_cmp e.prefix p ≡ o → (is_eq o || list_any (is_prefix p) es) ≡ false → count t (cond (is_lt o) (e ∷ entries_before p es) (entries_before p es)) + count t (entries_behind p (e ∷ es)) ≡ count t (e ∷ es)) [
      | Less ↦ λ o k. (let rest = apart t p es k in rw (turned_less e.prefix p o) (elim (t e) as (λ b. length (cond b (e ∷ filter t (entries_before p es)) (filter t (entries_before p es))) + count t (entries_behind p es) ≡ length (cond b (e ∷ filter t es) (filter t es))) [ true ↦ omega (arith, rest) | false ↦ rest ]))
      | Equal ↦ λ o k. cc
      | Greater ↦ λ o k. (let rest = apart t p es k in rw (turned e.prefix p o) (elim (t e) as (λ b. count t (entries_before p es) + length (cond b (e ∷ filter t (entries_behind p es)) (filter t (entries_behind p es))) ≡ length (cond b (e ∷ filter t es) (filter t es))) [ true ↦ omega (arith, rest) | false ↦ rest ]))
    ]) refl h

put_count : (t : TableEntry → Bool) (es : List TableEntry) (e : TableEntry) → count t (put_entry es e) ≡ count t es + (if list_any (is_prefix e.prefix) es then 0 else (if t e then 1 else 0))
put_count t es e =
    let p = e.prefix in
    (elim (list_any (is_prefix p) es) as (λ b. list_any (is_prefix p) es ≡ b → count t (if b then es else entries_before p es ++ e ∷ entries_behind p es) ≡ count t es + (if b then 0 else (if t e then 1 else 0))) [
      | true ↦ λ h. omega arith
      | false ↦ λ h.
          (let rest = apart t p es h in
          let long : count t (entries_before p es ++ e ∷ entries_behind p es) ≡ count t (entries_before p es) + count t (e ∷ entries_behind p es) = ap length (filter-append t (entries_before p es) (e ∷ entries_behind p es)) ∙ length-append (filter t (entries_before p es)) (filter t (e ∷ entries_behind p es)) in
          long ∙ elim (t e) as (λ c. count t (entries_before p es) + length (cond c (e ∷ filter t (entries_behind p es)) (filter t (entries_behind p es))) ≡ count t es + (if c then 1 else 0)) [ true ↦ omega (arith, rest) | false ↦ omega (arith, rest) ])
    ]) refl

-- ---- what is found stays found

any_counted : (t : TableEntry → Bool) (es : List TableEntry) → list_any t es ≡ true → 1 ≤ count t es
any_counted t [] h = cc
any_counted t (e ∷ es) h = (elim (t e) as (λ b. (b || list_any t es) ≡ true → 1 ≤ length (cond b (e ∷ filter t es) (filter t es))) [ true ↦ λ k. omega arith | false ↦ λ k. any_counted t es k ]) h

counted_any : (t : TableEntry → Bool) (es : List TableEntry) → 1 ≤ count t es → list_any t es ≡ true
counted_any t [] h = absurd (omega (arith, h))
counted_any t (e ∷ es) h = (elim (t e) as (λ b. 1 ≤ length (cond b (e ∷ filter t es) (filter t es)) → (b || list_any t es) ≡ true) [ true ↦ λ k. refl | false ↦ λ k. counted_any t es k ]) h

abbrev Finds : List TableEntry → List TableEntry → Type 0
Finds es fs = (t : TableEntry → Bool) → list_any t es ≡ true → list_any t fs ≡ true

put_finds : (es : List TableEntry) (e : TableEntry) → Finds es (put_entry es e)
put_finds es e t h = let one = any_counted t es h in let more = put_count t es e in counted_any t (put_entry es e) (omega (arith, one, more))

with_finds : (es more : List TableEntry) → Finds es (with_entries es more)
with_finds es [] t h = h
with_finds es (e ∷ more) t h = with_finds (put_entry es e) more t (put_finds es e t h)

filter_finds : (q : TableEntry → Bool) (es : List TableEntry) → Finds (filter q es) es
filter_finds q [] t h = cc
filter_finds q (e ∷ es) t h =
    (elim (q e) as (λ b. list_any t (cond b (e ∷ filter q es) (filter q es)) ≡ true → (t e || list_any t es) ≡ true) [
      | true ↦ λ k. (elim (t e) as (λ c. (c || list_any t (filter q es)) ≡ true → (c || list_any t es) ≡ true) [ true ↦ λ j. refl | false ↦ λ j. filter_finds q es t j ]) k
      | false ↦ λ k. elim (t e) as (λ c. (c || list_any t es) ≡ true) [ true ↦ refl | false ↦ filter_finds q es t k ]
    ]) h

bool_same : (b : Bool) → bool_eq b b ≡ true
bool_same true = refl
bool_same false = refl

each_listed : (es all : List TableEntry) → Finds es all → list_all (λ e. list_any (same_entry e) all) es ≡ true
each_listed [] all h = refl
each_listed (e ∷ es) all h =
    let own : list_any (same_entry e) (e ∷ es) ≡ true = rw (itself e.prefix, bool_same e.negated) refl in
    rw (h (same_entry e) own) (each_listed es all (λ t k. h t (elim (t e) as (λ b. (b || list_any t es) ≡ true) [ true ↦ refl | false ↦ k ])))

none_lacks : (es all : List TableEntry) → Finds es all → count_without es all ≡ 0
none_lacks es all h = none es (each_listed es all h)
  where
    none : (fs : List TableEntry) → list_all (λ e. list_any (same_entry e) all) fs ≡ true → count_without fs all ≡ 0
    none [] k = refl
    none (f ∷ fs) k = let both = both_true (list_any (same_entry f) all) (list_all (λ e. list_any (same_entry e) all) fs) k in rw both.0 (none fs both.1)

-- ---- entries that come in

pub none_gone : (es more : List TableEntry) → count_without es (with_entries es more) ≡ 0
none_gone es more = none_lacks es (with_entries es more) (with_finds es more)

no_same : (e : TableEntry) (es : List TableEntry) → list_any (is_prefix e.prefix) es ≡ false → list_any (same_entry e) es ≡ false
no_same e [] h = refl
no_same e (f ∷ es) h = (elim (is_eq (prefix_cmp f.prefix e.prefix)) as (λ b. (b || list_any (is_prefix e.prefix) es) ≡ false → ((b && bool_eq e.negated f.negated) || list_any (same_entry e) es) ≡ false) [ true ↦ λ k. cc | false ↦ λ k. no_same e es k ]) h

all_count : (es : List TableEntry) → count (λ e. true) es ≡ length es
all_count [] = refl
all_count (e ∷ es) = let rest = all_count es in omega (arith, rest)

not_found : (t : TableEntry → Bool) (es fs : List TableEntry) → Finds es fs → list_any t fs ≡ false → list_any t es ≡ false
not_found t es fs h k = (elim (list_any t es) as (λ b. list_any t es ≡ b → b ≡ false) [ true ↦ λ e. (let bad : true ≡ false = sym (h t e) ∙ k in cc) | false ↦ λ e. refl ]) refl

came : (es xs more : List TableEntry) → Finds es xs → count_without xs es + length es ≡ length xs → count_without (with_entries xs more) es + length es ≡ length (with_entries xs more)
came es xs [] f h = h
came es xs (e ∷ more) f h =
    let t : TableEntry → Bool = λ g. not (list_any (same_entry g) es) in
    let new = put_count t xs e in
    let long : length (put_entry xs e) ≡ length xs + (if list_any (is_prefix e.prefix) xs then 0 else 1) = sym (all_count (put_entry xs e)) ∙ put_count (λ g. true) xs e ∙ ap (λ n. n + (if list_any (is_prefix e.prefix) xs then 0 else 1)) (all_count xs) in
    let same_more : ◌≡◌ {A = ℕ} (if list_any (is_prefix e.prefix) xs then 0 else (if t e then 1 else 0)) (if list_any (is_prefix e.prefix) xs then 0 else 1) =
    (elim (list_any (is_prefix e.prefix) xs) as (λ b. list_any (is_prefix e.prefix) xs ≡ b → ◌≡◌ {A = ℕ} (if b then 0 else (if t e then 1 else 0)) (if b then 0 else 1)) [
      | true ↦ λ k. refl
      | false ↦ λ k. ap {B = ℕ} (λ b. if not b then 1 else 0) (no_same e es (not_found (is_prefix e.prefix) es xs f k))
    ]) refl in
    came es (put_entry xs e) more (λ u k. put_finds xs e u (f u k)) (omega (arith, new, long, same_more, h))

pub all_came : (es more : List TableEntry) → count_without (with_entries es more) es + length es ≡ length (with_entries es more)
all_came es more = let none = none_lacks es es (λ t h. h) in came es es more (λ t h. h) (omega (arith, none))

-- ---- entries that go

pub none_came : (es less : List TableEntry) → count_without (without_entries es less) es ≡ 0
none_came es less = none_lacks (without_entries es less) es (filter_finds (λ (e : TableEntry). not (list_any (same_entry e) (contents_of less))) es)

bools_same : (a b : Bool) → bool_eq a b ≡ true → a ≡ b
bools_same true true h = refl
bools_same true false h = cc
bools_same false true h = cc
bools_same false false h = refl

abbrev entry_with : Bool → Block → TableEntry
entry_with n p = record { negated = n; prefix = p }

same_is : (e f : TableEntry) → same_entry e f ≡ true → f ≡ e
same_is e f h =
    let both = both_true (is_eq (prefix_cmp f.prefix e.prefix)) (bool_eq e.negated f.negated) h in
    ap₂ entry_with (sym (bools_same e.negated f.negated both.1)) (same f.prefix e.prefix (is_equal _ both.0))

filter_where : (f g a : TableEntry → Bool) (es : List TableEntry) → ((e : TableEntry) → a e ≡ true → f e ≡ g e) → list_all a es ≡ true → filter f es ≡ filter g es
filter_where f g a [] h k = refl
filter_where f g a (e ∷ es) h k = let both = both_true (a e) (list_all a es) k in rw (h e both.0, filter_where f g a es h both.1) refl

pub all_gone : (es less : List TableEntry) → count_without es (without_entries es less) + length (without_entries es less) ≡ length es
all_gone es less =
    let q : TableEntry → Bool = λ e. not (list_any (same_entry e) (contents_of less)) in
    let is : unlisted es (filter q es) ≡ filter (λ e. not (q e)) es = filter_where (λ e. not (list_any (same_entry e) (filter q es))) (λ e. not (q e)) (λ e. list_any (same_entry e) es) es
    (λ e h. ap not (any-filter_same (same_entry e) q (q e) (λ f k. ap q (same_is e f k)) es ∙ ap (λ b. q e && b) h ∙ and_true (q e))) (each_listed es es (λ t h. h)) in
    let two = length-filter_both q (λ e. not (q e)) (λ e. refl) es in
    let one = ap length is in
    omega (arith, two, one)
  where
    and_true : (b : Bool) → (b && true) ≡ b
    and_true true = refl
    and_true false = refl

-- a table that had nothing
pub all_new : (es : List TableEntry) → count_without es [] ≡ length es
all_new [] = refl
all_new (e ∷ es) = let rest = all_new es in omega (arith, rest)
