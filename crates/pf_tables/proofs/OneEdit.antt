-- One entry comes in or goes out in its part.
use Rattle.std.specs.Prelude.{◌⊎◌}
use Rattle.std.proofs.Common.{◌≡◌, ℕ, zero, suc, ◌+◌, ◌<◌, ◌≤◌, ◌==◌, Bool, true, false, ◌&&◌, ◌||◌, cond, List, [], ◌∷◌, ◌++◌, Option, Some, None, length, map, take, drop, get_or, refl, sym, subst, ap, ap₂, ◌∙◌, arith, inl, inr, append_assoc, take-append-drop, Result, Ok, Err, MatchResult, length-append, drop-cons}
use Rattle.std.specs.declared.cmp.Ordering.TheVariants.{Less, Equal, Greater}
use Rattle.std.specs.Prelude.{if◌then◌else◌, filter, not, slice_get, IfSome}
use Rattle.std.specs.List.{list_all, list_any, insert, remove}
use Rattle.std.specs.Ordering.{is_lt, is_eq, nat_cmp}
use Rattle.std.specs.List.Sorted.{IsBinarySearchResult}
use Rattle.std.proofs.Math.ListN.{set}
use Rattle.std.proofs.lemmas.List.{length-map, get_or_default}
use Rattle.std.proofs.lemmas.List.Sorted.{searched}
use Rattle.std.proofs.lemmas.Bool.{cases_lt, eqb-true}
use Rattle.std.proofs.lemmas.Bool.Decides.{nat_tests}
use Rattle.std.proofs.lemmas.List.Folds.{list_all-append, list_any-append}
use Rattle.std.proofs.lemmas.List.Elements.{filter-append}
use Rattle.pf_addr.specs.Blocks.{Block, IsBlock}
use Rattle.pf_addr.specs.Order.{version, bits_of, prefix_cmp}
use Rattle.pf_addr.proofs.Order.{is_less, is_equal, same, turned_less, itself}
use Rattle.pf_rules.specs.declared.ruleset.TableEntry.{TableEntry}
use Rattle.pf_tables.specs.declared.edits.Edit.{Edit}
use Rattle.pf_tables.specs.declared.edits.Edit.TheVariants.{Insert, Remove}
use Rattle.pf_tables.specs.declared.part.Part.{Part}
use Rattle.pf_tables.specs.Tables.{is_of, is_v6, bool_eq}
use Rattle.pf_tables.specs.Contents.{is_prefix, entries_before, entries_behind, put_entry, same_entry, unlisted, edited}
use Rattle.pf_tables.specs.Parts.{joined, IsOrdered, AreBlocks, ArePartsBefore, AreParts}
use Rattle.pf_tables.specs.inner.Contents.{entry_at}
use Rattle.pf_tables.specs.inner.Keys.{key_of}
use Rattle.pf_tables.specs.inner.Parts.{IsPart, IsPlace, HasMoved}
use Rattle.pf_tables.proofs.Lookups.{above, both_true, above_parts, no_any_above, ordered_put, ordered_unlisted, ordered_back}
use Rattle.pf_tables.proofs.Deciding.{append_nil, EachIsPart, each_part}
use Rattle.pf_tables.proofs.Parting.{version_of, of_means, of_from, not_of, less_means, filter_all, filter_none, blocks_append, bools_same, own_is}
use Rattle.pf_tables.proofs.Keyed.{by_bits, equal, rising}

-- ---- entries before a prefix, and entries behind it

abbrev pub under : Block → List TableEntry → Bool
under p es = list_all (λ (f : TableEntry). is_lt (prefix_cmp f.prefix p)) es

turned_is : (p q : Block) → is_lt (prefix_cmp p q) ≡ true → is_lt (prefix_cmp q p) ≡ false
turned_is p q h = ap is_lt (turned_less p q (is_less _ h))

other_is : (p q : Block) → is_lt (prefix_cmp p q) ≡ true → is_eq (prefix_cmp p q) ≡ false
other_is p q h = ap is_eq (is_less _ h)

not_true : (b : Bool) → b ≡ false → not b ≡ true
not_true b h = rw h refl

-- a test holds of all entries if it holds of those before the prefix, or of those behind it
each_under : (p : Block) (t : TableEntry → Bool) → ((f : TableEntry) → is_lt (prefix_cmp f.prefix p) ≡ true → t f ≡ true) → (es : List TableEntry) → under p es ≡ true → list_all t es ≡ true
each_under p t h [] u = refl
each_under p t h (e ∷ es) u = let both = both_true (is_lt (prefix_cmp e.prefix p)) (under p es) u in rw (h e both.0) (each_under p t h es both.1)

each_above : (p : Block) (t : TableEntry → Bool) → ((f : TableEntry) → is_lt (prefix_cmp p f.prefix) ≡ true → t f ≡ true) → (es : List TableEntry) → above p es ≡ true → list_all t es ≡ true
each_above p t h [] u = refl
each_above p t h (e ∷ es) u = let both = both_true (is_lt (prefix_cmp p e.prefix)) (above p es) u in rw (h e both.0) (each_above p t h es both.1)

no_any_under : (p : Block) (es : List TableEntry) → under p es ≡ true → list_any (is_prefix p) es ≡ false
no_any_under p [] h = refl
no_any_under p (e ∷ es) h = let both = both_true (is_lt (prefix_cmp e.prefix p)) (under p es) h in rw (other_is e.prefix p both.0) (no_any_under p es both.1)

none_if : (p : Block) (es : List TableEntry) (b : Bool) → list_any (is_prefix p) es ≡ false → (b || list_any (is_prefix p) es) ≡ b
none_if p es true h = refl
none_if p es false h = h

-- ---- what an edit keeps

-- an edit of an entry touches neither what is before it nor what is behind it
pub record Edits (e : TableEntry) (f : List TableEntry → List TableEntry) : Type 0 where
  pub front : (es fs : List TableEntry) → under e.prefix es ≡ true → f (es ++ fs) ≡ es ++ f fs
  pub back : (es fs : List TableEntry) → above e.prefix fs ≡ true → f (es ++ fs) ≡ f es ++ fs
  pub all : (t : TableEntry → Bool) (es : List TableEntry) → t e ≡ true → list_all t es ≡ true → list_all t (f es) ≡ true
  pub ordered : (es : List TableEntry) → IsOrdered es → IsOrdered (f es)
  pub blocks : (es : List TableEntry) → IsBlock e.prefix.base e.prefix.len → AreBlocks es → AreBlocks (f es)

all_filter : (t test : TableEntry → Bool) (es : List TableEntry) → list_all t es ≡ true → list_all t (filter test es) ≡ true
all_filter t test [] h = refl
all_filter t test (e ∷ es) h = let both = both_true (t e) (list_all t es) h in elim (test e) as (λ k. list_all t (cond k (e ∷ filter test es) (filter test es)) ≡ true) [ true ↦ rw both.0 (all_filter t test es both.1) | false ↦ all_filter t test es both.1 ]

blocks_filter : (test : TableEntry → Bool) (es : List TableEntry) → AreBlocks es → AreBlocks (filter test es)
blocks_filter test [] b = tt
blocks_filter test (e ∷ es) b = elim (test e) as (λ k. AreBlocks (cond k (e ∷ filter test es) (filter test es))) [ true ↦ (b.0, blocks_filter test es b.1) | false ↦ blocks_filter test es b.1 ]

put_front : (e : TableEntry) (es fs : List TableEntry) → under e.prefix es ≡ true → put_entry (es ++ fs) e ≡ es ++ put_entry fs e
put_front e es fs u =
    let p = e.prefix in
    let any : list_any (is_prefix p) (es ++ fs) ≡ list_any (is_prefix p) fs = list_any-append (is_prefix p) es fs ∙ ap (λ b. b || list_any (is_prefix p) fs) (no_any_under p es u) in
    let before : entries_before p (es ++ fs) ≡ es ++ entries_before p fs = filter-append (λ (f : TableEntry). is_lt (prefix_cmp f.prefix p)) es fs ∙ ap (λ r. r ++ entries_before p fs) (filter_all (λ (f : TableEntry). is_lt (prefix_cmp f.prefix p)) es u) in
    let none : entries_behind p es ≡ [] = filter_none (λ (f : TableEntry). is_lt (prefix_cmp p f.prefix)) es (each_under p (λ f. not (is_lt (prefix_cmp p f.prefix))) (λ f h. not_true _ (turned_is f.prefix p h)) es u) in
    let behind : entries_behind p (es ++ fs) ≡ entries_behind p fs = filter-append (λ (f : TableEntry). is_lt (prefix_cmp p f.prefix)) es fs ∙ ap (λ r. r ++ entries_behind p fs) none in
    ap (λ b. if b then es ++ fs else entries_before p (es ++ fs) ++ e ∷ entries_behind p (es ++ fs)) any ∙ ap₂ (λ (x y : List TableEntry). if list_any (is_prefix p) fs then es ++ fs else x ++ e ∷ y) before behind ∙
    elim (list_any (is_prefix p) fs) as (λ b. (if b then es ++ fs else (es ++ entries_before p fs) ++ e ∷ entries_behind p fs) ≡ es ++ (if b then fs else entries_before p fs ++ e ∷ entries_behind p fs)) [
      | true ↦ refl
      | false ↦ append_assoc es (entries_before p fs) (e ∷ entries_behind p fs)
    ]

put_back : (e : TableEntry) (es fs : List TableEntry) → above e.prefix fs ≡ true → put_entry (es ++ fs) e ≡ put_entry es e ++ fs
put_back e es fs u =
    let p = e.prefix in
    let any : list_any (is_prefix p) (es ++ fs) ≡ list_any (is_prefix p) es = list_any-append (is_prefix p) es fs ∙ none_if p fs (list_any (is_prefix p) es) (no_any_above p fs u) in
    let none : entries_before p fs ≡ [] = filter_none (λ (f : TableEntry). is_lt (prefix_cmp f.prefix p)) fs (each_above p (λ f. not (is_lt (prefix_cmp f.prefix p))) (λ f h. not_true _ (turned_is p f.prefix h)) fs u) in
    let before : entries_before p (es ++ fs) ≡ entries_before p es = filter-append (λ (f : TableEntry). is_lt (prefix_cmp f.prefix p)) es fs ∙ ap (λ r. entries_before p es ++ r) none ∙ append_nil (entries_before p es) in
    let behind : entries_behind p (es ++ fs) ≡ entries_behind p es ++ fs = filter-append (λ (f : TableEntry). is_lt (prefix_cmp p f.prefix)) es fs ∙ ap (λ r. entries_behind p es ++ r) (filter_all (λ (f : TableEntry). is_lt (prefix_cmp p f.prefix)) fs u) in
    ap (λ b. if b then es ++ fs else entries_before p (es ++ fs) ++ e ∷ entries_behind p (es ++ fs)) any ∙ ap₂ (λ (x y : List TableEntry). if list_any (is_prefix p) es then es ++ fs else x ++ e ∷ y) before behind ∙
    elim (list_any (is_prefix p) es) as (λ b. (if b then es ++ fs else entries_before p es ++ e ∷ (entries_behind p es ++ fs)) ≡ (if b then es else entries_before p es ++ e ∷ entries_behind p es) ++ fs) [
      | true ↦ refl
      | false ↦ sym (append_assoc (entries_before p es) (e ∷ entries_behind p es) fs)
    ]

inserts : (e : TableEntry) → Edits e (λ es. put_entry es e)
inserts e = record {
  front = put_front e;
  back = put_back e;
  all = λ t es h k. elim (list_any (is_prefix e.prefix) es) as (λ b. list_all t (if b then es else entries_before e.prefix es ++ e ∷ entries_behind e.prefix es) ≡ true) [
    | true ↦ k
    | false ↦ list_all-append t (entries_before e.prefix es) (e ∷ entries_behind e.prefix es) ∙ rw (all_filter t (λ (f : TableEntry). is_lt (prefix_cmp f.prefix e.prefix)) es k, h) (all_filter t (λ (f : TableEntry). is_lt (prefix_cmp e.prefix f.prefix)) es k)
  ];
  ordered = λ es s. ordered_put es e s;
  blocks = λ es k b. elim (list_any (is_prefix e.prefix) es) as (λ c. AreBlocks (if c then es else entries_before e.prefix es ++ e ∷ entries_behind e.prefix es)) [
    | true ↦ b
    | false ↦ blocks_append (entries_before e.prefix es) (e ∷ entries_behind e.prefix es) (blocks_filter (λ (f : TableEntry). is_lt (prefix_cmp f.prefix e.prefix)) es b) (k, blocks_filter (λ (f : TableEntry). is_lt (prefix_cmp e.prefix f.prefix)) es b)
  ];
}

-- it isn't the entry that goes
abbrev stays : TableEntry → TableEntry → Bool
stays e f = not (list_any (same_entry f) (e ∷ []))

stays_other : (e f : TableEntry) → is_eq (prefix_cmp e.prefix f.prefix) ≡ false → stays e f ≡ true
stays_other e f h = rw h refl

stays_under : (e f : TableEntry) → is_lt (prefix_cmp f.prefix e.prefix) ≡ true → stays e f ≡ true
stays_under e f h = stays_other e f (ap is_eq (turned_less f.prefix e.prefix (is_less _ h)))

stays_above : (e f : TableEntry) → is_lt (prefix_cmp e.prefix f.prefix) ≡ true → stays e f ≡ true
stays_above e f h = stays_other e f (other_is e.prefix f.prefix h)

removes : (e : TableEntry) → Edits e (λ es. unlisted es (e ∷ []))
removes e = record {
  front = λ es fs u. filter-append (stays e) es fs ∙ ap (λ r. r ++ filter (stays e) fs) (filter_all (stays e) es (each_under e.prefix (stays e) (stays_under e) es u));
  back = λ es fs u. filter-append (stays e) es fs ∙ ap (λ r. filter (stays e) es ++ r) (filter_all (stays e) fs (each_above e.prefix (stays e) (stays_above e) fs u));
  all = λ t es h k. all_filter t (stays e) es k;
  ordered = λ es s. ordered_unlisted es (e ∷ []) s;
  blocks = λ es k b. blocks_filter (stays e) es b;
}

pub edits : (edit : Edit) (e : TableEntry) → Edits e (edited edit e)
edits Insert e = inserts e
edits Remove e = removes e

-- ---- in one part

less_is : (a b : ℕ) → a < b → nat_cmp a b ≡ Less
less_is a b h = grind (arith, nat_tests)

-- where its number has its place, the entry has its own
under_keys : (v : Bool) (l : ℕ) (e : TableEntry) (es : List TableEntry) (at : ℕ) → list_all (is_of v l) es ≡ true → is_of v l e ≡ true → at ≤ length (map key_of es) → ((k : ℕ) → k < at → get_or (map key_of es) k 0 < key_of e) → under e.prefix (take at es) ≡ true
under_keys v l e es zero h o n b = refl
under_keys v l e [] (suc at) h o n b = refl
under_keys v l e (f ∷ es) (suc at) h o n b =
    let both = both_true (is_of v l f) (list_all (is_of v l) es) h in
    let own = of_means v l f both.0 in
    let its = of_means v l e o in
    let first : key_of f < key_of e = b zero (omega arith) in
    let c : prefix_cmp f.prefix e.prefix ≡ nat_cmp (key_of f) (key_of e) = by_bits f.prefix e.prefix (own.0 ∙ sym its.0) (own.1 ∙ sym its.1) in
    rw (c ∙ less_is (key_of f) (key_of e) first) (under_keys v l e es at both.1 o (omega (arith, n)) (λ k m. b (suc k) (omega (arith, m))))

above_keys : (v : Bool) (l : ℕ) (e : TableEntry) (es : List TableEntry) (at : ℕ) → list_all (is_of v l) es ≡ true → is_of v l e ≡ true → ((k : ℕ) → at ≤ k → k < length (map key_of es) → key_of e < get_or (map key_of es) k 0) → above e.prefix (drop at es) ≡ true
above_keys v l e [] zero h o b = refl
above_keys v l e [] (suc at) h o b = refl
above_keys v l e (f ∷ es) zero h o b =
    let both = both_true (is_of v l f) (list_all (is_of v l) es) h in
    let own = of_means v l f both.0 in
    let its = of_means v l e o in
    let first : key_of e < key_of f = b zero (omega arith) (omega arith) in
    let c : prefix_cmp e.prefix f.prefix ≡ nat_cmp (key_of e) (key_of f) = by_bits e.prefix f.prefix (its.0 ∙ sym own.0) (its.1 ∙ sym own.1) in
    rw (c ∙ less_is (key_of e) (key_of f) first) (above_keys v l e es zero both.1 o (λ k m n. b (suc k) (omega arith) (omega (arith, n))))
above_keys v l e (f ∷ es) (suc at) h o b =
    above_keys v l e es at (both_true (is_of v l f) (list_all (is_of v l) es) h).1 o (λ k m n. b (suc k) (omega (arith, m)) (omega (arith, n)))

-- an edit at the place of the entry
at_place : (e : TableEntry) (f : List TableEntry → List TableEntry) → Edits e f → (es : List TableEntry) (at : ℕ) → under e.prefix (take at es) ≡ true → above e.prefix (drop at es) ≡ true → f es ≡ take at es ++ (f [] ++ drop at es)
at_place e f h es at u a = ap f (sym (take-append-drop at es)) ∙ h.front (take at es) (drop at es) u ∙ ap (λ r. take at es ++ r) (h.back [] (drop at es) a)

pub put_at : (v : Bool) (l : ℕ) (e : TableEntry) (es : List TableEntry) (at : ℕ) → list_all (is_of v l) es ≡ true → is_of v l e ≡ true → at ≤ length (map key_of es) → ((k : ℕ) → k < at → get_or (map key_of es) k 0 < key_of e) → ((k : ℕ) → at ≤ k → k < length (map key_of es) → key_of e < get_or (map key_of es) k 0) → put_entry es e ≡ insert es at e
put_at v l e es at h o n b a = at_place e (λ es. put_entry es e) (inserts e) es at (under_keys v l e es at h o n b) (above_keys v l e es at h o a)

pub none_goes : (v : Bool) (l : ℕ) (e : TableEntry) (es : List TableEntry) (at : ℕ) → list_all (is_of v l) es ≡ true → is_of v l e ≡ true → at ≤ length (map key_of es) → ((k : ℕ) → k < at → get_or (map key_of es) k 0 < key_of e) → ((k : ℕ) → at ≤ k → k < length (map key_of es) → key_of e < get_or (map key_of es) k 0) → unlisted es (e ∷ []) ≡ es
none_goes v l e es at h o n b a = at_place e (λ es. unlisted es (e ∷ [])) (removes e) es at (under_keys v l e es at h o n b) (above_keys v l e es at h o a) ∙ take-append-drop at es

-- ---- how many there are

sides_few : (p : Block) (es : List TableEntry) → length (entries_before p es) + length (entries_behind p es) ≤ length es
sides_few p [] = omega arith
sides_few p (e ∷ es) =
    let rest = sides_few p es in
    (elim (prefix_cmp e.prefix p) as (λ o. prefix_cmp e.prefix p ≡ o → length (cond (is_lt o) (e ∷ entries_before p es) (entries_before p es)) + length (entries_behind p (e ∷ es)) ≤ length (e ∷ es)) [
      | Less ↦ λ o. rw (turned_less e.prefix p o) (omega (arith, rest))
      | Equal ↦ λ o. elim (is_lt (prefix_cmp p e.prefix)) as (λ b. length (entries_before p es) + length (cond b (e ∷ entries_behind p es) (entries_behind p es)) ≤ length (e ∷ es)) [ true ↦ omega (arith, rest) | false ↦ omega (arith, rest) ]
      | Greater ↦ λ o. elim (is_lt (prefix_cmp p e.prefix)) as (λ b. length (entries_before p es) + length (cond b (e ∷ entries_behind p es) (entries_behind p es)) ≤ length (e ∷ es)) [ true ↦ omega (arith, rest) | false ↦ omega (arith, rest) ]
    ]) refl

pub few_put : (es : List TableEntry) (e : TableEntry) → length (put_entry es e) ≤ length es + 1
few_put es e =
    let few = sides_few e.prefix es in
    let long = length-append (entries_before e.prefix es) (e ∷ entries_behind e.prefix es) in
    elim (list_any (is_prefix e.prefix) es) as (λ b. length (if b then es else entries_before e.prefix es ++ e ∷ entries_behind e.prefix es) ≤ length es + 1) [ true ↦ omega arith | false ↦ omega (arith, few, long) ]

few_filter : (test : TableEntry → Bool) (es : List TableEntry) → length (filter test es) ≤ length es
few_filter test [] = omega arith
few_filter test (e ∷ es) = let rest = few_filter test es in elim (test e) as (λ b. length (cond b (e ∷ filter test es) (filter test es)) ≤ length (e ∷ es)) [ true ↦ omega (arith, rest) | false ↦ omega (arith, rest) ]

pub few_edited : (edit : Edit) (es : List TableEntry) (e : TableEntry) → length (edited edit e es) ≤ length es + 1
few_edited Insert es e = few_put es e
few_edited Remove es e = let few = few_filter (stays e) es in omega (arith, few)

-- ---- entries and their numbers

pub undone : (es : List TableEntry) (at : ℕ) (e : TableEntry) → at ≤ length es → remove (insert es at e) at ≡ es
undone [] zero e n = refl
undone [] (suc at) e n = absurd (omega (arith, n))
undone (x ∷ es) zero e n = refl
undone (x ∷ es) (suc at) e n = ap (λ (r : List TableEntry). x ∷ r) (undone es at e (omega (arith, n)))

pub keys_insert : (es : List TableEntry) (at : ℕ) (e : TableEntry) → map key_of (insert es at e) ≡ insert (map key_of es) at (key_of e)
keys_insert [] zero e = refl
keys_insert [] (suc at) e = refl
keys_insert (x ∷ es) zero e = refl
keys_insert (x ∷ es) (suc at) e = ap (λ (r : List ℕ). key_of x ∷ r) (keys_insert es at e)

pub keys_remove : (es : List TableEntry) (at : ℕ) → map key_of (remove es at) ≡ remove (map key_of es) at
keys_remove [] zero = refl
keys_remove [] (suc at) = refl
keys_remove (x ∷ es) zero = refl
keys_remove (x ∷ es) (suc at) = ap (λ (r : List ℕ). key_of x ∷ r) (keys_remove es at)

pub keys_long : (es : List TableEntry) → length (map key_of es) ≡ length es
keys_long es = length-map es key_of

got : {X : Type 0} (xs : List X) (i : ℕ) → i < length xs → (x : X) × (slice_get xs i ≡ Some x)
got [] i n = absurd (omega (arith, n))
got (x ∷ xs) zero n = (x, refl)
got (x ∷ xs) (suc i) n = got xs i (omega (arith, n))

got_drop : {X : Type 0} (xs : List X) (i : ℕ) (x : X) → slice_get xs i ≡ Some x → drop i xs ≡ x ∷ drop (suc i) xs
got_drop [] zero x h = cc
got_drop [] (suc i) x h = cc
got_drop {X} (y ∷ xs) zero x h = let s : y ≡ x = cc in ap (λ (z : X). z ∷ xs) s
got_drop (y ∷ xs) (suc i) x h = got_drop xs i x h

got_any : (t : TableEntry → Bool) (es : List TableEntry) (i : ℕ) (y : TableEntry) → slice_get es i ≡ Some y → t y ≡ true → list_any t es ≡ true
got_any t [] zero y h k = cc
got_any t [] (suc i) y h k = cc
got_any t (x ∷ es) zero y h k = let s : y ≡ x = cc in let g : t x ≡ true = subst (λ z. t z ≡ true) s k in rw g refl
got_any t (x ∷ es) (suc i) y h k = elim (t x) as (λ b. (b || list_any t es) ≡ true) [ true ↦ refl | false ↦ got_any t es i y h k ]

-- where the number is, is the prefix
same_prefix : (v : Bool) (l : ℕ) (e : TableEntry) (es : List TableEntry) (at : ℕ) (y : TableEntry) → list_all (is_of v l) es ≡ true → is_of v l e ≡ true → slice_get es at ≡ Some y → get_or (map key_of es) at 0 ≡ key_of e → y.prefix ≡ e.prefix
same_prefix v l e [] zero y h o g k = cc
same_prefix v l e [] (suc at) y h o g k = cc
same_prefix v l e (f ∷ es) zero y h o g k =
    let own = of_means v l f (both_true (is_of v l f) (list_all (is_of v l) es) h).0 in
    let its = of_means v l e o in
    let s : f ≡ y = cc in
    let c : prefix_cmp f.prefix e.prefix ≡ Equal = by_bits f.prefix e.prefix (own.0 ∙ sym its.0) (own.1 ∙ sym its.1) ∙ ap (λ z. nat_cmp z (key_of e)) k ∙ equal (key_of e) in
    subst (λ (z : TableEntry). z.prefix ≡ e.prefix) s (same f.prefix e.prefix c)
same_prefix v l e (f ∷ es) (suc at) y h o g k = same_prefix v l e es at y (both_true (is_of v l f) (list_all (is_of v l) es) h).1 o g k

ordered_under : (es : List TableEntry) (y : TableEntry) (fs : List TableEntry) → IsOrdered (es ++ y ∷ fs) → (under y.prefix es ≡ true) × (above y.prefix fs ≡ true)
ordered_under [] y fs s = (refl, s.0)
ordered_under (e ∷ es) y fs s =
    let rest = ordered_under es y fs s.1 in
    let here = both_true (is_lt (prefix_cmp e.prefix y.prefix)) (above e.prefix fs) (above_parts e.prefix es (y ∷ fs) s.0).1 in
    (rw here.0 rest.0, rest.1)

goes : (e y : TableEntry) (b : Bool) (es fs : List TableEntry) → y.prefix ≡ e.prefix → b ≡ bool_eq y.negated e.negated → under y.prefix es ≡ true → above y.prefix fs ≡ true → unlisted (es ++ y ∷ fs) (e ∷ []) ≡ es ++ (if b then fs else y ∷ fs)
goes e y b es fs p s u a =
    let rest : unlisted (y ∷ fs) (e ∷ []) ≡ unlisted (y ∷ []) (e ∷ []) ++ fs = (removes e).back (y ∷ []) fs (subst (λ q. above q fs ≡ true) p a) in
    let same_one : is_eq (prefix_cmp e.prefix y.prefix) ≡ true = subst (λ q. is_eq (prefix_cmp e.prefix q) ≡ true) (sym p) (itself e.prefix) in
    let own : unlisted (y ∷ []) (e ∷ []) ≡ (if b then [] else y ∷ []) = rw (same_one, ← s) (elim b as (λ c. cond (not (c || false)) (y ∷ []) [] ≡ (if c then [] else y ∷ [])) [ true ↦ refl | false ↦ refl ]) in
    (removes e).front es (y ∷ fs) (subst (λ q. under q es ≡ true) p u) ∙ ap (λ r. es ++ r) (rest ∙ ap (λ r. r ++ fs) own) ∙ elim b as (λ c. es ++ ((if c then [] else y ∷ []) ++ fs) ≡ es ++ (if c then fs else y ∷ fs)) [ true ↦ refl | false ↦ refl ]

goes_at : (e y : TableEntry) (b : Bool) (es : List TableEntry) (at : ℕ) → IsOrdered es → slice_get es at ≡ Some y → y.prefix ≡ e.prefix → b ≡ bool_eq y.negated e.negated → unlisted es (e ∷ []) ≡ (if b then remove es at else es)
goes_at e y b es at s g p k =
    let whole : take at es ++ y ∷ drop (suc at) es ≡ es = ap (λ r. take at es ++ r) (sym (got_drop es at y g)) ∙ take-append-drop at es in
    let parts = ordered_under (take at es) y (drop (suc at) es) (subst IsOrdered (sym whole) s) in
    ap (λ r. unlisted r (e ∷ [])) (sym whole) ∙ goes e y b (take at es) (drop (suc at) es) p k parts.0 parts.1 ∙ elim b as (λ c. take at es ++ (if c then drop (suc at) es else y ∷ drop (suc at) es) ≡ (if c then remove es at else es)) [ true ↦ refl | false ↦ whole ]

-- what a search of the numbers says of an edit
pub record Search (e : TableEntry) (es : List TableEntry) (r : Result ℕ ℕ) : Type 0 where
  pub within : (i : ℕ) → r ≡ Ok i → i < length es
  pub stays : (i : ℕ) → r ≡ Ok i → edited Insert e es ≡ es
  pub goes : (i : ℕ) (b : Bool) → r ≡ Ok i → IfSome (slice_get es i) (λ y. b ≡ bool_eq y.negated e.negated) → edited Remove e es ≡ (if b then remove es i else es)
  pub room : (i : ℕ) → r ≡ Err i → i ≤ length es
  pub comes : (i : ℕ) → r ≡ Err i → edited Insert e es ≡ insert es i e
  pub none : (i : ℕ) → r ≡ Err i → edited Remove e es ≡ es

pub by_search : (p : Part) (e : TableEntry) (keys : List ℕ) (x : ℕ) (r : Result ℕ ℕ) → IsPart p → is_of p.v6 p.len e ≡ true → keys ≡ p.keys.items → x ≡ key_of e → IsBinarySearchResult (λ y. nat_cmp y x) keys r → Search e p.entries.items r
by_search p e keys x r q o k n h =
    let es = p.entries.items in
    let ks : keys ≡ map key_of es = k ∙ p.keyed in
    searched_is r (subst (λ z. MatchResult r (λ i. (i < length (map key_of es)) × (get_or (map key_of es) i 0 ≡ z)) (λ i. (i ≤ length (map key_of es)) × ((j : ℕ) → j < i → get_or (map key_of es) j 0 < z) × ((j : ℕ) → i ≤ j → j < length (map key_of es) → z < get_or (map key_of es) j 0))) n
    (searched (map key_of es) x r (subst (λ z. IsBinarySearchResult (λ y. nat_cmp y x) z r) ks h) (rising p.v6 p.len es q.0 q.2)))
  where
    long : length (map key_of p.entries.items) ≡ length p.entries.items
    long = length-map p.entries.items key_of

    searched_is : (r : Result ℕ ℕ) → MatchResult r (λ i. (i < length (map key_of p.entries.items)) × (get_or (map key_of p.entries.items) i 0 ≡ key_of e)) (λ i. (i ≤ length (map key_of p.entries.items)) × ((j : ℕ) → j < i → get_or (map key_of p.entries.items) j 0 < key_of e) × ((j : ℕ) → i ≤ j → j < length (map key_of p.entries.items) → key_of e < get_or (map key_of p.entries.items) j 0)) → Search e p.entries.items r
    searched_is (Ok i) m =
        let es = p.entries.items in
        let n : i < length es = (let l = m.0 in omega (arith, long, l)) in
        let y = got es i n in
        let s : y.0.prefix ≡ e.prefix = same_prefix p.v6 p.len e es i y.0 q.0 o y.1 m.1 in
        record {
          within = λ j f. (let g : i ≡ j = cc in subst (λ z. z < length es) g n);
          stays = λ j f. (let a : list_any (is_prefix e.prefix) es ≡ true = got_any (is_prefix e.prefix) es i y.0 y.1 (subst (λ z. is_eq (prefix_cmp z e.prefix) ≡ true) (sym s) (itself e.prefix)) in rw a refl);
          goes = λ j b f g. (let t : i ≡ j = cc in subst (λ z. IfSome (slice_get es z) (λ w. b ≡ bool_eq w.negated e.negated) → unlisted es (e ∷ []) ≡ (if b then remove es z else es)) t (λ d. goes_at e y.0 b es i q.2 y.1 s (rw y.1 at d)) g);
          room = λ j f. cc;
          comes = λ j f. cc;
          none = λ j f. cc;
        }
    searched_is (Err i) m =
        let es = p.entries.items in
        record {
          within = λ j f. cc;
          stays = λ j f. cc;
          goes = λ j b f g. cc;
          room = λ j f. (let g : i ≡ j = cc in let l = m.0 in omega (arith, long, l, g));
          comes = λ j f. (let g : i ≡ j = cc in subst (λ z. put_entry es e ≡ insert es z e) g (put_at p.v6 p.len e es i q.0 o m.0 m.1 m.2));
          none = λ j f. none_goes p.v6 p.len e es i q.0 o m.0 m.1 m.2;
        }

-- ---- among the parts

lex : (p q : Block) → (version p.base < version q.base) ⊎ ((version p.base ≡ version q.base) × (p.len < q.len)) → is_lt (prefix_cmp p q) ≡ true
unfolding prefix_cmp
lex p q (inl h) = rw (less_is (version p.base) (version q.base) h) refl
lex p q (inr h) =
    let c : nat_cmp (version p.base) (version q.base) ≡ Equal = ap (λ z. nat_cmp z (version q.base)) h.0 ∙ equal (version q.base) in
    rw (c, less_is p.len q.len h.1) refl

-- of one family and length, as another entry
abbrev Alike : TableEntry → TableEntry → Type 0
Alike x e = (version x.prefix.base ≡ version e.prefix.base) × (x.prefix.len ≡ e.prefix.len)

alike_not : (v : Bool) (l : ℕ) (x e : TableEntry) → Alike x e → is_of v l x ≡ false → is_of v l e ≡ false
alike_not v l x e k h = not_of v l e (λ a b. let t : is_of v l x ≡ true = of_from v l x (k.0 ∙ a) (k.1 ∙ b) in let bad : true ≡ false = sym t ∙ h in cc)

far_before : (v : Bool) (l : ℕ) (a x e : TableEntry) → is_of v l a ≡ true → is_of v l x ≡ false → Alike x e → is_lt (prefix_cmp a.prefix x.prefix) ≡ true → is_lt (prefix_cmp a.prefix e.prefix) ≡ true
far_before v l a x e i n k h =
    let own = of_means v l a i in
    elim (less_means a.prefix x.prefix h) [
      | inl g ↦ lex a.prefix e.prefix (inl (subst (λ z. version a.prefix.base < z) k.0 g))
      | inr g ↦ lex a.prefix e.prefix (inr (
        g.0 ∙ k.0,
        elim (cases_lt a.prefix.len e.prefix.len) [
          | inl y ↦ y
          | inr y ↦ (let le = g.1 in let same_len = k.1 in let d : x.prefix.len ≡ a.prefix.len = omega (arith, le, same_len, y) in let t : is_of v l x ≡ true = of_from v l x (sym g.0 ∙ own.0) (d ∙ own.1) in let bad : true ≡ false = sym t ∙ n in cc)
        ],
      ))
    ]

far_behind : (v : Bool) (l : ℕ) (b x e : TableEntry) → is_of v l x ≡ true → is_of v l b ≡ false → Alike x e → is_lt (prefix_cmp x.prefix b.prefix) ≡ true → is_lt (prefix_cmp e.prefix b.prefix) ≡ true
far_behind v l b x e i n k h =
    let own = of_means v l x i in
    elim (less_means x.prefix b.prefix h) [
      | inl g ↦ lex e.prefix b.prefix (inl (subst (λ z. z < version b.prefix.base) k.0 g))
      | inr g ↦ lex e.prefix b.prefix (inr (
        sym k.0 ∙ g.0,
        elim (cases_lt e.prefix.len b.prefix.len) [
          | inl y ↦ y
          | inr y ↦ (let le = g.1 in let same_len = k.1 in let d : b.prefix.len ≡ x.prefix.len = omega (arith, le, same_len, y) in let t : is_of v l b ≡ true = of_from v l b (sym g.0 ∙ own.0) (d ∙ own.1) in let bad : true ≡ false = sym t ∙ n in cc)
        ],
      ))
    ]

not_false : (b : Bool) → not b ≡ true → b ≡ false
not_false true h = cc
not_false false h = refl

far_front : (v : Bool) (l : ℕ) (x e : TableEntry) (es fs : List TableEntry) → list_all (is_of v l) es ≡ true → is_of v l x ≡ false → Alike x e → IsOrdered (es ++ fs) → ((t : TableEntry → Bool) → list_all t fs ≡ true → t x ≡ true) → under e.prefix es ≡ true
far_front v l x e [] fs h n k s i = refl
far_front v l x e (a ∷ es) fs h n k s i =
    let both = both_true (is_of v l a) (list_all (is_of v l) es) h in
    rw (far_before v l a x e both.0 n k (i (λ f. is_lt (prefix_cmp a.prefix f.prefix)) (above_parts a.prefix es fs s.0).1)) (far_front v l x e es fs both.1 n k s.1 i)

far_back : (v : Bool) (l : ℕ) (x e : TableEntry) (fs : List TableEntry) → list_all (λ f. not (is_of v l f)) fs ≡ true → is_of v l x ≡ true → Alike x e → above x.prefix fs ≡ true → above e.prefix fs ≡ true
far_back v l x e [] h i k a = refl
far_back v l x e (b ∷ fs) h i k a =
    let both = both_true (not (is_of v l b)) (list_all (λ f. not (is_of v l f)) fs) h in
    let here = both_true (is_lt (prefix_cmp x.prefix b.prefix)) (above x.prefix fs) a in
    rw (far_behind v l b x e i (not_false (is_of v l b) both.0) k here.0) (far_back v l x e fs both.1 i k here.1)

inside : (front : List Part) (p : Part) (back : List Part) (x : TableEntry) (xs : List TableEntry) → p.entries.items ≡ x ∷ xs → (t : TableEntry → Bool) → list_all t (joined (front ++ p ∷ back)) ≡ true → t x ≡ true
inside [] p back x xs i t h = (both_true (t x) (list_all t (xs ++ joined back)) (subst (λ es. list_all t (es ++ joined back) ≡ true) i h)).0
inside (r ∷ front) p back x xs i t h = inside front p back x xs i t (both_true (list_all t r.entries.items) (list_all t (joined (front ++ p ∷ back))) (sym (list_all-append t r.entries.items (joined (front ++ p ∷ back))) ∙ h)).1

-- one part is edited, and the others stay
pub record OneEdited (ps qs : List Part) (f : List TableEntry → List TableEntry) : Type 0 where
  pub apart : ArePartsBefore qs []
  pub whole : joined qs ≡ f (joined ps)

one_edited : (e : TableEntry) (f : List TableEntry → List TableEntry) → Edits e f → (front : List Part) (p q : Part) (back : List Part) (x : TableEntry) (xs : List TableEntry) → ArePartsBefore (front ++ p ∷ back) [] → IsOrdered (joined (front ++ p ∷ back)) → p.entries.items ≡ x ∷ xs → is_of p.v6 p.len x ≡ true → is_of p.v6 p.len e ≡ true → Alike x e → q.v6 ≡ p.v6 → q.len ≡ p.len → q.entries.items ≡ f p.entries.items → OneEdited (front ++ p ∷ back) (front ++ q ∷ back) f
one_edited e f h [] p q back x xs a s i first o alike v l g =
    let others : list_all (λ f. not (is_of p.v6 p.len f)) (joined back) ≡ true = subst (λ r. list_all (λ f. not (is_of p.v6 p.len f)) r ≡ true) (append_nil (joined back)) a.1 in
    let behind : above x.prefix (joined back) ≡ true = (above_parts x.prefix xs (joined back) (subst (λ es. IsOrdered (es ++ joined back)) i s).0).1 in
    record {
      apart = rw (v, l, g) (h.all (is_of p.v6 p.len) p.entries.items o a.0, a.1, a.2, a.3);
      whole = ap (λ r. r ++ joined back) g ∙ sym (h.back p.entries.items (joined back) (far_back p.v6 p.len x e (joined back) others first alike behind));
    }
one_edited e f h (r ∷ front) p q back x xs a s i first o alike v l g =
    let all = joined (front ++ p ∷ back) in
    let rest = one_edited e f h front p q back x xs a.3 (ordered_back r.entries.items all s) i first o alike v l g in
    let others : list_all (λ f. not (is_of r.v6 r.len f)) all ≡ true = subst (λ z. list_all (λ f. not (is_of r.v6 r.len f)) z ≡ true) (append_nil all) a.1 in
    let n : is_of r.v6 r.len x ≡ false = not_false (is_of r.v6 r.len x) (inside front p back x xs i (λ f. not (is_of r.v6 r.len f)) others) in
    let kept : list_all (λ f. not (is_of r.v6 r.len f)) (joined (front ++ q ∷ back)) ≡ true = subst (λ z. list_all (λ f. not (is_of r.v6 r.len f)) z ≡ true) (sym rest.whole) (h.all (λ f. not (is_of r.v6 r.len f)) all (not_true _ (alike_not r.v6 r.len x e alike n)) others) in
    record {
      apart = (a.0, subst (λ z. list_all (λ f. not (is_of r.v6 r.len f)) z ≡ true) (sym (append_nil (joined (front ++ q ∷ back)))) kept, a.2, rest.apart);
      whole = ap (λ z. r.entries.items ++ z) rest.whole ∙ sym (h.front r.entries.items all (far_front r.v6 r.len x e r.entries.items all a.0 n alike s (inside front p back x xs i)));
    }

moved : (front : List Part) (p q : Part) (back : List Part) → length q.entries.items ≤ length p.entries.items + 1 → HasMoved (length p.entries.items) (length q.entries.items) (joined (front ++ p ∷ back)) (joined (front ++ q ∷ back))
moved [] p q back n =
    let a = length-append p.entries.items (joined back) in
    let b = length-append q.entries.items (joined back) in
    (omega (arith, a, b), omega (arith, a), n)
moved (r ∷ front) p q back n =
    let rest = moved front p q back n in
    let r0 = rest.0 in
    let r1 = rest.1 in
    let a = length-append r.entries.items (joined (front ++ p ∷ back)) in
    let b = length-append r.entries.items (joined (front ++ q ∷ back)) in
    (omega (arith, a, b, r0), omega (arith, a, r1), n)

set_is : (ps : List Part) (at : ℕ) (q : Part) → at < length ps → set ps at q ≡ take at ps ++ q ∷ drop (suc at) ps
set_is [] at q n = absurd (omega (arith, n))
set_is (p ∷ ps) zero q n = refl
set_is (p ∷ ps) (suc at) q n = ap (λ (r : List Part). p ∷ r) (set_is ps at q (omega (arith, n)))

each_inside : (front : List Part) (p : Part) (back : List Part) → EachIsPart (front ++ p ∷ back) → IsPart p
each_inside [] p back h = h.0
each_inside (r ∷ front) p back h = each_inside front p back h.1

split_at : (ps : List Part) (at : ℕ) (p : Part) → at < length ps → p ≡ get_or ps at p → take at ps ++ p ∷ drop (suc at) ps ≡ ps
split_at ps at p n g = ap (λ (r : Part). take at ps ++ r ∷ drop (suc at) ps) g ∙ ap (λ r. take at ps ++ r) (sym (drop-cons ps at p n)) ∙ take-append-drop at ps

-- the part at a place
pub part_at : (ps : List Part) (at : ℕ) (p : Part) → AreParts ps → at < length ps → p ≡ get_or ps at p → IsPart p
part_at ps at p h n g = each_inside (take at ps) p (drop (suc at) ps) (subst EachIsPart (sym (split_at ps at p n g)) (each_part ps h))

-- the parts once the one at a place is edited
pub record Edited (ps qs : List Part) (f : List TableEntry → List TableEntry) (before after : ℕ) : Type 0 where
  pub parts : AreParts qs
  pub whole : joined qs ≡ f (joined ps)
  pub counts : HasMoved before after (joined ps) (joined qs)

pub edited_at : (e : TableEntry) (f : List TableEntry → List TableEntry) → Edits e f → (ps : List Part) (at : ℕ) (p q : Part) → AreParts ps → at < length ps → p ≡ get_or ps at p → 1 ≤ length p.entries.items → is_of p.v6 p.len e ≡ true → IsBlock e.prefix.base e.prefix.len → q.v6 ≡ p.v6 → q.len ≡ p.len → q.entries.items ≡ f p.entries.items → length q.entries.items ≤ length p.entries.items + 1 → Edited ps (set ps at q) f (length p.entries.items) (length q.entries.items)
edited_at e f h ps at p q w n g k o b v l i m =
    let front = take at ps in
    let back = drop (suc at) ps in
    let whole : front ++ p ∷ back ≡ ps = split_at ps at p n g in
    let new : front ++ q ∷ back ≡ set ps at q = sym (set_is ps at q n) in
    let own = part_at ps at p w n g in
    let x = got p.entries.items 0 (omega (arith, k)) in
    let xs = drop 1 p.entries.items in
    let its : p.entries.items ≡ x.0 ∷ xs = got_drop p.entries.items 0 x.0 x.1 in
    let first : is_of p.v6 p.len x.0 ≡ true = (both_true (is_of p.v6 p.len x.0) (list_all (is_of p.v6 p.len) xs) (subst (λ es. list_all (is_of p.v6 p.len) es ≡ true) its own.0)).0 in
    let of_x = of_means p.v6 p.len x.0 first in
    let of_e = of_means p.v6 p.len e o in
    let one = one_edited e f h front p q back x.0 xs (subst (λ z. ArePartsBefore z []) (sym whole) w.apart) (subst (λ z. IsOrdered (joined z)) (sym whole) w.ordered) its first o (of_x.0 ∙ sym of_e.0, of_x.1 ∙ sym of_e.1) v l i in
    let all : joined (set ps at q) ≡ f (joined ps) = ap joined (sym new) ∙ one.whole ∙ ap (λ z. f (joined z)) whole in
    record {
      parts = record {
        apart = subst (λ z. ArePartsBefore z []) new one.apart;
        ordered = subst IsOrdered (sym all) (h.ordered (joined ps) w.ordered);
        blocks = subst AreBlocks (sym all) (h.blocks (joined ps) b w.blocks);
      };
      whole = all;
      counts = subst (λ z. HasMoved (length p.entries.items) (length q.entries.items) (joined z) (joined (set ps at q))) whole (subst (λ z. HasMoved (length p.entries.items) (length q.entries.items) (joined (front ++ p ∷ back)) (joined z)) new (moved front p q back m));
    }

-- where nothing is edited
pub same_at : (ps : List Part) (at : ℕ) (p q : Part) → AreParts ps → at < length ps → p ≡ get_or ps at p → q.v6 ≡ p.v6 → q.len ≡ p.len → q.entries.items ≡ p.entries.items → AreParts (set ps at q) × (joined (set ps at q) ≡ joined ps)
same_at ps at p q w n g v l i =
    let front = take at ps in
    let back = drop (suc at) ps in
    let whole : front ++ p ∷ back ≡ ps = split_at ps at p n g in
    let new : front ++ q ∷ back ≡ set ps at q = sym (set_is ps at q n) in
    let one = go front (subst (λ z. ArePartsBefore z []) (sym whole) w.apart) in
    let all : joined (set ps at q) ≡ joined ps = ap joined (sym new) ∙ one.whole ∙ ap joined whole in
    (record { apart = subst (λ z. ArePartsBefore z []) new one.apart; ordered = subst IsOrdered (sym all) w.ordered; blocks = subst AreBlocks (sym all) w.blocks }, all)
  where
    go : (front : List Part) → ArePartsBefore (front ++ p ∷ drop (suc at) ps) [] → OneEdited (front ++ p ∷ drop (suc at) ps) (front ++ q ∷ drop (suc at) ps) (λ es. es)
    go [] a = record { apart = rw (v, l, i) a; whole = ap (λ r. r ++ joined (drop (suc at) ps)) i }
    go (r ∷ front) a =
        let rest = go front a.3 in
        record {
          apart = (a.0, subst (λ z. list_all (λ f. not (is_of r.v6 r.len f)) (z ++ []) ≡ true) (sym rest.whole) a.1, a.2, rest.apart);
          whole = ap (λ z. r.entries.items ++ z) rest.whole;
        }

-- the part that is looked at is the one of its place
pub place_here : (ps : List Part) (at : ℕ) (p : Part) (v : Bool) (l : ℕ) → at < length ps → p ≡ get_or ps at p → (bool_eq p.v6 v && (p.len == l)) ≡ true → (length p.entries.items == 0) ≡ false → IsPlace ps at v l
place_here ps at p v l n g k e = record {
  within = n;
  own = λ q h. (let s : p ≡ q = g ∙ get_or_default ps at p q n ∙ sym h in
      let both = both_true (bool_eq p.v6 v) (p.len == l) k in
      let some : 1 ≤ length p.entries.items = grind (arith, nat_tests, e) in
      subst (λ (r : Part). (r.v6 ≡ v) × (r.len ≡ l) × (1 ≤ length r.entries.items)) s (bools_same p.v6 v both.0, eqb-true p.len l both.1, some));
}

pub own_key : (v : Bool) (l : ℕ) (e : TableEntry) → v ≡ is_v6 e.prefix.base → l ≡ e.prefix.len → is_of v l e ≡ true
own_key v l e h k = rw (h, k) (own_is e)
