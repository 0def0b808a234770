-- One of the tables at a path is changed in its place.
use Rattle.std.proofs.Common.{◌≡◌, ℕ, zero, suc, ◌<◌, ◌≤◌, Bool, true, false, ◌&&◌, List, [], ◌∷◌, ◌++◌, Some, None, Result, Ok, Err, MatchResult, length, take, drop, take-append-drop, drop-cons, get_or, refl, sym, subst, ap, ap₂, ◌∙◌, arith}
use Rattle.std.specs.declared.cmp.Ordering.TheVariants.{Less, Equal, Greater}
use Rattle.std.specs.Prelude.{if◌then◌else◌, not, IfOk, OnErr}
use Rattle.std.specs.List.{list_all, insert}
use Rattle.std.specs.List.Sorted.{IsBinarySearchResult, IsSearchInRange}
use Rattle.std.specs.Ordering.{is_lt, nat_cmp, ordering_index, ordering_reverse}
use Rattle.std.specs.Cmp.Lexicographic.{slice_cmp}
use Rattle.std.proofs.Math.ListN.{set}
use Rattle.std.proofs.lemmas.List.Elements.{filter-append}
use Rattle.std.proofs.lemmas.Cmp.{nat_list_cmp_total, tied_itself}
use Rattle.std.proofs.lemmas.Map.Lookups.{exact_bytes}
use Rattle.pf_rules.specs.Names.{Name, is_before}
use Rattle.pf_rules.specs.declared.ruleset.TableEntry.{TableEntry}
use Rattle.pf_tables.specs.declared.edits.Edit.{Edit}
use Rattle.pf_tables.specs.Contents.{edited}
use Rattle.pf_tables.specs.Tables.{TableValue}
use Rattle.pf_config.specs.Map.{named}
use Rattle.pf_config.specs.Changes.{with_table, with_contents, tables_before, tables_behind}
use Rattle.pf_config.specs.Ordered.{AreOrdered}
use Rattle.pf_config.specs.inner.TableChanges.{has_room, edited_table, edited_in, IsTableIf, Takes, ChangesIf, IsStoredAt, BelongsAt}
use Rattle.pf_config.proofs.Treed.{both_true, append_nil, is_less, name_chain, before_other, never}
use Rattle.pf_config.proofs.Ordered.{above, back, none_before, all_behind, named_append, none_above, put, with_is_put, found_here, ordered_with, turned}

-- all are before the name
abbrev pub under : Name → List (Name × TableValue) → Bool
under n ts = list_all (λ (t : Name × TableValue). is_before t.0 n) ts

all_before : (n : Name) (ts : List (Name × TableValue)) → under n ts ≡ true → tables_before n ts ≡ ts
all_before n [] h = refl
all_before n (t ∷ ts) h = let both = both_true (is_before t.0 n) (under n ts) h in rw both.0 (ap (λ (us : List (Name × TableValue)). t ∷ us) (all_before n ts both.1))

none_behind : (n : Name) (ts : List (Name × TableValue)) → under n ts ≡ true → tables_behind n ts ≡ []
none_behind n [] h = refl
none_behind n (t ∷ ts) h = let both = both_true (is_before t.0 n) (under n ts) h in rw (back t.0 n both.0) (none_behind n ts both.1)

-- a new table comes in where it belongs
pub inserted : (ts : List (Name × TableValue)) (n : Name) (v : TableValue) (at : ℕ) → BelongsAt ts n at → insert ts at (n, v) ≡ with_table ts n v
inserted ts n v at b =
    let front = take at ts in
    let rest = drop at ts in
    let before : tables_before n ts ≡ front = ap (tables_before n) (sym (take-append-drop at ts)) ∙ filter-append (λ (t : Name × TableValue). is_before t.0 n) front rest ∙ ap₂ (λ (x y : List (Name × TableValue)). x ++ y) (all_before n front b.before) (none_before n rest b.behind) ∙ append_nil front in
    let behind : tables_behind n ts ≡ rest = ap (tables_behind n) (sym (take-append-drop at ts)) ∙ filter-append (λ (t : Name × TableValue). is_before n t.0) front rest ∙ ap₂ (λ (x y : List (Name × TableValue)). x ++ y) (none_behind n front b.before) (all_behind n rest b.behind) in
    sym (ap₂ (λ (x y : List (Name × TableValue)). x ++ (n, v) ∷ y) before behind)

above_at : (m : Name) (ts : List (Name × TableValue)) (at : ℕ) (t : Name × TableValue) → above m ts ≡ true → at < length ts → t ≡ get_or ts at t → is_before m t.0 ≡ true
above_at m [] at t h n g = absurd (omega (arith, n))
above_at m (u ∷ ts) zero t h n g = subst (λ (x : Name × TableValue). is_before m x.0 ≡ true) (sym g) (both_true (is_before m u.0) (above m ts) h).0
above_at m (u ∷ ts) (suc at) t h n g = above_at m ts at t (both_true (is_before m u.0) (above m ts) h).1 (omega (arith, n)) g

-- a table takes the place of the one of its name
pub replaced : (ts : List (Name × TableValue)) (n : Name) (v : TableValue) (at : ℕ) (t : Name × TableValue) → AreOrdered ts → at < length ts → t ≡ get_or ts at t → t.0 ≡ n → set ts at (t.0, v) ≡ with_table ts n v
replaced ts n v at t s w g e = go ts at s w g ∙ sym (with_is_put ts n v s)
  where
    go : (ts : List (Name × TableValue)) (at : ℕ) → AreOrdered ts → at < length ts → t ≡ get_or ts at t → set ts at (t.0, v) ≡ put ts n v
    go [] at s w g = absurd (omega (arith, w))
    go (u ∷ ts) zero s w g =
        let f : u.0 ≡ n = ap (λ (x : Name × TableValue). x.0) (sym g) ∙ e in
        rw (e, f, never n) refl
    go (u ∷ ts) (suc at) s w g =
        let before : is_before u.0 n ≡ true = subst (λ (x : Name). is_before u.0 x ≡ true) e (above_at u.0 ts at t s.0 (omega (arith, w)) g) in
        rw before (ap (λ (us : List (Name × TableValue)). u ∷ us) (go ts at s.1 (omega (arith, w)) g))

pub found : (ts : List (Name × TableValue)) (n : Name) (at : ℕ) (t : Name × TableValue) → AreOrdered ts → at < length ts → t ≡ get_or ts at t → t.0 ≡ n → named n ts ≡ Some t.1
found ts n at t s w g e =
    let whole : take at ts ++ t ∷ drop (suc at) ts ≡ ts = ap (λ (x : Name × TableValue). take at ts ++ x ∷ drop (suc at) ts) g ∙ ap (λ r. take at ts ++ r) (sym (drop-cons ts at t w)) ∙ take-append-drop at ts in
    subst (λ r. named n r ≡ Some t.1) whole (found_here n (take at ts) t (drop (suc at) ts) (subst AreOrdered (sym whole) s) (subst (λ (x : Name). slice_cmp nat_cmp t.0 x ≡ Equal) e (tied_itself nat_list_cmp_total t.0)))

pub missing : (ts : List (Name × TableValue)) (n : Name) (at : ℕ) → BelongsAt ts n at → named n ts ≡ None
missing ts n at b = subst (λ r. named n r ≡ None) (take-append-drop at ts) (named_append n (take at ts) (drop at ts) (none_under (take at ts) b.before) ∙ none_above n (drop at ts) b.behind)
  where
    none_under : (us : List (Name × TableValue)) → under n us ≡ true → named n us ≡ None
    none_under [] h = refl
    none_under (t ∷ us) h = let both = both_true (is_before t.0 n) (under n us) h in rw (before_other t.0 n both.0) (none_under us both.1)

-- ---- one entry of one table

-- what the edit of a table says of the table that it gives
pub edit_is : {X : Type 0} (res : Result Bool X) (edit : Edit) (e : TableEntry) (t new : TableValue) → t.is_const ≡ false → has_room edit (length t.entries) ≡ true → IfOk res (λ done. new ≡ (if done then with_contents t (edited edit e t.entries) else t)) → OnErr res (new ≡ t) → MatchResult res (λ done. IsTableIf done (edited_table edit e t) t new) (λ x. new ≡ t)
edit_is (Err x) edit e t new h k a b = b
edit_is (Ok false) edit e t new h k a b = a
edit_is (Ok true) edit e t new h k a b =
    let v = with_contents t (edited edit e t.entries) in
    ap (λ c. if not c && has_room edit (length t.entries) then Some v else None) h ∙ ap (λ c. if c then Some v else None) k ∙ ap (λ (x : TableValue). Some x) (sym a)

-- one of the tables is as it was
kept : (ts : List (Name × TableValue)) (at : ℕ) (t : Name × TableValue) (v : TableValue) → at < length ts → t ≡ get_or ts at t → v ≡ t.1 → set ts at (t.0, v) ≡ ts
kept [] at t v w g c = absurd (omega (arith, w))
kept (u ∷ ts) zero t v w g c = ap (λ (x : TableValue). (t.0, x) ∷ ts) c ∙ ap (λ (x : Name × TableValue). x ∷ ts) g
kept (u ∷ ts) (suc at) t v w g c = ap (λ (us : List (Name × TableValue)). u ∷ us) (kept ts at t v (omega (arith, w)) g c)

-- a table takes the place of the one of its name
pub put_there : (ts : List (Name × TableValue)) (n : Name) (at : ℕ) (t : Name × TableValue) (own v : TableValue) → AreOrdered ts → IsStoredAt ts n at → t ≡ get_or ts at t → own ≡ v → AreOrdered (set ts at (t.0, own)) × (set ts at (t.0, own) ≡ with_table ts n v)
put_there ts n at t own v s b g e =
    let put = replaced ts n own at t s b.within g (b.is t g) ∙ ap (with_table ts n) e in
    (subst AreOrdered (sym put) (ordered_with ts n v s), put)

-- a table comes where there is none of its name
pub put_new : (ts : List (Name × TableValue)) (n key : Name) (at : ℕ) (own v : TableValue) → AreOrdered ts → BelongsAt ts n at → key ≡ n → own ≡ v → AreOrdered (insert ts at (key, own)) × (insert ts at (key, own) ≡ with_table ts n v)
put_new ts n key at own v s b k e =
    let put = ap (λ (m : Name). insert ts at (m, own)) k ∙ inserted ts n own at b ∙ ap (with_table ts n) e in
    (subst AreOrdered (sym put) (ordered_with ts n v s), put)

-- an entry of the table of a name is edited
pub edit_among : {X : Type 0} (res : Result Bool X) (edit : Edit) (e : TableEntry) (ts : List (Name × TableValue)) (n : Name) (at : ℕ) (t : Name × TableValue) (v : TableValue) → AreOrdered ts → IsStoredAt ts n at → t ≡ get_or ts at t → MatchResult res (λ done. IsTableIf done (edited_table edit e t.1) t.1 v) (λ x. v ≡ t.1) →
    AreOrdered (set ts at (t.0, v)) × MatchResult res (λ done. ChangesIf done (edited_in edit e (named n ts)) n ts (set ts at (t.0, v))) (λ x. set ts at (t.0, v) ≡ ts)
edit_among (Err x) edit e ts n at t v s b g c = let same = kept ts at t v b.within g c in (subst AreOrdered (sym same) s, same)
edit_among (Ok false) edit e ts n at t v s b g c = let same = kept ts at t v b.within g c in (subst AreOrdered (sym same) s, same)
edit_among (Ok true) edit e ts n at t v s b g c =
    let put = replaced ts n v at t s b.within g (b.is t g) in
    let is : edited_in edit e (named n ts) ≡ Some v = ap (edited_in edit e) (found ts n at t s b.within g (b.is t g)) ∙ c in
    (subst AreOrdered (sym put) (ordered_with ts n v s), subst (λ o. Takes o n ts (set ts at (t.0, v))) (sym is) put)

-- ---- a search by halves

steps_up : (x y n : Name) → is_before x y ≡ true → ordering_index (slice_cmp nat_cmp x n) ≤ ordering_index (slice_cmp nat_cmp y n)
steps_up x y n h =
    (elim (slice_cmp nat_cmp x n) as (λ o. slice_cmp nat_cmp x n ≡ o → ordering_index o ≤ ordering_index (slice_cmp nat_cmp y n)) [
      | Less ↦ λ o. omega arith
      | Equal ↦ λ o. (let e : x ≡ n = exact_bytes x n o in let g : slice_cmp nat_cmp y n ≡ Greater = turned n y ∙ ap ordering_reverse (subst (λ (z : Name). slice_cmp nat_cmp z y ≡ Less) e (is_less _ h)) in rw g (omega arith))
      | Greater ↦ λ o. (let b : is_before n x ≡ true = ap is_lt (turned x n ∙ ap ordering_reverse o) in let g : slice_cmp nat_cmp y n ≡ Greater = turned n y ∙ ap ordering_reverse (is_less _ (name_chain n x y b h)) in rw g (omega arith))
    ]) refl

rises : (n : Name) (ts : List (Name × TableValue)) → AreOrdered ts → (i j : ℕ) (d : Name × TableValue) → i ≤ j → j < length ts → ordering_index (slice_cmp nat_cmp (get_or ts i d).0 n) ≤ ordering_index (slice_cmp nat_cmp (get_or ts j d).0 n)
rises n [] s i j d h k = absurd (omega (arith, k))
rises n (t ∷ ts) s zero zero d h k = omega arith
rises n (t ∷ ts) s zero (suc j) d h k = steps_up t.0 (get_or ts j d).0 n (above_at t.0 ts j (get_or ts j d) s.0 (omega (arith, k)) (default ts j d (omega (arith, k))))
  where
    default : (us : List (Name × TableValue)) (j : ℕ) (d : Name × TableValue) → j < length us → get_or us j d ≡ get_or us j (get_or us j d)
    default [] j d h = absurd (omega (arith, h))
    default (u ∷ us) zero d h = refl
    default (u ∷ us) (suc j) d h = default us j d (omega (arith, h))
rises n (t ∷ ts) s (suc i) zero d h k = absurd (omega (arith, h))
rises n (t ∷ ts) s (suc i) (suc j) d h k = rises n ts s.1 i j d (omega (arith, h)) (omega (arith, k))

pub place_is : (ts : List (Name × TableValue)) (n : Name) (r : Result ℕ ℕ) → AreOrdered ts → IsSearchInRange r (length ts) → IsBinarySearchResult (λ (t : Name × TableValue). slice_cmp nat_cmp t.0 n) ts r → MatchResult r (λ at. IsStoredAt ts n at) (λ at. BelongsAt ts n at)
place_is ts n (Ok at) s w h = record { within = w; is = λ t g. exact_bytes t.0 n (subst (λ (x : Name × TableValue). slice_cmp nat_cmp x.0 n ≡ Equal) (sym g) (h t)) }
place_is ts n (Err at) s w h =
    let sides = h (rises n ts s) in
    record {
      within = w;
      before = front ts at (λ k d m. ap is_lt (sides.0 k d (omega arith) m));
      behind = rest ts at (λ k d m l. ap is_lt (turned (get_or ts k d).0 n ∙ ap ordering_reverse (sides.1 k d m l)));
    }
  where
    front : (us : List (Name × TableValue)) (i : ℕ) → ((k : ℕ) (d : Name × TableValue) → k < i → is_before (get_or us k d).0 n ≡ true) → under n (take i us) ≡ true
    front us zero b = refl
    front [] (suc i) b = refl
    front (u ∷ us) (suc i) b = rw (b zero u (omega arith)) (front us i (λ k d m. b (suc k) d (omega (arith, m))))

    rest : (us : List (Name × TableValue)) (i : ℕ) → ((k : ℕ) (d : Name × TableValue) → i ≤ k → k < length us → is_before n (get_or us k d).0 ≡ true) → above n (drop i us) ≡ true
    rest [] zero b = refl
    rest [] (suc i) b = refl
    rest (u ∷ us) zero b = rw (b zero u (omega arith) (omega arith)) (rest us zero (λ k d m l. b (suc k) d (omega arith) (omega (arith, l))))
    rest (u ∷ us) (suc i) b = rest us i (λ k d m l. b (suc k) d (omega (arith, m)) (omega (arith, l)))
