-- The anchor of a name is taken out from among the others, and put back in its place.
use Rattle.std.proofs.Common.{◌≡◌, ℕ, Bool, ◌+◌, ◌≤◌, true, false, cond, List, [], ◌∷◌, ◌++◌, Option, Some, None, Ordering, length, length-append, length-take-le, take, drop, filter, get_or, slice_get, zero, suc, ◌<◌, refl, sym, subst, ap, ◌∙◌, arith, take-append-drop}
use Rattle.std.specs.declared.cmp.Ordering.TheVariants.{Less, Equal, Greater}
use Rattle.std.specs.declared.rc.Rc.{Rc}
use Rattle.std.specs.Prelude.{if◌then◌else◌, find, is_some, IfSome, option_map}
use Rattle.std.specs.List.Sorted.{IsPartitionPoint, IsPartitionedBy}
use Rattle.std.specs.Str.{bytes_eq}
use Rattle.std.specs.Ordering.{is_lt, nat_cmp, ordering_reverse}
use Rattle.std.specs.Cmp.Lexicographic.{slice_cmp}
use Rattle.std.proofs.Math.Seq.{take-append_seam, drop-append_seam}
use Rattle.std.proofs.lemmas.Cmp.{nat_list_cmp_total}
use Rattle.std.proofs.lemmas.Map.Lookups.{exact_bytes}
use Rattle.std.proofs.lemmas.List.{length-map, drop-map, take-map}
use Rattle.std.proofs.lemmas.List.Elements.{filter-append}
use Rattle.pf_rules.specs.Names.{Name, is_before}
use Rattle.pf_rules.specs.Items.{AnyRule}
use Rattle.pf_tables.specs.Tables.{TableValue}
use Rattle.pf_config.specs.Map.{Path}
use Rattle.pf_config.specs.Changes.{is_empty}
use Rattle.pf_config.specs.Trees.{AnchorTree, shared, below, own_entry, last_name, AreKids, child_at}
use Rattle.pf_config.specs.inner.Trees.{is_named, kids_before, kids_behind, some_kid, anchors_of, placed_in}
use Rattle.pf_config.specs.inner.KidOrder.{AreInOrder}
use Rattle.pf_config.proofs.Treed.{both_true, append_nil, bytes_same, same_bytes, name_chain, before_other, other_turned, kids_above, kids_above_chain, child_is}
use Rattle.pf_config.proofs.Entries.{kids_again, kid_placed, takes_place, placed_begins}
use Rattle.pf_config.proofs.KidHalves.{order_back, order_front, shared_append}

-- ---- those before a name are counted by halves

-- where the first i pass a test and no other does, i pass it
count_passing : {X : Type 0} (p : X → Bool) (xs : List X) (i : ℕ) → i ≤ length xs → IsPartitionPoint (λ y. p y ≡ true) (λ y. p y ≡ false) xs i → length (filter p xs) ≡ i
count_passing p [] zero n h = refl
count_passing p [] (suc i) n h = absurd (omega (arith, n))
count_passing p (x ∷ xs) zero n h =
    let rest = count_passing p xs zero (omega arith) ((λ k d a b. absurd (omega (arith, b))), (λ k d a b. h.1 (suc k) d (omega arith) (omega (arith, b)))) in
    rw (h.1 zero x (omega arith) (omega arith)) rest
count_passing p (x ∷ xs) (suc i) n h =
    let rest = count_passing p xs i (omega (arith, n)) ((λ k d a b. h.0 (suc k) d (omega arith) (omega (arith, b))), (λ k d a b. h.1 (suc k) d (omega (arith, a)) (omega (arith, b)))) in
    rw (h.0 zero x (omega arith) (omega arith)) (omega (arith, rest))

kid_above : {Z : Type 0} (m : Name) (ks : List (Rc AnchorTree Z)) (j : ℕ) (d : Rc AnchorTree Z) → kids_above m (shared ks) ≡ true → j < length ks → is_before m (last_name (get_or ks j d).value.names) ≡ true
kid_above m [] j d h n = absurd (omega (arith, n))
kid_above m (k ∷ ks) zero d h n = (both_true (is_before m (last_name k.value.names)) (kids_above m (shared ks)) h).0
kid_above m (k ∷ ks) (suc j) d h n = kid_above m ks j d (both_true (is_before m (last_name k.value.names)) (kids_above m (shared ks)) h).1 (omega (arith, n))

pub parted_by : {Z : Type 0} (n : Name) (ks : List (Rc AnchorTree Z)) → AreInOrder (shared ks) → IsPartitionedBy (λ (k : Rc AnchorTree Z). is_before (last_name k.value.names) n) ks
parted_by n [] s i j d le w h = absurd (omega (arith, w))
parted_by n (k ∷ ks) s zero zero d le w h = h
parted_by n (k ∷ ks) s zero (suc j) d le w h = name_chain (last_name k.value.names) (last_name (get_or ks j d).value.names) n (kid_above (last_name k.value.names) ks j d s.0 (omega (arith, w))) h
parted_by n (k ∷ ks) s (suc i) zero d le w h = absurd (omega (arith, le))
parted_by n (k ∷ ks) s (suc i) (suc j) d le w h = parted_by n ks s.1 i j d (omega (arith, le)) (omega (arith, w)) h

count_shared : {Z : Type 0} (q : AnchorTree → Bool) (ks : List (Rc AnchorTree Z)) → length (filter q (shared ks)) ≡ length (filter (λ (k : Rc AnchorTree Z). q k.value) ks)
count_shared q [] = refl
count_shared {Z} q (k ∷ ks) =
    let rest = count_shared q ks in
    elim (q k.value) as (λ b. length (cond b (k.value ∷ filter q (shared ks)) (filter q (shared ks))) ≡ length (cond b (k ∷ filter (λ (j : Rc AnchorTree Z). q j.value) ks) (filter (λ (j : Rc AnchorTree Z). q j.value) ks))) [ true ↦ omega (arith, rest) | false ↦ rest ]

pub counted : {Z : Type 0} (n : Name) (ks : List (Rc AnchorTree Z)) (i : ℕ) → i ≤ length ks → IsPartitionPoint (λ (k : Rc AnchorTree Z). is_before (last_name k.value.names) n ≡ true) (λ (k : Rc AnchorTree Z). is_before (last_name k.value.names) n ≡ false) ks i → i ≡ length (kids_before n (shared ks))
counted {Z} n ks i w h = sym (count_shared (λ (j : AnchorTree). is_before (last_name j.names) n) ks ∙ count_passing (λ (k : Rc AnchorTree Z). is_before (last_name k.value.names) n) ks i w h)

-- ---- those before a name, the one of that name, and those behind it

abbrev pub listed : Option AnchorTree → List AnchorTree
listed None = []
listed (Some k) = k ∷ []

record AllBehind (n : Name) (ks : List AnchorTree) : Type 0 where
  none_before : kids_before n ks ≡ []
  all_behind : kids_behind n ks ≡ ks
  none_named : find (is_named n) ks ≡ None

all_are_behind : (n : Name) (ks : List AnchorTree) → kids_above n ks ≡ true → AllBehind n ks
all_are_behind n [] a = record { none_before = refl; all_behind = refl; none_named = refl }
all_are_behind n (k ∷ ks) a =
    let both = both_true (is_before n (last_name k.names)) (kids_above n ks) a in
    let c : slice_cmp nat_cmp (last_name k.names) n ≡ Greater = nat_list_cmp_total.antisymm (last_name k.names) n ∙ ap ordering_reverse (less _ both.0) in
    let rest = all_are_behind n ks both.1 in
    record {
      none_before = rw c rest.none_before;
      all_behind = rw both.0 (ap (λ (s : List AnchorTree). k ∷ s) rest.all_behind);
      none_named = rw (other_turned n (last_name k.names) (before_other n (last_name k.names) both.0)) rest.none_named;
    }
  where
    less : (o : Ordering) → is_lt o ≡ true → o ≡ Less
    less Less h = refl
    less Equal h = cc
    less Greater h = cc

pub parted : (n : Name) (ks : List AnchorTree) → AreInOrder ks → kids_before n ks ++ (listed (find (is_named n) ks) ++ kids_behind n ks) ≡ ks
parted n [] s = refl
parted n (k ∷ ks) s =
    let m = last_name k.names in
    (elim (slice_cmp nat_cmp m n) as (λ o. slice_cmp nat_cmp m n ≡ o → kids_before n (k ∷ ks) ++ (listed (find (is_named n) (k ∷ ks)) ++ kids_behind n (k ∷ ks)) ≡ k ∷ ks) [
      | Less ↦ λ o.
          let c : is_before n m ≡ false = ap is_lt (nat_list_cmp_total.antisymm n m ∙ ap ordering_reverse o) in
          let d : bytes_eq m n ≡ false = before_other m n (ap is_lt o) in
          rw (o, c, d) (ap (λ (r : List AnchorTree). k ∷ r) (parted n ks s.1))
      | Equal ↦ λ o.
          let e : m ≡ n = exact_bytes m n o in
          let c : is_before n m ≡ false = ap is_lt (nat_list_cmp_total.antisymm n m ∙ ap ordering_reverse o) in
          let d : bytes_eq m n ≡ true = subst (λ (x : Name). bytes_eq m x ≡ true) e (same_bytes m) in
          let rest = all_are_behind n ks (subst (λ (x : Name). kids_above x ks ≡ true) e s.0) in
          rw (o, c, d, rest.none_before, rest.all_behind) refl
      | Greater ↦ λ o.
          let c : is_before n m ≡ true = ap is_lt (nat_list_cmp_total.antisymm n m ∙ ap ordering_reverse o) in
          let d : bytes_eq m n ≡ false = other_turned n m (before_other n m c) in
          let rest = all_are_behind n ks (kids_above_chain n m ks c s.0) in
          rw (o, c, d, rest.none_before, rest.all_behind, rest.none_named) refl
    ]) refl

find_named : (n : Name) (ks : List AnchorTree) (j : AnchorTree) → find (is_named n) ks ≡ Some j → is_named n j ≡ true
find_named n [] j h = cc
find_named n (k ∷ ks) j h =
    (elim (is_named n k) as (λ b. is_named n k ≡ b → cond b (Some k) (find (is_named n) ks) ≡ Some j → is_named n j ≡ true) [
      | true ↦ λ e f. (let s : k ≡ j = cc in subst (λ (x : AnchorTree). is_named n x ≡ true) s e)
      | false ↦ λ e f. find_named n ks j f
    ]) refl h

behind_not_named : (n : Name) (ks : List AnchorTree) (k : AnchorTree) (rest : List AnchorTree) → kids_behind n ks ≡ k ∷ rest → is_named n k ≡ false
behind_not_named n [] k rest h = cc
behind_not_named n (j ∷ ks) k rest h =
    (elim (is_before n (last_name j.names)) as (λ b. is_before n (last_name j.names) ≡ b → cond b (j ∷ kids_behind n ks) (kids_behind n ks) ≡ k ∷ rest → is_named n k ≡ false) [
      | true ↦ λ e f. (let s : j ≡ k = cc in subst (λ (x : AnchorTree). is_named n x ≡ false) s (other_turned n (last_name j.names) (before_other n (last_name j.names) e)))
      | false ↦ λ e f. behind_not_named n ks k rest f
    ]) refl h

-- what stands where the name has its place
pub record Placed (n : Name) (at : ℕ) (ks : List AnchorTree) : Type 0 where
  pub front : take at ks ≡ kids_before n ks
  pub here : (k : AnchorTree) (rest : List AnchorTree) → drop at ks ≡ k ∷ rest → is_named n k ≡ true → (find (is_named n) ks ≡ Some k) × (rest ≡ kids_behind n ks)
  pub none : drop at ks ≡ [] → (find (is_named n) ks ≡ None) × (ks ≡ kids_before n ks ++ kids_behind n ks)
  pub other : (k : AnchorTree) (rest : List AnchorTree) → drop at ks ≡ k ∷ rest → is_named n k ≡ false → (find (is_named n) ks ≡ None) × (ks ≡ kids_before n ks ++ kids_behind n ks)

pub stored_at : (n : Name) (at : ℕ) (ks : List AnchorTree) → AreInOrder ks → at ≡ length (kids_before n ks) → Placed n at ks
stored_at n at ks s e = go (find (is_named n) ks) refl
  where
    before : List AnchorTree
    before = kids_before n ks

    behind : List AnchorTree
    behind = kids_behind n ks

    go : (o : Option AnchorTree) → find (is_named n) ks ≡ o → Placed n at ks
    go None f =
        let whole : before ++ behind ≡ ks = ap (λ r. before ++ (listed r ++ behind)) (sym f) ∙ parted n ks s in
        let tail : drop at ks ≡ behind = ap (λ r. drop at r) (sym whole) ∙ ap (λ i. drop i (before ++ behind)) e ∙ drop-append_seam before behind in
        record {
          front = ap (λ r. take at r) (sym whole) ∙ ap (λ i. take i (before ++ behind)) e ∙ take-append_seam before behind;
          here = λ k rest d t. (let bad : true ≡ false = sym t ∙ behind_not_named n ks k rest (sym tail ∙ d) in cc);
          none = λ d. (f, sym whole);
          other = λ k rest d t. (f, sym whole);
        }
    go (Some j) f =
        let whole : before ++ (j ∷ behind) ≡ ks = ap (λ r. before ++ (listed r ++ behind)) (sym f) ∙ parted n ks s in
        let tail : drop at ks ≡ j ∷ behind = ap (λ r. drop at r) (sym whole) ∙ ap (λ i. drop i (before ++ (j ∷ behind))) e ∙ drop-append_seam before (j ∷ behind) in
        record {
          front = ap (λ r. take at r) (sym whole) ∙ ap (λ i. take i (before ++ (j ∷ behind))) e ∙ take-append_seam before (j ∷ behind);
          here = λ k rest d t. (let c : j ∷ behind ≡ k ∷ rest = sym tail ∙ d in let g : j ≡ k = cc in let r : rest ≡ behind = cc in (f ∙ ap Some g, r));
          none = λ d. (let bad : j ∷ behind ≡ [] = sym tail ∙ d in cc);
          other = λ k rest d t. (let c : j ∷ behind ≡ k ∷ rest = sym tail ∙ d in let g : k ≡ j = cc in let bad : true ≡ false = sym (find_named n ks j f) ∙ (ap (is_named n) (sym g) ∙ t) in cc);
        }

got_none : {X : Type 0} (xs : List X) (i : ℕ) → slice_get xs i ≡ None → drop i xs ≡ []
got_none [] zero h = refl
got_none [] (suc i) h = refl
got_none (x ∷ xs) zero h = cc
got_none (x ∷ xs) (suc i) h = got_none xs i h

got_some : {X : Type 0} (xs : List X) (i : ℕ) (k : X) → slice_get xs i ≡ Some k → drop i xs ≡ k ∷ drop (suc i) xs
got_some [] zero k h = cc
got_some [] (suc i) k h = cc
got_some {X} (x ∷ xs) zero k h = let s : x ≡ k = cc in ap (λ (y : X). y ∷ xs) s
got_some (x ∷ xs) (suc i) k h = got_some xs i k h

-- whether it is there is seen at its place
pub some_placed : {Z : Type 0} (n : Name) (at : ℕ) (ks : List (Rc AnchorTree Z)) (k : Rc AnchorTree Z) → AreInOrder (shared ks) → at ≡ length (kids_before n (shared ks)) → slice_get ks at ≡ Some k → is_named n k.value ≡ is_some (find (is_named n) (shared ks))
some_placed n at ks k s e g =
    let there = stored_at n at (shared ks) s e in
    let d : drop at (shared ks) ≡ k.value ∷ shared (drop (suc at) ks) = drop-map (λ k. k.value) at ks ∙ ap shared (got_some ks at k g) in
    (elim (is_named n k.value) as (λ b. is_named n k.value ≡ b → b ≡ is_some (find (is_named n) (shared ks))) [
      | true ↦ λ t. sym (ap is_some (there.here k.value (shared (drop (suc at) ks)) d t).0)
      | false ↦ λ t. sym (ap is_some (there.other k.value (shared (drop (suc at) ks)) d t).0)
    ]) refl

pub none_placed : {Z : Type 0} (n : Name) (at : ℕ) (ks : List (Rc AnchorTree Z)) → AreInOrder (shared ks) → at ≡ length (kids_before n (shared ks)) → slice_get ks at ≡ None → false ≡ is_some (find (is_named n) (shared ks))
none_placed n at ks s e g = sym (ap is_some ((stored_at n at (shared ks) s e).none (drop-map (λ k. k.value) at ks ∙ ap shared (got_none ks at g))).0)

-- where it isn't there, nothing is taken out
pub left_whole : (n : Name) (ks : List AnchorTree) → AreInOrder ks → is_some (find (is_named n) ks) ≡ false → (find (is_named n) ks ≡ None) × (ks ≡ kids_before n ks ++ kids_behind n ks)
left_whole n ks s h = go (find (is_named n) ks) refl h
  where
    go : (o : Option AnchorTree) → find (is_named n) ks ≡ o → is_some o ≡ false → (find (is_named n) ks ≡ None) × (ks ≡ kids_before n ks ++ kids_behind n ks)
    go None f g = (f, sym (ap (λ r. kids_before n ks ++ (listed r ++ kids_behind n ks)) (sym f) ∙ parted n ks s))
    go (Some j) f g = cc

pub has_place : {Z : Type 0} (n : Name) (at : ℕ) (ks : List (Rc AnchorTree Z)) → AreInOrder (shared ks) → at ≡ length (kids_before n (shared ks)) → is_some (find (is_named n) (shared ks)) ≡ true → at < length ks
has_place n at ks s e h = go (find (is_named n) (shared ks)) refl h
  where
    go : (o : Option AnchorTree) → find (is_named n) (shared ks) ≡ o → is_some o ≡ true → at < length ks
    go None f g = cc
    go (Some j) f g =
        let whole : kids_before n (shared ks) ++ (j ∷ kids_behind n (shared ks)) ≡ shared ks = ap (λ r. kids_before n (shared ks) ++ (listed r ++ kids_behind n (shared ks))) (sym f) ∙ parted n (shared ks) s in
        let long = ap length whole in
        let parts = length-append (kids_before n (shared ks)) (j ∷ kids_behind n (shared ks)) in
        let same = length-map ks (λ k. k.value) in
        omega (arith, long, parts, same, e)

-- it is taken out, and the others close up
pub removed_at : {Z : Type 0} (n : Name) (at : ℕ) (ks rest : List (Rc AnchorTree Z)) (k : Rc AnchorTree Z) → AreInOrder (shared ks) → at ≡ length (kids_before n (shared ks)) → is_some (find (is_named n) (shared ks)) ≡ true → drop at ks ≡ k ∷ rest → (Some k.value ≡ find (is_named n) (shared ks)) × (shared (take at ks ++ rest) ≡ kids_before n (shared ks) ++ kids_behind n (shared ks))
removed_at {Z} n at ks rest k s e h c =
    let there = stored_at n at (shared ks) s e in
    let d : drop at (shared ks) ≡ k.value ∷ shared rest = drop-map (λ k. k.value) at ks ∙ ap shared c in
    (elim (is_named n k.value) as (λ b. is_named n k.value ≡ b → (Some k.value ≡ find (is_named n) (shared ks)) × (shared (take at ks ++ rest) ≡ kids_before n (shared ks) ++ kids_behind n (shared ks))) [
      | true ↦ λ t.
          let own = there.here k.value (shared rest) d t in
          (sym own.0, shared_append (take at ks) rest ∙ ap (λ r. r ++ shared rest) (sym (take-map (λ k. k.value) at ks) ∙ there.front) ∙ ap (λ r. kids_before n (shared ks) ++ r) own.1)
      | false ↦ λ t. (let none = (there.other k.value (shared rest) d t).0 in let bad : true ≡ false = sym h ∙ ap is_some none in cc)
    ]) refl

-- ---- what is put back

-- the anchor that is found has the path of its name
pub found_names : (p : Path) (n : Name) (ks : List AnchorTree) (k : AnchorTree) → AreKids p ks → find (is_named n) ks ≡ Some k → k.names ≡ p ++ n ∷ []
found_names p n [] k h f = cc
found_names p n (j ∷ ks) k h f =
    (elim (is_named n j) as (λ b. is_named n j ≡ b → cond b (Some j) (find (is_named n) ks) ≡ Some k → k.names ≡ p ++ n ∷ []) [
      | true ↦ λ e g. (let s : j ≡ k = cc in subst (λ (x : AnchorTree). x.names ≡ p ++ n ∷ []) s (h.0.0 ∙ ap (λ (x : Name). p ++ x ∷ []) (bytes_same (last_name j.names) n e)))
      | false ↦ λ e g. found_names p n ks k h.2 g
    ]) refl f

-- an anchor that holds something is put in
pub put_in : {Z : Type 0} (at : ℕ) (ks : List (Rc AnchorTree Z)) (k : Rc AnchorTree Z) → is_empty k.value.anchors ≡ false → shared (take at ks ++ k ∷ drop at ks) ≡ take at (shared ks) ++ (some_kid k.value ++ drop at (shared ks))
put_in at ks k h = shared_append (take at ks) (k ∷ drop at ks) ∙ ap (λ r. r ++ k.value ∷ shared (drop at ks)) (sym (take-map (λ k. k.value) at ks)) ∙ ap (λ r. take at (shared ks) ++ k.value ∷ r) (sym (drop-map (λ k. k.value) at ks)) ∙ ap (λ b. take at (shared ks) ++ ((if b then [] else k.value ∷ []) ++ drop at (shared ks))) (sym h)

-- the kids, with one in the place of the name
pub around : (n : Name) (ks mid js : List AnchorTree) (at : ℕ) (kid : AnchorTree) → at ≡ length (kids_before n ks) → mid ≡ kids_before n ks ++ kids_behind n ks → js ≡ take at mid ++ (some_kid kid ++ drop at mid) → js ≡ kids_before n ks ++ (some_kid kid ++ kids_behind n ks)
around n ks mid js at kid e m j =
    let before = kids_before n ks in
    let behind = kids_behind n ks in
    let front : take at mid ≡ before = ap (λ r. take at r) m ∙ ap (λ i. take i (before ++ behind)) e ∙ take-append_seam before behind in
    let tail : drop at mid ≡ behind = ap (λ r. drop at r) m ∙ ap (λ i. drop i (before ++ behind)) e ∙ drop-append_seam before behind in
    j ∙ ap (λ r. r ++ (some_kid kid ++ drop at mid)) front ∙ ap (λ r. before ++ (some_kid kid ++ r)) tail

-- the kid was taken out, has its entry, and was put back
pub record PutBack (p : Path) (n : Name) (r : Path) (rules : List AnyRule) (tables : List (Name × TableValue)) (ks js : List AnchorTree) : Type 0 where
  pub kid : AnchorTree
  pub all : js ≡ kids_before n ks ++ (some_kid kid ++ kids_behind n ks)
  pub held : kid ≡ placed_in (record { names = p ++ n ∷ []; anchors = anchors_of (find (is_named n) ks) }) r rules tables

pub put_back : (p : Path) (n : Name) (r : Path) (rules : List AnyRule) (tables : List (Name × TableValue)) (ks mid js : List AnchorTree) (at : ℕ) (old kid : AnchorTree) → at ≡ length (kids_before n ks) → mid ≡ kids_before n ks ++ kids_behind n ks → js ≡ take at mid ++ (some_kid kid ++ drop at mid) → old ≡ record { names = p ++ n ∷ []; anchors = anchors_of (find (is_named n) ks) } → kid ≡ placed_in old r rules tables → PutBack p n r rules tables ks js
put_back p n r rules tables ks mid js at old kid e m j o k = record {
  kid = kid;
  all = around n ks mid js at kid e m j;
  held = k ∙ ap (λ (t : AnchorTree). placed_in t r rules tables) o;
}

held_in : (p : Path) (n : Name) (own : List AnyRule) (tables : List (Name × TableValue)) (ks : List AnchorTree) → AreKids p ks → find (is_named n) ks ≡ child_at (record { names = p; anchors = own_entry p own tables ++ below ks }) n
held_in p n own tables ks h = child_is p n own tables ks h

pub back_kids : (p : Path) (n : Name) (r : Path) (own rules : List AnyRule) (held tables : List (Name × TableValue)) (ks js : List AnchorTree) → AreKids p ks → PutBack p n r rules tables ks js → AreKids p js
back_kids p n r own rules held tables ks js h b =
    let t : AnchorTree = record { names = p; anchors = own_entry p own held ++ below ks } in
    let found : find (is_named n) ks ≡ child_at t n = held_in p n own held ks h in
    let k : b.kid ≡ placed_in (record { names = p ++ n ∷ []; anchors = anchors_of (child_at t n) }) r rules tables = b.held ∙ ap (λ o. placed_in (record { names = p ++ n ∷ []; anchors = anchors_of o }) r rules tables) found in
    subst (AreKids p) (sym b.all) (kids_again p n b.kid ks h (ap (λ (x : AnchorTree). x.names) b.held) (placed_begins t b.kid n r rules tables k))

pub back_placed : (p : Path) (n : Name) (r rest : Path) (own rules : List AnyRule) (held tables : List (Name × TableValue)) (ks js : List AnchorTree) → AreKids p ks → rest ≡ n ∷ r → PutBack p n r rules tables ks js →
    ◌≡◌ {A = AnchorTree} (record { names = p; anchors = own_entry p own held ++ below js }) (placed_in (record { names = p; anchors = own_entry p own held ++ below ks }) rest rules tables)
back_placed p n r rest own rules held tables ks js h e b =
    let t : AnchorTree = record { names = p; anchors = own_entry p own held ++ below ks } in
    let new : AnchorTree = record { names = p; anchors = own_entry p own held ++ below js } in
    let found : find (is_named n) ks ≡ child_at t n = held_in p n own held ks h in
    let k : b.kid ≡ placed_in (record { names = p ++ n ∷ []; anchors = anchors_of (child_at t n) }) r rules tables = b.held ∙ ap (λ o. placed_in (record { names = p ++ n ∷ []; anchors = anchors_of o }) r rules tables) found in
    takes_place t b.kid new n r rest rules tables (kid_placed p p n own held ks js b.kid h refl b.all) e k

-- ---- what the calls ask for

pub names_if_found : {Z : Type 0} (p : Path) (n : Name) (ks : List AnchorTree) (o : Option (Rc AnchorTree Z)) → AreKids p ks → option_map (λ k. k.value) o ≡ find (is_named n) ks → IfSome o (λ k. k.value.names ≡ p ++ n ∷ [])
names_if_found p n ks None h e = tt
names_if_found p n ks (Some k) h e = found_names p n ks k.value h (sym e)

pub room_to_put : {Z : Type 0} (n : Name) (ks : List AnchorTree) (mid : List (Rc AnchorTree Z)) (at : ℕ) → at ≡ length (kids_before n ks) → shared mid ≡ kids_before n ks ++ kids_behind n ks → at ≤ length mid
room_to_put n ks mid at e m =
    let long = ap length m in
    let parts = length-append (kids_before n ks) (kids_behind n ks) in
    let same = length-map mid (λ k. k.value) in
    omega (arith, long, parts, same, e)
