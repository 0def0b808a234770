-- An entry of the map gets its place in the tree.
use Rattle.std.proofs.Common.{take, drop, take_all, drop-cons, length, length-drop, get_or, arith, ◌-◌, ◌≤◌, ◌≡◌, Bool, true, false, ◌&&◌, cond, List, [], ◌∷◌, ◌++◌, None, Ordering, refl, sym, subst, ap, ◌∙◌, append_assoc}
use Rattle.std.specs.declared.cmp.Ordering.TheVariants.{Less, Equal, Greater}
use Rattle.std.specs.Prelude.{if◌then◌else◌, filter, find}
use Rattle.std.specs.List.{list_all, starts_with}
use Rattle.std.specs.Str.{bytes_eq}
use Rattle.std.specs.Ordering.{is_lt, nat_cmp, ordering_then, ordering_reverse}
use Rattle.std.specs.Cmp.{IsTotalOrder}
use Rattle.std.specs.Cmp.Lexicographic.{slice_cmp}
use Rattle.std.proofs.lemmas.Cmp.{nat_list_cmp_total, lists_total, tied_itself}
use Rattle.std.proofs.lemmas.List.Elements.{filter-append}
use Rattle.std.proofs.lemmas.Map.Lookups.{exact_bytes}
use Rattle.pf_rules.specs.Names.{Name, is_before}
use Rattle.pf_rules.specs.Items.{AnyRule}
use Rattle.pf_tables.specs.Tables.{TableValue}
use Rattle.pf_config.specs.Map.{AnchorValue, Path}
use Rattle.pf_config.specs.Changes.{is_empty, unless_nothing, is_path_before, anchors_before, anchors_behind, with_anchor}
use Rattle.pf_config.specs.Trees.{AnchorTree, part_below, some_part, child_at, below, own_entry, last_name, IsKid}
use Rattle.pf_config.specs.Trees.{AreKids}
use Rattle.pf_config.specs.inner.Trees.{anchors_of, is_named, kids_before, kids_behind, some_kid, placed_in, TakesPlace}
use Rattle.pf_config.proofs.Treed.{both_true, append_nil, bytes_same, same_bytes, begins, kid_begins, begins_more, is_less, before_other, other_turned, kids_above, kids_above_chain, last_of, child_is}

-- ---- the order of paths

pub paths_total : IsTotalOrder (slice_cmp (slice_cmp nat_cmp))
paths_total = lists_total nat_list_cmp_total

-- a path through one name, against a path through another
cmp_apart : (o : Ordering) → ((s : Ordering) → ordering_then o s ≡ o) → (p : Path) (m n : Name) (q r : Path) → starts_with bytes_eq q (p ++ m ∷ []) ≡ true → slice_cmp nat_cmp m n ≡ o → slice_cmp (slice_cmp nat_cmp) q (p ++ n ∷ r) ≡ o
cmp_apart o t [] m n [] r h k = cc
cmp_apart o t [] m n (x ∷ q) r h k =
    let e : m ≡ x = bytes_same m x (both_true (bytes_eq m x) true h).0 in
    let c : slice_cmp nat_cmp x n ≡ o = subst (λ (y : Name). slice_cmp nat_cmp y n ≡ o) e k in
    rw c (t (slice_cmp (slice_cmp nat_cmp) q r))
cmp_apart o t (l ∷ p) m n [] r h k = cc
cmp_apart o t (l ∷ p) m n (x ∷ q) r h k =
    let both = both_true (bytes_eq l x) (starts_with bytes_eq q (p ++ m ∷ [])) h in
    let e : l ≡ x = bytes_same l x both.0 in
    let c : slice_cmp nat_cmp x l ≡ Equal = subst (λ (y : Name). slice_cmp nat_cmp y l ≡ Equal) e (tied_itself nat_list_cmp_total l) in
    rw c (cmp_apart o t p m n q r both.1 k)

-- a path is before those that go on from it
cmp_shorter : (p : Path) (n : Name) (r : Path) → slice_cmp (slice_cmp nat_cmp) p (p ++ n ∷ r) ≡ Less
cmp_shorter [] n r = refl
cmp_shorter (m ∷ p) n r = rw (tied_itself nat_list_cmp_total m) (cmp_shorter p n r)

cmp_longer : (p q : Path) (m : Name) → starts_with bytes_eq q (p ++ m ∷ []) ≡ true → slice_cmp (slice_cmp nat_cmp) q p ≡ Greater
cmp_longer [] [] m h = cc
cmp_longer [] (x ∷ q) m h = refl
cmp_longer (l ∷ p) [] m h = cc
cmp_longer (l ∷ p) (x ∷ q) m h =
    let both = both_true (bytes_eq l x) (starts_with bytes_eq q (p ++ m ∷ [])) h in
    let e : l ≡ x = bytes_same l x both.0 in
    let c : slice_cmp nat_cmp x l ≡ Equal = subst (λ (y : Name). slice_cmp nat_cmp y l ≡ Equal) e (tied_itself nat_list_cmp_total l) in
    rw c (cmp_longer p q m both.1)

pub turn : (p q : Path) (o : Ordering) → slice_cmp (slice_cmp nat_cmp) p q ≡ o → slice_cmp (slice_cmp nat_cmp) q p ≡ ordering_reverse o
turn p q o h = paths_total.antisymm q p ∙ ap ordering_reverse h

-- ---- filters that keep all or nothing

keeps_all : (t : AnchorValue → Bool) (s : AnchorValue → Bool) → ((a : AnchorValue) → s a ≡ true → t a ≡ true) → (es : List AnchorValue) → list_all s es ≡ true → filter t es ≡ es
keeps_all t s h [] k = refl
keeps_all t s h (a ∷ es) k = let both = both_true (s a) (list_all s es) k in rw (h a both.0) (ap (λ (r : List AnchorValue). a ∷ r) (keeps_all t s h es both.1))

keeps_none : (t : AnchorValue → Bool) (s : AnchorValue → Bool) → ((a : AnchorValue) → s a ≡ true → t a ≡ false) → (es : List AnchorValue) → list_all s es ≡ true → filter t es ≡ []
keeps_none t s h [] k = refl
keeps_none t s h (a ∷ es) k = let both = both_true (s a) (list_all s es) k in rw (h a both.0) (keeps_none t s h es both.1)

-- ---- one kid against a path

pub record Sided (q : Path) (es before behind : List AnchorValue) : Type 0 where
  pub first : anchors_before q es ≡ before
  pub last : anchors_behind q es ≡ behind

kid_before : (p : Path) (k : AnchorTree) (n : Name) (r : Path) → IsKid p k → slice_cmp nat_cmp (last_name k.names) n ≡ Less → Sided (p ++ n ∷ r) k.anchors k.anchors []
kid_before p k n r h o =
    let m = last_name k.names in
    let s : AnchorValue → Bool = λ (a : AnchorValue). starts_with bytes_eq a.path (p ++ m ∷ []) in
    let c : (a : AnchorValue) → s a ≡ true → slice_cmp (slice_cmp nat_cmp) a.path (p ++ n ∷ r) ≡ Less = λ a t. cmp_apart Less (λ u. refl) p m n a.path r t o in
    record {
      first = keeps_all (λ (a : AnchorValue). is_path_before a.path (p ++ n ∷ r)) s (λ a t. ap is_lt (c a t)) k.anchors (kid_begins p k h);
      last = keeps_none (λ (a : AnchorValue). is_path_before (p ++ n ∷ r) a.path) s (λ a t. ap is_lt (turn a.path (p ++ n ∷ r) Less (c a t))) k.anchors (kid_begins p k h);
    }

kid_behind : (p : Path) (k : AnchorTree) (n : Name) (r : Path) → IsKid p k → slice_cmp nat_cmp (last_name k.names) n ≡ Greater → Sided (p ++ n ∷ r) k.anchors [] k.anchors
kid_behind p k n r h o =
    let m = last_name k.names in
    let s : AnchorValue → Bool = λ (a : AnchorValue). starts_with bytes_eq a.path (p ++ m ∷ []) in
    let c : (a : AnchorValue) → s a ≡ true → slice_cmp (slice_cmp nat_cmp) a.path (p ++ n ∷ r) ≡ Greater = λ a t. cmp_apart Greater (λ u. refl) p m n a.path r t o in
    record {
      first = keeps_none (λ (a : AnchorValue). is_path_before a.path (p ++ n ∷ r)) s (λ a t. ap is_lt (c a t)) k.anchors (kid_begins p k h);
      last = keeps_all (λ (a : AnchorValue). is_path_before (p ++ n ∷ r) a.path) s (λ a t. ap is_lt (turn a.path (p ++ n ∷ r) Greater (c a t))) k.anchors (kid_begins p k h);
    }

kid_below : (p : Path) (k : AnchorTree) → IsKid p k → Sided p k.anchors [] k.anchors
kid_below p k h =
    let m = last_name k.names in
    let s : AnchorValue → Bool = λ (a : AnchorValue). starts_with bytes_eq a.path (p ++ m ∷ []) in
    let c : (a : AnchorValue) → s a ≡ true → slice_cmp (slice_cmp nat_cmp) a.path p ≡ Greater = λ a t. cmp_longer p a.path m t in
    record {
      first = keeps_none (λ (a : AnchorValue). is_path_before a.path p) s (λ a t. ap is_lt (c a t)) k.anchors (kid_begins p k h);
      last = keeps_all (λ (a : AnchorValue). is_path_before p a.path) s (λ a t. ap is_lt (turn a.path p Greater (c a t))) k.anchors (kid_begins p k h);
    }

pub sides_join : (q : Path) (es bs x y u v : List AnchorValue) → Sided q es x y → Sided q bs u v → Sided q (es ++ bs) (x ++ u) (y ++ v)
sides_join q es bs x y u v h k = record {
  first = filter-append (λ (a : AnchorValue). is_path_before a.path q) es bs ∙ ap (λ r. r ++ anchors_before q bs) h.first ∙ ap (λ r. x ++ r) k.first;
  last = filter-append (λ (a : AnchorValue). is_path_before q a.path) es bs ∙ ap (λ r. r ++ anchors_behind q bs) h.last ∙ ap (λ r. y ++ r) k.last;
}

-- ---- all kids against a path

all_below : (p : Path) (ks : List AnchorTree) → AreKids p ks → Sided p (below ks) [] (below ks)
all_below p [] h = record { first = refl; last = refl }
all_below p (k ∷ ks) h = sides_join p k.anchors (below ks) [] k.anchors [] (below ks) (kid_below p k h.0) (all_below p ks h.2)

greater_from : (m n : Name) → is_before n m ≡ true → slice_cmp nat_cmp m n ≡ Greater
greater_from m n h = nat_list_cmp_total.antisymm m n ∙ ap ordering_reverse (is_less _ h)

-- none of them is before the name or has it
record Behind (p : Path) (n : Name) (r : Path) (ks : List AnchorTree) : Type 0 where
  sided : Sided (p ++ n ∷ r) (below ks) [] (below ks)
  none_before : kids_before n ks ≡ []
  all_behind : kids_behind n ks ≡ ks
  none_named : find (is_named n) ks ≡ None

behind_all : (p : Path) (n : Name) (r : Path) (ks : List AnchorTree) → AreKids p ks → kids_above n ks ≡ true → Behind p n r ks
behind_all p n r [] h a = record { sided = record { first = refl; last = refl }; none_before = refl; all_behind = refl; none_named = refl }
behind_all p n r (k ∷ ks) h a =
    let both = both_true (is_before n (last_name k.names)) (kids_above n ks) a in
    let g : slice_cmp nat_cmp (last_name k.names) n ≡ Greater = greater_from (last_name k.names) n both.0 in
    let rest = behind_all p n r ks h.2 both.1 in
    record {
      sided = sides_join (p ++ n ∷ r) k.anchors (below ks) [] k.anchors [] (below ks) (kid_behind p k n r h.0 g) rest.sided;
      none_before = rw g rest.none_before;
      all_behind = rw both.0 (ap (λ (s : List AnchorTree). k ∷ s) rest.all_behind);
      none_named = rw (other_turned n (last_name k.names) (before_other n (last_name k.names) both.0)) rest.none_named;
    }

same_name : (m n : Name) → slice_cmp nat_cmp m n ≡ Equal → m ≡ n
same_name m n h = exact_bytes m n h

split : (p : Path) (n : Name) (r : Path) (ks : List AnchorTree) → AreKids p ks →
    Sided (p ++ n ∷ r) (below ks) (below (kids_before n ks) ++ anchors_before (p ++ n ∷ r) (anchors_of (find (is_named n) ks))) (anchors_behind (p ++ n ∷ r) (anchors_of (find (is_named n) ks)) ++ below (kids_behind n ks))
split p n r [] h = record { first = refl; last = refl }
split p n r (k ∷ ks) h =
    let m = last_name k.names in
    let q = p ++ n ∷ r in
    (elim (slice_cmp nat_cmp m n) as (λ o. slice_cmp nat_cmp m n ≡ o → Sided q (k.anchors ++ below ks) (below (kids_before n (k ∷ ks)) ++ anchors_before q (anchors_of (find (is_named n) (k ∷ ks)))) (anchors_behind q (anchors_of (find (is_named n) (k ∷ ks))) ++ below (kids_behind n (k ∷ ks)))) [
      | Less ↦ λ o.
          let b : is_before m n ≡ true = ap is_lt o in
          let c : is_before n m ≡ false = ap is_lt (nat_list_cmp_total.antisymm n m ∙ ap ordering_reverse o) in
          let d : bytes_eq m n ≡ false = before_other m n b in
          let joined = sides_join q k.anchors (below ks) k.anchors [] (below (kids_before n ks) ++ anchors_before q (anchors_of (find (is_named n) ks))) (anchors_behind q (anchors_of (find (is_named n) ks)) ++ below (kids_behind n ks)) (kid_before p k n r h.0 o) (split p n r ks h.2) in
          rw (o, c, d) (record { first = joined.first ∙ sym (append_assoc k.anchors (below (kids_before n ks)) (anchors_before q (anchors_of (find (is_named n) ks)))); last = joined.last })
      | Equal ↦ λ o.
          let e : m ≡ n = same_name m n o in
          let a : kids_above n ks ≡ true = subst (λ (x : Name). kids_above x ks ≡ true) e h.1 in
          let rest = behind_all p n r ks h.2 a in
          let own : Sided q k.anchors (anchors_before q k.anchors) (anchors_behind q k.anchors) = record { first = refl; last = refl } in
          let joined = sides_join q k.anchors (below ks) (anchors_before q k.anchors) (anchors_behind q k.anchors) [] (below ks) own rest.sided in
          let c : is_before n m ≡ false = ap is_lt (nat_list_cmp_total.antisymm n m ∙ ap ordering_reverse o) in
          let d : bytes_eq m n ≡ true = subst (λ (x : Name). bytes_eq m x ≡ true) e (same_bytes m) in
          rw (o, c, d, rest.none_before, rest.all_behind) (record { first = joined.first ∙ append_nil (anchors_before q k.anchors); last = joined.last })
      | Greater ↦ λ o.
          let c : is_before n m ≡ true = ap is_lt (nat_list_cmp_total.antisymm n m ∙ ap ordering_reverse o) in
          let d : bytes_eq m n ≡ false = other_turned n m (before_other n m c) in
          let a : kids_above n ks ≡ true = kids_above_chain n m ks c h.1 in
          let rest = behind_all p n r ks h.2 a in
          let joined = sides_join q k.anchors (below ks) [] k.anchors [] (below ks) (kid_behind p k n r h.0 o) rest.sided in
          rw (o, c, d, rest.none_before, rest.all_behind, rest.none_named) (record { first = joined.first; last = joined.last })
    ]) refl

-- ---- an entry at the anchor's own path, and at one below

unless_before : (p : Path) (n : Name) (r : Path) (rules : List AnyRule) (tables : List (Name × TableValue)) → Sided (p ++ n ∷ r) (own_entry p rules tables) (own_entry p rules tables) []
unless_before p n r rules tables =
    let c = cmp_shorter p n r in
    elim (is_empty rules && is_empty tables) as (λ b. Sided (p ++ n ∷ r) (if b then [] else record { path = p; rules = rules; tables = tables } ∷ []) (if b then [] else record { path = p; rules = rules; tables = tables } ∷ []) []) [
      | true ↦ record { first = refl; last = refl }
      | false ↦ record { first = rw c refl; last = rw (turn p (p ++ n ∷ r) Less c) refl }
    ]

pub unless_own : (p : Path) (rules : List AnyRule) (tables : List (Name × TableValue)) → Sided p (own_entry p rules tables) [] []
unless_own p rules tables =
    let c = tied_itself paths_total p in
    elim (is_empty rules && is_empty tables) as (λ b. Sided p (if b then [] else record { path = p; rules = rules; tables = tables } ∷ []) [] []) [
      | true ↦ record { first = refl; last = refl }
      | false ↦ record { first = rw c refl; last = rw c refl }
    ]

pub placed_here : (p : Path) (rules rules' : List AnyRule) (tables tables' : List (Name × TableValue)) (ks : List AnchorTree) → AreKids p ks → own_entry p rules' tables' ++ below ks ≡ with_anchor (record { path = p; rules = rules'; tables = tables' }) (own_entry p rules tables ++ below ks)
unfolding with_anchor
placed_here p rules rules' tables tables' ks h =
    let s = sides_join p (own_entry p rules tables) (below ks) [] [] [] (below ks) (unless_own p rules tables) (all_below p ks h) in
    rw (s.first, s.last) refl

pub below_append : (ks js : List AnchorTree) → below (ks ++ js) ≡ below ks ++ below js
below_append [] js = refl
below_append (k ∷ ks) js = ap (λ r. k.anchors ++ r) (below_append ks js) ∙ sym (append_assoc k.anchors (below ks) (below js))

pub below_some : (k : AnchorTree) → below (some_kid k) ≡ k.anchors
below_some k = go k.anchors refl
  where
    go : (es : List AnchorValue) → k.anchors ≡ es → below (some_kid k) ≡ k.anchors
    go [] e = rw e refl
    go (a ∷ es) e = rw e (append_nil (a ∷ es))

six : (a b c d e f : List AnchorValue) → ((a ++ (b ++ c)) ++ d) ++ (e ++ f) ≡ a ++ (b ++ (((c ++ d) ++ e) ++ f))
six a b c d e f =
    ap (λ r. r ++ (e ++ f)) (append_assoc a (b ++ c) d) ∙ append_assoc a ((b ++ c) ++ d) (e ++ f)
    ∙ ap (λ r. a ++ r) (ap (λ r. r ++ (e ++ f)) (append_assoc b c d) ∙ append_assoc b (c ++ d) (e ++ f) ∙ ap (λ r. b ++ r) (sym (append_assoc (c ++ d) e f)))

-- the entry gets its place in the kid that its path goes through
pub placed_below : (p : Path) (n : Name) (r : Path) (a : AnchorValue) (rules : List AnyRule) (tables : List (Name × TableValue)) (ks : List AnchorTree) (kid : AnchorTree) → AreKids p ks → a.path ≡ p ++ n ∷ r → kid.anchors ≡ with_anchor a (anchors_of (find (is_named n) ks)) →
    own_entry p rules tables ++ below (kids_before n ks ++ (some_kid kid ++ kids_behind n ks)) ≡ with_anchor a (own_entry p rules tables ++ below ks)
unfolding with_anchor
placed_below p n r a rules tables ks kid h e k =
    let own = own_entry p rules tables in
    let q = p ++ n ∷ r in
    let found = anchors_of (find (is_named n) ks) in
    let s = sides_join q own (below ks) own [] (below (kids_before n ks) ++ anchors_before q found) (anchors_behind q found ++ below (kids_behind n ks)) (unless_before p n r rules tables) (split p n r ks h) in
    let k' : kid.anchors ≡ (anchors_before q found ++ unless_nothing a) ++ anchors_behind q found = subst (λ x. kid.anchors ≡ (anchors_before x found ++ unless_nothing a) ++ anchors_behind x found) e k in
    let new : below (kids_before n ks ++ (some_kid kid ++ kids_behind n ks)) ≡ below (kids_before n ks) ++ (kid.anchors ++ below (kids_behind n ks)) = below_append (kids_before n ks) (some_kid kid ++ kids_behind n ks) ∙ ap (λ x. below (kids_before n ks) ++ x) (below_append (some_kid kid) (kids_behind n ks) ∙ ap (λ x. x ++ below (kids_behind n ks)) (below_some kid)) in
    ap (λ x. own ++ x) (new ∙ ap (λ x. below (kids_before n ks) ++ (x ++ below (kids_behind n ks))) k')
    ∙ sym (six own (below (kids_before n ks)) (anchors_before q found) (unless_nothing a) (anchors_behind q found) (below (kids_behind n ks)))
    ∙ sym (subst (λ x. (anchors_before x (own ++ below ks) ++ unless_nothing a) ++ anchors_behind x (own ++ below ks) ≡ ((own ++ (below (kids_before n ks) ++ anchors_before q found)) ++ unless_nothing a) ++ (anchors_behind q found ++ below (kids_behind n ks))) (sym e) (rw (s.first, s.last) refl))

-- ---- the kids are kids again

kids_filter : (t : AnchorTree → Bool) (m : Name) (ks : List AnchorTree) → kids_above m ks ≡ true → kids_above m (filter t ks) ≡ true
kids_filter t m [] h = refl
kids_filter t m (k ∷ ks) h = let both = both_true (is_before m (last_name k.names)) (kids_above m ks) h in elim (t k) as (λ b. kids_above m (cond b (k ∷ filter t ks) (filter t ks)) ≡ true) [ true ↦ rw both.0 (kids_filter t m ks both.1) | false ↦ kids_filter t m ks both.1 ]

pub are_filtered : (p : Path) (t : AnchorTree → Bool) (ks : List AnchorTree) → AreKids p ks → AreKids p (filter t ks)
are_filtered p t [] h = tt
are_filtered p t (k ∷ ks) h = elim (t k) as (λ b. AreKids p (cond b (k ∷ filter t ks) (filter t ks))) [ true ↦ (h.0, kids_filter t (last_name k.names) ks h.1, are_filtered p t ks h.2) | false ↦ are_filtered p t ks h.2 ]

above_behind : (n : Name) (ks : List AnchorTree) → kids_above n (kids_behind n ks) ≡ true
above_behind n [] = refl
above_behind n (k ∷ ks) = (elim (is_before n (last_name k.names)) as (λ b. is_before n (last_name k.names) ≡ b → kids_above n (cond b (k ∷ kids_behind n ks) (kids_behind n ks)) ≡ true) [ true ↦ λ h. rw h (above_behind n ks) | false ↦ λ h. above_behind n ks ]) refl

above_append : (m : Name) (ks js : List AnchorTree) → kids_above m ks ≡ true → kids_above m js ≡ true → kids_above m (ks ++ js) ≡ true
above_append m [] js h k = k
above_append m (x ∷ ks) js h k = let both = both_true (is_before m (last_name x.names)) (kids_above m ks) h in rw both.0 (above_append m ks js both.1 k)

around : (p : Path) (n : Name) (ks js : List AnchorTree) → AreKids p ks → AreKids p js → ((m : Name) → is_before m n ≡ true → kids_above m js ≡ true) → AreKids p (kids_before n ks ++ js)
around p n [] js h k a = k
around p n (x ∷ ks) js h k a =
    (elim (is_before (last_name x.names) n) as (λ b. is_before (last_name x.names) n ≡ b → AreKids p (cond b (x ∷ kids_before n ks) (kids_before n ks) ++ js)) [
      | true ↦ λ e. (h.0, above_append (last_name x.names) (kids_before n ks) js (kids_filter (λ (j : AnchorTree). is_before (last_name j.names) n) (last_name x.names) ks h.1) (a (last_name x.names) e), around p n ks js h.2 k a)
      | false ↦ λ e. around p n ks js h.2 k a
    ]) refl

pub kids_again : (p : Path) (n : Name) (kid : AnchorTree) (ks : List AnchorTree) → AreKids p ks → kid.names ≡ p ++ n ∷ [] → begins kid.names kid.anchors ≡ true → AreKids p (kids_before n ks ++ (some_kid kid ++ kids_behind n ks))
kids_again p n kid ks h e b =
    let l : last_name kid.names ≡ n = ap last_name e ∙ last_of p n in
    let behind = kids_behind n ks in
    let rest : AreKids p behind = are_filtered p (λ (j : AnchorTree). is_before n (last_name j.names)) ks h in
    (elim (is_empty kid.anchors) as (λ f. is_empty kid.anchors ≡ f → AreKids p (kids_before n ks ++ ((if f then [] else kid ∷ []) ++ behind))) [
      | true ↦ λ f. around p n ks behind h rest (λ m k. kids_above_chain m n behind k (above_behind n ks))
      | false ↦ λ f. around p n ks (kid ∷ behind) h ((e ∙ ap (λ (x : Name). p ++ x ∷ []) (sym l), f, b), subst (λ (x : Name). kids_above x behind ≡ true) (sym l) (above_behind n ks), rest) (λ m k. rw (subst (λ (x : Name). is_before m x ≡ true) (sym l) k) (kids_above_chain m n behind k (above_behind n ks)))
    ]) refl

pub own_placed : (p q : Path) (rules rules' : List AnyRule) (tables tables' : List (Name × TableValue)) (ks js : List AnchorTree) → AreKids p ks → q ≡ p → js ≡ ks →
    ◌≡◌ {A = AnchorTree} (record { names = q; anchors = own_entry q rules' tables' ++ below js }) (placed_in (record { names = p; anchors = own_entry p rules tables ++ below ks }) [] rules' tables')
own_placed p q rules rules' tables tables' ks js h e f =
    let Tree : Path → List AnchorValue → AnchorTree = λ x y. record { names = x; anchors = y } in
    ap (λ x. Tree x (own_entry x rules' tables' ++ below js)) e
    ∙ ap (λ x. Tree p (own_entry p rules' tables' ++ below x)) f
    ∙ ap (Tree p) (placed_here p rules rules' tables tables' ks h)
    ∙ ap (λ x. Tree p (with_anchor (record { path = x; rules = rules'; tables = tables' }) (own_entry p rules tables ++ below ks))) (sym (append_nil' p))
  where
    append_nil' : (x : Path) → x ++ [] ≡ x
    append_nil' x = append_nil x

pub kid_placed : (p q : Path) (n : Name) (rules : List AnyRule) (tables : List (Name × TableValue)) (ks js : List AnchorTree) (kid : AnchorTree) → AreKids p ks → q ≡ p → js ≡ kids_before n ks ++ (some_kid kid ++ kids_behind n ks) →
    TakesPlace (record { names = p; anchors = own_entry p rules tables ++ below ks }) n kid (record { names = q; anchors = own_entry q rules tables ++ below js })
kid_placed p q n rules tables ks js kid h e f a r path own =
    let Tree : Path → List AnchorValue → AnchorTree = λ x y. record { names = x; anchors = y } in
    let found : find (is_named n) ks ≡ child_at (Tree p (own_entry p rules tables ++ below ks)) n = child_is p n rules tables ks h in
    ap (λ x. Tree x (own_entry x rules tables ++ below js)) e
    ∙ ap (λ x. Tree p (own_entry p rules tables ++ below x)) f
    ∙ ap (Tree p) (placed_below p n r a rules tables ks kid h path (own ∙ ap (λ o. with_anchor a (anchors_of o)) (sym found)))

-- ---- what is below a path stays below it

begins_filter : (p : Path) (t : AnchorValue → Bool) (es : List AnchorValue) → begins p es ≡ true → begins p (filter t es) ≡ true
begins_filter p t [] h = refl
begins_filter p t (a ∷ es) h = let both = both_true (starts_with bytes_eq a.path p) (begins p es) h in elim (t a) as (λ b. begins p (cond b (a ∷ filter t es) (filter t es)) ≡ true) [ true ↦ rw both.0 (begins_filter p t es both.1) | false ↦ begins_filter p t es both.1 ]

begins_append : (p : Path) (es fs : List AnchorValue) → begins p es ≡ true → begins p fs ≡ true → begins p (es ++ fs) ≡ true
begins_append p [] fs h k = k
begins_append p (a ∷ es) fs h k = let both = both_true (starts_with bytes_eq a.path p) (begins p es) h in rw both.0 (begins_append p es fs both.1 k)

begins_one : (p : Path) (a : AnchorValue) → starts_with bytes_eq a.path p ≡ true → begins p (unless_nothing a) ≡ true
begins_one p a h = elim (is_empty a.rules && is_empty a.tables) as (λ b. begins p (if b then [] else a ∷ []) ≡ true) [ true ↦ refl | false ↦ rw h refl ]

begins_placed : (p : Path) (a : AnchorValue) (es : List AnchorValue) → starts_with bytes_eq a.path p ≡ true → begins p es ≡ true → begins p (with_anchor a es) ≡ true
unfolding with_anchor
begins_placed p a es h k =
    begins_append p (anchors_before a.path es ++ unless_nothing a) (anchors_behind a.path es)
    (begins_append p (anchors_before a.path es) (unless_nothing a) (begins_filter p (λ (x : AnchorValue). is_path_before x.path a.path) es k) (begins_one p a h))
    (begins_filter p (λ (x : AnchorValue). is_path_before a.path x.path) es k)

begins_part : (p : Path) (es : List AnchorValue) → begins p (part_below p es) ≡ true
begins_part p [] = refl
begins_part p (a ∷ es) = (elim (starts_with bytes_eq a.path p) as (λ b. starts_with bytes_eq a.path p ≡ b → begins p (cond b (a ∷ part_below p es) (part_below p es)) ≡ true) [ true ↦ λ h. rw h (begins_part p es) | false ↦ λ h. begins_part p es ]) refl

anchors_some : (p : Path) (fs : List AnchorValue) → anchors_of (some_part p fs) ≡ fs
anchors_some p [] = refl
anchors_some p (f ∷ fs) = refl

pub placed_begins : (t kid : AnchorTree) (n : Name) (r : Path) (rules : List AnyRule) (tables : List (Name × TableValue)) → kid ≡ placed_in (record { names = t.names ++ n ∷ []; anchors = anchors_of (child_at t n) }) r rules tables → list_all (λ (a : AnchorValue). starts_with bytes_eq a.path kid.names) kid.anchors ≡ true
placed_begins t kid n r rules tables e =
    let p = t.names ++ n ∷ [] in
    let own : begins p (anchors_of (child_at t n)) ≡ true = subst (λ x. begins p x ≡ true) (sym (anchors_some p (part_below p t.anchors))) (begins_part p t.anchors) in
    subst (λ (k : AnchorTree). begins k.names k.anchors ≡ true) (sym e) (begins_placed p (record { path = p ++ r; rules = rules; tables = tables }) (anchors_of (child_at t n)) (begins_more p r) own)

pub takes_place : (t kid new : AnchorTree) (n : Name) (r rest : Path) (rules : List AnyRule) (tables : List (Name × TableValue)) → TakesPlace t n kid new → rest ≡ n ∷ r → kid ≡ placed_in (record { names = t.names ++ n ∷ []; anchors = anchors_of (child_at t n) }) r rules tables → new ≡ placed_in t rest rules tables
takes_place t kid new n r rest rules tables h e k =
    let a : AnchorValue = record { path = t.names ++ rest; rules = rules; tables = tables } in
    let path : (t.names ++ n ∷ []) ++ r ≡ t.names ++ rest = append_assoc t.names (n ∷ []) r ∙ ap (λ x. t.names ++ x) (sym e) in
    let own : kid.anchors ≡ with_anchor a (anchors_of (child_at t n)) = ap (λ (x : AnchorTree). x.anchors) k ∙ ap (λ x. with_anchor (record { path = x; rules = rules; tables = tables }) (anchors_of (child_at t n))) path in
    h a r (ap (λ x. t.names ++ x) e) own

pub cons_is : {X : Type 0} (xs : List X) (x : X) → 1 ≤ length xs → x ≡ get_or xs 0 x → xs ≡ x ∷ take (length xs - 1) (drop 1 xs)
cons_is xs x h k = sym (ap (λ r. x ∷ r) (take_all (length xs - 1) (drop 1 xs) (omega (arith, length-drop 1 xs))) ∙ ap (λ z. z ∷ drop 1 xs) k ∙ sym (drop-cons xs 0 x (omega (arith, h))))

pub main_placed : (t new : AnchorTree) (p : Path) (rules rules' : List AnyRule) (tables tables' : List (Name × TableValue)) → t.names ≡ [] → rules' ≡ rules → tables' ≡ tables → new ≡ placed_in t p rules' tables' → (new.names ≡ []) × (new.anchors ≡ with_anchor (record { path = p; rules = rules; tables = tables }) t.anchors)
main_placed t new p rules rules' tables tables' h e f k = (
  ap (λ (x : AnchorTree). x.names) k ∙ h,
  ap (λ (x : AnchorTree). x.anchors) k ∙ ap (λ q. with_anchor (record { path = q ++ p; rules = rules'; tables = tables' }) t.anchors) h ∙ ap (λ r. with_anchor (record { path = p; rules = r; tables = tables' }) t.anchors) e ∙ ap (λ r. with_anchor (record { path = p; rules = rules; tables = r }) t.anchors) f,
)
