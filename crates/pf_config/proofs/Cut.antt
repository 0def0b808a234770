-- Parts of the tree that go.
use Rattle.std.proofs.Common.{◌≡◌, ℕ, ◌+◌, ◌-◌, ◌<◌, Bool, true, false, ◌&&◌, ◌||◌, cond, List, [], ◌∷◌, ◌++◌, Option, Some, None, length, length-append, refl, sym, subst, ap, ◌∙◌, append_assoc, arith, inl, inr, slice_get, drop, drop-cons, add-one, suc, get_or}
use Rattle.std.specs.Prelude.{if◌then◌else◌, filter, not, nat_lt}
use Rattle.std.specs.List.{list_any, starts_with}
use Rattle.std.specs.Str.{bytes_eq}
use Rattle.std.proofs.lemmas.Bool.{cases_lt}
use Rattle.std.proofs.lemmas.Bool.Decides.{nat_tests}
use Rattle.std.proofs.lemmas.List.Elements.{filter-append}
use Rattle.pf_rules.specs.Names.{Name, is_before}
use Rattle.pf_rules.specs.Items.{AnyRule}
use Rattle.pf_tables.specs.Tables.{TableValue}
use Rattle.pf_config.specs.Map.{AnchorValue, Path, name_after}
use Rattle.pf_config.specs.Changes.{is_empty, is_nothing, unless_nothing, is_some_unnamed, without_unnamed, refers, refer, is_used, used_alone, used_tables, tidied_of}
use Rattle.pf_config.specs.Trees.{AnchorTree, below, own_entry, last_name, IsKid, AreKids, and_then}
use Rattle.pf_config.specs.inner.Trees.{some_kid, room_after, own_count, any_unnamed, is_idle, sheds, any_sheds}
use Rattle.pf_config.specs.inner.Trees.{are_apart}
use Rattle.pf_config.specs.inner.Referring.{is_fleeting, may_shed, any_may_shed}
use Rattle.pf_config.proofs.Treed.{both_true, bytes_same, same_bytes, begins, begins_more, kid_begins, kids_above, append_nil}
use Rattle.pf_config.proofs.Entries.{below_append, below_some}
use Rattle.pf_config.proofs.Descents.{begins_chain}

-- ---- room

abbrev unless : Bool → AnchorValue → List AnchorValue
unless b a = if b then [] else a ∷ []

pub room_chain : (room m n : ℕ) → and_then (room_after room m) (λ left. room_after left n) ≡ room_after room (m + n)
room_chain room m n = elim (cases_lt room m) [
  | inl l ↦ (let a : nat_lt room m ≡ true = grind (arith, nat_tests) in let b : nat_lt room (m + n) ≡ true = grind (arith, nat_tests) in rw (a, b) refl)
  | inr k ↦ elim (cases_lt room (m + n)) [
    | inl l ↦ (let a : nat_lt room m ≡ false = grind (arith, nat_tests) in let b : nat_lt room (m + n) ≡ true = grind (arith, nat_tests) in let c : nat_lt (room - m) n ≡ true = grind (arith, nat_tests) in rw (a, b, c) refl)
    | inr j ↦ (let a : nat_lt room m ≡ false = grind (arith, nat_tests) in let b : nat_lt room (m + n) ≡ false = grind (arith, nat_tests) in let c : nat_lt (room - m) n ≡ false = grind (arith, nat_tests) in let d : room - m - n ≡ room - (m + n) = omega arith in rw (a, b, c, d) refl)
  ]
]

pub own_counted : (p : Path) (rules : List AnyRule) (tables : List (Name × TableValue)) (ks : List AnchorTree) → length (own_entry p rules tables ++ below ks) ≡ own_count rules tables + length (below ks)
own_counted p rules tables ks = length-append (own_entry p rules tables) (below ks) ∙ ap (λ n. n + length (below ks)) (elim (is_empty rules && is_empty tables) as (λ b. length (unless b (record { path = p; rules = rules; tables = tables })) ≡ (if b then 0 else 1)) [ true ↦ refl | false ↦ refl ])

-- ---- one kid of several goes, or another one takes its place

above_parts : (m : Name) (xs ys : List AnchorTree) → kids_above m (xs ++ ys) ≡ true → (kids_above m xs ≡ true) × (kids_above m ys ≡ true)
above_parts m [] ys h = (refl, h)
above_parts m (x ∷ xs) ys h =
    let both = both_true (is_before m (last_name x.names)) (kids_above m (xs ++ ys)) h in
    let rest = above_parts m xs ys both.1 in
    (rw both.0 rest.0, rest.1)

above_join : (m : Name) (xs ys : List AnchorTree) → kids_above m xs ≡ true → kids_above m ys ≡ true → kids_above m (xs ++ ys) ≡ true
above_join m [] ys h k = k
above_join m (x ∷ xs) ys h k = let both = both_true (is_before m (last_name x.names)) (kids_above m xs) h in rw both.0 (above_join m xs ys both.1 k)

pub dropped : (p : Path) (xs : List AnchorTree) (k : AnchorTree) (ys : List AnchorTree) → AreKids p (xs ++ k ∷ ys) → AreKids p (xs ++ ys)
dropped p [] k ys h = h.2
dropped p (x ∷ xs) k ys h =
    let parts = above_parts (last_name x.names) xs (k ∷ ys) h.1 in
    let rest = both_true (is_before (last_name x.names) (last_name k.names)) (kids_above (last_name x.names) ys) parts.1 in
    (h.0, above_join (last_name x.names) xs ys parts.0 rest.1, dropped p xs k ys h.2)

swapped : (p : Path) (xs : List AnchorTree) (k j : AnchorTree) (ys : List AnchorTree) → AreKids p (xs ++ k ∷ ys) → j.names ≡ k.names → is_empty j.anchors ≡ false → begins j.names j.anchors ≡ true → AreKids p (xs ++ j ∷ ys)
swapped p [] k j ys h e f b = ((e ∙ h.0.0 ∙ ap (λ (q : Path). p ++ last_name q ∷ []) (sym e), f, b), subst (λ (q : Path). kids_above (last_name q) ys ≡ true) (sym e) h.1, h.2)
swapped p (x ∷ xs) k j ys h e f b =
    let parts = above_parts (last_name x.names) xs (k ∷ ys) h.1 in
    let rest = both_true (is_before (last_name x.names) (last_name k.names)) (kids_above (last_name x.names) ys) parts.1 in
    let own : is_before (last_name x.names) (last_name j.names) ≡ true = subst (λ (q : Path). is_before (last_name x.names) (last_name q) ≡ true) (sym e) rest.0 in
    (h.0, above_join (last_name x.names) xs (j ∷ ys) parts.0 (rw own rest.1), swapped p xs k j ys h.2 e f b)

pub replaced : (p : Path) (xs : List AnchorTree) (k j : AnchorTree) (ys : List AnchorTree) → AreKids p (xs ++ k ∷ ys) → j.names ≡ k.names → begins j.names j.anchors ≡ true → AreKids p ((xs ++ some_kid j) ++ ys)
replaced p xs k j ys h e b =
    (elim (is_empty j.anchors) as (λ f. is_empty j.anchors ≡ f → AreKids p ((xs ++ (if f then [] else j ∷ [])) ++ ys)) [
      | true ↦ λ f. subst (λ (r : List AnchorTree). AreKids p (r ++ ys)) (sym (append_nil xs)) (dropped p xs k ys h)
      | false ↦ λ f. subst (AreKids p) (sym (append_assoc xs (j ∷ []) ys)) (swapped p xs k j ys h e f b)
    ]) refl

-- ---- unnamed blocks

after_front : (p k q : Path) (n : Name) → starts_with bytes_eq q k ≡ true → name_after p k ≡ Some n → name_after p q ≡ Some n
after_front [] [] q n h e = cc
after_front [] (x ∷ k) [] n h e = cc
after_front [] (x ∷ k) (y ∷ q) n h e = ap Some (sym (bytes_same x y (both_true (bytes_eq x y) (starts_with bytes_eq q k) h).0)) ∙ e
after_front (l ∷ p) [] q n h e = cc
after_front (l ∷ p) (x ∷ k) [] n h e = cc
after_front (l ∷ p) (x ∷ k) (y ∷ q) n h e =
    let both = both_true (bytes_eq x y) (starts_with bytes_eq q k) h in
    let s : x ≡ y = bytes_same x y both.0 in
    (elim (bytes_eq l x) as (λ b. bytes_eq l x ≡ b → (if b && starts_with bytes_eq k p then slice_get (x ∷ k) (length (l ∷ p)) else None) ≡ Some n → name_after (l ∷ p) (y ∷ q) ≡ Some n) [
      | true ↦ λ t f. (let u : bytes_eq l y ≡ true = subst (λ (z : Name). bytes_eq l z ≡ true) s t in rw u (after_front p k q n both.1 f))
      | false ↦ λ t f. cc
    ]) refl e

unnamed_below : (p k : Path) → is_some_unnamed (name_after p k) ≡ true → (q : Path) → starts_with bytes_eq q k ≡ true → is_some_unnamed (name_after p q) ≡ true
unnamed_below p k h q s = go (name_after p k) refl h
  where
    go : (o : Option Name) → name_after p k ≡ o → is_some_unnamed o ≡ true → is_some_unnamed (name_after p q) ≡ true
    go None e f = cc
    go (Some n) e f = ap is_some_unnamed (after_front p k q n s e) ∙ f

pub all_unnamed : (p k : Path) (es : List AnchorValue) → is_some_unnamed (name_after p k) ≡ true → begins k es ≡ true → without_unnamed p es ≡ []
unfolding without_unnamed
all_unnamed p k [] h b = refl
all_unnamed p k (a ∷ es) h b =
    let both = both_true (starts_with bytes_eq a.path k) (begins k es) b in
    rw (unnamed_below p k h a.path both.0) (all_unnamed p k es h both.1)

pub unnamed_append : (p : Path) (es fs : List AnchorValue) → without_unnamed p (es ++ fs) ≡ without_unnamed p es ++ without_unnamed p fs
unfolding without_unnamed
unnamed_append p es fs = filter-append (λ (a : AnchorValue). not (is_some_unnamed (name_after p a.path))) es fs

own_named : (q p : Path) (rules : List AnyRule) (tables : List (Name × TableValue)) → is_some_unnamed (name_after q p) ≡ false → without_unnamed q (own_entry p rules tables) ≡ own_entry p rules tables
unfolding without_unnamed
own_named q p rules tables h = elim (is_empty rules && is_empty tables) as (λ b. filter (λ (a : AnchorValue). not (is_some_unnamed (name_after q a.path))) (if b then [] else record { path = p; rules = rules; tables = tables } ∷ []) ≡ (if b then [] else record { path = p; rules = rules; tables = tables } ∷ [])) [ true ↦ refl | false ↦ rw h refl ]

begins_filter : (p : Path) (t : AnchorValue → Bool) (es : List AnchorValue) → begins p es ≡ true → begins p (filter t es) ≡ true
begins_filter p t [] h = refl
begins_filter p t (a ∷ es) h = let both = both_true (starts_with bytes_eq a.path p) (begins p es) h in elim (t a) as (λ b. begins p (cond b (a ∷ filter t es) (filter t es)) ≡ true) [ true ↦ rw both.0 (begins_filter p t es both.1) | false ↦ begins_filter p t es both.1 ]

begins_named : (p q : Path) (es : List AnchorValue) → begins p es ≡ true → begins p (without_unnamed q es) ≡ true
unfolding without_unnamed
begins_named p q es h = begins_filter p (λ (a : AnchorValue). not (is_some_unnamed (name_after q a.path))) es h

own_begins : (p : Path) (rules : List AnyRule) (tables : List (Name × TableValue)) → begins p (own_entry p rules tables) ≡ true
own_begins p rules tables = elim (is_empty rules && is_empty tables) as (λ b. begins p (unless b (record { path = p; rules = rules; tables = tables })) ≡ true) [ true ↦ refl | false ↦ rw (itself p) refl ]
  where
    itself : (q : Path) → starts_with bytes_eq q q ≡ true
    itself q = subst (λ r. starts_with bytes_eq r q ≡ true) (append_nil q) (begins_more q [])

begins_both : (p : Path) (es fs : List AnchorValue) → begins p es ≡ true → begins p fs ≡ true → begins p (es ++ fs) ≡ true
begins_both p [] fs h k = k
begins_both p (a ∷ es) fs h k = let both = both_true (starts_with bytes_eq a.path p) (begins p es) h in rw both.0 (begins_both p es fs both.1 k)

shorter_front : (p : Path) (n : Name) (es : List AnchorValue) → begins (p ++ n ∷ []) es ≡ true → begins p es ≡ true
shorter_front p n [] h = refl
shorter_front p n (a ∷ es) h = let both = both_true (starts_with bytes_eq a.path (p ++ n ∷ [])) (begins (p ++ n ∷ []) es) h in rw (begins_chain a.path p (n ∷ []) both.0) (shorter_front p n es both.1)

below_begins : (p : Path) (ks : List AnchorTree) → AreKids p ks → begins p (below ks) ≡ true
below_begins p [] h = refl
below_begins p (k ∷ ks) h = begins_both p k.anchors (below ks) (shorter_front p (last_name k.names) k.anchors (kid_begins p k h.0)) (below_begins p ks h.2)

-- all that an anchor holds is at its path and below
pub all_begin : (p : Path) (rules : List AnyRule) (tables : List (Name × TableValue)) (ks : List AnchorTree) → AreKids p ks → begins p (own_entry p rules tables ++ below ks) ≡ true
all_begin p rules tables ks h = begins_both p (own_entry p rules tables) (below ks) (own_begins p rules tables) (below_begins p ks h)

-- ---- a loop over the kids

pub record Walked (p : Path) (f : List AnchorValue → List AnchorValue) (done left all : List AnchorTree) : Type 0 where
  pub map : below done ++ f (below left) ≡ f (below all)
  pub kids : AreKids p (done ++ left)

kid_of : (p : Path) (xs : List AnchorTree) (k : AnchorTree) (ys : List AnchorTree) → AreKids p (xs ++ k ∷ ys) → IsKid p k
kid_of p [] k ys h = h.0
kid_of p (x ∷ xs) k ys h = kid_of p xs k ys h.2

-- it joins lists, and what is below a path stays there
pub record Cuts (f : List AnchorValue → List AnchorValue) : Type 0 where
  pub nothing : f [] ≡ []
  pub joins : (es fs : List AnchorValue) → f (es ++ fs) ≡ f es ++ f fs
  pub stays : (p : Path) (es : List AnchorValue) → begins p es ≡ true → begins p (f es) ≡ true

pub walked_some : (p : Path) (f : List AnchorValue → List AnchorValue) (cuts : Cuts f) (done : List AnchorTree) (k j : AnchorTree) (left ys all : List AnchorTree) → Walked p f done left all → left ≡ k ∷ ys → j ≡ record { names = k.names; anchors = f k.anchors } → Walked p f (done ++ some_kid j) ys all
walked_some p f cuts done k j left ys all g l e =
    let h : Walked p f done (k ∷ ys) all = subst (λ (r : List AnchorTree). Walked p f done r all) l g in
    let own = kid_of p done k ys h.kids in
    let names : j.names ≡ k.names = ap (λ (t : AnchorTree). t.names) e in
    let held : j.anchors ≡ f k.anchors = ap (λ (t : AnchorTree). t.anchors) e in
    let b : begins j.names j.anchors ≡ true = subst (λ (t : AnchorTree). begins t.names t.anchors ≡ true) (sym e) (cuts.stays k.names k.anchors own.2) in
    record {
      map =
          ap (λ r. r ++ f (below ys)) (below_append done (some_kid j) ∙ ap (λ r. below done ++ r) (below_some j ∙ held))
          ∙ append_assoc (below done) (f k.anchors) (f (below ys))
          ∙ ap (λ r. below done ++ r) (sym (cuts.joins k.anchors (below ys)))
          ∙ h.map;
      kids = replaced p done k j ys h.kids names b;
    }

pub walked_kids : (p : Path) (f : List AnchorValue → List AnchorValue) (done left all : List AnchorTree) → Walked p f done left all → length left ≡ 0 → AreKids p done
walked_kids p f done (x ∷ left) all h z = absurd (omega (arith, z))
walked_kids p f done [] all h z = subst (AreKids p) (append_nil done) h.kids

pub walked_map : (p : Path) (f : List AnchorValue → List AnchorValue) (cuts : Cuts f) (done left all : List AnchorTree) → Walked p f done left all → length left ≡ 0 → below done ≡ f (below all)
walked_map p f cuts done (x ∷ left) all h z = absurd (omega (arith, z))
walked_map p f cuts done [] all h z = sym (append_nil (below done)) ∙ ap (λ r. below done ++ r) (sym cuts.nothing) ∙ h.map

pub walk_begins : (p : Path) (f : List AnchorValue → List AnchorValue) (n : Path) (all : List AnchorTree) → n ≡ p → AreKids p all → Walked n f [] all all
walk_begins p f n all e h = record { map = refl; kids = subst (λ q. AreKids q all) (sym e) h }

nothing_left : (q : Path) → without_unnamed q [] ≡ []
unfolding without_unnamed
nothing_left q = refl

pub unnamed_cuts : (q : Path) → Cuts (without_unnamed q)
unnamed_cuts q = record { nothing = nothing_left q; joins = unnamed_append q; stays = λ p es h. begins_named p q es h }

pub unnamed_all : (p q n : Path) (rules : List AnyRule) (tables : List (Name × TableValue)) (done left all : List AnchorTree) → is_some_unnamed (name_after q p) ≡ false → n ≡ p → Walked n (without_unnamed q) done left all → length left ≡ 0 → own_entry n rules tables ++ below done ≡ without_unnamed q (own_entry p rules tables ++ below all)
unnamed_all p q n rules tables done left all u e h z =
    ap (λ x. own_entry x rules tables ++ below done) e ∙ ap (λ r. own_entry p rules tables ++ r) (walked_map n (without_unnamed q) (unnamed_cuts q) done left all h z) ∙ ap (λ r. r ++ without_unnamed q (below all)) (sym (own_named q p rules tables u)) ∙ sym (unnamed_append q (own_entry p rules tables) (below all))

pub next_kid : {X : Type 0} (ks : List X) (i : ℕ) (k : X) → i < length ks → k ≡ get_or ks i k → drop i ks ≡ k ∷ drop (i + 1) ks
next_kid {X} ks i k n f = drop-cons ks i k n ∙ ap (λ (x : X). x ∷ drop (suc i) ks) (sym f) ∙ ap (λ j. k ∷ drop j ks) (sym (add-one i))

-- what is left once nothing goes
pub or_false : (a b : Bool) → (a || b) ≡ false → (a ≡ false) × (b ≡ false)
or_false true b h = cc
or_false false b h = (refl, h)

or_nothing : (b : Bool) → (b || false) ≡ b
or_nothing true = refl
or_nothing false = refl

pub none_unnamed : (p : Path) (es : List AnchorValue) → any_unnamed p es ≡ false → without_unnamed p es ≡ es
unfolding without_unnamed
none_unnamed p [] h = refl
none_unnamed p (a ∷ es) h = let both = or_false (is_some_unnamed (name_after p a.path)) (any_unnamed p es) h in rw both.0 (ap (λ (r : List AnchorValue). a ∷ r) (none_unnamed p es both.1))

pub stays_named : (p : Path) (k : AnchorTree) → any_unnamed p k.anchors ≡ false → k ≡ record { names = k.names; anchors = without_unnamed p k.anchors }
stays_named p k h = ap {B = AnchorTree} (λ (r : List AnchorValue). record { names = k.names; anchors = r }) (sym (none_unnamed p k.anchors h))

-- ---- tables that no rule refers to

any_append : (t : AnchorValue → Bool) (es fs : List AnchorValue) → list_any t (es ++ fs) ≡ (list_any t es || list_any t fs)
any_append t [] fs = refl
any_append t (a ∷ es) fs = elim (t a) as (λ b. (b || list_any t (es ++ fs)) ≡ ((b || list_any t es) || list_any t fs)) [ true ↦ refl | false ↦ any_append t es fs ]

any_own : (n : Name) (p : Path) (rules : List AnyRule) (tables : List (Name × TableValue)) → list_any (refer n) (own_entry p rules tables) ≡ list_any (refers n) rules
any_own n p [] [] = refl
any_own n p [] (t ∷ tables) = refl
any_own n p (r ∷ rules) tables = or_nothing (list_any (refers n) (r ∷ rules))

pub refers_own : (n : Name) (p : Path) (rules : List AnyRule) (tables : List (Name × TableValue)) (ks : List AnchorTree) → list_any (refer n) (own_entry p rules tables ++ below ks) ≡ (list_any (refers n) rules || list_any (refer n) (below ks))
refers_own n p rules tables ks = any_append (refer n) (own_entry p rules tables) (below ks) ∙ ap (λ b. b || list_any (refer n) (below ks)) (any_own n p rules tables)

pub refers_below : (n : Name) (k : AnchorTree) (ks : List AnchorTree) → list_any (refer n) (below (k ∷ ks)) ≡ (list_any (refer n) k.anchors || list_any (refer n) (below ks))
refers_below n k ks = any_append (refer n) k.anchors (below ks)

sheds_alone : (all : List AnchorValue) (p : Path) (rules : List AnyRule) (tables : List (Name × TableValue)) → any_sheds all (own_entry p rules tables) ≡ list_any (is_idle all (record { path = p; rules = rules; tables = [] })) tables
sheds_alone all p [] [] = refl
sheds_alone all p [] (t ∷ tables) = or_nothing (list_any (is_idle all (record { path = p; rules = []; tables = [] })) (t ∷ tables))
sheds_alone all p (r ∷ rules) tables = or_nothing (list_any (is_idle all (record { path = p; rules = r ∷ rules; tables = [] })) tables)

pub sheds_own : (all : List AnchorValue) (p : Path) (rules : List AnyRule) (tables : List (Name × TableValue)) (ks : List AnchorTree) → any_sheds all (own_entry p rules tables ++ below ks) ≡ (list_any (is_idle all (record { path = p; rules = rules; tables = [] })) tables || any_sheds all (below ks))
sheds_own all p rules tables ks = any_append (sheds all) (own_entry p rules tables) (below ks) ∙ ap (λ b. b || any_sheds all (below ks)) (sheds_alone all p rules tables)

may_shed_alone : (p : Path) (rules : List AnyRule) (tables : List (Name × TableValue)) → any_may_shed (own_entry p rules tables) ≡ list_any is_fleeting tables
may_shed_alone p [] [] = refl
may_shed_alone p [] (t ∷ tables) = or_nothing (list_any is_fleeting (t ∷ tables))
may_shed_alone p (r ∷ rules) tables = or_nothing (list_any is_fleeting tables)

pub may_shed_own : (p : Path) (rules : List AnyRule) (tables : List (Name × TableValue)) (ks : List AnchorTree) → any_may_shed (own_entry p rules tables ++ below ks) ≡ (list_any is_fleeting tables || any_may_shed (below ks))
may_shed_own p rules tables ks = any_append may_shed (own_entry p rules tables) (below ks) ∙ ap (λ b. b || any_may_shed (below ks)) (may_shed_alone p rules tables)

pub not_false : (b : Bool) → not b ≡ false → b ≡ true
not_false true h = refl
not_false false h = cc

none_idle : (all : List AnchorValue) (a : AnchorValue) (tables : List (Name × TableValue)) → list_any (is_idle all a) tables ≡ false → used_tables all a tables ≡ tables
none_idle all a [] h = refl
none_idle all a (t ∷ tables) h = let both = or_false (is_idle all a t) (list_any (is_idle all a) tables) h in rw (not_false (t.1.persist || is_used all a t.0) both.0) (ap (λ (r : List (Name × TableValue)). t ∷ r) (none_idle all a tables both.1))

pub none_sheds : (all es : List AnchorValue) → any_sheds all es ≡ false → tidied_of all es ≡ es
none_sheds all [] h = refl
none_sheds all (a ∷ es) h =
    let both = or_false (sheds all a) (any_sheds all es) h in
    let own = or_false (is_nothing a) (list_any (is_idle all a) a.tables) both.0 in
    let same : used_alone all a ≡ a = ap {B = AnchorValue} (λ r. record { path = a.path; rules = a.rules; tables = r }) (none_idle all a a.tables own.1) in
    let held : is_nothing (used_alone all a) ≡ false = ap is_nothing same ∙ own.0 in
    rw held (ap (λ (x : AnchorValue). x ∷ tidied_of all es) same ∙ ap (λ (r : List AnchorValue). a ∷ r) (none_sheds all es both.1))

pub stays_tidy : (all : List AnchorValue) (k : AnchorTree) → any_sheds all k.anchors ≡ false → k ≡ record { names = k.names; anchors = tidied_of all k.anchors }
stays_tidy all k h = ap {B = AnchorTree} (λ (r : List AnchorValue). record { names = k.names; anchors = r }) (sym (none_sheds all k.anchors h))

tidied_joins : (all es fs : List AnchorValue) → tidied_of all (es ++ fs) ≡ tidied_of all es ++ tidied_of all fs
tidied_joins all [] fs = refl
tidied_joins all (a ∷ es) fs = elim (is_nothing (used_alone all a)) as (λ b. cond (not b) (used_alone all a ∷ tidied_of all (es ++ fs)) (tidied_of all (es ++ fs)) ≡ cond (not b) (used_alone all a ∷ tidied_of all es) (tidied_of all es) ++ tidied_of all fs) [ true ↦ tidied_joins all es fs | false ↦ ap (λ (r : List AnchorValue). used_alone all a ∷ r) (tidied_joins all es fs) ]

tidied_stays : (all : List AnchorValue) (p : Path) (es : List AnchorValue) → begins p es ≡ true → begins p (tidied_of all es) ≡ true
tidied_stays all p [] h = refl
tidied_stays all p (a ∷ es) h =
    let both = both_true (starts_with bytes_eq a.path p) (begins p es) h in
    elim (is_nothing (used_alone all a)) as (λ b. begins p (cond (not b) (used_alone all a ∷ tidied_of all es) (tidied_of all es)) ≡ true) [ true ↦ tidied_stays all p es both.1 | false ↦ rw both.0 (tidied_stays all p es both.1) ]

pub tidied_cuts : (all : List AnchorValue) → Cuts (tidied_of all)
tidied_cuts all = record { nothing = refl; joins = tidied_joins all; stays = λ p es h. tidied_stays all p es h }

alone : (all : List AnchorValue) (a : AnchorValue) → tidied_of all (a ∷ []) ≡ unless_nothing (used_alone all a)
alone all a = elim (is_nothing (used_alone all a)) as (λ b. cond (not b) (used_alone all a ∷ []) [] ≡ (if b then [] else used_alone all a ∷ [])) [ true ↦ refl | false ↦ refl ]

tidied_own : (all : List AnchorValue) (p : Path) (rules : List AnyRule) (tables : List (Name × TableValue)) → tidied_of all (own_entry p rules tables) ≡ own_entry p rules (used_tables all (record { path = p; rules = rules; tables = [] }) tables)
tidied_own all p [] [] = refl
tidied_own all p [] (t ∷ tables) = alone all (record { path = p; rules = []; tables = t ∷ tables })
tidied_own all p (r ∷ rules) tables = alone all (record { path = p; rules = r ∷ rules; tables = tables })

pub tidied_all : (all : List AnchorValue) (p n : Path) (rules : List AnyRule) (tables used : List (Name × TableValue)) (done left ks : List AnchorTree) → n ≡ p → used ≡ used_tables all (record { path = p; rules = rules; tables = [] }) tables → Walked n (tidied_of all) done left ks → length left ≡ 0 → own_entry n rules used ++ below done ≡ tidied_of all (own_entry p rules tables ++ below ks)
tidied_all all p n rules tables used done left ks e f h z =
    ap (λ x. own_entry x rules used ++ below done) e
    ∙ ap (λ u. own_entry p rules u ++ below done) f
    ∙ ap (λ r. own_entry p rules (used_tables all (record { path = p; rules = rules; tables = [] }) tables) ++ r) (walked_map n (tidied_of all) (tidied_cuts all) done left ks h z)
    ∙ ap (λ r. r ++ tidied_of all (below ks)) (sym (tidied_own all p rules tables))
    ∙ sym (tidied_joins all (own_entry p rules tables) (below ks))

-- ---- the anchors made

pub unnamed_done : (p q n : Path) (rules rules' : List AnyRule) (tables tables' : List (Name × TableValue)) (done left all ks : List AnchorTree) → is_some_unnamed (name_after q p) ≡ false → n ≡ p → rules' ≡ rules → tables' ≡ tables → all ≡ ks → Walked n (without_unnamed q) done left all → length left ≡ 0 →
    ◌≡◌ {A = AnchorTree} (record { names = n; anchors = own_entry n rules' tables' ++ below done }) (record { names = p; anchors = without_unnamed q (own_entry p rules tables ++ below ks) })
unnamed_done p q n rules rules' tables tables' done left all ks u e f g d h z =
    ap {B = AnchorTree} (λ x. record { names = n; anchors = own_entry n x tables' ++ below done }) f
    ∙ ap {B = AnchorTree} (λ x. record { names = n; anchors = own_entry n rules x ++ below done }) g
    ∙ ap {B = AnchorTree} (λ x. record { names = n; anchors = x }) (unnamed_all p q n rules tables done left all u e h z)
    ∙ ap {B = AnchorTree} (λ x. record { names = x; anchors = without_unnamed q (own_entry p rules tables ++ below all) }) e
    ∙ ap {B = AnchorTree} (λ x. record { names = p; anchors = without_unnamed q (own_entry p rules tables ++ below x) }) d

pub unnamed_gone : (p q n : Path) (rules : List AnyRule) (tables : List (Name × TableValue)) (ks : List AnchorTree) → AreKids p ks → is_some_unnamed (name_after q p) ≡ true → n ≡ p →
    ◌≡◌ {A = AnchorTree} (record { names = n; anchors = [] }) (record { names = p; anchors = without_unnamed q (own_entry p rules tables ++ below ks) })
unnamed_gone p q n rules tables ks h u e =
    ap {B = AnchorTree} (λ x. record { names = x; anchors = [] }) e
    ∙ ap {B = AnchorTree} (λ x. record { names = p; anchors = x }) (sym (all_unnamed q p (own_entry p rules tables ++ below ks) u (all_begin p rules tables ks h)))

pub tidied_done : (whole : List AnchorValue) (p n : Path) (rules rules' : List AnyRule) (tables used : List (Name × TableValue)) (done left all ks : List AnchorTree) → n ≡ p → rules' ≡ rules → used ≡ used_tables whole (record { path = p; rules = rules; tables = [] }) tables → all ≡ ks → Walked n (tidied_of whole) done left all → length left ≡ 0 →
    ◌≡◌ {A = AnchorTree} (record { names = n; anchors = own_entry n rules' used ++ below done }) (record { names = p; anchors = tidied_of whole (own_entry p rules tables ++ below ks) })
tidied_done whole p n rules rules' tables used done left all ks e f g d h z =
    ap {B = AnchorTree} (λ x. record { names = n; anchors = own_entry n x used ++ below done }) f
    ∙ ap {B = AnchorTree} (λ x. record { names = n; anchors = x }) (tidied_all whole p n rules tables used done left all e g h z)
    ∙ ap {B = AnchorTree} (λ x. record { names = x; anchors = tidied_of whole (own_entry p rules tables ++ below all) }) e
    ∙ ap {B = AnchorTree} (λ x. record { names = p; anchors = tidied_of whole (own_entry p rules tables ++ below x) }) d

-- ---- anchors off a path

-- what begins with a path that is apart from p doesn't begin with p
apart_paths : (p k q : Path) → starts_with bytes_eq k p ≡ false → starts_with bytes_eq p k ≡ false → starts_with bytes_eq q k ≡ true → starts_with bytes_eq q p ≡ false
apart_paths [] k q g h s = cc
apart_paths (l ∷ p) [] q g h s = cc
apart_paths (l ∷ p) (x ∷ k) [] g h s = cc
apart_paths (l ∷ p) (x ∷ k) (y ∷ q) g h s =
    let both = both_true (bytes_eq x y) (starts_with bytes_eq q k) s in
    let e : x ≡ y = bytes_same x y both.0 in
    (elim (bytes_eq l x) as (λ b. bytes_eq l x ≡ b → (b && starts_with bytes_eq k p) ≡ false → (bytes_eq l y && starts_with bytes_eq q p) ≡ false) [
      | true ↦ λ t f. (let z : l ≡ x = bytes_same l x t in
          let u : bytes_eq x l ≡ true = subst (λ (n : Name). bytes_eq x n ≡ true) (sym z) (same_bytes x) in
          let i : starts_with bytes_eq p k ≡ false = subst (λ (b : Bool). (b && starts_with bytes_eq p k) ≡ false) u h in
          let v : bytes_eq l y ≡ true = subst (λ (n : Name). bytes_eq l n ≡ true) e t in
          rw v (apart_paths p k q f i both.1))
      | false ↦ λ t f. (let v : bytes_eq l y ≡ false = subst (λ (n : Name). bytes_eq l n ≡ false) e t in rw v refl)
    ]) refl g

any_apart : (p k : Path) (es : List AnchorValue) → starts_with bytes_eq k p ≡ false → starts_with bytes_eq p k ≡ false → begins k es ≡ true → any_unnamed p es ≡ false
any_apart p k [] g h b = refl
any_apart p k (a ∷ es) g h b =
    let both = both_true (starts_with bytes_eq a.path k) (begins k es) b in
    rw (apart_paths p k a.path g h both.0) (any_apart p k es g h both.1)

neither : (a b : Bool) → (not a && not b) ≡ true → (a ≡ false) × (b ≡ false)
neither true b h = cc
neither false true h = cc
neither false false h = (refl, refl)

pub apart_unnamed : (p names : Path) (rules : List AnyRule) (tables : List (Name × TableValue)) (ks : List AnchorTree) → AreKids names ks → are_apart names p ≡ true → any_unnamed p (own_entry names rules tables ++ below ks) ≡ false
apart_unnamed p names rules tables ks h a =
    let off = neither (starts_with bytes_eq names p) (starts_with bytes_eq p names) a in
    any_apart p names (own_entry names rules tables ++ below ks) off.0 off.1 (all_begin names rules tables ks h)
