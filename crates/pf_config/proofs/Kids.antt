-- Names in byte order.
use Rattle.std.proofs.Common.{◌≡◌, Bool, true, false, ◌&&◌, cond, List, [], ◌∷◌, ◌++◌, Option, Some, None, Ordering, refl, sym, ap, ◌∙◌, rules}
use Rattle.std.specs.declared.cmp.Ordering.TheVariants.{Less, Equal, Greater}
use Rattle.std.specs.Prelude.{if◌then◌else◌, fold, map}
use Rattle.std.specs.List.{list_all, filter_map}
use Rattle.std.specs.Ordering.{is_lt, ordering_reverse}
use Rattle.std.proofs.lemmas.Cmp.{nat_list_cmp_total, tied_itself}
use Rattle.std.proofs.lemmas.Map.Lookups.{exact_bytes}
use Rattle.pf_rules.specs.Names.{Name, is_before}
use Rattle.std.specs.List.{starts_with}
use Rattle.std.specs.Str.{bytes_eq}
use Rattle.pf_rules.specs.Items.{AnyRule}
use Rattle.pf_tables.specs.Tables.{TableValue}
use Rattle.pf_config.specs.Changes.{is_empty}
use Rattle.pf_config.specs.Trees.{AnchorTree, below, own_entry, last_name, AreKids, part_below, paths_of}
use Rattle.pf_config.proofs.Treed.{begins, kid_begins, bytes_same, same_bytes}
use Rattle.pf_config.specs.Map.{AnchorValue, Path, name_after, names_after, put_name, followed_by}

is_less : (o : Ordering) → is_lt o ≡ true → o ≡ Less
is_less Less h = refl
is_less Equal h = cc
is_less Greater h = cc

neither : (o : Ordering) → is_lt o ≡ false → is_lt (ordering_reverse o) ≡ false → o ≡ Equal
neither Less h k = cc
neither Equal h k = refl
neither Greater h k = cc

never : (x : Name) → is_before x x ≡ false
never x = ap is_lt (tied_itself nat_list_cmp_total x)

chain : (x y z : Name) → is_before x y ≡ true → is_before y z ≡ true → is_before x z ≡ true
chain x y z h k = ap is_lt (nat_list_cmp_total.trans x y z (is_less _ h) (is_less _ k))

same : (x y : Name) → is_before x y ≡ false → is_before y x ≡ false → x ≡ y
same x y h k = exact_bytes x y (neither _ h (ap is_lt (sym (nat_list_cmp_total.antisymm y x)) ∙ k))

back : (x y : Name) → is_before x y ≡ true → is_before y x ≡ false
back x y h = elim (is_before y x) as (λ b. is_before y x ≡ b → b ≡ false) [ true ↦ λ k. sym (chain x y x h k) ∙ never x | false ↦ λ k. refl ] refl

both_true : (a b : Bool) → (a && b) ≡ true → (a ≡ true) × (b ≡ true)
both_true true true h = (refl, refl)
both_true true false h = cc
both_true false b h = cc

-- ---- the kids of an anchor are its paths' next names

pub after_is : (p : Path) (m : Name) (q : Path) → starts_with bytes_eq q (p ++ m ∷ []) ≡ true → name_after p q ≡ Some m
after_is [] m [] h = cc
after_is [] m (x ∷ q) h = ap Some (sym (bytes_same m x (both_true (bytes_eq m x) true h).0))
after_is (l ∷ p) m [] h = cc
after_is (l ∷ p) m (x ∷ q) h = let both = both_true (bytes_eq l x) (starts_with bytes_eq q (p ++ m ∷ [])) h in rw both.0 (after_is p m q both.1)

pub after_own : (p : Path) → name_after p p ≡ None
after_own [] = refl
after_own (l ∷ p) = rw (same_bytes l) (after_own p)

copies : Name → List AnchorValue → List Name
copies m [] = []
copies m (a ∷ es) = m ∷ copies m es

names_copies : (p : Path) (m : Name) (es fs : List AnchorValue) → begins (p ++ m ∷ []) es ≡ true → names_after p (es ++ fs) ≡ copies m es ++ names_after p fs
unfolding copies
names_copies p m [] fs h = refl
names_copies p m (a ∷ es) fs h =
    let both = both_true (starts_with bytes_eq a.path (p ++ m ∷ [])) (begins (p ++ m ∷ []) es) h in
    rw (after_is p m a.path both.0) (ap (λ (r : List Name). m ∷ r) (names_copies p m es fs both.1))

names_own : (p : Path) (rules : List AnyRule) (tables : List (Name × TableValue)) (fs : List AnchorValue) → names_after p (own_entry p rules tables ++ fs) ≡ names_after p fs
names_own p rules tables fs = elim (is_empty rules && is_empty tables) as (λ b. names_after p ((if b then [] else record { path = p; rules = rules; tables = tables } ∷ []) ++ fs) ≡ names_after p fs) [ true ↦ refl | false ↦ rw (after_own p) refl ]

abbrev all_before : List Name → Name → Bool
all_before acc m = list_all (λ x. is_before x m) acc

put_last : (acc : List Name) (m : Name) → all_before acc m ≡ true → put_name acc m ≡ acc ++ m ∷ []
put_last [] m h = refl
put_last (x ∷ acc) m h = let both = both_true (is_before x m) (all_before acc m) h in rw (back x m both.0, both.0) (ap (λ (r : List Name). x ∷ r) (put_last acc m both.1))

put_again : (acc : List Name) (m : Name) → all_before acc m ≡ true → put_name (acc ++ m ∷ []) m ≡ acc ++ m ∷ []
put_again [] m h = rw (never m) refl
put_again (x ∷ acc) m h = let both = both_true (is_before x m) (all_before acc m) h in rw (back x m both.0, both.0) (ap (λ (r : List Name). x ∷ r) (put_again acc m both.1))

put_copies : (acc : List Name) (m : Name) (es : List AnchorValue) (ns : List Name) → all_before acc m ≡ true → fold put_name (acc ++ m ∷ []) (copies m es ++ ns) ≡ fold put_name (acc ++ m ∷ []) ns
unfolding copies
put_copies acc m [] ns h = refl
put_copies acc m (a ∷ es) ns h = ap (λ r. fold put_name r (copies m es ++ ns)) (put_again acc m h) ∙ put_copies acc m es ns h

put_some : (acc : List Name) (m : Name) (es : List AnchorValue) (ns : List Name) → is_empty es ≡ false → all_before acc m ≡ true → fold put_name acc (copies m es ++ ns) ≡ fold put_name (acc ++ m ∷ []) ns
unfolding copies
put_some acc m [] ns e h = cc
put_some acc m (a ∷ es) ns e h = ap (λ r. fold put_name r (copies m es ++ ns)) (put_last acc m h) ∙ put_copies acc m es ns h

abbrev pub child_names : List AnchorTree → List Name
child_names [] = []
child_names (k ∷ ks) = last_name k.names ∷ child_names ks

abbrev HeadBehind : List Name → List AnchorTree → Type 0
HeadBehind acc [] = Unit {0}
HeadBehind acc (k ∷ ks) = all_before acc (last_name k.names) ≡ true

before_chain : (acc : List Name) (m n : Name) → is_before m n ≡ true → all_before acc m ≡ true → all_before (acc ++ m ∷ []) n ≡ true
before_chain [] m n h k = rw h refl
before_chain (x ∷ acc) m n h k = let both = both_true (is_before x m) (all_before acc m) k in rw (chain x m n both.0 h) (before_chain acc m n h both.1)

head_next : (acc : List Name) (m : Name) (ks : List AnchorTree) → all_before acc m ≡ true → list_all (λ (j : AnchorTree). is_before m (last_name j.names)) ks ≡ true → HeadBehind (acc ++ m ∷ []) ks
head_next acc m [] h k = tt
head_next acc m (j ∷ ks) h k = before_chain acc m (last_name j.names) (both_true (is_before m (last_name j.names)) (list_all (λ (i : AnchorTree). is_before m (last_name i.names)) ks) k).0 h

append_one : (acc : List Name) (m : Name) (ns : List Name) → (acc ++ m ∷ []) ++ ns ≡ acc ++ m ∷ ns
append_one [] m ns = refl
append_one (x ∷ acc) m ns = ap (λ (r : List Name). x ∷ r) (append_one acc m ns)

no_more : (acc : List Name) → acc ++ [] ≡ acc
no_more [] = refl
no_more (x ∷ acc) = ap (λ (r : List Name). x ∷ r) (no_more acc)

kids_from : (p : Path) (acc : List Name) (ks : List AnchorTree) → AreKids p ks → HeadBehind acc ks → fold put_name acc (names_after p (below ks)) ≡ acc ++ child_names ks
kids_from p acc [] h a = sym (no_more acc)
kids_from p acc (k ∷ ks) h a =
    let m = last_name k.names in
    ap (fold put_name acc) (names_copies p m k.anchors (below ks) (kid_begins p k h.0))
    ∙ put_some acc m k.anchors (names_after p (below ks)) h.0.1 a
    ∙ kids_from p (acc ++ m ∷ []) ks h.2 (head_next acc m ks a h.1)
    ∙ append_one acc m (child_names ks)

pub kids_are : (p : Path) (rules : List AnyRule) (tables : List (Name × TableValue)) (ks : List AnchorTree) → AreKids p ks → fold put_name [] (names_after p (own_entry p rules tables ++ below ks)) ≡ child_names ks
kids_are p rules tables ks h = ap (fold put_name []) (names_own p rules tables (below ks)) ∙ kids_from p [] ks h (head p ks h)
  where
    head : (p : Path) (ks : List AnchorTree) → AreKids p ks → HeadBehind [] ks
    head p [] h = tt
    head p (k ∷ ks) h = refl

-- names after a path are those in the part below it
pub names_part : (p : Path) (es : List AnchorValue) → names_after p (part_below p es) ≡ names_after p es
names_part p [] = refl
names_part p (a ∷ es) =
    (elim (starts_with bytes_eq a.path p) as (λ b. starts_with bytes_eq a.path p ≡ b → names_after p (cond b (a ∷ part_below p es) (part_below p es)) ≡ filter_map (λ (x : AnchorValue). name_after p x.path) (a ∷ es)) [
      | true ↦ λ h. go (names_part p es) (name_after p a.path) refl
      | false ↦ λ h. rw h (names_part p es)
    ]) refl
  where
    go : names_after p (part_below p es) ≡ names_after p es → (r : Option Name) → name_after p a.path ≡ r → names_after p (a ∷ part_below p es) ≡ names_after p (a ∷ es)
    go rest None e = rw e rest
    go rest (Some n) e = rw e (ap (λ (r : List Name). n ∷ r) rest)

-- the names of the kids are those that follow the path in the map
pub paths_are : (p : Path) (rules : List AnyRule) (tables : List (Name × TableValue)) (ks : List AnchorTree) → AreKids p ks → paths_of ks ≡ map (followed_by p) (fold put_name [] (names_after p (own_entry p rules tables ++ below ks)))
paths_are p rules tables ks h = go ks h ∙ ap (map (followed_by p)) (sym (kids_are p rules tables ks h))
  where
    go : (ks : List AnchorTree) → AreKids p ks → paths_of ks ≡ map (followed_by p) (child_names ks)
    go [] h = refl
    go (k ∷ ks) h = ap (λ (q : Path). q ∷ paths_of ks) h.0.0 ∙ ap (λ (r : List Path). followed_by p (last_name k.names) ∷ r) (go ks h.2)
