-- Anchors as a tree.
use Rattle.std.proofs.lemmas.Bool.Decides.{nat_tests}
use Rattle.std.proofs.Common.{◌==◌, map, slice_get, zero, suc, ◌≡◌, ℕ, ◌-◌, Bool, true, false, ◌&&◌, cond, List, [], ◌∷◌, ◌++◌, Some, None, Ordering, length, refl, sym, subst, ap, ◌∙◌, arith}
use Rattle.std.specs.declared.cmp.Ordering.TheVariants.{Less, Equal, Greater}
use Rattle.std.specs.Prelude.{if◌then◌else◌, find}
use Rattle.std.specs.List.{list_all, starts_with}
use Rattle.std.specs.Str.{bytes_eq}
use Rattle.std.specs.Ordering.{is_lt}
use Rattle.std.proofs.lemmas.Cmp.{nat_list_cmp_total, tied_itself}
use Rattle.std.proofs.lemmas.List.Elements.{filter-append}
use Rattle.std.proofs.lemmas.Slice.Eq.{bytes_eq-Decides}
use Rattle.pf_rules.specs.Names.{Name, is_before}
use Rattle.pf_rules.specs.Items.{AnyRule}
use Rattle.pf_tables.specs.Tables.{TableValue}
use Rattle.pf_config.specs.Map.{AnchorValue, Path, anchor_at, path_eq, rules_in, tables_in}
use Rattle.pf_config.specs.Changes.{is_empty}
use Rattle.pf_config.specs.Trees.{AnchorTree, part_below, some_part, child_at, below, own_entry, last_name, IsKid}
use Rattle.pf_config.specs.Trees.{AreKids}
use Rattle.pf_config.specs.inner.Trees.{is_named}
use Rattle.pf_config.proofs.PathFronts.{path_decides}

pub both_true : (a b : Bool) → (a && b) ≡ true → (a ≡ true) × (b ≡ true)
both_true true true h = (refl, refl)
both_true true false h = cc
both_true false b h = cc

pub append_nil : {X : Type 0} (xs : List X) → xs ++ [] ≡ xs
append_nil [] = refl
append_nil {X} (x ∷ xs) = ap (λ (r : List X). x ∷ r) (append_nil xs)

-- ---- names

pub same_bytes : (n : Name) → bytes_eq n n ≡ true
same_bytes n = (bytes_eq-Decides n n).1 refl

pub bytes_same : (m n : Name) → bytes_eq m n ≡ true → m ≡ n
bytes_same m n h = (bytes_eq-Decides m n).0 h

pub last_of : (p : Path) (n : Name) → last_name (p ++ n ∷ []) ≡ n
last_of [] n = refl
last_of (m ∷ []) n = refl
last_of (m ∷ k ∷ p) n = last_of (k ∷ p) n

-- ---- paths that begin with others

pub begins_more : (p q : Path) → starts_with bytes_eq (p ++ q) p ≡ true
begins_more [] q = refl
begins_more (n ∷ p) q = rw (same_bytes n) (begins_more p q)

pub not_longer : (p : Path) (n : Name) (r : Path) → starts_with bytes_eq p (p ++ n ∷ r) ≡ false
not_longer [] n r = refl
not_longer (m ∷ p) n r = rw (same_bytes m) (not_longer p n r)

apart : (p : Path) (m n : Name) (q : Path) → starts_with bytes_eq q (p ++ m ∷ []) ≡ true → starts_with bytes_eq q (p ++ n ∷ []) ≡ true → m ≡ n
apart [] m n [] h k = cc
apart [] m n (x ∷ q) h k =
    let a = both_true (bytes_eq m x) true h in
    let b = both_true (bytes_eq n x) true k in
    bytes_same m x a.0 ∙ sym (bytes_same n x b.0)
apart (l ∷ p) m n [] h k = cc
apart (l ∷ p) m n (x ∷ q) h k =
    let a = both_true (bytes_eq l x) (starts_with bytes_eq q (p ++ m ∷ [])) h in
    let b = both_true (bytes_eq l x) (starts_with bytes_eq q (p ++ n ∷ [])) k in
    apart p m n q a.1 b.1

-- ---- parts of the map

abbrev pub begins : Path → List AnchorValue → Bool
begins p es = list_all (λ (a : AnchorValue). starts_with bytes_eq a.path p) es

pub part_all : (p : Path) (es : List AnchorValue) → begins p es ≡ true → part_below p es ≡ es
part_all p [] h = refl
part_all p (a ∷ es) h = let both = both_true (starts_with bytes_eq a.path p) (begins p es) h in rw both.0 (ap (λ (r : List AnchorValue). a ∷ r) (part_all p es both.1))

part_other : (p : Path) (m n : Name) (es : List AnchorValue) → begins (p ++ m ∷ []) es ≡ true → bytes_eq n m ≡ false → part_below (p ++ n ∷ []) es ≡ []
part_other p m n [] h k = refl
part_other p m n (a ∷ es) h k =
    let both = both_true (starts_with bytes_eq a.path (p ++ m ∷ [])) (begins (p ++ m ∷ []) es) h in
    (elim (starts_with bytes_eq a.path (p ++ n ∷ [])) as (λ b. starts_with bytes_eq a.path (p ++ n ∷ []) ≡ b → cond b (a ∷ part_below (p ++ n ∷ []) es) (part_below (p ++ n ∷ []) es) ≡ []) [
      | true ↦ λ s. (let e : m ≡ n = apart p m n a.path both.0 s in let t : bytes_eq n m ≡ true = subst (λ x. bytes_eq n x ≡ true) (sym e) (same_bytes n) in let bad : true ≡ false = sym t ∙ k in cc)
      | false ↦ λ s. part_other p m n es both.1 k
    ]) refl

pub part_append : (p : Path) (es bs : List AnchorValue) → part_below p (es ++ bs) ≡ part_below p es ++ part_below p bs
part_append p es bs = filter-append (λ (a : AnchorValue). starts_with bytes_eq a.path p) es bs

pub kid_begins : (p : Path) (k : AnchorTree) → IsKid p k → begins (p ++ last_name k.names ∷ []) k.anchors ≡ true
kid_begins p k h = subst (λ q. begins q k.anchors ≡ true) h.0 h.2

pub part_kid : (p : Path) (k : AnchorTree) → IsKid p k → part_below (p ++ last_name k.names ∷ []) k.anchors ≡ k.anchors
part_kid p k h = part_all (p ++ last_name k.names ∷ []) k.anchors (kid_begins p k h)

pub part_not : (p : Path) (k : AnchorTree) (n : Name) → IsKid p k → bytes_eq n (last_name k.names) ≡ false → part_below (p ++ n ∷ []) k.anchors ≡ []
part_not p k n h e = part_other p (last_name k.names) n k.anchors (kid_begins p k h) e

-- ---- one name before another

pub is_less : (o : Ordering) → is_lt o ≡ true → o ≡ Less
is_less Less h = refl
is_less Equal h = cc
is_less Greater h = cc

pub never : (x : Name) → is_before x x ≡ false
never x = ap is_lt (tied_itself nat_list_cmp_total x)

pub name_chain : (x y z : Name) → is_before x y ≡ true → is_before y z ≡ true → is_before x z ≡ true
name_chain x y z h k = ap is_lt (nat_list_cmp_total.trans x y z (is_less _ h) (is_less _ k))

pub before_other : (m n : Name) → is_before m n ≡ true → bytes_eq m n ≡ false
before_other m n h = (elim (bytes_eq m n) as (λ b. bytes_eq m n ≡ b → b ≡ false) [
  | true ↦ λ e. (let s : m ≡ n = bytes_same m n e in let t : is_before n n ≡ true = subst (λ x. is_before x n ≡ true) s h in let bad : true ≡ false = sym t ∙ never n in bad)
  | false ↦ λ e. refl
]) refl

pub other_turned : (m n : Name) → bytes_eq m n ≡ false → bytes_eq n m ≡ false
other_turned m n h = (elim (bytes_eq n m) as (λ b. bytes_eq n m ≡ b → b ≡ false) [
  | true ↦ λ e. (let t : bytes_eq m n ≡ true = subst (λ x. bytes_eq x n ≡ true) (bytes_same n m e) (same_bytes n) in let bad : true ≡ false = sym t ∙ h in bad)
  | false ↦ λ e. refl
]) refl

-- all of them have names behind this one
abbrev pub kids_above : Name → List AnchorTree → Bool
kids_above n ks = list_all (λ (j : AnchorTree). is_before n (last_name j.names)) ks

pub kids_above_chain : (m n : Name) (ks : List AnchorTree) → is_before m n ≡ true → kids_above n ks ≡ true → kids_above m ks ≡ true
kids_above_chain m n [] h k = refl
kids_above_chain m n (j ∷ ks) h k = let both = both_true (is_before n (last_name j.names)) (kids_above n ks) k in rw (name_chain m n (last_name j.names) h both.0) (kids_above_chain m n ks h both.1)

pub part_behind : (p : Path) (n : Name) (ks : List AnchorTree) → AreKids p ks → kids_above n ks ≡ true → part_below (p ++ n ∷ []) (below ks) ≡ []
part_behind p n [] h a = refl
part_behind p n (k ∷ ks) h a =
    let both = both_true (is_before n (last_name k.names)) (kids_above n ks) a in
    part_append (p ++ n ∷ []) k.anchors (below ks) ∙ rw (part_not p k n h.0 (before_other n (last_name k.names) both.0)) (part_behind p n ks h.2 both.1)

-- ---- the child of a name

whole : (p : Path) (k : AnchorTree) (n : Name) → IsKid p k → last_name k.names ≡ n → some_part (p ++ n ∷ []) k.anchors ≡ Some k
whole p k n h e = go k.anchors refl h.1
  where
    names : k.names ≡ p ++ n ∷ []
    names = h.0 ∙ ap (λ (x : Name). p ++ x ∷ []) e

    go : (es : List AnchorValue) → k.anchors ≡ es → is_empty k.anchors ≡ false → some_part (p ++ n ∷ []) es ≡ Some k
    go [] f g = let bad : true ≡ false = sym (ap is_empty f) ∙ g in cc
    go (a ∷ es) f g = ap Some (ap {B = AnchorTree} (λ (q : Path). record { names = q; anchors = a ∷ es }) (sym names) ∙ ap {B = AnchorTree} (λ (r : List AnchorValue). record { names = k.names; anchors = r }) (sym f))

find_part : (p : Path) (n : Name) (ks : List AnchorTree) → AreKids p ks → find (is_named n) ks ≡ some_part (p ++ n ∷ []) (part_below (p ++ n ∷ []) (below ks))
find_part p n [] h = refl
find_part p n (k ∷ ks) h =
    (elim (bytes_eq (last_name k.names) n) as (λ b. bytes_eq (last_name k.names) n ≡ b → cond b (Some k) (find (is_named n) ks) ≡ some_part (p ++ n ∷ []) (part_below (p ++ n ∷ []) (k.anchors ++ below ks))) [
      | true ↦ λ e.
          let s : last_name k.names ≡ n = bytes_same (last_name k.names) n e in
          let own : part_below (p ++ n ∷ []) k.anchors ≡ k.anchors = subst (λ (x : Name). part_below (p ++ x ∷ []) k.anchors ≡ k.anchors) s (part_kid p k h.0) in
          let others : part_below (p ++ n ∷ []) (below ks) ≡ [] = subst (λ (x : Name). part_below (p ++ x ∷ []) (below ks) ≡ []) s (part_behind p (last_name k.names) ks h.2 h.1) in
          let all : part_below (p ++ n ∷ []) (k.anchors ++ below ks) ≡ k.anchors = part_append (p ++ n ∷ []) k.anchors (below ks) ∙ rw (own, others) (append_nil k.anchors) in
          sym (whole p k n h.0 s) ∙ ap (some_part (p ++ n ∷ [])) (sym all)
      | false ↦ λ e.
          let own : part_below (p ++ n ∷ []) k.anchors ≡ [] = part_not p k n h.0 (other_turned (last_name k.names) n e) in
          let all : part_below (p ++ n ∷ []) (k.anchors ++ below ks) ≡ part_below (p ++ n ∷ []) (below ks) = part_append (p ++ n ∷ []) k.anchors (below ks) ∙ rw own refl in
          find_part p n ks h.2 ∙ ap (some_part (p ++ n ∷ [])) (sym all)
    ]) refl

own_not_below : (p : Path) (n : Name) (rules : List AnyRule) (tables : List (Name × TableValue)) → part_below (p ++ n ∷ []) (own_entry p rules tables) ≡ []
own_not_below p n rules tables = elim (is_empty rules && is_empty tables) as (λ b. part_below (p ++ n ∷ []) (if b then [] else record { path = p; rules = rules; tables = tables } ∷ []) ≡ []) [ true ↦ refl | false ↦ rw (not_longer p n []) refl ]

pub child_is : (p : Path) (n : Name) (rules : List AnyRule) (tables : List (Name × TableValue)) (ks : List AnchorTree) → AreKids p ks → find (is_named n) ks ≡ child_at (record { names = p; anchors = own_entry p rules tables ++ below ks }) n
child_is p n rules tables ks h = find_part p n ks h ∙ ap (some_part (p ++ n ∷ [])) (sym (part_append (p ++ n ∷ []) (own_entry p rules tables) (below ks) ∙ rw (own_not_below p n rules tables) refl))

-- ---- the entry of the anchor's own path

pub path_same : (p q : Path) → path_eq p q ≡ true → p ≡ q
path_same p q h = (path_decides p q).0 h

kid_path_other : (p : Path) (n : Name) (q : Path) → starts_with bytes_eq q (p ++ n ∷ []) ≡ true → path_eq q p ≡ false
kid_path_other p n q h = (elim (path_eq q p) as (λ b. path_eq q p ≡ b → b ≡ false) [
  | true ↦ λ e. (let s : q ≡ p = path_same q p e in let bad : true ≡ false = sym (subst (λ r. starts_with bytes_eq r (p ++ n ∷ []) ≡ true) s h) ∙ not_longer p n [] in bad)
  | false ↦ λ e. refl
]) refl

pub none_begins : (p : Path) (n : Name) (es : List AnchorValue) → begins (p ++ n ∷ []) es ≡ true → anchor_at p es ≡ None
none_begins p n [] h = refl
none_begins p n (a ∷ es) h = let both = both_true (starts_with bytes_eq a.path (p ++ n ∷ [])) (begins (p ++ n ∷ []) es) h in rw (kid_path_other p n a.path both.0) (none_begins p n es both.1)

pub at_append : (p : Path) (es bs : List AnchorValue) → anchor_at p es ≡ None → anchor_at p (es ++ bs) ≡ anchor_at p bs
at_append p [] bs h = refl
at_append p (a ∷ es) bs h = (elim (path_eq a.path p) as (λ b. cond b (Some a) (anchor_at p es) ≡ None → cond b (Some a) (anchor_at p (es ++ bs)) ≡ anchor_at p bs) [ true ↦ λ e. cc | false ↦ λ e. at_append p es bs e ]) h

pub none_below : (p : Path) (ks : List AnchorTree) → AreKids p ks → anchor_at p (below ks) ≡ None
none_below p [] h = refl
none_below p (k ∷ ks) h = at_append p k.anchors (below ks) (none_begins p (last_name k.names) k.anchors (kid_begins p k h.0)) ∙ none_below p ks h.2

pub empty_is : {X : Type 0} (xs : List X) → is_empty xs ≡ true → xs ≡ []
empty_is [] h = refl
empty_is (x ∷ xs) h = cc

pub path_itself : (p : Path) → path_eq p p ≡ true
path_itself [] = refl
path_itself (n ∷ p) = rw (same_bytes n) (path_itself p)

pub at_own : (p : Path) (rules : List AnyRule) (tables : List (Name × TableValue)) (bs : List AnchorValue) → anchor_at p bs ≡ None → anchor_at p (own_entry p rules tables ++ bs) ≡ (if is_empty rules && is_empty tables then None else Some (record { path = p; rules = rules; tables = tables }))
at_own p rules tables bs h = elim (is_empty rules && is_empty tables) as (λ b. anchor_at p ((if b then [] else record { path = p; rules = rules; tables = tables } ∷ []) ++ bs) ≡ (if b then None else Some (record { path = p; rules = rules; tables = tables }))) [ true ↦ h | false ↦ rw (path_itself p) refl ]

pub own_rules : (p : Path) (rules : List AnyRule) (tables : List (Name × TableValue)) (ks : List AnchorTree) → AreKids p ks → rules_in (anchor_at p (own_entry p rules tables ++ below ks)) ≡ rules
own_rules p rules tables ks h = ap rules_in (at_own p rules tables (below ks) (none_below p ks h)) ∙ (elim (is_empty rules && is_empty tables) as (λ b. is_empty rules && is_empty tables ≡ b → rules_in (if b then None else Some (record { path = p; rules = rules; tables = tables })) ≡ rules) [ true ↦ λ e. sym (empty_is rules (both_true (is_empty rules) (is_empty tables) e).0) | false ↦ λ e. refl ]) refl

pub own_tables : (p : Path) (rules : List AnyRule) (tables : List (Name × TableValue)) (ks : List AnchorTree) → AreKids p ks → tables_in (anchor_at p (own_entry p rules tables ++ below ks)) ≡ tables
own_tables p rules tables ks h = ap tables_in (at_own p rules tables (below ks) (none_below p ks h)) ∙ (elim (is_empty rules && is_empty tables) as (λ b. is_empty rules && is_empty tables ≡ b → tables_in (if b then None else Some (record { path = p; rules = rules; tables = tables })) ≡ tables) [ true ↦ λ e. sym (empty_is tables (both_true (is_empty rules) (is_empty tables) e).1) | false ↦ λ e. refl ]) refl

pub nothing_is : (p : Path) (rules : List AnyRule) (tables : List (Name × TableValue)) (ks : List AnchorTree) → AreKids p ks → is_empty (own_entry p rules tables ++ below ks) ≡ ((is_empty rules && is_empty tables) && is_empty ks)
nothing_is p [] [] [] h = refl
nothing_is p [] [] (k ∷ ks) h = kid_holds k.anchors (below ks) h.0.1
  where
    kid_holds : (es bs : List AnchorValue) → is_empty es ≡ false → is_empty (es ++ bs) ≡ false
    kid_holds [] bs e = cc
    kid_holds (a ∷ es) bs e = refl
nothing_is p [] (t ∷ tables) ks h = refl
nothing_is p (r ∷ rules) tables ks h = refl

got : (p : Path) (k : ℕ) (n : Name) → suc k ≡ length p → slice_get p k ≡ Some n → n ≡ last_name p
got [] k n h e = absurd (omega (arith, h))
got (x ∷ []) zero n h e = cc
got (x ∷ []) (suc k) n h e = absurd (omega (arith, h))
got (x ∷ y ∷ p) zero n h e = absurd (omega (arith, h))
got (x ∷ y ∷ p) (suc k) n h e = got (y ∷ p) k n (omega (arith, h)) e

pub last_got : (p : Path) (n : Name) → slice_get p (length p - 1) ≡ Some n → n ≡ last_name p
last_got [] n e = cc
last_got (x ∷ p) n e = got (x ∷ p) (length (x ∷ p) - 1) n (omega arith) e

pub empty_len : {X : Type 0} (xs : List X) → (length xs == 0) ≡ is_empty xs
empty_len [] = refl
empty_len (x ∷ xs) = grind (arith, nat_tests)

pub empty_map : {X Y : Type 0} (f : X → Y) (xs : List X) → is_empty (map f xs) ≡ is_empty xs
empty_map f [] = refl
empty_map f (x ∷ xs) = refl
