-- The rules and tables of a path are changed in place, below an anchor and in a configuration.
use Rattle.std.proofs.Common.{◌≡◌, ℕ, zero, suc, ◌+◌, ◌-◌, ◌<◌, ◌≤◌, Bool, true, false, ◌&&◌, cond, List, [], ◌∷◌, ◌++◌, Option, Some, None, Ok, Err, length, length-append, take, drop, get_or, refl, sym, subst, ap, ◌∙◌, arith}
use Rattle.std.specs.declared.rc.Rc.{Rc}
use Rattle.std.specs.Prelude.{if◌then◌else◌, find, nat_lt, not, unwrap_or, is_some, Result, MatchResult}
use Rattle.std.proofs.Math.ListN.{set}
use Rattle.std.proofs.lemmas.Bool.Decides.{nat_tests}
use Rattle.pf_rules.specs.declared.ruleset.TableEntry.{TableEntry}
use Rattle.pf_rules.specs.Names.{Name}
use Rattle.pf_rules.specs.Items.{AnyRule}
use Rattle.pf_tables.specs.declared.edits.Edit.{Edit}
use Rattle.pf_tables.specs.declared.edits.Edit.TheVariants.{Insert, Remove}
use Rattle.pf_tables.specs.Tables.{TableValue}
use Rattle.pf_tables.specs.Contents.{put_entry, unlisted, with_entries, without_entries}
use Rattle.pf_tables.proofs.OneEdit.{few_put}
use Rattle.pf_config.specs.declared.fault.ConfigFault.TheVariants.{AnchorsFull, ConstTable, TableFull}
use Rattle.pf_config.specs.Map.{Configuration, AnchorValue, Path, anchor_at, rules_in, tables_in, rules_at, tables_at, table_at, named}
use Rattle.pf_config.specs.Changes.{is_empty, is_nothing, with_anchor, with_tables, with_table, with_contents, set_table, set_filled, fill, drain, new_table, add, delete}
use Rattle.pf_config.specs.Trees.{AnchorTree, shared, below, own_entry, AreKids, anchor_in, and_then, tree_at}
use Rattle.pf_config.specs.inner.Trees.{is_named, kids_before, kids_behind, some_kid, anchors_of, placed_in, room_after}
use Rattle.pf_config.specs.inner.KidOrder.{AreInOrder}
use Rattle.pf_config.specs.inner.TableChanges.{edited_in, Takes, Changing, OwnChangesIf, count_of, own_of, TreeChangesIf, KidChanges, KidChangesIf, MapChanges, MapChangesIf, commanded, GivesIf}
use Rattle.pf_config.proofs.Treed.{child_is, at_own, none_below, own_rules, own_tables}
use Rattle.pf_config.proofs.Entries.{own_placed, main_placed}
use Rattle.pf_config.proofs.KidHalves.{kids_in_order}
use Rattle.pf_config.proofs.KidPlaces.{PutBack, stored_at, parted, listed, found_names, left_whole, put_in, around, back_kids, back_placed}
use Rattle.pf_config.proofs.Descents.{main_down, found_at, nothing_found, own_at}

-- ---- at the anchor's own path

some_empty : {X : Type 0} (xs : List X) (y : X) (ys : List X) → is_empty (xs ++ y ∷ ys) ≡ false
some_empty [] y ys = refl
some_empty (x ∷ xs) y ys = refl

and_false : (b c : Bool) → c ≡ false → (b && c) ≡ false
and_false true c h = h
and_false false c h = refl

one_long : (p : Path) (rules : List AnyRule) (tables : List (Name × TableValue)) → (is_empty rules && is_empty tables) ≡ false → length (own_entry p rules tables) ≡ 1
one_long p rules tables h = rw h refl

abbrev pub tree_with : Path → List AnchorValue → AnchorTree
tree_with q es = record { names = q; anchors = es }

-- the entry of an anchor's own path is there where it has rules or tables
own_count : (p : Path) (rules : List AnyRule) (tables : List (Name × TableValue)) (ks : List AnchorTree) → AreKids p ks → length (own_entry p rules tables) ≡ count_of (anchor_at p (own_entry p rules tables ++ below ks))
own_count p rules tables ks h =
    let a : AnchorValue = record { path = p; rules = rules; tables = tables } in
    let one : List AnchorValue = a ∷ [] in
    sym (ap count_of (at_own p rules tables (below ks) (none_below p ks h)) ∙ elim (is_empty rules && is_empty tables) as (λ b. count_of (if b then None else Some a) ≡ length (if b then [] else one)) [ true ↦ refl | false ↦ refl ])

pub own_is : (p : Path) (rules : List AnyRule) (tables : List (Name × TableValue)) (ks : List AnchorTree) → AreKids p ks → not (is_empty rules && is_empty tables) ≡ is_some (anchor_at p (own_entry p rules tables ++ below ks))
own_is p rules tables ks h =
    let a : AnchorValue = record { path = p; rules = rules; tables = tables } in
    sym (ap is_some (at_own p rules tables (below ks) (none_below p ks h)) ∙ elim (is_empty rules && is_empty tables) as (λ b. is_some (if b then None else Some a) ≡ not b) [ true ↦ refl | false ↦ refl ])

-- the anchor once its own rules and tables are changed
own_changes_if : (by : Changing) (done : Bool) (p : Path) (rules rules' : List AnyRule) (tables tables' : List (Name × TableValue)) (ks : List AnchorTree) → AreKids p ks → OwnChangesIf done by rules tables rules' tables' →
    TreeChangesIf done by [] (tree_with p (own_entry p rules tables ++ below ks)) (tree_with p (own_entry p rules' tables' ++ below ks))
own_changes_if by false p rules rules' tables tables' ks h c = ap (λ (rs : List AnyRule). tree_with p (own_entry p rs tables' ++ below ks)) c.0 ∙ ap (λ (ts : List (Name × TableValue)). tree_with p (own_entry p rules ts ++ below ks)) c.1
own_changes_if by true p rules rules' tables tables' ks h c =
    let long = one_long p rules' tables' c.0 in
    let was = own_count p rules tables ks h in
    let a = length-append (own_entry p rules' tables') (below ks) in
    let b = length-append (own_entry p rules tables) (below ks) in
    let made = subst (λ (rs : List AnyRule). by rs tables rules' tables') (sym (own_rules p rules tables ks h)) c.1 in
    record {
      rules = rules';
      tables = tables';
      is = own_placed p p rules rules' tables tables' ks ks h refl refl;
      made = subst (λ (ts : List (Name × TableValue)). by (rules_in (anchor_at p (own_entry p rules tables ++ below ks))) ts rules' tables') (sym (own_tables p rules tables ks h)) made;
      long = omega (arith, long, was, a, b);
    }

-- the same, whatever the call answers
pub own_changes : (by : Changing) {X : Type 0} (r : Result Bool X) (p rest : Path) (rules rules' : List AnyRule) (tables tables' : List (Name × TableValue)) (ks : List AnchorTree) → AreKids p ks →
    MatchResult r (λ done. OwnChangesIf done by rules tables rules' tables') (λ x. (rules' ≡ rules) × (tables' ≡ tables)) → rest ≡ [] →
    MatchResult r (λ done. TreeChangesIf done by rest (tree_with p (own_entry p rules tables ++ below ks)) (tree_with p (own_entry p rules' tables' ++ below ks))) (λ x. tree_with p (own_entry p rules' tables' ++ below ks) ≡ tree_with p (own_entry p rules tables ++ below ks))
own_changes by (Ok done) p rest rules rules' tables tables' ks h c e = subst (λ (r : Path). TreeChangesIf done by r (tree_with p (own_entry p rules tables ++ below ks)) (tree_with p (own_entry p rules' tables' ++ below ks))) (sym e) (own_changes_if by done p rules rules' tables tables' ks h c)
own_changes by (Err x) p rest rules rules' tables tables' ks h c e = own_changes_if by false p rules rules' tables tables' ks h c

-- ---- among the anchors below

set_shared : {Z : Type 0} (ks : List (Rc AnchorTree Z)) (at : ℕ) (x : Rc AnchorTree Z) → at < length ks → shared (set ks at x) ≡ take at (shared ks) ++ x.value ∷ drop (suc at) (shared ks)
set_shared [] at x n = absurd (omega (arith, n))
set_shared (k ∷ ks) zero x n = refl
set_shared (k ∷ ks) (suc at) x n = ap (λ (r : List AnchorTree). k.value ∷ r) (set_shared ks at x (omega (arith, n)))

got_shared : {Z : Type 0} (ks : List (Rc AnchorTree Z)) (at : ℕ) (k : Rc AnchorTree Z) → at < length ks → k ≡ get_or ks at k → drop at (shared ks) ≡ k.value ∷ drop (suc at) (shared ks)
got_shared [] at k n g = absurd (omega (arith, n))
got_shared (j ∷ ks) zero k n g = ap (λ (x : Rc AnchorTree _). x.value ∷ shared ks) (sym g)
got_shared (j ∷ ks) (suc at) k n g = got_shared ks at k (omega (arith, n)) g

-- the anchor of a name gets another value
kid_set : {Z : Type 0} (n : Name) (at : ℕ) (ks : List (Rc AnchorTree Z)) (k x : Rc AnchorTree Z) → AreInOrder (shared ks) → at ≡ length (kids_before n (shared ks)) → at < length ks → k ≡ get_or ks at k → is_some (find (is_named n) (shared ks)) ≡ true → (find (is_named n) (shared ks) ≡ Some k.value) × (shared (set ks at x) ≡ kids_before n (shared ks) ++ x.value ∷ kids_behind n (shared ks))
kid_set n at ks k x s e w g h =
    let there = stored_at n at (shared ks) s e in
    let d = got_shared ks at k w g in
    (elim (is_named n k.value) as (λ b. is_named n k.value ≡ b → (find (is_named n) (shared ks) ≡ Some k.value) × (shared (set ks at x) ≡ kids_before n (shared ks) ++ x.value ∷ kids_behind n (shared ks))) [
      | true ↦ λ m.
          let here = there.here k.value (drop (suc at) (shared ks)) d m in
          (here.0, set_shared ks at x w ∙ ap (λ r. r ++ x.value ∷ drop (suc at) (shared ks)) there.front ∙ ap (λ r. kids_before n (shared ks) ++ x.value ∷ r) here.1)
      | false ↦ λ m. (let none = (there.other k.value (drop (suc at) (shared ks)) d m).0 in let bad : true ≡ false = sym h ∙ ap is_some none in cc)
    ]) refl

-- one of them is as it was
pub kid_kept : {Z : Type 0} (at : ℕ) (ks : List (Rc AnchorTree Z)) (k x : Rc AnchorTree Z) → at < length ks → k ≡ get_or ks at k → x.value ≡ k.value → shared (set ks at x) ≡ shared ks
kid_kept at [] k x n g v = absurd (omega (arith, n))
kid_kept zero (j ∷ ks) k x n g v = ap (λ (y : AnchorTree). y ∷ shared ks) (v ∙ ap (λ (y : Rc AnchorTree _). y.value) g)
kid_kept (suc at) (j ∷ ks) k x n g v = ap (λ (r : List AnchorTree). j.value ∷ r) (kid_kept at ks k x (omega (arith, n)) g v)

found_some : (p : Path) (n : Name) (ks : List AnchorTree) (k : AnchorTree) → AreKids p ks → find (is_named n) ks ≡ Some k → is_empty k.anchors ≡ false
found_some p n [] k h f = cc
found_some p n (j ∷ ks) k h f =
    (elim (is_named n j) as (λ b. cond b (Some j) (find (is_named n) ks) ≡ Some k → is_empty k.anchors ≡ false) [
      | true ↦ λ g. (let s : j ≡ k = cc in subst (λ (x : AnchorTree). is_empty x.anchors ≡ false) s h.0.1)
      | false ↦ λ g. found_some p n ks k h.2 g
    ]) f

at_most_one : (o : Option AnchorValue) → count_of o ≤ 1
at_most_one None = omega arith
at_most_one (Some a) = omega arith

-- what grows by an entry, if it grows, isn't emptied
long_empty : {X : Type 0} (xs ys : List X) (n : ℕ) → length xs + n ≡ length ys + 1 → n ≤ 1 → is_empty ys ≡ false → is_empty xs ≡ false
long_empty [] [] n l m h = h
long_empty [] (y ∷ ys) n l m h = absurd (omega (arith, l, m))
long_empty (x ∷ xs) ys n l m h = refl

-- the anchor of a name is changed, or the anchors are as they were, whatever the call answers
pub kids_changed : {Z X : Type 0} (by : Changing) (p : Path) (n : Name) (rest : Path) (res : Result Bool X) (at : ℕ) (ks : List (Rc AnchorTree Z)) (k x : Rc AnchorTree Z) (kid new : AnchorTree) → AreKids p (shared ks) → at ≡ length (kids_before n (shared ks)) → at < length ks → k ≡ get_or ks at k → is_some (find (is_named n) (shared ks)) ≡ true → kid ≡ k.value → x.value ≡ new →
    MatchResult res (λ done. TreeChangesIf done by rest kid new) (λ y. new ≡ kid) → MatchResult res (λ done. KidChangesIf done by p n rest (shared ks) (shared (set ks at x))) (λ y. shared (set ks at x) ≡ shared ks)
kids_changed by p n rest (Err y) at ks k x kid new h e w g m o v c = kid_kept at ks k x w g (v ∙ c ∙ o)
kids_changed by p n rest (Ok false) at ks k x kid new h e w g m o v c = kid_kept at ks k x w g (v ∙ c ∙ o)
kids_changed by p n rest (Ok true) at ks k x kid new h e w g m o v c =
    let put = kid_set n at ks k x (kids_in_order p (shared ks) h) e w g m in
    let found : find (is_named n) (shared ks) ≡ Some kid = put.0 ∙ ap (λ (t : AnchorTree). Some t) (sym o) in
    let names : kid.names ≡ p ++ n ∷ [] = found_names p n (shared ks) kid h found in
    let own = own_of (tree_at kid rest) in
    let some : is_empty new.anchors ≡ false = long_empty new.anchors kid.anchors (count_of own) c.long (at_most_one own) (found_some p n (shared ks) kid h found) in
    record {
      rules = c.rules;
      tables = c.tables;
      kid = new;
      all = put.1 ∙ ap (λ (t : AnchorTree). kids_before n (shared ks) ++ t ∷ kids_behind n (shared ks)) v ∙ ap (λ b. kids_before n (shared ks) ++ ((if b then [] else new ∷ []) ++ kids_behind n (shared ks))) (sym some);
      is = c.is ∙ ap (λ (q : Path). placed_in (record { names = q; anchors = kid.anchors }) rest c.rules c.tables) names ∙ ap (λ o. placed_in (record { names = p ++ n ∷ []; anchors = anchors_of o }) rest c.rules c.tables) (sym found);
      made = subst (λ o. by (rules_in (own_of (and_then o (λ k. tree_at k rest)))) (tables_in (own_of (and_then o (λ k. tree_at k rest)))) c.rules c.tables) (sym found) c.made;
      long = subst (λ o. length new.anchors + count_of (own_of (and_then o (λ k. tree_at k rest))) ≡ length (anchors_of o) + 1) (sym found) c.long;
    }

one_with : (a : AnchorValue) → is_nothing a ≡ false → length (with_anchor a []) ≡ 1
unfolding with_anchor
one_with a h = rw h refl

-- an anchor of a name comes in among the others
pub kid_new : {Z : Type 0} (by : Changing) (p : Path) (n : Name) (rest : Path) (rules : List AnyRule) (tables : List (Name × TableValue)) (at : ℕ) (ks js : List (Rc AnchorTree Z)) (x : Rc AnchorTree Z) → AreKids p (shared ks) → at ≡ length (kids_before n (shared ks)) → is_some (find (is_named n) (shared ks)) ≡ false → js ≡ take at ks ++ x ∷ drop at ks →
    x.value ≡ placed_in (record { names = p ++ n ∷ []; anchors = [] }) rest rules tables → (is_empty rules && is_empty tables) ≡ false → by [] [] rules tables → KidChanges by p n rest (shared ks) (shared js)
kid_new by p n rest rules tables at ks js x h e f j v s m =
    let none = left_whole n (shared ks) (kids_in_order p (shared ks) h) f in
    let one : length x.value.anchors ≡ 1 = ap (λ (t : AnchorTree). length t.anchors) v ∙ one_with (record { path = (p ++ n ∷ []) ++ rest; rules = rules; tables = tables }) s in
    let a : AnchorValue = record { path = p; rules = rules; tables = tables } in
    let some : is_empty x.value.anchors ≡ false = long_empty x.value.anchors (a ∷ []) 1 (omega (arith, one)) (omega arith) refl in
    let empty : Option AnchorTree → AnchorTree = λ o. record { names = p ++ n ∷ []; anchors = anchors_of o } in
    record {
      rules = rules;
      tables = tables;
      kid = x.value;
      all = around n (shared ks) (shared ks) (shared js) at x.value e none.1 (ap shared j ∙ put_in at ks x some);
      is = v ∙ ap (λ o. placed_in (empty o) rest rules tables) (sym none.0);
      made = subst (λ o. by (rules_in (own_of (and_then o (λ k. tree_at k rest)))) (tables_in (own_of (and_then o (λ k. tree_at k rest)))) rules tables) (sym none.0) m;
      long = subst (λ o. length x.value.anchors + count_of (own_of (and_then o (λ k. tree_at k rest))) ≡ length (anchors_of o) + 1) (sym none.0) (omega (arith, one));
    }

below_join : (ks js : List AnchorTree) → length (below (ks ++ js)) ≡ length (below ks) + length (below js)
below_join [] js = omega arith
below_join (i ∷ ks) js =
    let rest = below_join ks js in
    let a = length-append i.anchors (below (ks ++ js)) in
    let b = length-append i.anchors (below ks) in
    omega (arith, rest, a, b)

some_long : (k : AnchorTree) → length (below (some_kid k)) ≡ length k.anchors
some_long k = go k.anchors refl
  where
    go : (es : List AnchorValue) → k.anchors ≡ es → length (below (some_kid k)) ≡ length k.anchors
    go [] e = rw e refl
    go (a ∷ es) e = ap (λ b. length (below (if b then [] else k ∷ []))) (ap is_empty e) ∙ (let l = length-append k.anchors [] in omega (arith, l))

listed_long : (o : Option AnchorTree) → length (below (listed o)) ≡ length (anchors_of o)
listed_long None = refl
listed_long (Some k) = let l = length-append k.anchors [] in omega (arith, l)

-- the anchor once one below it is changed, or not
pub record Changes {X : Type 0} (res : Result Bool X) (by : Changing) (p rest : Path) (own : List AnyRule) (held : List (Name × TableValue)) (ks js : List AnchorTree) : Type 0 where
  pub kids : AreKids p js
  pub is : MatchResult res (λ done. TreeChangesIf done by rest (tree_with p (own_entry p own held ++ below ks)) (tree_with p (own_entry p own held ++ below js))) (λ x. tree_with p (own_entry p own held ++ below js) ≡ tree_with p (own_entry p own held ++ below ks))

same_kids : (p : Path) (own : List AnyRule) (held : List (Name × TableValue)) (ks js : List AnchorTree) → AreKids p ks → js ≡ ks → AreKids p js × (tree_with p (own_entry p own held ++ below js) ≡ tree_with p (own_entry p own held ++ below ks))
same_kids p own held ks js h e = (subst (AreKids p) (sym e) h, ap (λ (is : List AnchorTree). tree_with p (own_entry p own held ++ below is)) e)

pub kid_changes : {X : Type 0} (res : Result Bool X) (by : Changing) (n : Name) (p r rest : Path) (own : List AnyRule) (held : List (Name × TableValue)) (ks js : List AnchorTree) → AreKids p ks → rest ≡ n ∷ r → MatchResult res (λ done. KidChangesIf done by p n r ks js) (λ x. js ≡ ks) → Changes res by p rest own held ks js
kid_changes (Err y) by n p r rest own held ks js h e c = let same = same_kids p own held ks js h c in record { kids = same.0; is = same.1 }
kid_changes (Ok false) by n p r rest own held ks js h e c = let same = same_kids p own held ks js h c in record { kids = same.0; is = same.1 }
kid_changes {X} (Ok true) by n p r rest own held ks js h e c =
    let t : AnchorTree = record { names = p; anchors = own_entry p own held ++ below ks } in
    let down : tree_at t rest ≡ and_then (find (is_named n) ks) (λ k. tree_at k r) = ap (tree_at t) e ∙ ap (λ o. and_then o (λ k. tree_at k r)) (sym (child_is p n own held ks h)) in
    let put : PutBack p n r c.rules c.tables ks js = record { kid = c.kid; all = c.all; held = c.is } in
    let before = kids_before n ks in
    let behind = kids_behind n ks in
    let old = find (is_named n) ks in
    let whole : before ++ (listed old ++ behind) ≡ ks = parted n ks (kids_in_order p ks h) in
    let a = ap (λ r. length (below r)) c.all ∙ below_join before (some_kid c.kid ++ behind) in
    let a' = below_join (some_kid c.kid) behind in
    let k = some_long c.kid in
    let b = ap (λ r. length (below r)) (sym whole) ∙ below_join before (listed old ++ behind) in
    let b' = below_join (listed old) behind in
    let l = listed_long old in
    let x = length-append (own_entry p own held) (below js) in
    let y = length-append (own_entry p own held) (below ks) in
    let long = c.long in
    let grown : length (own_entry p own held ++ below js) + count_of (own_of (and_then old (λ k. tree_at k r))) ≡ length (own_entry p own held ++ below ks) + 1 = omega (arith, a, a', k, b, b', l, x, y, long) in
    record {
      kids = back_kids p n r own c.rules held c.tables ks js h put;
      is = record {
        rules = c.rules;
        tables = c.tables;
        is = back_placed p n r rest own c.rules held c.tables ks js h e put;
        made = subst (λ z. by (rules_in (own_of z)) (tables_in (own_of z)) c.rules c.tables) (sym down) c.made;
        long = subst (λ z. length (own_entry p own held ++ below js) + count_of (own_of z) ≡ length (own_entry p own held ++ below ks) + 1) (sym down) grown;
      };
    }

-- ---- in a configuration

pub found_own : (es : List AnchorValue) (p : Path) (t : AnchorTree) → Some t ≡ anchor_in es p → is_some (anchor_at t.names t.anchors) ≡ is_some (anchor_at p es)
found_own es p t h = ap is_some (ap own_at h ∙ found_at es p)

pub no_own_found : (es : List AnchorValue) (p : Path) → None ≡ anchor_in es p → false ≡ is_some (anchor_at p es)
no_own_found es p h = sym (ap is_some (nothing_found es p h))

pub takes_none : (o : Option AnchorValue) (n room : ℕ) → n + room ≤ 1024 → is_some o ≡ true → n + room + 1 ≤ 1024 + count_of o
takes_none None n room h e = cc
takes_none (Some a) n room h e = omega (arith, h)

pub takes_one : (o : Option AnchorValue) (n room : ℕ) → n + room ≤ 1024 → 0 < room → n + (room - 1) + 1 ≤ 1024 + count_of o
takes_one o n room h k = omega (arith, h, k)

pub takes_counted : (o : Option AnchorValue) (n left : ℕ) → Some left ≡ room_after 1024 n → 0 < left → n + (left - 1) + 1 ≤ 1024 + count_of o
takes_counted o n left h k =
    (elim (nat_lt 1024 n) as (λ b. nat_lt 1024 n ≡ b → Some left ≡ (if b then None else Some (1024 - n)) → n + (left - 1) + 1 ≤ 1024 + count_of o) [
      | true ↦ λ e f. cc
      | false ↦ λ e f. (let s : left ≡ 1024 - n = cc in omega (arith, s, k))
    ]) refl h

own_same : (o : Option AnchorTree) → own_of o ≡ own_at o
own_same None = refl
own_same (Some k) = refl

abbrev pub config_with : List Name → List AnchorValue → Configuration
config_with skip es = record { skip = skip; anchors = es }

main_changes_if : (by : Changing) (done : Bool) (path : Path) (skip : List Name) (t new : AnchorTree) (left : ℕ) → t.names ≡ [] → length t.anchors ≤ 1024 → length t.anchors + left + 1 ≤ 1024 + count_of (anchor_at path t.anchors) → TreeChangesIf done by path t new → (new.names ≡ []) × (length new.anchors + left ≤ 1024) × MapChangesIf done by path (config_with skip t.anchors) (config_with skip new.anchors)
unfolding tables_at rules_at
main_changes_if by false path skip t new left h few room c =
    let one = at_most_one (anchor_at path t.anchors) in
    let same = ap (λ (x : AnchorTree). length x.anchors) c in
    (ap (λ (x : AnchorTree). x.names) c ∙ h, omega (arith, room, one, same), ap (λ (x : AnchorTree). config_with skip x.anchors) c)
main_changes_if by true path skip t new left h few room c =
    let there : own_of (tree_at t path) ≡ anchor_at path t.anchors = own_same (tree_at t path) ∙ ap own_at (main_down t path h) ∙ found_at t.anchors path in
    let placed = main_placed t new path c.rules c.rules c.tables c.tables h refl refl c.is in
    let grown = subst (λ o. length new.anchors + count_of o ≡ length t.anchors + 1) there c.long in
    let less : length new.anchors + left ≤ 1024 = omega (arith, room, grown) in (
      placed.0,
      less,
      record {
        rules = c.rules;
        tables = c.tables;
        skip = refl;
        is = placed.1;
        made = subst (λ o. by (rules_in o) (tables_in o) c.rules c.tables) there c.made;
        few = omega (arith, less);
      },
    )

-- the same, whatever the call answers
pub main_changes : {X : Type 0} (res : Result Bool X) (by : Changing) (path : Path) (skip : List Name) (t new : AnchorTree) (left : ℕ) → t.names ≡ [] → length t.anchors ≤ 1024 → length t.anchors + left + 1 ≤ 1024 + count_of (anchor_at path t.anchors) → MatchResult res (λ done. TreeChangesIf done by path t new) (λ x. new ≡ t) →
    (new.names ≡ []) × (length new.anchors + left ≤ 1024) × MatchResult res (λ done. MapChangesIf done by path (config_with skip t.anchors) (config_with skip new.anchors)) (λ x. config_with skip new.anchors ≡ config_with skip t.anchors)
main_changes (Ok done) by path skip t new left h few room c = main_changes_if by done path skip t new left h few room c
main_changes (Err x) by path skip t new left h few room c = main_changes_if by false path skip t new left h few room c

-- there is a changed table, and the new configuration is the old one with it
abbrev pub Sets : Option TableValue → Path → Name → Configuration → Configuration → Type 0
Sets None p name old new = true ≡ false
Sets (Some t) p name old new = set_table old p name t ≡ Ok new

-- the tables of a path have changed, and no rules
abbrev pub TableMakes : Option TableValue → Name → List AnyRule → List (Name × TableValue) → List AnyRule → List (Name × TableValue) → Type 0
TableMakes o name rules tables rules' tables' = (rules' ≡ rules) × Takes o name tables tables'

pub sets : (o : Option TableValue) (c new : Configuration) (p : Path) (name : Name) → MapChanges (TableMakes o name) p c new → Sets o p name c new
unfolding tables_at rules_at
sets None c new p name m = (let bad : true ≡ false = m.made.1 in cc)
sets (Some t) c new p name m =
    let here = anchor_at p c.anchors in
    let is : with_tables p (with_table (tables_in here) name t) c.anchors ≡ new.anchors =
    ap (λ (ts : List (Name × TableValue)). with_tables p ts c.anchors) (sym m.made.1) ∙ ap (λ (rs : List AnyRule). with_anchor (record { path = p; rules = rs; tables = m.tables }) c.anchors) (sym m.made.0) ∙ sym m.is in
    let few = m.few in
    let room : nat_lt 1024 (length new.anchors) ≡ false = grind (arith, nat_tests, few) in
    ap (λ es. if nat_lt 1024 (length es) then Err AnchorsFull else Ok (config_with c.skip es)) is ∙ rw room (ap (λ (s : List Name). Ok (config_with s new.anchors)) (sym m.skip))

-- ---- the command of an edit

still_room : (n m : ℕ) → m ≤ n + 1 → nat_lt n 4096 ≡ true → nat_lt 4096 m ≡ false
still_room n m h k = grind (arith, nat_tests)

added : (c new : Configuration) (p : Path) (name : Name) (e : TableEntry) → Sets (edited_in Insert e (table_at c p name)) p name c new → add c p name (e ∷ []) ≡ Ok new
unfolding add
added c new p name e s = go (table_at c p name) s
  where
    some : (t : TableValue) (b r : Bool) → t.is_const ≡ b → nat_lt (length t.entries) 4096 ≡ r → Sets (if not b && r then Some (with_contents t (put_entry t.entries e)) else None) p name c new → fill c p name t (put_entry t.entries e) ≡ Ok new
    some t true r h k s = (let bad : true ≡ false = s in cc)
    some t false false h k s = (let bad : true ≡ false = s in cc)
    some t false true h k s =
        let es = put_entry t.entries e in
        let room : nat_lt 4096 (length es) ≡ false = still_room (length t.entries) (length es) (few_put t.entries e) k in
        ap (λ b. set_filled c p name (if b then Err ConstTable else (if nat_lt 4096 (length es) then Err TableFull else Ok (with_contents t es)))) h ∙
        ap (λ b. set_filled c p name (if b then Err TableFull else Ok (with_contents t es))) room ∙ s

    go : (o : Option TableValue) → Sets (edited_in Insert e o) p name c new → fill c p name (unwrap_or o new_table) (with_entries (unwrap_or o new_table).entries (e ∷ [])) ≡ Ok new
    go None s = (let bad : true ≡ false = s in cc)
    go (Some t) s = some t t.is_const (nat_lt (length t.entries) 4096) refl refl s

deleted : (c new : Configuration) (p : Path) (name : Name) (e : TableEntry) → Sets (edited_in Remove e (table_at c p name)) p name c new → delete c p name (e ∷ []) ≡ Ok new
unfolding delete
deleted c new p name e s = go (table_at c p name) s
  where
    some : (t : TableValue) (b : Bool) → t.is_const ≡ b → Sets (if not b && true then Some (with_contents t (unlisted t.entries (e ∷ []))) else None) p name c new → drain c p name (Some t) (λ es. without_entries es (e ∷ [])) ≡ Ok new
    some t true h s = (let bad : true ≡ false = s in cc)
    some t false h s = ap (λ b. if b then Err ConstTable else set_table c p name (with_contents t (without_entries t.entries (e ∷ [])))) h ∙ s

    go : (o : Option TableValue) → Sets (edited_in Remove e o) p name c new → drain c p name o (λ es. without_entries es (e ∷ [])) ≡ Ok new
    go None s = (let bad : true ≡ false = s in cc)
    go (Some t) s = some t t.is_const refl s

pub edit_given : (edit : Edit) (c new : Configuration) (p : Path) (name : Name) (e : TableEntry) (list : List TableEntry) {X : Type 0} (r : Result Bool X) → list ≡ e ∷ [] → MatchResult r (λ done. MapChangesIf done (λ rs ts. TableMakes (edited_in edit e (named name ts)) name rs ts) p c new) (λ x. new ≡ c) → MatchResult r (λ done. GivesIf done (commanded edit c p name list) c new) (λ x. new ≡ c)
edit_given edit c new p name e list (Err x) h s = s
edit_given edit c new p name e list (Ok false) h s = s
edit_given Insert c new p name e list (Ok true) h s = ap (add c p name) h ∙ added c new p name e (sets (edited_in Insert e (table_at c p name)) c new p name (at_table s))
  where
    at_table : MapChanges (λ rs ts. TableMakes (edited_in Insert e (named name ts)) name rs ts) p c new → MapChanges (TableMakes (edited_in Insert e (table_at c p name)) name) p c new
    at_table m = record { rules = m.rules; tables = m.tables; skip = m.skip; is = m.is; made = m.made; few = m.few }
edit_given Remove c new p name e list (Ok true) h s = ap (delete c p name) h ∙ deleted c new p name e (sets (edited_in Remove e (table_at c p name)) c new p name (at_table s))
  where
    at_table : MapChanges (λ rs ts. TableMakes (edited_in Remove e (named name ts)) name rs ts) p c new → MapChanges (TableMakes (edited_in Remove e (table_at c p name)) name) p c new
    at_table m = record { rules = m.rules; tables = m.tables; skip = m.skip; is = m.is; made = m.made; few = m.few }

pub one_is : {X : Type 0} (xs : List X) (x : X) → 1 ≤ length xs → length xs < 2 → x ≡ get_or xs 0 x → xs ≡ x ∷ []
one_is [] x h k g = absurd (omega (arith, h))
one_is {X} (y ∷ []) x h k g = ap (λ (z : X). z ∷ []) (sym g)
one_is (y ∷ z ∷ xs) x h k g = absurd (omega (arith, k))

pub none_is : {X : Type 0} (xs : List X) → length xs ≡ 0 → xs ≡ []
none_is [] h = refl
none_is (x ∷ xs) h = absurd (omega (arith, h))
