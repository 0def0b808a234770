-- Walks down the tree, and the parts of the map that they come to.
use Rattle.std.proofs.Common.{◌≡◌, Bool, true, false, cond, List, [], ◌∷◌, ◌++◌, Option, Some, None, length, drop, refl, sym, subst, ap, ◌∙◌, append_assoc}
use Rattle.std.specs.Prelude.{find, fold, map, option_map, if◌then◌else◌}
use Rattle.std.specs.List.{starts_with}
use Rattle.std.specs.Str.{bytes_eq}
use Rattle.pf_rules.specs.Names.{Name}
use Rattle.pf_config.specs.Map.{AnchorValue, Path, anchor_at, path_eq, rules_in, tables_in, names_after, put_name, followed_by}
use Rattle.pf_config.specs.Changes.{is_empty}
use Rattle.pf_config.specs.Trees.{AnchorTree, part_below, some_part, child_at, and_then, tree_at, anchor_in, last_name, path_in}
use Rattle.pf_config.specs.inner.Trees.{names_held}
use Rattle.pf_config.proofs.PathFronts.{starts_with_both, own_front}
use Rattle.pf_config.proofs.Treed.{both_true, last_of}
use Rattle.pf_config.proofs.Kids.{names_part}

-- what begins with a path and more begins with the path
pub begins_chain : (q p r : Path) → starts_with bytes_eq q (p ++ r) ≡ true → starts_with bytes_eq q p ≡ true
begins_chain q p r h = (both_true (starts_with bytes_eq q p) (starts_with bytes_eq (drop (length p) q) r) (sym (starts_with_both q p r) ∙ h)).0

part_twice : (p r : Path) (es : List AnchorValue) → part_below (p ++ r) (part_below p es) ≡ part_below (p ++ r) es
part_twice p r [] = refl
part_twice p r (a ∷ es) =
    (elim (starts_with bytes_eq a.path (p ++ r)) as (λ b. starts_with bytes_eq a.path (p ++ r) ≡ b → part_below (p ++ r) (cond (starts_with bytes_eq a.path p) (a ∷ part_below p es) (part_below p es)) ≡ cond b (a ∷ part_below (p ++ r) es) (part_below (p ++ r) es)) [
      | true ↦ λ h. rw (begins_chain a.path p r h, h) (ap (λ (x : List AnchorValue). a ∷ x) (part_twice p r es))
      | false ↦ λ h. elim (starts_with bytes_eq a.path p) as (λ b. part_below (p ++ r) (cond b (a ∷ part_below p es) (part_below p es)) ≡ part_below (p ++ r) es) [ true ↦ rw h (part_twice p r es) | false ↦ part_twice p r es ]
    ]) refl

-- a walk down reaches the part of the map below the path
pub walk_is : (p : Path) (n : Name) (r : Path) (es : List AnchorValue) → tree_at (record { names = p; anchors = es }) (n ∷ r) ≡ some_part (p ++ n ∷ r) (part_below (p ++ n ∷ r) es)
walk_is p n [] es = go (part_below (p ++ n ∷ []) es)
  where
    go : (fs : List AnchorValue) → and_then (some_part (p ++ n ∷ []) fs) (λ k. Some k) ≡ some_part (p ++ n ∷ []) fs
    go [] = refl
    go (f ∷ fs) = refl
walk_is p n (m ∷ r) es =
    let on : (fs : List AnchorValue) → tree_at (record { names = p ++ n ∷ []; anchors = fs }) (m ∷ r) ≡ some_part ((p ++ n ∷ []) ++ m ∷ r) (part_below ((p ++ n ∷ []) ++ m ∷ r) fs) = λ fs. walk_is (p ++ n ∷ []) m r fs in
    let inner : and_then (some_part (p ++ n ∷ []) (part_below (p ++ n ∷ []) es)) (λ k. tree_at k (m ∷ r)) ≡ some_part ((p ++ n ∷ []) ++ m ∷ r) (part_below ((p ++ n ∷ []) ++ m ∷ r) (part_below (p ++ n ∷ []) es)) = go (part_below (p ++ n ∷ []) es) on in
    inner ∙ ap (some_part ((p ++ n ∷ []) ++ m ∷ r)) (part_twice (p ++ n ∷ []) (m ∷ r) es) ∙ ap (λ q. some_part q (part_below q es)) (append_assoc p (n ∷ []) (m ∷ r))
  where
    go : (fs : List AnchorValue) → ((gs : List AnchorValue) → tree_at (record { names = p ++ n ∷ []; anchors = gs }) (m ∷ r) ≡ some_part ((p ++ n ∷ []) ++ m ∷ r) (part_below ((p ++ n ∷ []) ++ m ∷ r) gs)) → and_then (some_part (p ++ n ∷ []) fs) (λ k. tree_at k (m ∷ r)) ≡ some_part ((p ++ n ∷ []) ++ m ∷ r) (part_below ((p ++ n ∷ []) ++ m ∷ r) fs)
    go [] on = refl
    go (f ∷ fs) on = on (f ∷ fs)

pub walk_down : (es : List AnchorValue) (p : Path) → tree_at (record { names = []; anchors = es }) p ≡ anchor_in es p
walk_down es [] = refl
walk_down es (n ∷ r) = walk_is [] n r es

pub walk_on : (t : AnchorTree) (p r : Path) → tree_at t (p ++ r) ≡ and_then (tree_at t p) (λ k. tree_at k r)
walk_on t [] r = refl
walk_on t (n ∷ p) r = go (child_at t n) (λ k. walk_on k p r)
  where
    go : (o : Option AnchorTree) → ((k : AnchorTree) → tree_at k (p ++ r) ≡ and_then (tree_at k p) (λ j. tree_at j r)) → and_then o (λ k. tree_at k (p ++ r)) ≡ and_then (and_then o (λ k. tree_at k p)) (λ j. tree_at j r)
    go None on = refl
    go (Some k) on = on k

-- ---- what is found there

at_part : (p : Path) (es : List AnchorValue) → anchor_at p (part_below p es) ≡ anchor_at p es
at_part p [] = refl
at_part p (a ∷ es) =
    (elim (path_eq a.path p) as (λ b. path_eq a.path p ≡ b → anchor_at p (cond (starts_with bytes_eq a.path p) (a ∷ part_below p es) (part_below p es)) ≡ cond b (Some a) (anchor_at p es)) [
      | true ↦ λ h. rw (own_front a.path p h, h) refl
      | false ↦ λ h. elim (starts_with bytes_eq a.path p) as (λ b. anchor_at p (cond b (a ∷ part_below p es) (part_below p es)) ≡ anchor_at p es) [ true ↦ rw h (at_part p es) | false ↦ at_part p es ]
    ]) refl

-- what an anchor has at its own path
abbrev pub own_at : Option AnchorTree → Option AnchorValue
own_at None = None
own_at (Some t) = anchor_at t.names t.anchors

some_at : (p : Path) (fs : List AnchorValue) → own_at (some_part p fs) ≡ anchor_at p fs
some_at p [] = refl
some_at p (f ∷ fs) = refl

pub found_at : (es : List AnchorValue) (p : Path) → own_at (anchor_in es p) ≡ anchor_at p es
found_at es [] = refl
found_at es (n ∷ r) = some_at (n ∷ r) (part_below (n ∷ r) es) ∙ at_part (n ∷ r) es

part_itself : (es : List AnchorValue) → part_below [] es ≡ es
part_itself [] = refl
part_itself (a ∷ es) = ap (λ (r : List AnchorValue). a ∷ r) (part_itself es)

held_part : (p : Path) (fs : List AnchorValue) → and_then (some_part p fs) names_held ≡ (if is_empty fs then None else Some p)
held_part p [] = refl
held_part p (f ∷ fs) = refl

held : (es : List AnchorValue) (p : Path) → and_then (anchor_in es p) names_held ≡ path_in es p
held es [] = ap (λ fs. if is_empty fs then None else Some []) (sym (part_itself es))
held es (n ∷ r) = held_part (n ∷ r) (part_below (n ∷ r) es)

-- ---- what the calls answer

-- below an anchor of the map a path is found just where the whole path is found in the map
pub found_below : (es : List AnchorValue) (p r : Path) → and_then (and_then (anchor_in es p) (λ k. tree_at k r)) names_held ≡ path_in es (p ++ r)
found_below es p r =
    let main : AnchorTree = record { names = []; anchors = es } in
    ap (λ o. and_then (and_then o (λ k. tree_at k r)) names_held) (sym (walk_down es p)) ∙ ap (λ o. and_then o names_held) (sym (walk_on main p r) ∙ walk_down es (p ++ r)) ∙ held es (p ++ r)

-- of paths with one name more the first whose last name passes
pub first_kid : (test : Name → Bool) (p : Path) (ns : List Name) → find (λ q. test (last_name q)) (map (followed_by p) ns) ≡ option_map (followed_by p) (find test ns)
first_kid test p [] = refl
first_kid test p (n ∷ ns) = rw (last_of p n) (elim (test n) as (λ b. cond b (Some (p ++ n ∷ [])) (find (λ q. test (last_name q)) (map (followed_by p) ns)) ≡ option_map (followed_by p) (cond b (Some n) (find test ns))) [ true ↦ refl | false ↦ first_kid test p ns ])

pub found_rules : (es : List AnchorValue) (p : Path) (t : AnchorTree) → Some t ≡ anchor_in es p → rules_in (anchor_at t.names t.anchors) ≡ rules_in (anchor_at p es)
found_rules es p t h = ap (λ o. rules_in (own_at o)) h ∙ ap rules_in (found_at es p)

pub found_tables : (es : List AnchorValue) (p : Path) (t : AnchorTree) → Some t ≡ anchor_in es p → tables_in (anchor_at t.names t.anchors) ≡ tables_in (anchor_at p es)
found_tables es p t h = ap (λ o. tables_in (own_at o)) h ∙ ap tables_in (found_at es p)

pub nothing_found : (es : List AnchorValue) (p : Path) → None ≡ anchor_in es p → anchor_at p es ≡ None
nothing_found es p h = sym (found_at es p) ∙ ap own_at (sym h)

some_fields : (p q : Path) (fs : List AnchorValue) (t : AnchorTree) → Some t ≡ some_part p fs → (t.names ≡ p) × (t.anchors ≡ fs)
some_fields p q [] t h = cc
some_fields p q (f ∷ fs) t h = let e : t ≡ record { names = p; anchors = f ∷ fs } = cc in (ap (λ (x : AnchorTree). x.names) e, ap (λ (x : AnchorTree). x.anchors) e)

none_part : (p : Path) (fs : List AnchorValue) → None ≡ some_part p fs → fs ≡ []
none_part p [] h = refl
none_part p (f ∷ fs) h = cc

-- the names below a path are those below the anchor there
pub names_found : (es : List AnchorValue) (p : Path) (t : AnchorTree) → Some t ≡ anchor_in es p → (t.names ≡ p) × (names_after t.names t.anchors ≡ names_after p es)
names_found es [] t h = let e : t ≡ record { names = []; anchors = es } = cc in (ap (λ (x : AnchorTree). x.names) e, ap (λ (x : AnchorTree). names_after x.names x.anchors) e)
names_found es (n ∷ r) t h =
    let f = some_fields (n ∷ r) [] (part_below (n ∷ r) es) t h in
    (f.0, ap (λ q. names_after q t.anchors) f.0 ∙ ap (names_after (n ∷ r)) f.1 ∙ names_part (n ∷ r) es)

pub no_names_found : (es : List AnchorValue) (p : Path) → None ≡ anchor_in es p → names_after p es ≡ []
no_names_found es [] h = cc
no_names_found es (n ∷ r) h = sym (names_part (n ∷ r) es) ∙ ap (names_after (n ∷ r)) (none_part (n ∷ r) (part_below (n ∷ r) es) h)

pub main_down : (t : AnchorTree) (p : Path) → t.names ≡ [] → tree_at t p ≡ anchor_in t.anchors p
main_down t p h = subst (λ (q : Path). tree_at (record { names = q; anchors = t.anchors }) p ≡ anchor_in t.anchors p) (sym h) (walk_down t.anchors p)

pub no_rules_found : (es : List AnchorValue) (p : Path) → None ≡ anchor_in es p → [] ≡ rules_in (anchor_at p es)
no_rules_found es p h = sym (ap rules_in (nothing_found es p h))

pub no_tables_found : (es : List AnchorValue) (p : Path) → None ≡ anchor_in es p → [] ≡ tables_in (anchor_at p es)
no_tables_found es p h = sym (ap tables_in (nothing_found es p h))

pub kids_found : (es : List AnchorValue) (p : Path) (t : AnchorTree) → Some t ≡ anchor_in es p → map (followed_by t.names) (fold put_name [] (names_after t.names t.anchors)) ≡ map (followed_by p) (fold put_name [] (names_after p es))
kids_found es p t h = let f = names_found es p t h in ap (λ ns. map (followed_by t.names) (fold put_name [] ns)) f.1 ∙ ap (λ q. map (followed_by q) (fold put_name [] (names_after p es))) f.0

pub no_kids_found : (es : List AnchorValue) (p : Path) → None ≡ anchor_in es p → [] ≡ map (followed_by p) (fold put_name [] (names_after p es))
no_kids_found es p h = ap (λ ns. map (followed_by p) (fold put_name [] ns)) (sym (no_names_found es p h))
