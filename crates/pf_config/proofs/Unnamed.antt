-- Unnamed blocks below a path are asked of the anchor there.
use Rattle.std.proofs.Common.{◌≡◌, Bool, true, false, ◌&&◌, ◌||◌, List, [], ◌∷◌, ◌++◌, Option, Some, None, refl, sym, ap, ◌∙◌}
use Rattle.std.specs.Prelude.{if◌then◌else◌}
use Rattle.std.specs.List.{list_any, starts_with}
use Rattle.std.specs.Str.{bytes_eq}
use Rattle.pf_rules.specs.Names.{Name, begins_below}
use Rattle.pf_rules.specs.Items.{AnyRule}
use Rattle.pf_tables.specs.Tables.{TableValue}
use Rattle.pf_config.specs.Map.{AnchorValue, Path, name_after, names_after}
use Rattle.pf_config.specs.Changes.{is_empty}
use Rattle.pf_config.specs.Trees.{AnchorTree, below, own_entry, last_name, AreKids, anchor_in}
use Rattle.pf_config.specs.inner.Trees.{passes, any_unnamed}
use Rattle.pf_config.proofs.Treed.{both_true, begins, kid_begins}
use Rattle.pf_config.proofs.Kids.{after_is, after_own}
use Rattle.pf_config.proofs.Descents.{names_found, no_names_found}

-- ---- the names after a path tell

unnamed_names : (p : Path) (es : List AnchorValue) → any_unnamed p es ≡ list_any begins_below (names_after p es)
unnamed_names p [] = refl
unnamed_names p (a ∷ es) = go (unnamed_names p es) (name_after p a.path) refl
  where
    go : any_unnamed p es ≡ list_any begins_below (names_after p es) → (o : Option Name) → name_after p a.path ≡ o → any_unnamed p (a ∷ es) ≡ list_any begins_below (names_after p (a ∷ es))
    go rest None e = rw e rest
    go rest (Some n) e = rw e (ap (λ b. begins_below n || b) rest)

pub found_unnamed : (es : List AnchorValue) (p : Path) (t : AnchorTree) → Some t ≡ anchor_in es p → any_unnamed t.names t.anchors ≡ any_unnamed p es
found_unnamed es p t h = unnamed_names t.names t.anchors ∙ ap (list_any begins_below) (names_found es p t h).1 ∙ sym (unnamed_names p es)

pub none_found_unnamed : (es : List AnchorValue) (p : Path) → None ≡ anchor_in es p → false ≡ any_unnamed p es
none_found_unnamed es p h = sym (unnamed_names p es ∙ ap (list_any begins_below) (no_names_found es p h))

-- ---- the names of the kids tell

or_twice : (a b : Bool) → (a || (a || b)) ≡ (a || b)
or_twice true b = refl
or_twice false b = refl

unnamed_kid : (p : Path) (m : Name) (es fs : List AnchorValue) → begins (p ++ m ∷ []) es ≡ true → is_empty es ≡ false → any_unnamed p (es ++ fs) ≡ (begins_below m || any_unnamed p fs)
unnamed_kid p m [] fs h e = cc
unnamed_kid p m (a ∷ []) fs h e = let both = both_true (starts_with bytes_eq a.path (p ++ m ∷ [])) true h in rw (after_is p m a.path both.0) refl
unnamed_kid p m (a ∷ b ∷ es) fs h e =
    let both = both_true (starts_with bytes_eq a.path (p ++ m ∷ [])) (begins (p ++ m ∷ []) (b ∷ es)) h in
    rw (after_is p m a.path both.0) (ap (λ x. begins_below m || x) (unnamed_kid p m (b ∷ es) fs both.1 refl) ∙ or_twice (begins_below m) (any_unnamed p fs))

unnamed_own : (p : Path) (rules : List AnyRule) (tables : List (Name × TableValue)) (fs : List AnchorValue) → any_unnamed p (own_entry p rules tables ++ fs) ≡ any_unnamed p fs
unnamed_own p rules tables fs = elim (is_empty rules && is_empty tables) as (λ b. any_unnamed p ((if b then [] else record { path = p; rules = rules; tables = tables } ∷ []) ++ fs) ≡ any_unnamed p fs) [ true ↦ refl | false ↦ rw (after_own p) refl ]

unnamed_below : (p : Path) (ks : List AnchorTree) → AreKids p ks → any_unnamed p (below ks) ≡ list_any (passes begins_below) ks
unnamed_below p [] h = refl
unnamed_below p (k ∷ ks) h = unnamed_kid p (last_name k.names) k.anchors (below ks) (kid_begins p k h.0) h.0.1 ∙ ap (λ b. begins_below (last_name k.names) || b) (unnamed_below p ks h.2)

pub kids_unnamed : (p : Path) (rules : List AnyRule) (tables : List (Name × TableValue)) (ks : List AnchorTree) → AreKids p ks → list_any (passes begins_below) ks ≡ any_unnamed p (own_entry p rules tables ++ below ks)
kids_unnamed p rules tables ks h = sym (unnamed_own p rules tables (below ks) ∙ unnamed_below p ks h)
