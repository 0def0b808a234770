-- What takes its place at a path twice.
use Rattle.std.proofs.Common.{◌≡◌, true, false, ◌&&◌, cond, List, [], ◌∷◌, ◌++◌, Some, None, refl, sym, subst, ap, ◌∙◌, append_assoc}
use Rattle.std.specs.declared.cmp.Ordering.TheVariants.{Less}
use Rattle.std.specs.Prelude.{if◌then◌else◌, fold}
use Rattle.std.specs.Ordering.{is_lt, nat_cmp}
use Rattle.std.specs.Cmp.Lexicographic.{slice_cmp}
use Rattle.std.proofs.lemmas.Cmp.{tied_itself}
use Rattle.pf_rules.specs.Names.{Name}
use Rattle.pf_rules.specs.Items.{AnyRule}
use Rattle.pf_tables.specs.Tables.{TableValue}
use Rattle.pf_config.specs.Map.{AnchorValue, Path, path_eq, anchor_at, rules_in, tables_in}
use Rattle.pf_config.specs.Changes.{is_empty, is_path_before, anchors_before, anchors_behind, with_anchor, with_tables, without_unnamed, placed, tidied, loaded, defined, Block, Definition}
use Rattle.pf_config.specs.Trees.{own_entry}
use Rattle.pf_config.specs.inner.Trees.{with_text}
use Rattle.pf_config.proofs.Treed.{is_less, at_append, at_own, both_true, empty_is, path_same}
use Rattle.pf_config.proofs.Entries.{Sided, sides_join, unless_own, paths_total, turn}

-- a path before another is not behind it, and is another one
not_behind : (p q : Path) → is_path_before p q ≡ true → is_path_before q p ≡ false
not_behind p q h = ap is_lt (turn p q Less (is_less (slice_cmp (slice_cmp nat_cmp) p q) h))

before_is_other : (p q : Path) → is_path_before p q ≡ true → path_eq p q ≡ false
before_is_other p q h = (elim (path_eq p q) as (λ b. path_eq p q ≡ b → b ≡ false) [
  | true ↦ λ e. (let t : is_path_before q q ≡ true = subst (λ x. is_path_before x q ≡ true) (path_same p q e) h in let bad : true ≡ false = sym t ∙ ap is_lt (tied_itself paths_total q) in bad)
  | false ↦ λ e. refl
]) refl

behind_is_other : (p q : Path) → is_path_before q p ≡ true → path_eq p q ≡ false
behind_is_other p q h = (elim (path_eq p q) as (λ b. path_eq p q ≡ b → b ≡ false) [
  | true ↦ λ e. (let t : is_path_before q q ≡ true = subst (λ x. is_path_before q x ≡ true) (path_same p q e) h in let bad : true ≡ false = sym t ∙ ap is_lt (tied_itself paths_total q) in bad)
  | false ↦ λ e. refl
]) refl

-- ---- the sides of a path are its sides again

before_again : (p : Path) (es : List AnchorValue) → Sided p (anchors_before p es) (anchors_before p es) []
before_again p [] = record { first = refl; last = refl }
before_again p (a ∷ es) =
    let rest = before_again p es in
    (elim (is_path_before a.path p) as (λ b. is_path_before a.path p ≡ b → Sided p (cond b (a ∷ anchors_before p es) (anchors_before p es)) (cond b (a ∷ anchors_before p es) (anchors_before p es)) []) [
      | true ↦ λ h. record { first = rw h (ap (λ (r : List AnchorValue). a ∷ r) rest.first); last = rw (not_behind a.path p h) rest.last }
      | false ↦ λ h. rest
    ]) refl

behind_again : (p : Path) (es : List AnchorValue) → Sided p (anchors_behind p es) [] (anchors_behind p es)
behind_again p [] = record { first = refl; last = refl }
behind_again p (a ∷ es) =
    let rest = behind_again p es in
    (elim (is_path_before p a.path) as (λ b. is_path_before p a.path ≡ b → Sided p (cond b (a ∷ anchors_behind p es) (anchors_behind p es)) [] (cond b (a ∷ anchors_behind p es) (anchors_behind p es))) [
      | true ↦ λ h. record { first = rw (not_behind p a.path h) rest.first; last = rw h (ap (λ (r : List AnchorValue). a ∷ r) rest.last) }
      | false ↦ λ h. rest
    ]) refl

append_none : (es : List AnchorValue) → es ++ [] ≡ es
append_none [] = refl
append_none (a ∷ es) = ap (λ (r : List AnchorValue). a ∷ r) (append_none es)

-- what stood at the path makes no difference
same_place : (p : Path) (rules rules' : List AnyRule) (tables tables' : List (Name × TableValue)) (es : List AnchorValue) → with_anchor (record { path = p; rules = rules'; tables = tables' }) (with_anchor (record { path = p; rules = rules; tables = tables }) es) ≡ with_anchor (record { path = p; rules = rules'; tables = tables' }) es
unfolding with_anchor
same_place p rules rules' tables tables' es =
    let inner = sides_join p (anchors_before p es) (own_entry p rules tables) (anchors_before p es) [] [] [] (before_again p es) (unless_own p rules tables) in
    let whole = sides_join p (anchors_before p es ++ own_entry p rules tables) (anchors_behind p es) (anchors_before p es ++ []) [] [] (anchors_behind p es) inner (behind_again p es) in
    let first = whole.first ∙ append_none (anchors_before p es ++ []) ∙ append_none (anchors_before p es) in
    rw (first, whole.last) refl

-- ---- what is at the path

none_before : (p : Path) (es : List AnchorValue) → anchor_at p (anchors_before p es) ≡ None
none_before p [] = refl
none_before p (a ∷ es) =
    (elim (is_path_before a.path p) as (λ b. is_path_before a.path p ≡ b → anchor_at p (cond b (a ∷ anchors_before p es) (anchors_before p es)) ≡ None) [
      | true ↦ λ h. rw (before_is_other a.path p h) (none_before p es)
      | false ↦ λ h. none_before p es
    ]) refl

none_behind : (p : Path) (es : List AnchorValue) → anchor_at p (anchors_behind p es) ≡ None
none_behind p [] = refl
none_behind p (a ∷ es) =
    (elim (is_path_before p a.path) as (λ b. is_path_before p a.path ≡ b → anchor_at p (cond b (a ∷ anchors_behind p es) (anchors_behind p es)) ≡ None) [
      | true ↦ λ h. rw (behind_is_other a.path p h) (none_behind p es)
      | false ↦ λ h. none_behind p es
    ]) refl

stored_at : (p : Path) (rules : List AnyRule) (tables : List (Name × TableValue)) (es : List AnchorValue) → anchor_at p (with_anchor (record { path = p; rules = rules; tables = tables }) es) ≡ (if is_empty rules && is_empty tables then None else Some (record { path = p; rules = rules; tables = tables }))
unfolding with_anchor
stored_at p rules tables es =
    ap (anchor_at p) (append_assoc (anchors_before p es) (own_entry p rules tables) (anchors_behind p es))
    ∙ at_append p (anchors_before p es) (own_entry p rules tables ++ anchors_behind p es) (none_before p es)
    ∙ at_own p rules tables (anchors_behind p es) (none_behind p es)

rules_stored : (p : Path) (rules : List AnyRule) (tables : List (Name × TableValue)) (es : List AnchorValue) → rules_in (anchor_at p (with_anchor (record { path = p; rules = rules; tables = tables }) es)) ≡ rules
rules_stored p rules tables es = ap rules_in (stored_at p rules tables es) ∙ (elim (is_empty rules && is_empty tables) as (λ b. is_empty rules && is_empty tables ≡ b → rules_in (if b then None else Some (record { path = p; rules = rules; tables = tables })) ≡ rules) [ true ↦ λ e. sym (empty_is rules (both_true (is_empty rules) (is_empty tables) e).0) | false ↦ λ e. refl ]) refl

tables_stored : (p : Path) (rules : List AnyRule) (tables : List (Name × TableValue)) (es : List AnchorValue) → tables_in (anchor_at p (with_anchor (record { path = p; rules = rules; tables = tables }) es)) ≡ tables
tables_stored p rules tables es = ap tables_in (stored_at p rules tables es) ∙ (elim (is_empty rules && is_empty tables) as (λ b. is_empty rules && is_empty tables ≡ b → tables_in (if b then None else Some (record { path = p; rules = rules; tables = tables })) ≡ tables) [ true ↦ λ e. sym (empty_is tables (both_true (is_empty rules) (is_empty tables) e).1) | false ↦ λ e. refl ]) refl

-- ---- rules first and tables then, or both at once

once : (own : Block) (definitions : List Definition) (anchors : List AnchorValue) → with_text own definitions (without_unnamed own.path anchors) ≡ with_tables own.path (fold defined (tables_in (anchor_at own.path (placed anchors own))) definitions) (placed anchors own)
once own definitions anchors =
    let p = own.path in
    let left = without_unnamed p anchors in
    let old = tables_in (anchor_at p left) in
    let Made : List AnyRule → List (Name × TableValue) → List AnchorValue = λ rules tables. with_anchor (record { path = p; rules = rules; tables = fold defined tables definitions }) (placed anchors own) in
    sym (ap (λ rules. Made rules (tables_in (anchor_at p (placed anchors own)))) (rules_stored p own.rules old left)
    ∙ ap (Made own.rules) (tables_stored p own.rules old left)
    ∙ same_place p own.rules own.rules old (fold defined old definitions) left)

pub loaded_is : (own : Block) (definitions : List Definition) (blocks : List Block) (anchors : List AnchorValue) → tidied (fold placed (with_text own definitions (without_unnamed own.path anchors)) blocks) ≡ loaded own definitions blocks anchors
loaded_is own definitions blocks anchors = ap (λ r. tidied (fold placed r blocks)) (once own definitions anchors)
