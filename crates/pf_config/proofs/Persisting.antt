-- Where each table persists, a load removes none but its own.
use Rattle.std.proofs.Common.{◌≡◌, Bool, true, false, ◌&&◌, ◌||◌, cond, List, [], ◌∷◌, ◌++◌, Option, Some, None, Ok, Err, length, refl, sym, subst, ap, ◌∙◌, arith}
use Rattle.std.specs.Prelude.{if◌then◌else◌, not, nat_lt, filter, fold, Result, MatchResult}
use Rattle.std.specs.List.{list_any}
use Rattle.std.specs.Str.{bytes_eq}
use Rattle.std.proofs.lemmas.Bool.Decides.{nat_tests}
use Rattle.pf_rules.specs.Names.{Name, is_before}
use Rattle.pf_rules.specs.Items.{AnyRule}
use Rattle.pf_tables.specs.Tables.{TableValue}
use Rattle.pf_tables.specs.Contents.{edited}
use Rattle.pf_config.specs.declared.change.Change.{Change}
use Rattle.pf_config.specs.declared.change.Change.TheVariants.{Entry, Whole, Own}
use Rattle.pf_config.specs.declared.fault.ConfigFault.TheVariants.{AnchorsFull}
use Rattle.pf_config.specs.Map.{Configuration, AnchorValue, Path, path_eq, anchor_at, rules_at, tables_in, tables_at, named}
use Rattle.pf_config.specs.Changes.{Block, Definition, is_nothing, is_empty, unless_nothing, is_path_before, anchors_before, anchors_behind, with_anchor, with_table, with_contents, tables_before, tables_behind, tidied, loaded, defined, unless_full}
use Rattle.pf_config.specs.inner.Trees.{is_idle, any_sheds, any_unnamed, with_text}
use Rattle.pf_config.specs.inner.Referring.{is_fleeting, may_shed, any_may_shed}
use Rattle.pf_config.specs.inner.TableChanges.{edited_in, has_room, Takes, IsGiven, Makes, makes_fleeting, MapChanges, MapChangesIf, LoadsIf}
use Rattle.pf_config.proofs.Cut.{or_false, not_false, none_sheds, none_unnamed}
use Rattle.pf_config.proofs.Changing.{config_with}
use Rattle.pf_config.proofs.Twice.{loaded_is}

-- ---- nothing that may go

none_idle : (all : List AnchorValue) (a : AnchorValue) (tables : List (Name × TableValue)) → list_any is_fleeting tables ≡ false → list_any (is_idle all a) tables ≡ false
none_idle all a [] h = refl
none_idle all a (t ∷ tables) h = let both = or_false (is_fleeting t) (list_any is_fleeting tables) h in rw (not_false t.1.persist both.0) (none_idle all a tables both.1)

none_shed : (all es : List AnchorValue) → any_may_shed es ≡ false → any_sheds all es ≡ false
none_shed all [] h = refl
none_shed all (a ∷ es) h =
    let both = or_false (may_shed a) (any_may_shed es) h in
    let own = or_false (is_nothing a) (list_any is_fleeting a.tables) both.0 in
    rw (own.0, none_idle all a a.tables own.1) (none_shed all es both.1)

-- ---- an entry takes its place

any_join : {X : Type 0} (t : X → Bool) (xs ys : List X) → list_any t xs ≡ false → list_any t ys ≡ false → list_any t (xs ++ ys) ≡ false
any_join t [] ys h k = k
any_join t (x ∷ xs) ys h k = let both = or_false (t x) (list_any t xs) h in rw both.0 (any_join t xs ys both.1 k)

any_kept : {X : Type 0} (t keep : X → Bool) (xs : List X) → list_any t xs ≡ false → list_any t (filter keep xs) ≡ false
any_kept t keep [] h = refl
any_kept t keep (x ∷ xs) h =
    let both = or_false (t x) (list_any t xs) h in
    let rest = any_kept t keep xs both.1 in
    elim (keep x) as (λ b. list_any t (cond b (x ∷ filter keep xs) (filter keep xs)) ≡ false) [ true ↦ rw both.0 rest | false ↦ rest ]

with_none : (a : AnchorValue) (es : List AnchorValue) → any_may_shed es ≡ false → list_any is_fleeting a.tables ≡ false → any_may_shed (with_anchor a es) ≡ false
unfolding with_anchor
with_none a es h k =
    let one : any_may_shed (unless_nothing a) ≡ false = (elim (is_nothing a) as (λ b. is_nothing a ≡ b → any_may_shed (if b then [] else a ∷ []) ≡ false) [ true ↦ λ e. refl | false ↦ λ e. rw (e, k) refl ]) refl in
    let before = any_kept may_shed (λ (b : AnchorValue). is_path_before b.path a.path) es h in
    let behind = any_kept may_shed (λ (b : AnchorValue). is_path_before a.path b.path) es h in
    any_join may_shed (anchors_before a.path es ++ unless_nothing a) (anchors_behind a.path es) (any_join may_shed (anchors_before a.path es) (unless_nothing a) before one) behind

none_at : (p : Path) (es : List AnchorValue) → any_may_shed es ≡ false → list_any is_fleeting (tables_in (anchor_at p es)) ≡ false
none_at p [] h = refl
none_at p (a ∷ es) h =
    let both = or_false (may_shed a) (any_may_shed es) h in
    let own = or_false (is_nothing a) (list_any is_fleeting a.tables) both.0 in
    elim (path_eq a.path p) as (λ b. list_any is_fleeting (tables_in (cond b (Some a) (anchor_at p es))) ≡ false) [ true ↦ own.1 | false ↦ none_at p es both.1 ]

-- ---- a change

table_none : (tables : List (Name × TableValue)) (name : Name) (v : TableValue) → list_any is_fleeting tables ≡ false → v.persist ≡ true → list_any is_fleeting (with_table tables name v) ≡ false
table_none tables name v h k =
    let before = any_kept is_fleeting (λ (t : Name × TableValue). is_before t.0 name) tables h in
    let behind = any_kept is_fleeting (λ (t : Name × TableValue). is_before name t.0) tables h in
    let rest : list_any is_fleeting ((name, v) ∷ tables_behind name tables) ≡ false = rw k behind in
    any_join is_fleeting (tables_before name tables) ((name, v) ∷ tables_behind name tables) before rest

named_persists : (name : Name) (tables : List (Name × TableValue)) (v : TableValue) → list_any is_fleeting tables ≡ false → named name tables ≡ Some v → v.persist ≡ true
named_persists name [] v h e = cc
named_persists name (t ∷ tables) v h e =
    let both = or_false (is_fleeting t) (list_any is_fleeting tables) h in
    (elim (bytes_eq t.0 name) as (λ b. cond b (Some t.1) (named name tables) ≡ Some v → v.persist ≡ true) [
      | true ↦ λ f. (let s : t.1 ≡ v = cc in subst (λ (x : TableValue). x.persist ≡ true) s (not_false t.1.persist both.0))
      | false ↦ λ f. named_persists name tables v both.1 f
    ]) e

made_none : (change : Change) (rules rules' : List AnyRule) (tables tables' : List (Name × TableValue)) → Makes change rules tables rules' tables' → list_any is_fleeting tables ≡ false → makes_fleeting change ≡ false → list_any is_fleeting tables' ≡ false
made_none (Entry name e edit) rules rules' tables tables' m h k = go (named name.now tables) refl m.1
  where
    go : (o : Option TableValue) → named name.now tables ≡ o → Takes (edited_in edit e.now o) name.now tables tables' → list_any is_fleeting tables' ≡ false
    go None f c = (let bad : true ≡ false = c in cc)
    go (Some t) f c =
        let v = with_contents t (edited edit e.now t.entries) in
        (elim (not t.is_const && has_room edit (length t.entries)) as (λ b. Takes (if b then Some v else None) name.now tables tables' → list_any is_fleeting tables' ≡ false) [
          | true ↦ λ d. ap (list_any is_fleeting) d ∙ table_none tables name.now v h (named_persists name.now tables t h f)
          | false ↦ λ d. (let bad : true ≡ false = d in cc)
        ]) c
made_none (Whole name t) rules rules' tables tables' m h k = ap (list_any is_fleeting) m.1 ∙ table_none tables name.now t.now h (not_false t.now.persist k)
made_none (Own own) rules rules' tables tables' m h k = ap (list_any is_fleeting) m.1 ∙ k

-- after a change each table persists, if each did and the change's do
pub still_none : {X : Type 0} (res : Result Bool X) (change : Change) (p : Path) (old new : Configuration) (may : Bool) → (not may && any_may_shed old.anchors) ≡ false → MatchResult res (λ done. MapChangesIf done (Makes change) p old new) (λ x. new ≡ old) → (not (may || makes_fleeting change) && any_may_shed new.anchors) ≡ false
unfolding tables_at
still_none res change p old new true i c = refl
still_none {X} res change p old new false i c = go (makes_fleeting change) refl
  where
    all : (r : Result Bool X) → makes_fleeting change ≡ false → MatchResult r (λ done. MapChangesIf done (Makes change) p old new) (λ x. new ≡ old) → any_may_shed new.anchors ≡ false
    all (Err x) k d = ap (λ (c : Configuration). any_may_shed c.anchors) d ∙ i
    all (Ok false) k d = ap (λ (c : Configuration). any_may_shed c.anchors) d ∙ i
    all (Ok true) k d = ap any_may_shed d.is ∙ with_none (record { path = p; rules = d.rules; tables = d.tables }) old.anchors i (made_none change (rules_at old p) d.rules (tables_at old p) d.tables d.made (none_at p old.anchors i) k)

    go : (b : Bool) → makes_fleeting change ≡ b → (not b && any_may_shed new.anchors) ≡ false
    go true e = refl
    go false e = all res e c

-- ---- a load

alone : (own : Block) (definitions : List Definition) (rules : List AnyRule) (tables : List (Name × TableValue)) (old new : Configuration) → any_unnamed own.path old.anchors ≡ false → any_may_shed old.anchors ≡ false → list_any is_fleeting tables ≡ false → rules ≡ own.rules → tables ≡ fold defined (tables_in (anchor_at own.path old.anchors)) definitions → MapChanges (IsGiven rules tables) own.path old new →
    unless_full old.skip (loaded own definitions [] old.anchors) ≡ Ok new
unfolding tidied
alone own definitions rules tables old new u i f r t c =
    let is : new.anchors ≡ with_text own definitions old.anchors =
    c.is ∙ ap (λ (rs : List AnyRule). with_anchor (record { path = own.path; rules = rs; tables = c.tables }) old.anchors) (c.made.0 ∙ r) ∙ ap (λ (ts : List (Name × TableValue)). with_anchor (record { path = own.path; rules = own.rules; tables = ts }) old.anchors) (c.made.1 ∙ t) in
    let none : any_may_shed new.anchors ≡ false = ap any_may_shed c.is ∙ with_none (record { path = own.path; rules = c.rules; tables = c.tables }) old.anchors i (ap (list_any is_fleeting) c.made.1 ∙ f) in
    let tidy : tidied new.anchors ≡ new.anchors = none_sheds new.anchors new.anchors (none_shed new.anchors new.anchors none) in
    let whole : loaded own definitions [] old.anchors ≡ new.anchors =
    sym (loaded_is own definitions [] old.anchors) ∙ ap (λ es. tidied (with_text own definitions es)) (none_unnamed own.path old.anchors u) ∙ ap tidied (sym is) ∙ tidy in
    let few = c.few in
    let room : nat_lt 1024 (length new.anchors) ≡ false = grind (arith, nat_tests, few) in
    ap (λ es. if nat_lt 1024 (length es) then Err AnchorsFull else Ok (config_with old.skip es)) whole ∙ rw room (ap (λ (s : List Name). Ok (config_with s new.anchors)) (sym c.skip))

-- a load of rules and tables alone, whatever the call answers
pub load_alone : {X : Type 0} (res : Result Bool X) (own : Block) (definitions : List Definition) (blocks : List Block) (rules : List AnyRule) (tables : List (Name × TableValue)) (old new : Configuration) → is_empty own.path ≡ false → blocks ≡ [] → any_unnamed own.path old.anchors ≡ false → any_may_shed old.anchors ≡ false → list_any is_fleeting tables ≡ false → rules ≡ own.rules →
    tables ≡ fold defined (tables_in (anchor_at own.path old.anchors)) definitions → MatchResult res (λ done. MapChangesIf done (IsGiven rules tables) own.path old new) (λ x. new ≡ old) → MatchResult res (λ done. LoadsIf done own definitions blocks old new) (λ x. new ≡ old)
load_alone (Err x) own definitions blocks rules tables old new n b u i f r t c = c
load_alone (Ok false) own definitions blocks rules tables old new n b u i f r t c = c
load_alone (Ok true) own definitions blocks rules tables old new n b u i f r t c = (n, ap (λ bs. unless_full old.skip (loaded own definitions bs old.anchors)) b ∙ alone own definitions rules tables old new u i f r t c)
