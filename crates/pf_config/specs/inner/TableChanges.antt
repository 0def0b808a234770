-- A change in place: of one table, or of the rules and tables of a path.
use Rattle.std.specs.Prelude.{◌≡◌, ℕ, Bool, true, false, ◌&&◌, ◌<◌, ◌≤◌, List, [], ◌∷◌, ◌+◌, ◌++◌, length, map}
use Rattle.std.specs.Prelude.{take, drop, get_or, Option, Some, None, Result, Ok, find, not, nat_lt, if◌then◌else◌}
use Rattle.std.specs.List.{list_all, list_any}
use Rattle.pf_rules.specs.declared.ruleset.TableEntry.{TableEntry}
use Rattle.pf_rules.specs.Names.{Name, is_before}
use Rattle.pf_tables.specs.declared.edits.Edit.{Edit}
use Rattle.pf_tables.specs.declared.edits.Edit.TheVariants.{Insert, Remove}
use Rattle.pf_tables.specs.Tables.{TableValue}
use Rattle.pf_tables.specs.Contents.{edited}
use Rattle.pf_rules.specs.Items.{AnyRule}
use Rattle.pf_rules.specs.Seen.{rule_of}
use Rattle.pf_config.specs.Map.{Configuration, Path, named, rules_in, tables_in, AnchorValue, anchor_at}
use Rattle.pf_config.specs.Map.{rules_at, tables_at}
use Rattle.pf_config.specs.declared.change.Change.{Change}
use Rattle.pf_config.specs.declared.change.Change.TheVariants.{Entry, Whole, Own}
use Rattle.pf_config.specs.declared.fault.ConfigFault.{ConfigFault}
use Rattle.pf_config.specs.Changes.{is_empty, with_table, with_contents, with_anchor, add, delete}
use Rattle.pf_config.specs.Changes.{Block, Definition, loaded, unless_full}
use Rattle.pf_config.specs.inner.Referring.{is_fleeting}
use Rattle.pf_config.specs.Trees.{AnchorTree, and_then, tree_at}
use Rattle.pf_config.specs.inner.Trees.{is_named, kids_before, kids_behind, some_kid, anchors_of, placed_in}

-- ---- one table

-- a table of n entries has no more than it may have after the edit
abbrev pub has_room : Edit → ℕ → Bool
has_room Insert n = nat_lt n 4096
has_room Remove n = true

-- the table after the edit of an entry, none where the table is const or may be full
abbrev pub edited_table : Edit → TableEntry → TableValue → Option TableValue
edited_table edit e t = if not t.is_const && has_room edit (length t.entries) then
    Some (with_contents t (edited edit e t.entries)) else None

-- the same of a table that may be missing
abbrev pub edited_in : Edit → TableEntry → Option TableValue → Option TableValue
edited_in edit e None = None
edited_in edit e (Some t) = edited_table edit e t

-- the new table is the changed one, or the table is as it was
abbrev pub IsTableIf : Bool → Option TableValue → TableValue → TableValue → Type 0
IsTableIf true changed old new = changed ≡ Some new
IsTableIf false changed old new = new ≡ old

-- ---- the tables of a path

-- the table of that name has this index
pub record IsStoredAt (tables : List (Name × TableValue)) (name : Name) (at : ℕ) : Type 0 where
  pub within : at < length tables
  pub is : (t : Name × TableValue) → t ≡ get_or tables at t → t.0 ≡ name

-- there is no table of that name, and a new one gets this index
pub record BelongsAt (tables : List (Name × TableValue)) (name : Name) (at : ℕ) : Type 0 where
  pub within : at ≤ length tables
  pub before : list_all (λ (t : Name × TableValue). is_before t.0 name) (take at tables) ≡ true
  pub behind : list_all (λ (t : Name × TableValue). is_before name t.0) (drop at tables) ≡ true

-- there is a changed table, and the new list has it under its name
abbrev pub Takes : Option TableValue → Name → List (Name × TableValue) → List (Name × TableValue) → Type 0
Takes None name old new = true ≡ false
Takes (Some t) name old new = new ≡ with_table old name t

-- the same, or the tables are as they were
abbrev pub ChangesIf : Bool → Option TableValue → Name → List (Name × TableValue) → List (Name × TableValue) → Type 0
ChangesIf true changed name old new = Takes changed name old new
ChangesIf false changed name old new = new ≡ old

-- ---- the rules and tables of a path

-- how the rules and tables of a path are changed: the old ones, and the new ones
abbrev pub Changing : Type 1
Changing = List AnyRule → List (Name × TableValue) → List AnyRule → List (Name × TableValue) → Type 0

-- the new rules and tables are these
abbrev pub IsGiven : List AnyRule → List (Name × TableValue) → List AnyRule → List (Name × TableValue) →
    List AnyRule → List (Name × TableValue) → Type 0
IsGiven own held rules tables rules' tables' = (rules' ≡ own) × (tables' ≡ held)

-- what a change does
abbrev pub Makes : Change → List AnyRule → List (Name × TableValue) → List AnyRule → List (Name × TableValue) → Type 0
Makes (Entry name e edit) rules tables rules' tables' = (rules' ≡ rules) ×
    Takes (edited_in edit e.now (named name.now tables)) name.now tables tables'
Makes (Whole name t) rules tables rules' tables' = (rules' ≡ rules) × (tables' ≡ with_table tables name.now t.now)
Makes (Own own) rules tables rules' tables' = IsGiven (map rule_of own.now.items.value.items) own.now.tables rules
    tables rules' tables'

-- a table that it makes may go
abbrev pub makes_fleeting : Change → Bool
makes_fleeting (Entry name e edit) = false
makes_fleeting (Whole name t) = not t.now.persist
makes_fleeting (Own own) = list_any is_fleeting own.now.tables

-- rules and tables of which there are some are changed, or they are as they were
abbrev pub OwnChangesIf : Bool → Changing → List AnyRule → List (Name × TableValue) → List AnyRule →
    List (Name × TableValue) → Type 0
OwnChangesIf true by rules tables rules' tables' = ((is_empty rules' && is_empty tables') ≡ false) ×
    by rules tables rules' tables'
OwnChangesIf false by rules tables rules' tables' = (rules' ≡ rules) × (tables' ≡ tables)

-- ---- an anchor, and a configuration

-- the entry of an anchor's own path
abbrev pub own_of : Option AnchorTree → Option AnchorValue
own_of None = None
own_of (Some k) = anchor_at k.names k.anchors

-- whether there is an entry, as a number
abbrev pub count_of : Option AnchorValue → ℕ
count_of None = 0
count_of (Some a) = 1

-- the new anchor has changed rules and tables at a path below it, and one entry more if there was none
pub record TreeChanges (by : Changing) (rest : Path) (old new : AnchorTree) : Type 0 where
  pub rules : List AnyRule
  pub tables : List (Name × TableValue)
  pub is : new ≡ placed_in old rest rules tables
  pub made : let own = own_of (tree_at old rest) in by (rules_in own) (tables_in own) rules tables
  pub long : length new.anchors + count_of (own_of (tree_at old rest)) ≡ length old.anchors + 1

-- the same, or the anchor is as it was
abbrev pub TreeChangesIf : Bool → Changing → Path → AnchorTree → AnchorTree → Type 0
TreeChangesIf true by rest old new = TreeChanges by rest old new
TreeChangesIf false by rest old new = new ≡ old

-- of the anchors below a path the one of that name is changed, or comes in
pub record KidChanges (by : Changing) (p : Path) (n : Name) (rest : Path) (old new : List AnchorTree) : Type 0 where
  pub rules : List AnyRule
  pub tables : List (Name × TableValue)
  pub kid : AnchorTree
  pub all : new ≡ kids_before n old ++ (some_kid kid ++ kids_behind n old)
  pub is : kid ≡ placed_in (record { names = p ++ n ∷ []; anchors = anchors_of (find (is_named n) old) }) rest rules
      tables
  pub made : let own = own_of (and_then (find (is_named n) old) (λ k. tree_at k rest)) in by (rules_in own)
      (tables_in own) rules tables
  pub long : length kid.anchors + count_of (own_of (and_then (find (is_named n) old) (λ k. tree_at k rest))) ≡ length
      (anchors_of (find (is_named n) old)) + 1

-- the same, or the anchors are as they were
abbrev pub KidChangesIf : Bool → Changing → Path → Name → Path → List AnchorTree → List AnchorTree → Type 0
KidChangesIf true by p n rest old new = KidChanges by p n rest old new
KidChangesIf false by p n rest old new = new ≡ old

-- rules and tables, if there are any, of which there are some, and which are made of none
abbrev pub AreNew : Changing → Option (List AnyRule × List (Name × TableValue)) → Type 0
AreNew by None = Unit {0}
AreNew by (Some own) = ((is_empty own.0 && is_empty own.1) ≡ false) × by [] [] own.0 own.1

-- the new configuration has changed rules and tables at a path, and no more entries than it may have
pub record MapChanges (by : Changing) (p : Path) (old new : Configuration) : Type 0 where
  pub rules : List AnyRule
  pub tables : List (Name × TableValue)
  pub skip : new.skip ≡ old.skip
  pub is : new.anchors ≡ with_anchor (record { path = p; rules = rules; tables = tables }) old.anchors
  pub made : by (rules_at old p) (tables_at old p) rules tables
  pub few : length new.anchors ≤ 1024

-- the same, or the configuration is as it was
abbrev pub MapChangesIf : Bool → Changing → Path → Configuration → Configuration → Type 0
MapChangesIf true by p old new = MapChanges by p old new
MapChangesIf false by p old new = new ≡ old

-- what the command of an edit gives
abbrev pub commanded : Edit → Configuration → Path → Name → List TableEntry → Result Configuration ConfigFault
commanded Insert c p name list = add c p name list
commanded Remove c p name list = delete c p name list

-- the new configuration is the one given, or the configuration is as it was
abbrev pub GivesIf : Bool → Result Configuration ConfigFault → Configuration → Configuration → Type 0
GivesIf true given old new = given ≡ Ok new
GivesIf false given old new = new ≡ old

-- the new configuration is the one after a load at a path that isn't main's, or it is as it was
abbrev pub LoadsIf : Bool → Block → List Definition → List Block → Configuration → Configuration → Type 0
LoadsIf true own definitions blocks old new = (is_empty own.path ≡ false) ×
    (unless_full old.skip (loaded own definitions blocks old.anchors) ≡ Ok new)
LoadsIf false own definitions blocks old new = new ≡ old
