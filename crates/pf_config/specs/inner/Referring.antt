-- The names of tables that rules refer to, gathered.
use Rattle.std.specs.Prelude.{◌≡◌, ℕ, Bool, ◌||◌, not, List, map, Option, Some, None}
use Rattle.std.specs.List.{list_any}
use Rattle.std.specs.Global.{Vec}
use Rattle.pf_rules.specs.Names.{Name}
use Rattle.pf_tables.specs.Tables.{TableValue}
use Rattle.pf_config.specs.Map.{AnchorValue}
use Rattle.pf_config.specs.Changes.{refer, is_nothing}
use Rattle.pf_config.specs.SkippedNames.{is_listed}

-- the names that a set has as its keys
abbrev pub names_in : List (Vec ℕ) → List Name
names_in keys = map (λ k. k.items) keys

-- the new names are the old ones and those that pass
abbrev pub Gains : List Name → (Name → Bool) → List Name → Type 0
Gains old passes new = (name : Name) → is_listed name new ≡ (passes name || is_listed name old)

-- these are just the names that pass
abbrev pub AreJust : List Name → (Name → Bool) → Type 0
AreJust names passes = (name : Name) → is_listed name names ≡ passes name

-- the names, if they were gathered, are those of tables that some rule refers to
abbrev pub KnowsAll : Option (List Name) → List AnchorValue → Type 0
KnowsAll None anchors = Unit {0}
KnowsAll (Some names) anchors = AreJust names (λ name. list_any (refer name) anchors)

-- the table persists, or its name is among these
abbrev pub stays_by : List Name → Name × TableValue → Bool
stays_by names t = t.1.persist || is_listed t.0 names

-- it neither persists nor is its name among these
abbrev pub goes_by : List Name → Name × TableValue → Bool
goes_by names t = not (stays_by names t)

-- a table that may go
abbrev pub is_fleeting : Name × TableValue → Bool
is_fleeting t = not t.1.persist

-- the entry holds nothing, or a table that may go
abbrev pub may_shed : AnchorValue → Bool
may_shed a = is_nothing a || list_any is_fleeting a.tables

abbrev pub any_may_shed : List AnchorValue → Bool
any_may_shed anchors = list_any may_shed anchors
