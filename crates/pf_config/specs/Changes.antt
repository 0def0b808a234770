-- The changes of a configuration.
use Rattle.std.specs.Prelude.{◌≡◌, Bool, true, false, ◌&&◌, ◌||◌, List, [], ◌∷◌}
use Rattle.std.specs.Prelude.{◌++◌, length, map, filter, fold, not, nat_lt, Option, Some, None, Result, Ok, Err}
use Rattle.std.specs.Prelude.{if◌then◌else◌, unwrap_or}
use Rattle.std.specs.List.{list_any}
use Rattle.std.specs.Str.{bytes_eq}
use Rattle.std.specs.Ordering.{is_lt, nat_cmp}
use Rattle.std.specs.Cmp.Lexicographic.{slice_cmp}
use Rattle.pf_rules.specs.declared.parts.Addresses.TheVariants.{Prefix, Range, Table}
use Rattle.pf_rules.specs.declared.parts.Host.{Host}
use Rattle.pf_rules.specs.declared.parts.Host.TheVariants.{Any, In, NotIn}
use Rattle.pf_rules.specs.declared.rule.Conditions.{Conditions}
use Rattle.pf_rules.specs.declared.ruleset.TableEntry.{TableEntry}
use Rattle.pf_rules.specs.Names.{Name, begins_below, is_before}
use Rattle.pf_rules.specs.Items.{AnyRule, ItemValue, ItemValues, Filters, Anchors, Blocks, no_items, one_more}
use Rattle.pf_rules.specs.Items.{conditions_of, rule_in, list_of, values_of}
use Rattle.pf_rules.specs.Rulesets as rulesets
use Rattle.pf_config.specs.declared.fault.ConfigFault.{ConfigFault}
use Rattle.pf_config.specs.declared.fault.ConfigFault.TheVariants.{NoTable, ConstTable, TableFull, AnchorsFull, BadPath}
use Rattle.pf_config.specs.declared.fault.ConfigFault.TheVariants.{Memory}
use Rattle.pf_tables.specs.Tables.{TableValue}
use Rattle.pf_tables.specs.Contents.{with_entries, contents_of, without_entries}
use Rattle.pf_config.specs.Map.{Configuration, AnchorValue, Path, anchor_at, rules_in, tables_in, named}
use Rattle.pf_config.specs.Map.{table_at, tables_at, name_after}

-- ---- one entry of the map

-- the list has nothing in it
abbrev pub is_empty : {X : Type 0} → List X → Bool
is_empty [] = true
is_empty (x ∷ xs) = false

-- the entry has neither rules nor tables
abbrev pub is_nothing : AnchorValue → Bool
is_nothing a = is_empty a.rules && is_empty a.tables

-- an entry with both parts empty is none
abbrev pub unless_nothing : AnchorValue → List AnchorValue
unless_nothing a = if is_nothing a then [] else a ∷ []

-- the first path is before the second, name by name, and each name byte by byte
abbrev pub is_path_before : Path → Path → Bool
is_path_before p q = is_lt (slice_cmp (slice_cmp nat_cmp) p q)

-- the entries whose paths are before this one
abbrev pub anchors_before : Path → List AnchorValue → List AnchorValue
anchors_before p anchors = filter (λ (a : AnchorValue). is_path_before a.path p) anchors

-- the entries whose paths are behind this one
abbrev pub anchors_behind : Path → List AnchorValue → List AnchorValue
anchors_behind p anchors = filter (λ (a : AnchorValue). is_path_before p a.path) anchors

-- the map with this at its path
unfoldable pub with_anchor : AnchorValue → List AnchorValue → List AnchorValue
with_anchor a anchors = anchors_before a.path anchors ++ unless_nothing a ++ anchors_behind a.path anchors

-- the map with these rules at a path, whose tables stay
abbrev pub with_rules : Path → List AnyRule → List AnchorValue → List AnchorValue
with_rules p rules anchors = with_anchor (record { path = p; rules = rules; tables = tables_in (anchor_at p anchors) })
    anchors

-- the map with these tables at a path, whose rules stay
abbrev pub with_tables : Path → List (Name × TableValue) → List AnchorValue → List AnchorValue
with_tables p tables anchors = with_anchor (record {
  path = p;
  rules = rules_in (anchor_at p anchors);
  tables = tables;
}) anchors

-- ---- unnamed blocks

-- there is a name, and it is an unnamed block's
abbrev pub is_some_unnamed : Option Name → Bool
is_some_unnamed None = false
is_some_unnamed (Some n) = begins_below n

-- every path that begins with p and an unnamed name goes
unfoldable pub without_unnamed : Path → List AnchorValue → List AnchorValue
without_unnamed p anchors = filter (λ (a : AnchorValue). not (is_some_unnamed (name_after p a.path))) anchors

-- ---- tables that no rule refers to

-- what a rule asks of a host is the table of this name, negated or not
abbrev pub is_at_table : Name → Host → Bool
is_at_table name Any = false
is_at_table name (In (Prefix block)) = false
is_at_table name (In (Range range)) = false
is_at_table name (In (Table own)) = bytes_eq own name
is_at_table name (NotIn (Prefix block)) = false
is_at_table name (NotIn (Range range)) = false
is_at_table name (NotIn (Table own)) = bytes_eq own name

-- the source or the destination is asked to be in the table of this name, or not to be in it
abbrev pub conditions_refer : Name → Conditions → Bool
conditions_refer name r = is_at_table name r.source || is_at_table name r.destination

-- the rule, a filter rule or an anchor rule, refers to a table of this name
abbrev pub refers : Name → AnyRule → Bool
refers name r = conditions_refer name (conditions_of r)

-- some rule of the entry refers to a table of this name
abbrev pub refer : Name → AnchorValue → Bool
refer name a = list_any (refers name) a.rules

-- any rule refers to main's table, a rule of its own anchor to another
abbrev pub is_used : List AnchorValue → AnchorValue → Name → Bool
is_used anchors a name = if is_empty a.path then list_any (refer name) anchors else refer name a

-- of an anchor's tables those that stay: with persist, or used: main's by any rule, another one's by a rule of that
-- anchor
abbrev pub used_tables : List AnchorValue → AnchorValue → List (Name × TableValue) → List (Name × TableValue)
used_tables anchors a tables = filter (λ (t : Name × TableValue). t.1.persist || is_used anchors a t.0) tables

-- the anchor with its rules, and of its tables those alone that stay
abbrev pub used_alone : List AnchorValue → AnchorValue → AnchorValue
used_alone anchors a = record { path = a.path; rules = a.rules; tables = used_tables anchors a a.tables }

-- of a map's entries these, each with those of its tables alone that stay; what is empty then goes
abbrev pub tidied_of : List AnchorValue → List AnchorValue → List AnchorValue
tidied_of all anchors = filter (λ (a : AnchorValue). not (is_nothing a)) (map (used_alone all) anchors)

-- every table without persist that no rule refers to goes
unfoldable pub tidied : List AnchorValue → List AnchorValue
tidied anchors = tidied_of anchors anchors

-- ---- loads

-- a table as a ruleset defines it: without a list the contents stay
abbrev pub Definition : Type 0
Definition = rulesets.TableValue

-- the tables whose names are before this one
abbrev pub tables_before : Name → List (Name × TableValue) → List (Name × TableValue)
tables_before name tables = filter (λ (t : Name × TableValue). is_before t.0 name) tables

-- the tables whose names are behind this one
abbrev pub tables_behind : Name → List (Name × TableValue) → List (Name × TableValue)
tables_behind name tables = filter (λ (t : Name × TableValue). is_before name t.0) tables

-- the tables with this one under that name, at its place in byte order
abbrev pub with_table : List (Name × TableValue) → Name → TableValue → List (Name × TableValue)
with_table tables name t = tables_before name tables ++ (name, t) ∷ tables_behind name tables

-- the entries of a table, none if there is no table
abbrev pub entries_in : Option TableValue → List TableEntry
entries_in None = []
entries_in (Some t) = t.entries

-- the entries that a definition gives: of its list the first of each prefix, or the old ones where it has no list
abbrev pub listed : Option (List TableEntry) → List TableEntry → List TableEntry
listed None old = old
listed (Some list) old = contents_of list

-- the table that a definition makes: with its flags and its list, or without one with what was there under that name
abbrev pub defined_table : List (Name × TableValue) → Definition → TableValue
defined_table tables d = record {
  persist = d.persist;
  is_const = d.is_const;
  entries = listed d.entries (entries_in (named d.name tables));
}

-- the tables of a path, of which one is defined anew
abbrev pub defined : List (Name × TableValue) → Definition → List (Name × TableValue)
defined tables d = with_table tables d.name (defined_table tables d)

-- the rules of a path, as a ruleset or a block of it gives them
pub record Block : Type 0 where
  pub path : Path
  pub rules : List AnyRule

-- the blocks of rules at a path: each is before those in it, and these before the blocks that follow
abbrev mutual
  pub blocks_of : Path → ItemValue → List Block
  blocks_of p (Filters rule) = []
  blocks_of p (Anchors heading) = []
  blocks_of p (Blocks heading items) =
      record { path = p ++ heading.target.names; rules = map rule_in (list_of items) } ∷
      blocks_in (p ++ heading.target.names) items

  pub blocks_in : Path → ItemValues → List Block
  blocks_in p no_items = []
  blocks_in p (one_more item items) = blocks_of p item ++ blocks_in p items

-- the map with a block's rules at its path; the unnamed blocks that were there before go
abbrev pub placed : List AnchorValue → Block → List AnchorValue
placed anchors b = with_rules b.path b.rules (without_unnamed b.path anchors)

-- the map that a load leaves: the text's own rules, its definitions at the same path, its blocks; tidied at the end
abbrev pub loaded : Block → List Definition → List Block → List AnchorValue → List AnchorValue
loaded own definitions blocks anchors =
    let first = placed anchors own in
    let tables = fold defined (tables_in (anchor_at own.path first)) definitions in
    tidied (fold placed (with_tables own.path tables first) blocks)

-- 23 asks about the map that the command would leave
abbrev pub unless_full : List Name → List AnchorValue → Result Configuration ConfigFault
unless_full skip anchors = if nat_lt 1024 (length anchors) then Err AnchorsFull
    else Ok (record { skip = skip; anchors = anchors })

-- the block's path has more than 8 names
abbrev pub is_too_deep : Block → Bool
is_too_deep b = nat_lt 8 (length b.path)

-- a ruleset's own rules and definitions at a path, and its blocks in their order, outer ones first
unfoldable pub load : Configuration → List Name → Block → List Definition → List Block →
    Result Configuration ConfigFault
load c skip own definitions blocks =
    if list_any is_too_deep (own ∷ blocks) then Err BadPath
    else unless_full (if is_empty own.path then skip else c.skip) (loaded own definitions blocks c.anchors)

-- a ruleset is loaded at a path
abbrev pub load_ruleset : Configuration → Path → rulesets.RulesetValue → Result Configuration ConfigFault
load_ruleset c p r = load c r.skip (record { path = p; rules = map rule_in r.items }) r.tables
    (blocks_in p (values_of r.items))

-- the rules at a path and its unnamed blocks go, and the map is tidied
unfoldable pub flush_rules : Configuration → Path → Configuration
flush_rules c p = record { skip = c.skip; anchors = tidied (placed c.anchors (record { path = p; rules = [] })) }

-- the tables at a path go, whatever their flags
unfoldable pub flush_tables : Configuration → Path → Configuration
flush_tables c p = record { skip = c.skip; anchors = with_tables p [] c.anchors }

-- the rules go, and then the tables
abbrev pub flush_all : Configuration → Path → Configuration
flush_all c p = flush_tables (flush_rules c p) p

-- ---- what a call does: it changes the configuration as defined, or is refused so; a refused one changes nothing

-- a call with this fault changes nothing, and, unless out of memory, the same fault is the defined answer
abbrev pub Refuses : ConfigFault → Configuration → Configuration → Result Configuration ConfigFault → Type 0
Refuses Memory old new r = new ≡ old
Refuses NoTable old new r = (r ≡ Err NoTable) × (new ≡ old)
Refuses ConstTable old new r = (r ≡ Err ConstTable) × (new ≡ old)
Refuses TableFull old new r = (r ≡ Err TableFull) × (new ≡ old)
Refuses AnchorsFull old new r = (r ≡ Err AnchorsFull) × (new ≡ old)
Refuses BadPath old new r = (r ≡ Err BadPath) × (new ≡ old)

-- a call with this answer takes the one configuration to the other as defined, or refuses and changes nothing
abbrev pub Changes : {A : Type 0} → Result A ConfigFault → Configuration → Configuration →
    Result Configuration ConfigFault → Type 0
Changes (Ok x) old new r = r ≡ Ok new
Changes (Err fault) old new r = Refuses fault old new r

-- 20 and 21 need no memory: where one of them is the defined answer, the call returns it
abbrev pub RefusesFirst : {A : Type 0} → Result A ConfigFault → Result Configuration ConfigFault → Type 0
RefusesFirst result (Ok c) = Unit {0}
RefusesFirst result (Err NoTable) = result ≡ Err NoTable
RefusesFirst result (Err ConstTable) = result ≡ Err ConstTable
RefusesFirst result (Err TableFull) = Unit {0}
RefusesFirst result (Err AnchorsFull) = Unit {0}
RefusesFirst result (Err BadPath) = Unit {0}
RefusesFirst result (Err Memory) = Unit {0}

-- ---- the commands on one table

-- what adding and replacing begin with where there is no table: with persist, not const, empty
abbrev pub new_table : TableValue
new_table = record { persist = true; is_const = false; entries = [] }

-- the table with these entries, and its own flags
abbrev pub with_contents : TableValue → List TableEntry → TableValue
with_contents t entries = record { persist = t.persist; is_const = t.is_const; entries = entries }

-- the configuration with this table at a path
abbrev pub set_table : Configuration → Path → Name → TableValue → Result Configuration ConfigFault
set_table c p name t = unless_full c.skip (with_tables p (with_table (tables_at c p) name t) c.anchors)

-- 21, then 22
abbrev pub filled : TableValue → List TableEntry → Result TableValue ConfigFault
filled t entries =
    if t.is_const then Err ConstTable
    else (if nat_lt 4096 (length entries) then Err TableFull else Ok (with_contents t entries))

-- the configuration with a table at a path, unless the table is refused
abbrev pub set_filled : Configuration → Path → Name → Result TableValue ConfigFault →
    Result Configuration ConfigFault
set_filled c p name (Ok t) = set_table c p name t
set_filled c p name (Err fault) = Err fault

-- the table at a path gets these entries in place of its own, or a refusal: 21, 22 or 23
abbrev pub fill : Configuration → Path → Name → TableValue → List TableEntry →
    Result Configuration ConfigFault
fill c p name t entries = set_filled c p name (filled t entries)

-- entries are put into a table, unless their prefix is there; where there is no table a new one is made
unfoldable pub add : Configuration → Path → Name → List TableEntry → Result Configuration ConfigFault
add c p name list = let t = unwrap_or (table_at c p name) new_table in fill c p name t (with_entries t.entries list)

-- a table gets these entries in place of its own, the first of each prefix; where there is no table a new one is made
unfoldable pub replace : Configuration → Path → Name → List TableEntry → Result Configuration ConfigFault
replace c p name list = fill c p name (unwrap_or (table_at c p name) new_table) (contents_of list)

-- 20, then 21
abbrev pub drain : Configuration → Path → Name → Option TableValue → (List TableEntry → List TableEntry) →
    Result Configuration ConfigFault
drain c p name None change = Err NoTable
drain c p name (Some t) change = if t.is_const then Err ConstTable
    else set_table c p name (with_contents t (change t.entries))

-- each entry that is listed with its own sign goes from a table, where of a prefix listed twice the first counts; 20
-- where there is no table, 21 where it is const
unfoldable pub delete : Configuration → Path → Name → List TableEntry → Result Configuration ConfigFault
delete c p name list = drain c p name (table_at c p name) (λ entries. without_entries entries list)

-- all entries of a table go, and the table stays; 20 where there is none, 21 where it is const
unfoldable pub flush_table : Configuration → Path → Name → Result Configuration ConfigFault
flush_table c p name = drain c p name (table_at c p name) (λ entries. [])
