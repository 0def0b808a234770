-- A configuration as a map from paths: how the list that represents it is written.
use Rattle.std.specs.Prelude.{◌≡◌, ◌≤◌, true, false, ◌&&◌, List, [], ◌∷◌, length, nat_le, Result, Ok, Err}
use Rattle.std.specs.List.{list_all, AllByRecursion}
use Rattle.pf_rules.specs.Words.{is_anchor_text}
use Rattle.pf_rules.specs.Names.{Name}
use Rattle.pf_rules.specs.Items.{AnyRule}
use Rattle.pf_tables.specs.Tables.{TableValue}
use Rattle.pf_tables.specs.Parts.{IsOrdered}
use Rattle.pf_config.specs.declared.fault.ConfigFault.{ConfigFault}
use Rattle.pf_config.specs.Map.{Configuration, AnchorValue, Path}
use Rattle.pf_config.specs.Changes.{is_nothing, is_path_before}
use Rattle.pf_config.specs.Ordered.{AreOrdered}
use Rattle.pfx_laws.specs.Targets.{has_target}

-- at most 8 names, each of which an anchor may have
abbrev pub IsPath : Path → Type 0
IsPath p = (nat_le (length p) 8 && list_all is_anchor_text p) ≡ true

-- at most 1,024 rules, of which those that evaluate anchors name some
abbrev pub AreRules : List AnyRule → Type 0
AreRules rules = (nat_le (length rules) 1024 && list_all has_target rules) ≡ true

-- each name once, in byte order; of each table each prefix once, in order of family, length and address
abbrev pub AreTables : List (Name × TableValue) → Type 0
AreTables tables = AreOrdered tables × AllByRecursion (λ (t : Name × TableValue). IsOrdered t.1.entries) tables

-- an entry of the map, which isn't empty
pub record IsAnchor (a : AnchorValue) : Type 0 where
  pub path : IsPath a.path
  pub rules : AreRules a.rules
  pub tables : AreTables a.tables
  pub some : is_nothing a ≡ false

-- each path is before those behind it, so that each is there once
abbrev pub AreRising : List AnchorValue → Type 0
AreRising [] = Unit {0}
AreRising (a ∷ anchors) = (list_all (λ (b : AnchorValue). is_path_before a.path b.path) anchors ≡ true) ×
    AreRising anchors

-- the entries of a configuration are anchors, in byte order of their paths, each path once, and 1,024 at most
pub record IsMap (c : Configuration) : Type 0 where
  pub anchors : AllByRecursion IsAnchor c.anchors
  pub rising : AreRising c.anchors
  pub few : length c.anchors ≤ 1024

-- a map, or a refusal
abbrev pub AnswersMap : Result Configuration ConfigFault → Type 0
AnswersMap (Ok c) = IsMap c
AnswersMap (Err fault) = Unit {0}
