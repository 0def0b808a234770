-- The configuration that has rules of main alone.
use Rattle.std.specs.Prelude.{List, [], ◌∷◌}
use Rattle.pf_rules.specs.Names.{Name}
use Rattle.pf_rules.specs.Items.{AnyRule}
use Rattle.pf_config.specs.Map.{Configuration}

-- main has these rules, and there is no table and no other anchor
abbrev pub alone : (skip : List Name) → List AnyRule → Configuration
alone skip [] = record { skip = skip; anchors = [] }
alone skip (r ∷ rules) = record {
  skip = skip;
  anchors = record { path = []; rules = r ∷ rules; tables = [] } ∷ [];
}
