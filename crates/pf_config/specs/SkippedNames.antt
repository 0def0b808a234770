-- The names of skipped interfaces.
use Rattle.std.specs.Prelude.{Bool, List}
use Rattle.std.specs.List.{list_any}
use Rattle.std.specs.Str.{bytes_eq}
use Rattle.pf_rules.specs.Names.{Name}

-- the name is among these
abbrev pub is_listed : Name → List Name → Bool
is_listed name names = list_any (λ (n : Name). bytes_eq n name) names
