-- Names in byte order.
use Rattle.std.specs.Prelude.{◌≡◌, true, List, [], ◌∷◌, not}
use Rattle.std.specs.List.{list_all}
use Rattle.pf_rules.specs.Names.{Name, is_before}
use Rattle.pf_config.specs.SkippedNames.{is_listed}

-- no name is before one that it is behind
abbrev pub AreRising : List Name → Type 0
AreRising [] = Unit {0}
AreRising (n ∷ names) = (list_all (λ (m : Name). not (is_before m n)) names ≡ true) × AreRising names

-- they are just these names, in byte order
abbrev pub IsIndex : List Name → List Name → Type 0
IsIndex rising names = AreRising rising × ((name : Name) → is_listed name rising ≡ is_listed name names)
