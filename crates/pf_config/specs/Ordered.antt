-- Tables in the order of their names.
use Rattle.std.specs.Prelude.{◌≡◌, true, List, [], ◌∷◌}
use Rattle.std.specs.List.{list_all}
use Rattle.pf_rules.specs.Names.{Name, is_before}
use Rattle.pf_tables.specs.Tables.{TableValue}

-- each name is before those behind it
abbrev pub AreOrdered : List (Name × TableValue) → Type 0
AreOrdered [] = Unit {0}
AreOrdered (t ∷ ts) = (list_all (λ (u : Name × TableValue). is_before t.0 u.0) ts ≡ true) × AreOrdered ts
