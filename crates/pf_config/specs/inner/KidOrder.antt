-- Anchors in the order of their names.
use Rattle.std.specs.Prelude.{◌≡◌, true, List, [], ◌∷◌}
use Rattle.std.specs.List.{list_all}
use Rattle.pf_rules.specs.Names.{is_before}
use Rattle.pf_config.specs.Trees.{AnchorTree, last_name}

-- each last name is before those behind it
abbrev pub AreInOrder : List AnchorTree → Type 0
AreInOrder [] = Unit {0}
AreInOrder (k ∷ ks) = (list_all (λ (j : AnchorTree). is_before (last_name k.names) (last_name j.names)) ks ≡ true) ×
    AreInOrder ks
