-- Rules behind others.
use Rattle.std.proofs.Common.{◌≡◌, List, [], ◌∷◌, ◌++◌}
use Rattle.std.proofs.lemmas.List.{map-append}
use Rattle.pf_rules.specs.declared.item.Item.{Item}
use Rattle.pf_rules.specs.Seen.{item_of, items_of}

pub items_push : (is : List Item) (i : Item) → items_of (is ++ i ∷ []) ≡ items_of is ++ item_of i ∷ []
items_push is i = map-append item_of is (i ∷ [])
