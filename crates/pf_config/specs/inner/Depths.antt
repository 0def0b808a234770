-- How deep blocks stand, asked before their paths are made.
use Rattle.std.specs.Prelude.{ℕ, Bool, false, ◌+◌, ◌||◌, length, nat_lt}
use Rattle.pf_rules.specs.Items.{ItemValue, ItemValues, Filters, Anchors, Blocks, no_items, one_more}

-- a block in these rules is deeper than 8 names where the rules are at a path of that many
abbrev mutual
  pub is_deep : ℕ → ItemValue → Bool
  is_deep n (Filters rule) = false
  is_deep n (Anchors heading) = false
  is_deep n (Blocks heading items) = nat_lt 8 (n + length heading.target.names) ||
      any_deep (n + length heading.target.names) items

  pub any_deep : ℕ → ItemValues → Bool
  any_deep n no_items = false
  any_deep n (one_more item items) = is_deep n item || any_deep n items
