-- What only code and proofs use beside `Items`.
use Rattle.std.specs.Prelude.{Bool, false, ◌||◌, length, nat_lt}
use Rattle.pf_rules.specs.Items.{ItemValue, ItemValues, Filters, Anchors, Blocks, no_items, one_more, list_of}

-- a block in it has more than 1,024 items
abbrev mutual
  pub is_overfull : ItemValue → Bool
  is_overfull (Filters rule) = false
  is_overfull (Anchors heading) = false
  is_overfull (Blocks heading block) = nat_lt 1024 (length (list_of block)) || any_overfull block

  pub any_overfull : ItemValues → Bool
  any_overfull no_items = false
  any_overfull (one_more item items) = is_overfull item || any_overfull items
