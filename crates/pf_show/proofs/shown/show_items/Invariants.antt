use Rattle.std.proofs.Common.{◌≡◌, ◌++◌, drop, string_bytes}
use Rattle.std.specs.List.{flat_map}
use Rattle.pf_show.specs.inner.Spaced.{item_line}
use Rattle.pf_show.proofs.shown.show_items.Given as goal

-- the text so far, and the items that are left
abbrev pub invariant-loop-item : goal.invariant-loop-item
invariant-loop-item l = string_bytes l.text ++ flat_map item_line (drop l.item-index l.items) ≡ flat_map item_line l.fn.items
