use Rattle.std.proofs.Common.{◌≡◌, ◌++◌, drop, string_bytes}
use Rattle.std.specs.List.{flat_map}
use Rattle.pf_show.specs.inner.Spaced.{item_text}
use Rattle.pf_show.proofs.items.+text.Given as goal

-- the text so far, and the items that are left
abbrev pub invariant-push_items-loop-item : goal.invariant-push_items-loop-item
invariant-push_items-loop-item l =
    string_bytes l.out ++ flat_map item_text (drop l.item-index l.items) ≡ string_bytes l.fn.out ++ flat_map item_text l.fn.items
