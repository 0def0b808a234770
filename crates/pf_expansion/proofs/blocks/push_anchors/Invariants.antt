use Rattle.std.proofs.Common.{◌≡◌, ◌++◌, map}
use Rattle.pf_rules.specs.Items.{Anchors, Heading}
use Rattle.pf_rules.specs.Seen.{heading_of, items_of}
use Rattle.pf_expansion.proofs.blocks.push_anchors.Given as goal

abbrev pub invariant-loop-heading : goal.invariant-loop-heading
invariant-loop-heading l = items_of l.items.items ≡ items_of l.initial.items.items ++ map (λ (h : Heading). Anchors h) (map heading_of l.yielded)
