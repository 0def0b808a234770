-- Lines of anchor rules as their parts, one behind another.
use Rattle.std.proofs.Common.{◌≡◌, ℕ, Bool, true, false, List, [], ◌∷◌, ◌++◌, map, refl, sym, ap, ◌∙◌, append_assoc, codes}
use Rattle.std.specs.List.{flat_map}
use Rattle.pf_rules.specs.Names.{Name}
use Rattle.pf_rules.specs.declared.rule.Action.TheVariants.{Drop}
use Rattle.pf_rules.specs.Items.{Heading}
use Rattle.pf_rules.specs.declared.item.Item.{Item}
use Rattle.pf_rules.specs.Items.{Blocks, values_of}
use Rattle.pf_rules.specs.Seen.{items_of, rule_of}
use Rattle.pf_show.specs.Shown.{line, more_parts, slashed, children_text, target_part, heading_parts, direction_parts, quick_parts, condition_parts, flags_parts, anchor_parts, block_target, block_parts, shown_items, shown_item, shown_block, shown_rules}
use Rattle.pf_show.specs.inner.Spaced.{spaced, text_if, item_line, item_text, slash_name}
use Rattle.pf_show.proofs.Spacing.{spaced_append, more_is}

-- names behind the first one
pub slashed_is : (name : Name) (names : List Name) → slashed (name ∷ names) ≡ name ++ flat_map slash_name names
slashed_is name [] = sym (append_none name)
  where
    append_none : (xs : List ℕ) → xs ++ [] ≡ xs
    append_none [] = refl
    append_none (x ∷ xs) = ap (λ ys. x ∷ ys) (append_none xs)
slashed_is name (other ∷ names) = ap (λ text. name ++ (47 ∷ text)) (slashed_is other names)

pub children_is : (b : Bool) → children_text b ≡ text_if b (codes "/*")
children_is true = refl
children_is false = refl

-- what is behind an anchor rule's target, part for part
pub heading_is : (h : Heading) → spaced (heading_parts h) ≡ spaced (direction_parts h.conditions.direction) ++ (spaced (quick_parts h.quick)
    ++ (spaced (condition_parts h.conditions) ++ spaced (flags_parts Drop h.conditions.flags)))
unfolding heading_parts
heading_is h = simp (spaced_append, append_assoc)

-- the line of an anchor rule
pub anchor_line : (h : Heading) → line (anchor_parts h) ≡ codes "anchor" ++ ((32 ∷ target_part h.target) ++ (spaced (heading_parts h) ++ 10 ∷ []))
unfolding anchor_parts
anchor_line h = ap (λ text. codes "anchor" ++ ((32 ∷ target_part h.target) ++ text)) (more_is (heading_parts h))

-- the line of an anchor rule that carries a block
pub block_line : (h : Heading) → line (block_parts h) ≡ codes "anchor" ++ (spaced (block_target h.target) ++ (spaced (heading_parts h) ++ codes " {\n"))
unfolding block_parts
block_line h =
    let target = block_target h.target in
    let heading = heading_parts h in
    ap (λ text. codes "anchor" ++ text) (
    more_is (target ++ (heading ++ codes "{" ∷ []))
    ∙ ap (λ text. text ++ 10 ∷ []) (spaced_append target (heading ++ codes "{" ∷ []) ∙ ap (λ text. spaced target ++ text) (spaced_append heading (codes "{" ∷ [])))
    ∙ append_assoc (spaced target) (spaced heading ++ codes " {") (10 ∷ [])
    ∙ ap (λ text. spaced target ++ text) (append_assoc (spaced heading) (codes " {") (10 ∷ [])))

-- items without their blocks, line by line
pub lines_are : (items : List Item) → shown_items (map rule_of items) ≡ flat_map item_line items
lines_are [] = refl
lines_are (item ∷ items) = ap (λ text. item_line item ++ text) (lines_are items)

-- items with their blocks, one after another
pub rules_are : (items : List Item) → shown_rules (items_of items) ≡ flat_map item_text items
rules_are [] = refl
rules_are (item ∷ items) = ap (λ text. item_text item ++ text) (rules_are items)

pub block_is : (items : List Item) → shown_block (values_of (items_of items)) ≡ flat_map item_text items
block_is [] = refl
block_is (item ∷ items) = ap (λ text. item_text item ++ text) (block_is items)

-- the lines of a rule that carries a block
pub block_text_is : (h : Heading) (items : List Item) → shown_item (Blocks h (values_of (items_of items))) ≡ line (block_parts h) ++ (flat_map item_text items ++ codes "}\n")
block_text_is h items = ap (λ text. line (block_parts h) ++ (text ++ codes "}\n")) (block_is items)
