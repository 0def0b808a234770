-- Whether a rule keeps state.
use Rattle.std.proofs.Common.{◌≡◌, ◌&&◌, ◌||◌, Bool, false, List, [], ◌∷◌, map, refl, sym, ap, ◌∙◌}
use Rattle.std.specs.List.{list_any}
use Rattle.pf_rules.specs.Seen.{rule_of}
use Rattle.pf_rules.specs.declared.rule.Rule.{Rule}
use Rattle.pf_rules.specs.declared.item.AnchorRule as anchored
use Rattle.pf_rules.specs.declared.item.Item.{Item}
use Rattle.pf_rules.specs.declared.item.Item as item
use Rattle.nft_rules.proofs.Targeted.{filter_rule, anchor_rule}
use Rattle.nft_text.specs.States.{passes, keeps_state}

pub filter_keeps : (r : Rule) (x : Item) → x ≡ item.Filter r → (passes r.action && r.keeps_state) ≡ keeps_state (rule_of x)
filter_keeps r x is = ap keeps_state (sym (ap rule_of is ∙ filter_rule r))

pub anchor_keeps : (a : anchored.AnchorRule) (x : Item) → x ≡ item.Anchor a → false ≡ keeps_state (rule_of x)
anchor_keeps a x is = ap keeps_state (sym (ap rule_of is ∙ anchor_rule a))

-- whether an element passes, of what elements stand for
pub any_mapped : {X Y : Type 0} (test : Y → Bool) (seen : X → Y) (xs : List X) → list_any (λ x. test (seen x)) xs ≡ list_any test (map seen xs)
any_mapped test seen [] = refl
any_mapped test seen (x ∷ xs) = ap (λ b. test (seen x) || b) (any_mapped test seen xs)
