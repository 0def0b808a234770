-- Where no cause is found an anchor rule with its block has no more rules than a ruleset may have, and neither has a block in it.
use Rattle.std.proofs.Common.{◌≡◌, ℕ, suc, ◌+◌, ◌≤◌, ◌||◌, Bool, false, List, [], ◌∷◌, ◌++◌, length, map, min, refl, ap, arith}
use Rattle.std.specs.Prelude.{nat_lt}
use Rattle.std.specs.List.{list_any}
use Rattle.std.proofs.lemmas.Bool.{or_parts}
use Rattle.std.proofs.lemmas.Bool.Decides.{nat_tests}
use Rattle.std.proofs.lemmas.List.{length-append, length-map}
use Rattle.pf_rules.specs.declared.parts.FlagTest.{FlagTest}
use Rattle.pf_rules.specs.declared.parts.Policy.{Policy}
use Rattle.pf_rules.specs.declared.rule.Rule.{Rule}
use Rattle.pf_rules.specs.Items.{Heading, ItemValue, ItemValues, Filters, Anchors, list_of, values_of}
use Rattle.pf_rules.specs.inner.Items.{is_overfull, any_overfull}
use Rattle.pf_statements.specs.Conditions.{ConditionsText}
use Rattle.pf_statements.specs.Anchors.{AnchorText}
use Rattle.pf_statements.specs.Statements.{RuleText, ItemText, RuleItem, AnchorItem, BlockItem, ItemTexts, no_texts, one_text}
use Rattle.pf_expansion.specs.declared.judged.Judged.{Judged}
use Rattle.pf_expansion.specs.Expansion.{combined, expanded, rule_flags, rule_with, tested_flags}
use Rattle.pf_expansion.specs.Causes.{is_too_wide, has_deep_list}
use Rattle.pf_expansion.specs.Anchors.{anchor_flags, headings, heading_with}
use Rattle.pf_expansion.specs.Blocks.{named, unnamed_after, carried, item_values, block_values, nothing_wrong, both, rule_count, conditions_judged, item_judged, block_judged}

-- ---- lists of values

pub list_again : (xs : List ItemValue) → list_of (values_of xs) ≡ xs
list_again [] = refl
list_again (x ∷ xs) = ap (λ (ys : List ItemValue). x ∷ ys) (list_again xs)

any_again : (xs : List ItemValue) → any_overfull (values_of xs) ≡ list_any is_overfull xs
any_again [] = refl
any_again (x ∷ xs) = ap (λ (b : Bool). is_overfull x || b) (any_again xs)

any_append : (xs ys : List ItemValue) → list_any is_overfull xs ≡ false → list_any is_overfull ys ≡ false → list_any is_overfull (xs ++ ys) ≡ false
any_append [] ys p q = q
any_append (x ∷ xs) ys p q = let h = or_parts (is_overfull x) (list_any is_overfull xs) p in rw h.0 (any_append xs ys h.1 q)

filters_fine : (rs : List Rule) → list_any is_overfull (map (λ (r : Rule). Filters r) rs) ≡ false
filters_fine [] = refl
filters_fine (r ∷ rs) = filters_fine rs

anchors_fine : (hs : List Heading) → list_any is_overfull (map (λ (h : Heading). Anchors h) hs) ≡ false
anchors_fine [] = refl
anchors_fine (h ∷ hs) = anchors_fine hs

below : (n : ℕ) → nat_lt 1024 n ≡ false → n ≤ 1024
below n e = grind (arith, nat_tests, e)

not_above : (n : ℕ) → n ≤ 1024 → nat_lt 1024 n ≡ false
not_above n h = grind (arith, nat_tests, h)

-- ---- rules are counted

-- as many rules as were counted, and no block among them has too many
pub record Fine (values : List ItemValue) (rules : ℕ) : Type 0 where
  pub count : min (length values) 1025 ≡ min rules 1025
  pub blocks : list_any is_overfull values ≡ false

-- the same behind that many rules
pub record FineBehind (before : ℕ) (values : List ItemValue) (rules : ℕ) : Type 0 where
  pub count : min (before + length values) 1025 ≡ min rules 1025
  pub blocks : list_any is_overfull values ≡ false

counted : (test : FlagTest) (text : ConditionsText) → (conditions_judged test text).many ≡ false → rule_count test text ≡ length (combined test text)
unfolding conditions_judged rule_count
counted test text e = rw (or_parts (is_too_wide text) (has_deep_list text) e).0 refl

judged_rules : (test : FlagTest) (text : ConditionsText) → (conditions_judged test text).rules ≡ rule_count test text
unfolding conditions_judged
judged_rules test text = refl

carried_len : (hs : List Heading) (block : ItemValues) → length (carried hs block) ≡ length hs
carried_len [] block = refl
carried_len (h ∷ hs) block = ap (λ (n : ℕ). suc n) (length-map hs (λ (h : Heading). Anchors h))

carried_fine : (hs : List Heading) (block : List ItemValue) → length block ≤ 1024 → list_any is_overfull block ≡ false → list_any is_overfull (carried hs (values_of block)) ≡ false
carried_fine [] block few fine = refl
carried_fine (h ∷ hs) block few fine = rw (list_again block, not_above (length block) few, any_again block, fine) (anchors_fine hs)

rules_len : (p : Policy) (text : RuleText) → length (expanded p text) ≡ length (combined (rule_flags text) text.conditions)
unfolding expanded
rules_len p text = length-map (combined (rule_flags text) text.conditions) (rule_with p text)

headings_len : (a : AnchorText) → length (headings a) ≡ length (combined (anchor_flags a) a.conditions)
unfolding headings
headings_len a = length-map (combined (anchor_flags a) a.conditions) (heading_with a)

mutual
  pub item_fine : (p : Policy) (u : ℕ) (item : ItemText) → (item_judged item).many ≡ false → Fine (item_values p u item) (item_judged item).rules
  item_fine p u (RuleItem rule) none =
      let a = counted (rule_flags rule) rule.conditions none in
      let b = rules_len p rule in
      let c = length-map (expanded p rule) (λ (r : Rule). Filters r) in
      let d = judged_rules (rule_flags rule) rule.conditions in
      record { count = omega (arith, a, b, c, d); blocks = filters_fine (expanded p rule) }
  item_fine p u (AnchorItem anchor) none =
      let a = counted (anchor_flags anchor) anchor.conditions none in
      let b = headings_len anchor in
      let c = length-map (headings anchor) (λ (h : Heading). Anchors h) in
      let d = judged_rules (anchor_flags anchor) anchor.conditions in
      record { count = omega (arith, a, b, c, d); blocks = anchors_fine (headings anchor) }
  item_fine p u (BlockItem h block) none =
      let test = tested_flags false h.conditions.flags in
      let own = conditions_judged test h.conditions in
      let within = block_judged nothing_wrong block in
      let parts = or_parts own.many (within.many || nat_lt 1024 within.rules) none in
      let inner = or_parts within.many (nat_lt 1024 within.rules) parts.1 in
      let fine = block_fine p 0 nothing_wrong block inner.0 in
      let few = below within.rules inner.1 in
      let len = fine.1.count in
      let hs = headings (named u h) in
      let a = counted test h.conditions parts.0 in
      let b = headings_len (named u h) in
      let c = carried_len hs (values_of (block_values p 0 block)) in
      let d = judged_rules test h.conditions in
      record { count = omega (arith, a, b, c, d); blocks = carried_fine hs (block_values p 0 block) (omega (arith, few, len)) fine.1.blocks }

  pub block_fine : (p : Policy) (u : ℕ) (before : Judged) (items : ItemTexts) → (block_judged before items).many ≡ false → (before.many ≡ false) × FineBehind before.rules (block_values p u items) (block_judged before items).rules
  block_fine p u before no_texts none = (none, record { count = omega arith; blocks = refl })
  block_fine p u before (one_text item items) none =
      let more = block_fine p (unnamed_after u item) (both before (item_judged item)) items none in
      let parts = or_parts before.many (item_judged item).many more.0 in
      let one = item_fine p u item parts.1 in
      let a = one.count in
      let b = more.1.count in
      let c = length-append (item_values p u item) (block_values p (unnamed_after u item) items) in
      (parts.0, record { count = omega (arith, a, b, c); blocks = any_append (item_values p u item) (block_values p (unnamed_after u item) items) one.blocks more.1.blocks })
