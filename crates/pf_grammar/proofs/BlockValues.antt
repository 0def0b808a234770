-- A rule of any kind that a source gives, as it is shown: its tokens, what they spell, and what that gives.
use Rattle.std.proofs.Common.{◌≡◌, ℕ, ◌+◌, ◌≤◌, ◌||◌, Bool, true, false, cond, List, [], ◌∷◌, ◌++◌, length, map, min, Option, Some, None, refl, sym, ap, ◌∙◌, arith}
use Rattle.std.specs.Prelude.{codes, nat_lt, if◌then◌else◌}
use Rattle.std.proofs.lemmas.Bool.{or_parts}
use Rattle.std.proofs.lemmas.Bool.Decides.{nat_tests}
use Rattle.pf_rules.specs.declared.profile.Profile.{Profile}
use Rattle.pf_tokens.specs.declared.symbol.Symbol.TheVariants.{Open, Close}
use Rattle.pf_tokens.specs.Tokens.{Token, Word, Quoted, Mark, Newline}
use Rattle.pf_rules.specs.declared.rule.Action.TheVariants as act
use Rattle.pf_rules.specs.declared.parts.Policy.{Policy}
use Rattle.pf_rules.specs.declared.rule.Rule.{Rule}
use Rattle.pf_rules.specs.Items.{Target, Heading, ItemValue, ItemValues, Filters, Anchors, Blocks, no_items, one_more, list_of, values_of}
use Rattle.pf_statements.specs.Anchors.{AnchorText, HeadingText}
use Rattle.pf_statements.specs.Statements.{ItemText, RuleItem, AnchorItem, BlockItem, ItemTexts, no_texts, one_text, is_wild}
use Rattle.pf_statements.specs.Grammar.{IsTarget, TargetString, IsOptional, LeftOut, Given, IsHeading, IsItem, ARule, AnAnchor, ABlock, AreItems, NoItem, EmptyLine, OneItem}
use Rattle.pf_expansion.specs.declared.judged.Judged.{Judged}
use Rattle.pf_expansion.specs.Expansion.{rule_flags}
use Rattle.pf_expansion.specs.Causes.{is_too_wide, has_deep_list, has_too_many}
use Rattle.pf_expansion.specs.Anchors.{headings, is_reserved, is_misnamed}
use Rattle.pf_expansion.specs.Blocks.{given_target, next_unnamed, target_or_given, named, unnamed_after, item_values, block_values, rule_count, conditions_judged, item_judged, block_judged, is_reserved_name, item_misnamed, block_misnamed, Path, item_paths, block_paths, paths_in, paths_within, is_unnamed, unnamed_with}
use Rattle.pf_show.specs.Shown.{target_text}
use Rattle.pf_grammar.proofs.ShownTokens.{FitsRule, rule_spelled, written, written_conditions, rule_tokens, direction_tokens, quick_tokens, common_tokens, flags_tokens, direction_spelled, quick_spelled, common_spelled, common_split}
use Rattle.pf_grammar.proofs.Expanded.{combined_again, expanded_again, no_bad_ports, some_combination, not_too_many, no_bad_types}
use Rattle.pf_grammar.proofs.RuleParts.{more_tokens}
use Rattle.pf_grammar.proofs.Targets.{FitsTarget, target_again}
use Rattle.pf_grammar.proofs.AnchorLine.{as_rule, FitsHeading, as_fitting, anchor_tokens, written_anchor, anchor_spelled, flags_behind, no_types_left, types_unwritten, headings_again}

-- ---- rules that a source gives

-- the name of a block behind that many unnamed ones: the one that it is given, or one that isn't reserved
pub record FitsName (unnamed : ℕ) (t : Target) : Type 0 where
  pub given : is_unnamed t.names ≡ true → t ≡ given_target (next_unnamed unnamed)
  pub free : is_unnamed t.names ≡ false → is_reserved t ≡ false
  pub plain : t.children ≡ false

abbrev mutual
  pub FitsItem : Profile → ℕ → ItemValue → Type 0
  FitsItem profile u (Filters r) = FitsRule profile r
  FitsItem profile u (Anchors h) = FitsHeading profile h × (is_misnamed u h.target ≡ false)
  FitsItem profile u (Blocks h block) = FitsHeading profile h × FitsName u h.target × (length (list_of block) ≤ 1024) × FitsItems profile 0 block

  pub FitsItems : Profile → ℕ → ItemValues → Type 0
  FitsItems profile u no_items = Unit {0}
  FitsItems profile u (one_more i is) = FitsItem profile u i × FitsItems profile (unnamed_with u i) is

-- ---- as they are written

-- a given name isn't written
abbrev pub said_name : Target → Option Target
said_name t = if is_unnamed t.names then None else Some t

abbrev pub written_heading : Heading → HeadingText
written_heading h = record { target = said_name h.target; quick = h.quick; conditions = written_conditions (as_rule h) }

abbrev mutual
  pub written_item : ItemValue → ItemText
  written_item (Filters r) = RuleItem (written r)
  written_item (Anchors h) = AnchorItem (written_anchor h)
  written_item (Blocks h block) = BlockItem (written_heading h) (written_block block)

  pub written_block : ItemValues → ItemTexts
  written_block no_items = no_texts
  written_block (one_more i is) = one_text (written_item i) (written_block is)

-- ---- their tokens

abbrev pub name_tokens : Target → List Token
name_tokens t = if is_unnamed t.names then [] else Quoted (target_text t) ∷ []

abbrev pub heading_tokens : Heading → List Token
heading_tokens h = name_tokens h.target ++ more_tokens (as_rule h)

abbrev mutual
  pub item_tokens : ItemValue → List Token
  item_tokens (Filters r) = rule_tokens r
  item_tokens (Anchors h) = anchor_tokens h
  item_tokens (Blocks h block) = Word (codes "anchor") ∷ (heading_tokens h ++ (Mark Open ∷ (Newline ∷ (block_tokens block ++ (Mark Close ∷ [])))))

  pub block_tokens : ItemValues → List Token
  block_tokens no_items = []
  block_tokens (one_more i is) = item_tokens i ++ (Newline ∷ block_tokens is)

-- ---- they spell it

name_spelled : (profile : Profile) (t : Target) → FitsTarget t → IsOptional (IsTarget profile) (name_tokens t) (said_name t)
name_spelled profile t fits = cases (is_unnamed t.names)
  where
    cases : (b : Bool) → IsOptional (IsTarget profile) (cond b [] (Quoted (target_text t) ∷ [])) (cond b None (Some t))
    cases true = LeftOut
    cases false = Given (Quoted (target_text t) ∷ []) t (TargetString (target_text t) t (target_again t fits))

pub heading_spelled : (profile : Profile) (h : Heading) → FitsHeading profile h → IsHeading profile (heading_tokens h) (written_heading h)
heading_spelled profile h fits = record {
  target = name_tokens h.target;
  direction = direction_tokens h.conditions.direction;
  quick = quick_tokens h.quick;
  common = common_tokens h.conditions;
  flags = flags_tokens act.Drop h.conditions.flags;
  whole =
      ap (λ (us : List Token). name_tokens h.target ++ (direction_tokens h.conditions.direction ++ (quick_tokens h.quick ++ us)))
      (sym (common_split (as_rule h)) ∙ ap (λ (us : List Token). common_tokens h.conditions ++ us) (no_types_left h.conditions.icmp_type (flags_tokens act.Drop h.conditions.flags) fits.no_type));
  is_target = name_spelled profile h.target fits.target;
  is_direction = direction_spelled h.conditions.direction;
  is_quick = quick_spelled h.quick;
  is_common = common_spelled profile h.conditions fits.conditions;
  are_flags = flags_behind h.conditions.flags fits.conditions.flags;
  no_types = types_unwritten h.conditions.icmp_type fits.no_type;
}

pub not_wild : (t : Target) → t.children ≡ false → is_wild (said_name t) ≡ false
not_wild t plain = cases (is_unnamed t.names)
  where
    cases : (b : Bool) → is_wild (cond b None (Some t)) ≡ false
    cases true = refl
    cases false = plain

mutual
  pub item_spelled : (profile : Profile) (u : ℕ) (i : ItemValue) → FitsItem profile u i → IsItem profile (item_tokens i) (written_item i)
  item_spelled profile u (Filters r) fits = ARule (rule_tokens r) (written r) (rule_spelled profile r fits)
  item_spelled profile u (Anchors h) fits = AnAnchor _ (written_anchor h) (anchor_spelled profile h fits.0)
  item_spelled profile u (Blocks h block) fits = ABlock (heading_tokens h) (Newline ∷ block_tokens block) (written_heading h) (written_block block) (heading_spelled profile h fits.0) (not_wild h.target fits.1.plain) (EmptyLine (block_tokens block) (written_block block) (block_spelled profile 0 block fits.3))

  pub block_spelled : (profile : Profile) (u : ℕ) (is : ItemValues) → FitsItems profile u is → AreItems profile (block_tokens is) (written_block is)
  block_spelled profile u no_items fits = NoItem
  block_spelled profile u (one_more i is) fits =
      OneItem (item_tokens i) (Newline ∷ block_tokens is) (written_item i) (written_block is) (item_spelled profile u i fits.0) refl (EmptyLine (block_tokens is) (written_block is) (block_spelled profile (unnamed_with u i) is fits.1))

-- ---- what is wrong with them: nothing

abbrev clean : ℕ → Judged
clean n = record { ports = false; combination = false; many = false; types = false; rules = n }

judged_one : (profile : Profile) (r : Rule) → FitsRule profile r → conditions_judged (rule_flags (written r)) (written_conditions r) ≡ clean 1
unfolding conditions_judged rule_count has_too_many
judged_one profile r fits =
    let many = or_parts (is_too_wide (written_conditions r) || has_deep_list (written_conditions r)) _ (not_too_many profile 0 r fits (omega arith)) in
    let both = or_parts (is_too_wide (written_conditions r)) (has_deep_list (written_conditions r)) many.0 in
    rw (no_bad_ports profile r fits, some_combination profile r fits, both.0, both.1, no_bad_types profile r fits, combined_again profile r fits) refl

-- that many rules behind others, of which no more than 1,025 are distinguished
abbrev capped : ℕ → ItemValues → ℕ
capped n no_items = n
capped n (one_more i is) = capped (min (n + 1) 1025) is

capped_is : (n : ℕ) (is : ItemValues) → n + length (list_of is) ≤ 1024 → capped n is ≡ n + length (list_of is)
capped_is n no_items h = omega arith
capped_is n (one_more i is) h =
    let next : min (n + 1) 1025 ≡ n + 1 = omega (arith, h) in
    let rest = capped_is (n + 1) is (omega (arith, h)) in
    rw next (rest ∙ omega arith)

not_above : (n : ℕ) → n ≤ 1024 → nat_lt 1024 n ≡ false
not_above n h = grind (arith, nat_tests, h)

mutual
  pub item_clean : (profile : Profile) (u : ℕ) (i : ItemValue) → FitsItem profile u i → item_judged (written_item i) ≡ clean 1
  item_clean profile u (Filters r) fits = judged_one profile r fits
  item_clean profile u (Anchors h) fits = judged_one profile (as_rule h) (as_fitting profile h fits.0)
  item_clean profile u (Blocks h block) fits =
      let few : capped 0 block ≤ 1024 = (let l = fits.2 in let c = capped_is 0 block (omega (arith, l)) in omega (arith, c, l)) in
      rw (judged_one profile (as_rule h) (as_fitting profile h fits.0), block_clean profile 0 0 block fits.3, not_above (capped 0 block) few) refl

  block_clean : (profile : Profile) (u n : ℕ) (is : ItemValues) → FitsItems profile u is → block_judged (clean n) (written_block is) ≡ clean (capped n is)
  block_clean profile u n no_items fits = refl
  block_clean profile u n (one_more i is) fits = rw (item_clean profile u i fits.0) (block_clean profile (unnamed_with u i) (min (n + 1) 1025) is fits.1)

-- ---- their names

after_is : (u : ℕ) (i : ItemValue) → unnamed_after u (written_item i) ≡ unnamed_with u i
after_is u (Filters r) = refl
after_is u (Anchors h) = refl
after_is u (Blocks h block) = cases (is_unnamed h.target.names)
  where
    cases : (b : Bool) → unnamed_after u (BlockItem (record { target = cond b None (Some h.target); quick = h.quick; conditions = written_conditions (as_rule h) }) (written_block block)) ≡ cond b (next_unnamed u) u
    cases true = refl
    cases false = refl

name_free : (u : ℕ) (t : Target) → FitsName u t → is_reserved_name (said_name t) ≡ false
name_free u t fits = cases (is_unnamed t.names) refl
  where
    cases : (b : Bool) → is_unnamed t.names ≡ b → is_reserved_name (cond b None (Some t)) ≡ false
    cases true e = refl
    cases false e = fits.free e

name_is : (u : ℕ) (t : Target) → FitsName u t → target_or_given u (said_name t) ≡ t
name_is u t fits = cases (is_unnamed t.names) refl
  where
    cases : (b : Bool) → is_unnamed t.names ≡ b → target_or_given u (cond b None (Some t)) ≡ t
    cases true e = sym (fits.given e)
    cases false e = refl

mutual
  pub item_named : (profile : Profile) (u : ℕ) (i : ItemValue) → FitsItem profile u i → item_misnamed u (written_item i) ≡ false
  item_named profile u (Filters r) fits = refl
  item_named profile u (Anchors h) fits = fits.1
  item_named profile u (Blocks h block) fits = rw (name_free u h.target fits.1) (block_named profile 0 block fits.3)

  block_named : (profile : Profile) (u : ℕ) (is : ItemValues) → FitsItems profile u is → block_misnamed u (written_block is) ≡ false
  block_named profile u no_items fits = refl
  block_named profile u (one_more i is) fits = rw (item_named profile u i fits.0, after_is u i) (block_named profile (unnamed_with u i) is fits.1)

-- ---- what they come to

values_again : (is : ItemValues) → values_of (list_of is) ≡ is
values_again no_items = refl
values_again (one_more i is) = ap (one_more i) (values_again is)

named_is : (u : ℕ) (h : Heading) → FitsName u h.target → named u (written_heading h) ≡ written_anchor h
named_is u h fits = ap (λ (t : Target). let a : AnchorText = record { target = t; quick = h.quick; conditions = written_conditions (as_rule h) } in a) (name_is u h.target fits)

mutual
  pub item_made : (profile : Profile) (p : Policy) (u : ℕ) (i : ItemValue) → FitsItem profile u i → item_values p u (written_item i) ≡ i ∷ []
  item_made profile p u (Filters r) fits = ap (map (λ (r : Rule). Filters r)) (expanded_again profile p r fits)
  item_made profile p u (Anchors h) fits = ap (map (λ (h : Heading). Anchors h)) (headings_again profile h fits.0)
  item_made profile p u (Blocks h block) fits =
      let hs : headings (named u (written_heading h)) ≡ h ∷ [] = ap headings (named_is u h fits.1) ∙ headings_again profile h fits.0 in
      let block_is : values_of (block_values p 0 (written_block block)) ≡ block = ap values_of (block_made profile p 0 block fits.3) ∙ values_again block in
      rw (hs, block_is) refl

  pub block_made : (profile : Profile) (p : Policy) (u : ℕ) (is : ItemValues) → FitsItems profile u is → block_values p u (written_block is) ≡ list_of is
  block_made profile p u no_items fits = refl
  block_made profile p u (one_more i is) fits = rw (item_made profile p u i fits.0, after_is u i, block_made profile p (unnamed_with u i) is fits.1) refl

-- ---- the paths of their blocks

mutual
  pub item_pathed : (profile : Profile) (path : Path) (u : ℕ) (i : ItemValue) → FitsItem profile u i → item_paths path u (written_item i) ≡ paths_in path i
  item_pathed profile path u (Filters r) fits = refl
  item_pathed profile path u (Anchors h) fits = refl
  item_pathed profile path u (Blocks h block) fits = rw (name_is u h.target fits.1, block_pathed profile (path ++ h.target.names) 0 block fits.3) refl

  block_pathed : (profile : Profile) (path : Path) (u : ℕ) (is : ItemValues) → FitsItems profile u is → block_paths path u (written_block is) ≡ paths_within path is
  block_pathed profile path u no_items fits = refl
  block_pathed profile path u (one_more i is) fits = rw (item_pathed profile path u i fits.0, after_is u i, block_pathed profile path (unnamed_with u i) is fits.1) refl
