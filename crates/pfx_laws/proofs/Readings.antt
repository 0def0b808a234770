-- The rules that a ruleset gives evaluate anchors by 1 to 8 names each, and are in blocks of 1,024 at most.
use Rattle.std.proofs.Common.{◌≡◌, ℕ, ◌+◌, ◌<◌, ◌≤◌, Bool, true, false, ◌&&◌, cond, List, [], ◌∷◌, ◌++◌, map, length, Option, Some, None, Result, Ok, Err, refl, subst, arith}
use Rattle.std.specs.Prelude.{nat_le, nat_lt}
use Rattle.std.specs.List.{list_all, list_any, AllByRecursion}
use Rattle.std.proofs.lemmas.Bool.{or_parts}
use Rattle.std.proofs.lemmas.List.{length-map}
use Rattle.std.proofs.lemmas.Bool.Decides.{nat_tests}
use Rattle.pf_rules.specs.declared.profile.Profile.{Profile}
use Rattle.pf_rules.specs.Words.{is_anchor_text}
use Rattle.pf_tokens.specs.declared.fault.ReadingFault.{ReadingFault}
use Rattle.pf_tokens.specs.declared.defining.DefinitionFault.{DefinitionFault}
use Rattle.pf_tokens.specs.declared.defining.DefinitionFault.TheVariants as defining
use Rattle.pf_tokens.specs.Tokens.{Token, Placed, tokens}
use Rattle.pf_tokens.specs.Macros.{Definition}
use Rattle.pf_tokens.specs.Faults.{reading_fault}
use Rattle.pf_tokens.specs.Parsing.{tokens_of}
use Rattle.pf_tokens.specs.Defining.{definition_at}
use Rattle.pf_tokens.specs.Reading.{reading_from}
use Rattle.pf_rules.specs.declared.parts.Policy.{Policy}
use Rattle.pf_rules.specs.declared.rule.Rule.{Rule}
use Rattle.pf_rules.specs.declared.rule.Conditions.{Conditions}
use Rattle.pf_rules.specs.Names.{Name}
use Rattle.pf_rules.specs.Items.{AnyRule, Target, Heading, ItemValue, ItemValues, no_items, one_more, list_of}
use Rattle.pf_rules.specs.Items.{values_of, rule_in}
use Rattle.pf_rules.specs.inner.Items.{is_overfull, any_overfull}
use Rattle.pf_rules.specs.Items as item
use Rattle.pf_rules.specs.Rulesets.{RulesetValue}
use Rattle.pf_statements.specs.Anchors.{AnchorText, HeadingText, anchor_with}
use Rattle.pf_statements.specs.Statements.{Statement, Sets, Setting, ItemText, BlockItem, ItemTexts, value_of}
use Rattle.pf_statements.specs.Grammar.{IsSetting, PolicySetting, SkipSetting, IsHeading, IsItem, ARule, AnAnchor, ABlock, AreItems, NoItem, EmptyLine, OneItem, IsStatement, SetStatement, TableStatement, RuleStatement, AnchorStatement, BlockStatement}
use Rattle.pf_statements.proofs.StatementsSpelled.{statement_took}
use Rattle.pf_expansion.specs.declared.cause.Cause.{Cause}
use Rattle.pf_expansion.specs.Expansion.{expanded, combined}
use Rattle.pf_expansion.specs.Anchors.{anchor_flags, headings, heading_with}
use Rattle.pf_expansion.specs.Blocks.{given_target, next_unnamed, target_or_given, named, unnamed_after, carried, item_values, block_values, unnamed_in}
use Rattle.pf_expansion.proofs.Given.{given_form}
use Rattle.pf_config.specs.Map.{Path}
use Rattle.pf_config.specs.Changes.{blocks_of, blocks_in}
use Rattle.pf_config.proofs.Treed.{both_true}
use Rattle.pf_grammar.specs.declared.fault.Refusal.{Refusal}
use Rattle.pf_grammar.specs.declared.place.Place.{Place}
use Rattle.pf_grammar.specs.Causes.{statement_cause}
use Rattle.pf_grammar.specs.Reading.{Sofar, nothing, macros_of, judge, statement_outcome, defined, answered, unless_fault, after_statement, ruleset_if, reading}
use Rattle.pf_grammar.proofs.Made.{reading_keeps}
use Rattle.pf_grammar.proofs.Targets.{AreAnchorNames}
use Rattle.pf_grammar.proofs.AnchorFits.{FitsAnchorText, anchor_text_fits, heading_text_fits, said_text_fits}
use Rattle.pf_grammar.proofs.ReadingSteps.{Room, few_stay}
use Rattle.pfx_laws.specs.Targets.{has_target}
use Rattle.pfx_laws.specs.Maps.{AreRules}
use Rattle.pfx_laws.proofs.Changed.{all_append as each_append, IsNamed}

-- ---- targets

abbrev good_target : Target → Bool
good_target t = (nat_le 1 (length t.names) && nat_le (length t.names) 8) && list_all is_anchor_text t.names

abbrev mutual
  pub good_item : ItemValue → Bool
  good_item (item.Filters r) = true
  good_item (item.Anchors h) = good_target h.target
  good_item (item.Blocks h block) = good_target h.target && good_items block

  pub good_items : ItemValues → Bool
  good_items no_items = true
  good_items (one_more i is) = good_item i && good_items is

all_names : (names : List Name) → AreAnchorNames names → list_all is_anchor_text names ≡ true
all_names [] h = refl
all_names (n ∷ names) h = rw h.0 (all_names names h.1)

target_good : (profile : Profile) (a : AnchorText) → FitsAnchorText profile a → good_target a.target ≡ true
target_good profile a fits = rw (fits.few, all_names a.target.names fits.names) refl

pub all_append : (test : ItemValue → Bool) (xs ys : List ItemValue) → list_all test xs ≡ true → list_all test ys ≡ true → list_all test (xs ++ ys) ≡ true
all_append test [] ys h k = k
all_append test (x ∷ xs) ys h k = let both = both_true (test x) (list_all test xs) h in rw both.0 (all_append test xs ys both.1 k)

filters_good : (rs : List Rule) → list_all good_item (map (λ (r : Rule). item.Filters r) rs) ≡ true
filters_good [] = refl
filters_good (r ∷ rs) = filters_good rs

anchors_good : (a : AnchorText) (cs : List Conditions) → good_target a.target ≡ true → list_all good_item (map (λ (h : Heading). item.Anchors h) (map (heading_with a) cs)) ≡ true
anchors_good a [] g = refl
anchors_good a (c ∷ cs) g = rw g (anchors_good a cs g)

headings_good : (a : AnchorText) → good_target a.target ≡ true → list_all good_item (map (λ (h : Heading). item.Anchors h) (headings a)) ≡ true
unfolding headings
headings_good a g = anchors_good a (combined (anchor_flags a) a.conditions) g

carried_good : (a : AnchorText) (cs : List Conditions) (block : ItemValues) → good_target a.target ≡ true → good_items block ≡ true → list_all good_item (carried (map (heading_with a) cs) block) ≡ true
carried_good a [] block g k = refl
carried_good a (c ∷ cs) block g k = rw (g, k) (anchors_good a cs g)

blocks_good : (a : AnchorText) (block : ItemValues) → good_target a.target ≡ true → good_items block ≡ true → list_all good_item (carried (headings a) block) ≡ true
unfolding headings
blocks_good a block g k = carried_good a (combined (anchor_flags a) a.conditions) block g k

values_good : (xs : List ItemValue) → list_all good_item xs ≡ true → good_items (values_of xs) ≡ true
values_good [] h = refl
values_good (x ∷ xs) h = let both = both_true (good_item x) (list_all good_item xs) h in rw both.0 (values_good xs both.1)

next_small : (u : ℕ) → next_unnamed u ≤ 65535
next_small u = cases (nat_lt u 65535) refl
  where
    lower : nat_lt u 65535 ≡ true → u < 65535
    lower e = grind (arith, nat_tests, e)

    cases : (b : Bool) → nat_lt u 65535 ≡ b → cond b (u + 1) 65535 ≤ 65535
    cases true e = let h = lower e in omega (arith, h)
    cases false e = omega arith

named_good : (profile : Profile) (u : ℕ) (ts : List Token) (h : HeadingText) (o : Option Target) → h.target ≡ o → IsHeading profile ts h → good_target (target_or_given u o) ≡ true
named_good profile u ts h None e is = let k = next_small u in target_good profile (anchor_with h (given_target (next_unnamed u))) (heading_text_fits profile ts h (given_target (next_unnamed u)) is (given_form (next_unnamed u) (omega (arith, k)), tt) refl)
named_good profile u ts h (Some t) e is = target_good profile (anchor_with h t) (said_text_fits profile ts h t is e)

mutual
  item_good : (profile : Profile) (p : Policy) (u : ℕ) (ts : List Token) (i : ItemText) → IsItem profile ts i → list_all good_item (item_values p u i) ≡ true
  item_good profile p u _ _ (ARule ts rule is) = filters_good (expanded p rule)
  item_good profile p u _ _ (AnAnchor ts a is) = headings_good a (target_good profile a (anchor_text_fits profile ts a is))
  item_good profile p u _ _ (ABlock ts us h items is wild are) = blocks_good (named u h) (values_of (block_values p 0 items)) (named_good profile u ts h h.target refl is) (values_good (block_values p 0 items) (block_good profile p 0 us items are))

  block_good : (profile : Profile) (p : Policy) (u : ℕ) (us : List Token) (items : ItemTexts) → AreItems profile us items → list_all good_item (block_values p u items) ≡ true
  block_good profile p u _ _ NoItem = refl
  block_good profile p u _ _ (EmptyLine ts items are) = block_good profile p u ts items are
  block_good profile p u _ _ (OneItem ts us i items is over are) = all_append good_item (item_values p u i) (block_values p (unnamed_after u i) items) (item_good profile p u ts i is) (block_good profile p (unnamed_after u i) us items are)

-- ---- statements

abbrev IsGood : Sofar → Type 0
IsGood sofar = list_all good_item sofar.content.items ≡ true

setting_good : (profile : Profile) (sofar : Sofar) (ts : List Token) (setting : Setting) → IsSetting profile ts setting → IsGood sofar → IsGood (after_statement sofar (Some (Sets setting)))
setting_good profile sofar _ _ (PolicySetting ts said is) h = h
setting_good profile sofar _ _ (SkipSetting ts names is) h = h

statement_good : (profile : Profile) (sofar : Sofar) (ts : List Token) (s : Statement) → IsStatement profile ts s → IsGood sofar → IsGood (after_statement sofar (Some s))
statement_good profile sofar _ _ (SetStatement ts setting is) h = setting_good profile sofar ts setting is h
statement_good profile sofar _ _ (TableStatement ts table is) h = h
statement_good profile sofar _ _ (RuleStatement ts rule is) h = all_append good_item sofar.content.items (map (λ (r : Rule). item.Filters r) (expanded sofar.policy rule)) h (filters_good (expanded sofar.policy rule))
statement_good profile sofar _ _ (AnchorStatement ts a is) h = all_append good_item sofar.content.items (map (λ (g : Heading). item.Anchors g) (headings a)) h (headings_good a (target_good profile a (anchor_text_fits profile ts a is)))
statement_good profile sofar _ _ (BlockStatement ts us g items is wild are) h =
    let u = unnamed_in 0 sofar.content.items in
    all_append good_item sofar.content.items (item_values sofar.policy u (BlockItem g items)) h (item_good profile sofar.policy u _ (BlockItem g items) (ABlock ts us g items is wild are))

value_good : (profile : Profile) (sofar : Sofar) (ts : List Token) (value : Option Statement) → value_of profile ts ≡ value → IsGood sofar → IsGood (after_statement sofar value)
value_good profile sofar ts None e h = h
value_good profile sofar ts (Some s) e h = statement_good profile sofar ts s (statement_took profile ts s e) h

abbrev done : Sofar → Result Sofar Refusal
done sofar = Ok sofar

pub done_is : (a b : Sofar) → done a ≡ done b → a ≡ b
done_is a b e = cc

pub answered_is : (line : ℕ) (sofar next : Sofar) (value : Option Statement) (cause : Option Cause) → answered line sofar value cause ≡ Ok next → after_statement sofar value ≡ next
answered_is line sofar next value None e = done_is (after_statement sofar value) next e
answered_is line sofar next value (Some cause) e = absurd cc

defined_keeps : (line : ℕ) (sofar next : Sofar) (r : Result Definition DefinitionFault) → IsGood sofar → defined line sofar r ≡ Ok next → IsGood next
defined_keeps line sofar next (Ok d) h e = subst IsGood (done_is (record sofar { macros = sofar.macros ++ d ∷ [] }) next e) h
defined_keeps line sofar next (Err defining.Memory) h e = absurd cc
defined_keeps line sofar next (Err defining.Macro) h e = absurd cc
defined_keeps line sofar next (Err defining.Syntax) h e = absurd cc

outcome_keeps : (place : Place) (profile : Profile) (sofar next : Sofar) (line : ℕ) (w : Bool) (ts : List Token) → IsGood sofar → statement_outcome place profile sofar line w ts ≡ Ok next → IsGood next
outcome_keeps place profile sofar next line true ts h e = defined_keeps line sofar next (definition_at profile sofar.macros ts) h e
outcome_keeps place profile sofar next line false ts h e =
    subst IsGood (answered_is line sofar next (value_of profile ts) (statement_cause place sofar.content.tables sofar.content.items (value_of profile ts)) e) (value_good profile sofar ts (value_of profile ts) refl h)

unless_is : (line : ℕ) (o : Option ReadingFault) (r : Result Sofar Refusal) (next : Sofar) → unless_fault line o r ≡ Ok next → r ≡ Ok next
unless_is line None r next e = e
unless_is line (Some fault) r next e = absurd cc

judge_keeps : (place : Place) (profile : Profile) (sofar next : Sofar) (line : ℕ) (w : Bool) (ts : List Placed) → IsGood sofar → judge place profile sofar line w ts ≡ Ok next → IsGood next
judge_keeps place profile sofar next line w ts h e = outcome_keeps place profile sofar next line w (tokens_of ts) h (unless_is line (reading_fault sofar.macros 0 0 (tokens_of ts)) (statement_outcome place profile sofar line w (tokens_of ts)) next e)

-- ---- a whole text

abbrev read_done : RulesetValue → Result RulesetValue Refusal
read_done r = Ok r

pub made_is : (o : Result Sofar Refusal) (r : RulesetValue) → ruleset_if o ≡ Ok r → (sofar : Sofar) × (o ≡ Ok sofar) × (sofar.content ≡ r)
made_is (Ok sofar) r e = (sofar, refl, same sofar.content r e)
  where
    same : (a b : RulesetValue) → read_done a ≡ read_done b → a ≡ b
    same a b e = cc
made_is (Err refusal) r e = absurd cc

-- what holds of the rules that a ruleset gives
pub record AreGood (items : List ItemValue) : Type 0 where
  pub targets : list_all good_item items ≡ true
  pub room : Room items

pub reading_good : (place : Place) (profile : Profile) (text : List ℕ) (r : RulesetValue) → reading place profile text ≡ Ok r → AreGood r.items
unfolding reading
reading_good place profile text r e =
    let m = made_is (reading_from macros_of (judge place profile) nothing [] (tokens text)) r e in
    let both = reading_keeps (λ (s : Sofar). IsGood s × Room s.content.items) macros_of (judge place profile)
    (λ sofar next line w ts h e. (judge_keeps place profile sofar next line w ts h.0 e, few_stay place profile sofar next line w ts h.1 e))
    (tokens text) nothing m.0 [] (refl, (omega arith, refl)) m.1 in
    subst (λ (s : RulesetValue). AreGood s.items) m.2 (record { targets = both.0; room = both.1 })

-- ---- what is loaded of it

have_targets : (items : List ItemValue) → list_all good_item items ≡ true → list_all has_target (map rule_in items) ≡ true
have_targets [] h = refl
have_targets (item.Filters r ∷ items) h = have_targets items h
have_targets (item.Anchors g ∷ items) h =
    let both = both_true (good_target g.target) (list_all good_item items) h in
    let own = both_true (nat_le 1 (length g.target.names) && nat_le (length g.target.names) 8) (list_all is_anchor_text g.target.names) both.0 in
    rw own.0 (have_targets items both.1)
have_targets (item.Blocks g block ∷ items) h =
    let both = both_true (good_item (item.Blocks g block)) (list_all good_item items) h in
    let own = both_true (nat_le 1 (length g.target.names) && nat_le (length g.target.names) 8) (list_all is_anchor_text g.target.names) (both_true (good_target g.target) (good_items block) both.0).0 in
    rw own.0 (have_targets items both.1)

pub loaded_rules : (items : List ItemValue) → length items ≤ 1024 → list_all good_item items ≡ true → AreRules (map rule_in items)
loaded_rules items few h = let l = length-map items rule_in in rw (short (length (map rule_in items)) (omega (arith, l, few)), have_targets items h) refl
  where
    short : (n : ℕ) → n ≤ 1024 → nat_le n 1024 ≡ true
    short n h = grind (arith, nat_tests, h)

list_good : (is : ItemValues) → good_items is ≡ true → list_all good_item (list_of is) ≡ true
list_good no_items h = refl
list_good (one_more i is) h = let both = both_true (good_item i) (good_items is) h in rw both.0 (list_good is both.1)

names_append : (p q : List Name) → list_all is_anchor_text p ≡ true → list_all is_anchor_text q ≡ true → list_all is_anchor_text (p ++ q) ≡ true
names_append [] q h k = k
names_append (n ∷ p) q h k = let both = both_true (is_anchor_text n) (list_all is_anchor_text p) h in rw both.0 (names_append p q both.1 k)

below : (n : ℕ) → nat_lt 1024 n ≡ false → n ≤ 1024
below n e = grind (arith, nat_tests, e)

mutual
  item_named : (p : Path) (i : ItemValue) → list_all is_anchor_text p ≡ true → good_item i ≡ true → is_overfull i ≡ false → AllByRecursion IsNamed (blocks_of p i)
  item_named p (item.Filters r) k h o = tt
  item_named p (item.Anchors g) k h o = tt
  item_named p (item.Blocks g block) k h o =
      let both = both_true (good_target g.target) (good_items block) h in
      let own = both_true (nat_le 1 (length g.target.names) && nat_le (length g.target.names) 8) (list_all is_anchor_text g.target.names) both.0 in
      let full = or_parts (nat_lt 1024 (length (list_of block))) (any_overfull block) o in
      let names = names_append p g.target.names k own.1 in
      (record { names = names; rules = loaded_rules (list_of block) (below (length (list_of block)) full.0) (list_good block both.1) }, items_named (p ++ g.target.names) block names both.1 full.1)

  pub items_named : (p : Path) (is : ItemValues) → list_all is_anchor_text p ≡ true → good_items is ≡ true → any_overfull is ≡ false → AllByRecursion IsNamed (blocks_in p is)
  items_named p no_items k h o = tt
  items_named p (one_more i is) k h o =
      let both = both_true (good_item i) (good_items is) h in
      let full = or_parts (is_overfull i) (any_overfull is) o in
      each_append IsNamed (blocks_of p i) (blocks_in p is) (item_named p i k both.0 full.0) (items_named p is k both.1 full.1)

values_room : (items : List ItemValue) → list_any is_overfull items ≡ false → any_overfull (values_of items) ≡ false
values_room [] h = refl
values_room (i ∷ items) h = let both = or_parts (is_overfull i) (list_any is_overfull items) h in rw both.0 (values_room items both.1)

pub loaded_blocks : (p : Path) (items : List ItemValue) → list_all is_anchor_text p ≡ true → AreGood items → AllByRecursion IsNamed (blocks_in p (values_of items))
loaded_blocks p items k h = items_named p (values_of items) k (values_good items h.targets) (values_room items h.room.1)
