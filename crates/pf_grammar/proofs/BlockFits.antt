-- The rules that a source gives, where no cause is found, are such as are shown and read again.
use Rattle.std.proofs.Common.{◌≡◌, ℕ, ◌+◌, ◌<◌, ◌≤◌, ◌&&◌, Bool, true, false, not, cond, List, [], ◌∷◌, ◌++◌, length, map, Option, Some, None, is_none, refl, sym, ap, subst, ◌∙◌, arith}
use Rattle.std.specs.Prelude.{nat_lt}
use Rattle.std.specs.List.{AllByRecursion, list_any}
use Rattle.std.proofs.lemmas.Bool.{false≢true, or_parts}
use Rattle.std.proofs.lemmas.Bool.Decides.{nat_tests}
use Rattle.pf_rules.specs.declared.profile.Profile.{Profile}
use Rattle.pf_tokens.specs.Tokens.{Token}
use Rattle.pf_statements.specs.Conditions.{ConditionsText}
use Rattle.pf_statements.proofs.BehindSpelled.{same_word}
use Rattle.pf_rules.specs.declared.parts.FlagTest.{FlagTest}
use Rattle.pf_rules.specs.declared.parts.Policy.{Policy}
use Rattle.pf_rules.specs.declared.rule.Rule.{Rule}
use Rattle.pf_rules.specs.declared.rule.Conditions.{Conditions}
use Rattle.pf_rules.specs.Names.{Name, begins_below}
use Rattle.pf_rules.specs.Items.{Target, Heading, ItemValue, Filters, Anchors, list_of, values_of}
use Rattle.pf_statements.specs.Anchors.{AnchorText, HeadingText, anchor_with}
use Rattle.pf_statements.specs.Statements.{ItemText, ItemTexts, no_texts, one_text, is_wild}
use Rattle.pf_statements.specs.Grammar.{IsHeading, IsItem, ARule, AnAnchor, ABlock, AreItems, NoItem, EmptyLine, OneItem}
use Rattle.pf_expansion.specs.declared.judged.Judged.{Judged}
use Rattle.pf_expansion.specs.Expansion.{combined, expanded, rule_flags, tested_flags}
use Rattle.pf_expansion.specs.Causes.{bad_ports, bad_types, has_no_combination, is_too_wide, has_deep_list, is_empty}
use Rattle.pf_expansion.specs.Anchors.{anchor_flags, given_name, headings, heading_with, is_reserved, is_given, is_misnamed}
use Rattle.pf_expansion.specs.Blocks.{given_target, next_unnamed, target_or_given, named, unnamed_after, carried, item_values, block_values, both, conditions_judged, ruleset_judged, item_judged, block_judged, nothing_wrong, is_reserved_name, item_misnamed, block_misnamed, is_unnamed, unnamed_with, unnamed_in}
use Rattle.pf_expansion.proofs.Given.{given_form, le_is}
use Rattle.pf_grammar.proofs.ShownTokens.{FitsRule}
use Rattle.pf_grammar.proofs.RuleFits.{text_fits, expanded_fit}
use Rattle.pf_grammar.proofs.AnchorLine.{FitsHeading}
use Rattle.pf_grammar.proofs.AnchorFits.{FitsAnchorText, anchor_text_fits, heading_text_fits, said_text_fits, headings_fit}
use Rattle.pf_grammar.proofs.Numbers.{number_again}
use Rattle.pf_grammar.proofs.PlainNames.{free_named}
use Rattle.pf_grammar.proofs.BlockRoom.{list_again, block_fine}
use Rattle.pf_grammar.proofs.BlockValues.{FitsName, FitsItem, FitsItems}

-- ---- rules one after another

abbrev pub AllFit : Profile → ℕ → List ItemValue → Type 0
AllFit profile u [] = Unit {0}
AllFit profile u (x ∷ xs) = FitsItem profile u x × AllFit profile (unnamed_with u x) xs

pub as_items : (profile : Profile) (u : ℕ) (xs : List ItemValue) → AllFit profile u xs → FitsItems profile u (values_of xs)
as_items profile u [] fits = tt
as_items profile u (x ∷ xs) fits = (fits.0, as_items profile (unnamed_with u x) xs fits.1)

all_behind : (profile : Profile) (u : ℕ) (xs ys : List ItemValue) → AllFit profile u xs → AllFit profile (unnamed_in u xs) ys → AllFit profile u (xs ++ ys)
all_behind profile u [] ys p q = q
all_behind profile u (x ∷ xs) ys p q = (p.0, all_behind profile (unnamed_with u x) xs ys p.1 q)

pub unnamed_behind : (u : ℕ) (xs ys : List ItemValue) → unnamed_in u (xs ++ ys) ≡ unnamed_in (unnamed_in u xs) ys
unnamed_behind u [] ys = refl
unnamed_behind u (x ∷ xs) ys = unnamed_behind (unnamed_with u x) xs ys

pub filters_all : (profile : Profile) (u : ℕ) (rs : List Rule) → AllByRecursion (FitsRule profile) rs → AllFit profile u (map (λ (r : Rule). Filters r) rs)
filters_all profile u [] all = tt
filters_all profile u (r ∷ rs) all = (all.0, filters_all profile u rs all.1)

pub filters_count : (u : ℕ) (rs : List Rule) → unnamed_in u (map (λ (r : Rule). Filters r) rs) ≡ u
filters_count u [] = refl
filters_count u (r ∷ rs) = filters_count u rs

anchors_all : (profile : Profile) (u : ℕ) (a : AnchorText) (cs : List Conditions) → is_misnamed u a.target ≡ false → AllByRecursion (FitsHeading profile) (map (heading_with a) cs) → AllFit profile u (map (λ (h : Heading). Anchors h) (map (heading_with a) cs))
anchors_all profile u a [] free all = tt
anchors_all profile u a (c ∷ cs) free all = ((all.0, free), anchors_all profile u a cs free all.1)

anchors_count : (u : ℕ) (hs : List Heading) → unnamed_in u (map (λ (h : Heading). Anchors h) hs) ≡ u
anchors_count u [] = refl
anchors_count u (h ∷ hs) = anchors_count u hs

-- ---- what is wrong: nothing

pub record Clear (j : Judged) : Type 0 where
  pub ports : j.ports ≡ false
  pub combination : j.combination ≡ false
  pub many : j.many ≡ false
  pub types : j.types ≡ false

pub both_clear : (a b : Judged) → Clear (both a b) → Clear a × Clear b
both_clear a b c =
    let p = or_parts a.ports b.ports c.ports in
    let q = or_parts a.combination b.combination c.combination in
    let m = or_parts a.many b.many c.many in
    let t = or_parts a.types b.types c.types in
    (record { ports = p.0; combination = q.0; many = m.0; types = t.0 }, record { ports = p.1; combination = q.1; many = m.1; types = t.1 })

pub ruleset_clear : (j : Judged) → Clear (ruleset_judged j) → Clear j × (nat_lt 1024 j.rules ≡ false)
ruleset_clear j c = let m = or_parts j.many (nat_lt 1024 j.rules) c.many in (record { ports = c.ports; combination = c.combination; many = m.0; types = c.types }, m.1)

pub record Parts (test : FlagTest) (text : ConditionsText) : Type 0 where
  pub ports : bad_ports text ≡ false
  pub combination : has_no_combination test text ≡ false
  pub wide : is_too_wide text ≡ false
  pub types : bad_types text ≡ false

pub parts_of : (test : FlagTest) (text : ConditionsText) → Clear (conditions_judged test text) → Parts test text
unfolding conditions_judged
parts_of test text c = record { ports = c.ports; combination = c.combination; wide = (or_parts (is_too_wide text) (has_deep_list text) c.many).0; types = c.types }

pub some_found : (test : FlagTest) (text : ConditionsText) → Parts test text → is_empty (combined test text) ≡ false
unfolding has_no_combination
some_found test text p = ap (λ (b : Bool). not b && is_empty (combined test text)) (sym p.wide) ∙ p.combination

-- ---- names

next_small : (u : ℕ) → (1 ≤ next_unnamed u) × (next_unnamed u ≤ 65535)
next_small u = cases (nat_lt u 65535) refl
  where
    lower : nat_lt u 65535 ≡ true → u < 65535
    lower e = grind (arith, nat_tests, e)

    cases : (b : Bool) → nat_lt u 65535 ≡ b → (1 ≤ cond b (u + 1) 65535) × (cond b (u + 1) 65535 ≤ 65535)
    cases true e = let h = lower e in (omega arith, omega (arith, h))
    cases false e = (omega arith, omega arith)

-- the name of an unnamed block is given from then on
given_is : (k : ℕ) → 1 ≤ k → k ≤ 65535 → is_given k (given_name k) ≡ true
unfolding is_given
given_is k some small = rw (number_again 5 65535 k (omega arith) small (omega (arith, small)) (omega (arith, small)), le_is 1 k some, le_is k k (omega arith), same_word (given_name k)) refl

and_not : (b : Bool) → (b && not true) ≡ false
and_not true = refl
and_not false = refl

given_named : (u : ℕ) → is_misnamed (next_unnamed u) (given_target (next_unnamed u)) ≡ false
unfolding is_misnamed
given_named u = let k = next_small u in rw (given_is (next_unnamed u) k.0 k.1) (and_not (is_reserved (given_target (next_unnamed u))))

free_unnamed : (names : List Name) → list_any begins_below names ≡ false → is_unnamed names ≡ false
free_unnamed [] e = refl
free_unnamed (name ∷ []) e = (or_parts (begins_below name) false e).0
free_unnamed (name ∷ other ∷ names) e = refl

-- ---- blocks

-- a block that is at a place, and the rules behind it
record Placed (profile : Profile) (u : ℕ) (h : HeadingText) (target : Target) : Type 0 where
  name : FitsName u target
  after : cond (is_unnamed target.names) (next_unnamed u) u ≡ cond (is_none h.target) (next_unnamed u) u
  free : is_misnamed (cond (is_unnamed target.names) (next_unnamed u) u) target ≡ false
  text : FitsAnchorText profile (anchor_with h target)

placed_by : (profile : Profile) (u : ℕ) (ts : List Token) (h : HeadingText) (o : Option Target) → h.target ≡ o → IsHeading profile ts h → is_wild o ≡ false → is_reserved_name o ≡ false → Placed profile u h (target_or_given u o)
placed_by profile u ts h None e is wild free = record {
  name = record { given = λ x. refl; free = λ x. absurd (false≢true (sym x)); plain = refl };
  after = rw e refl;
  free = given_named u;
  text = (let k = next_small u in heading_text_fits profile ts h (given_target (next_unnamed u)) is (given_form (next_unnamed u) (omega (arith, k.1)), tt) refl);
}
placed_by profile u ts h (Some t) e is wild free =
    let plain = free_unnamed t.names free in
    record {
      name = record { given = λ x. absurd (false≢true (sym plain ∙ x)); free = λ x. free; plain = wild };
      after = rw (plain, e) refl;
      free = free_named _ t free;
      text = said_text_fits profile ts h t is e;
    }

-- the rules of an anchor rule with its block
carried_all : (profile : Profile) (u : ℕ) (h : HeadingText) (target : Target) (cs : List Conditions) (block : List ItemValue) → Placed profile u h target → is_empty cs ≡ false → AllByRecursion (FitsHeading profile) (map (heading_with (anchor_with h target)) cs) → length block ≤ 1024 → AllFit profile 0 block
    → AllFit profile u (carried (map (heading_with (anchor_with h target)) cs) (values_of block)) × (unnamed_in u (carried (map (heading_with (anchor_with h target)) cs) (values_of block)) ≡ cond (is_none h.target) (next_unnamed u) u)
carried_all profile u h target [] block placed some all few fits = absurd (false≢true (sym some))
carried_all profile u h target (c ∷ cs) block placed some all few fits =
    let count : length (list_of (values_of block)) ≤ 1024 = (let l = ap (λ (xs : List ItemValue). length xs) (list_again block) in omega (arith, few, l)) in
    (((all.0, placed.name, count, as_items profile 0 block fits), anchors_all profile (cond (is_unnamed target.names) (next_unnamed u) u) (anchor_with h target) cs placed.free all.1), anchors_count _ (map (heading_with (anchor_with h target)) cs) ∙ placed.after)

pub anchor_fits : (profile : Profile) (u : ℕ) (a : AnchorText) → is_misnamed u a.target ≡ false → AllByRecursion (FitsHeading profile) (headings a) → AllFit profile u (map (λ (h : Heading). Anchors h) (headings a)) × (unnamed_in u (map (λ (h : Heading). Anchors h) (headings a)) ≡ u)
unfolding headings
anchor_fits profile u a free all = (anchors_all profile u a (combined (anchor_flags a) a.conditions) free all, anchors_count u (map (heading_with a) (combined (anchor_flags a) a.conditions)))

block_of : (profile : Profile) (u : ℕ) (h : HeadingText) (target : Target) (block : List ItemValue) → Placed profile u h target → is_empty (combined (tested_flags false h.conditions.flags) h.conditions) ≡ false → AllByRecursion (FitsHeading profile) (headings (anchor_with h target)) → length block ≤ 1024 → AllFit profile 0 block
    → AllFit profile u (carried (headings (anchor_with h target)) (values_of block)) × (unnamed_in u (carried (headings (anchor_with h target)) (values_of block)) ≡ cond (is_none h.target) (next_unnamed u) u)
unfolding headings
block_of profile u h target block placed some all few fits = carried_all profile u h target (combined (tested_flags false h.conditions.flags) h.conditions) block placed some all few fits

below : (n : ℕ) → nat_lt 1024 n ≡ false → n ≤ 1024
below n e = grind (arith, nat_tests, e)

-- what is clear with more is clear before
pub block_before : (before : Judged) (items : ItemTexts) → Clear (block_judged before items) → Clear before
block_before before no_texts c = c
block_before before (one_text item items) c = (both_clear before (item_judged item) (block_before (both before (item_judged item)) items c)).0

mutual
  pub item_fits : (profile : Profile) (p : Policy) (u : ℕ) (ts : List Token) (item : ItemText) → IsItem profile ts item → Clear (item_judged item) → item_misnamed u item ≡ false → AllFit profile u (item_values p u item) × (unnamed_in u (item_values p u item) ≡ unnamed_after u item)
  item_fits profile p u _ _ (ARule ts rule is) clear named =
      let parts = parts_of (rule_flags rule) rule.conditions clear in
      (filters_all profile u (expanded p rule) (expanded_fit profile p rule (text_fits profile ts rule is) parts.ports parts.types), filters_count u (expanded p rule))
  item_fits profile p u _ _ (AnAnchor ts a is) clear free =
      let parts = parts_of (anchor_flags a) a.conditions clear in
      anchor_fits profile u a free (headings_fit profile a (anchor_text_fits profile ts a is) parts.ports parts.types)
  item_fits profile p u _ _ (ABlock ts us h items is wild are) clear free =
      let test = tested_flags false h.conditions.flags in
      let halves = both_clear (conditions_judged test h.conditions) (ruleset_judged (block_judged nothing_wrong items)) clear in
      let parts = parts_of test h.conditions halves.0 in
      let inner = ruleset_clear (block_judged nothing_wrong items) halves.1 in
      let names = or_parts (is_reserved_name h.target) (block_misnamed 0 items) free in
      let placed = placed_by profile u ts h h.target refl is wild names.0 in
      let block = block_fits profile p 0 us nothing_wrong items are inner.0 names.1 in
      let fine = (block_fine p 0 nothing_wrong items inner.0.many).1.count in
      let few = below (block_judged nothing_wrong items).rules inner.1 in
      block_of profile u h (target_or_given u h.target) (block_values p 0 items) placed (some_found test h.conditions parts) (headings_fit profile (anchor_with h (target_or_given u h.target)) placed.text parts.ports parts.types) (omega (arith, fine, few)) block

  pub block_fits : (profile : Profile) (p : Policy) (u : ℕ) (us : List Token) (before : Judged) (items : ItemTexts) → AreItems profile us items → Clear (block_judged before items) → block_misnamed u items ≡ false → AllFit profile u (block_values p u items)
  block_fits profile p u _ before _ NoItem clear free = tt
  block_fits profile p u _ before _ (EmptyLine ts items are) clear free = block_fits profile p u ts before items are clear free
  block_fits profile p u _ before _ (OneItem ts us item items is over are) clear free =
      let names = or_parts (item_misnamed u item) (block_misnamed (unnamed_after u item) items) free in
      let here = block_before (both before (item_judged item)) items clear in
      let halves = both_clear before (item_judged item) here in
      let one = item_fits profile p u ts item is halves.1 names.0 in
      let more = block_fits profile p (unnamed_after u item) us (both before (item_judged item)) items are clear names.1 in
      all_behind profile u (item_values p u item) (block_values p (unnamed_after u item) items) one.0 (subst (λ (n : ℕ). AllFit profile n (block_values p (unnamed_after u item) items)) (sym one.1) more)
