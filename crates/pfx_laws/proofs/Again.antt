-- A ruleset that was read is the same after it is shown and read again. What is shown of a rule with its block has no fault while
-- it is read, if it isn't too long: its blocks nest no deeper than those of the text, and its tokens are good.
use Rattle.std.proofs.Common.{◌≡◌, ℕ, ◌+◌, ◌-◌, ◌≤◌, Bool, true, false, ◌&&◌, ◌||◌, cond, List, [], ◌∷◌, ◌++◌, map, length, Option, Some, None, Result, Ok, Err, refl, sym, subst, ap, ◌∙◌, append_assoc, arith, length-append}
use Rattle.std.specs.Prelude.{codes, nat_le, nat_lt}
use Rattle.std.specs.List.{list_all, AllByRecursion}
use Rattle.std.proofs.lemmas.Bool.{false≢true, or_parts, leb-true}
use Rattle.std.proofs.lemmas.Bool.Decides.{nat_tests}
use Rattle.std.proofs.lemmas.List.{append-nil, length-map}
use Rattle.pf_rules.specs.declared.profile.Profile.{Profile}
use Rattle.pf_rules.specs.Words.{is_interface_name}
use Rattle.pf_tokens.specs.declared.fault.ReadingFault.{ReadingFault}
use Rattle.pf_tokens.specs.declared.symbol.Symbol.TheVariants.{Open, Close}
use Rattle.pf_tokens.specs.declared.defining.DefinitionFault.{DefinitionFault}
use Rattle.pf_tokens.specs.declared.defining.DefinitionFault.TheVariants as defining
use Rattle.pf_tokens.specs.Tokens.{Token, Word, Quoted, Mark, Newline, Placed, tokens}
use Rattle.pf_tokens.specs.Macros.{Definition, depth_after}
use Rattle.pf_tokens.specs.Faults.{reading_fault, is_bad, is_unknown}
use Rattle.pf_tokens.specs.Parsing.{tokens_of}
use Rattle.pf_tokens.specs.Defining.{definition_at}
use Rattle.pf_tokens.specs.Reading.{reading_from}
use Rattle.pf_rules.specs.declared.parts.Policy.{Policy}
use Rattle.pf_rules.specs.declared.parts.FlagTest.{FlagTest}
use Rattle.pf_rules.specs.declared.rule.Rule.{Rule}
use Rattle.pf_rules.specs.Items.{Target, Heading, ItemValue, ItemValues, no_items, one_more, values_of}
use Rattle.pf_rules.specs.Items as item
use Rattle.pf_rules.specs.Names.{Name}
use Rattle.pf_rules.specs.Rulesets.{RulesetValue, TableValue}
use Rattle.pf_statements.specs.Conditions.{ConditionsText}
use Rattle.pf_statements.specs.Anchors.{HeadingText}
use Rattle.pf_statements.specs.Statements.{Statement, Sets, Setting, ItemText, RuleItem, AnchorItem, BlockItem, ItemTexts, no_texts, one_text, value_of}
use Rattle.pf_statements.specs.Grammar.{IsSetting, PolicySetting, SkipSetting, ABlock, IsStatement, SetStatement, TableStatement, RuleStatement, AnchorStatement, BlockStatement}
use Rattle.pf_statements.proofs.StatementsSpelled.{statement_took}
use Rattle.pf_expansion.specs.declared.cause.Cause.{Cause}
use Rattle.pf_expansion.specs.declared.cause.Cause.TheVariants.{Ports, NoCombination, Reserved, Twice, SetHere, TooMany, IcmpType}
use Rattle.pf_expansion.specs.Expansion.{expanded, rule_flags}
use Rattle.pf_expansion.specs.Causes.{bad_ports, has_no_combination, has_too_many, bad_types, is_deep, lowest, condition_causes}
use Rattle.pf_expansion.specs.Tables.{table_value, is_defined, is_too_long}
use Rattle.pf_expansion.specs.Anchors.{anchor_flags, headings, is_misnamed}
use Rattle.pf_expansion.specs.Blocks.{Path, any_among, comes_again, paths_within, named, unnamed_after, carried, item_values, block_values, item_judged, item_misnamed, is_twice, unnamed_in, is_unnamed}
use Rattle.pf_show.specs.Shown.{shown, shown_item, target_text, skip_line, shown_rules, table_lines}
use Rattle.pf_grammar.specs.declared.fault.Refusal.{Refusal}
use Rattle.pf_grammar.specs.declared.place.Place.{Place}
use Rattle.pf_grammar.specs.declared.place.Place.TheVariants.{Main, Anchor}
use Rattle.pf_grammar.specs.Causes.{is_anchor, setting_causes, statement_cause}
use Rattle.pf_grammar.specs.Reading.{Sofar, nothing, macros_of, judge, statement_outcome, defined, answered, unless_fault, after_statement, ruleset_if, reading}
use Rattle.pf_grammar.proofs.Made.{reading_keeps, some_fits, name_fits}
use Rattle.pf_grammar.proofs.ShownTokens.{rule_tokens}
use Rattle.pf_grammar.proofs.RuleFits.{text_fits, expanded_fit}
use Rattle.pf_grammar.proofs.RuleParts.{more_tokens}
use Rattle.pf_grammar.proofs.Lines.{Simple, so_far, rule_short}
use Rattle.pf_grammar.proofs.Lines as lines
use Rattle.pf_grammar.proofs.Parts.{lexed, at_line}
use Rattle.pf_grammar.proofs.AnchorLine.{as_rule, anchor_tokens, anchor_short, more_short, simple_string}
use Rattle.pf_grammar.proofs.AnchorFits.{anchor_text_fits, headings_fit}
use Rattle.pf_grammar.proofs.BlockFits.{Clear, filters_all, anchor_fits, item_fits}
use Rattle.pf_grammar.proofs.BlockPaths.{from_append, from_all, filters_none, anchors_none, from_carried, item_paths_are}
use Rattle.pf_grammar.proofs.BlockValues.{FitsItem, name_tokens, heading_tokens, item_tokens, block_tokens}
use Rattle.pf_grammar.proofs.BlockLines.{end_line, placed_item, item_lexes, item_tokens_of, tokens_append}
use Rattle.pf_grammar.proofs.ItemsAgain.{FitsFrom, IsStatementLong, items_again}
use Rattle.pf_grammar.proofs.ReadingSteps.{Room, few_stay}
use Rattle.pf_grammar.proofs.SkipLine.{AreNames, skip_again}
use Rattle.pf_grammar.proofs.TableLine.{FitTables, tables_again}
use Rattle.pf_grammar.proofs.TablesFit.{table_text_fits, table_fits, tables_append}
use Rattle.pfx_laws.specs.Lengths.{is_short}
use Rattle.pfx_laws.proofs.Braces.{low, fault_low, opened, at_most, both_true, text_shallow, texts_shallow, item_shallow}
use Rattle.pfx_laws.proofs.Changed.{all_append as each_append}
use Rattle.pfx_laws.proofs.Readings.{all_append, made_is, answered_is, done_is}

-- ---- how deep the blocks of rules nest

abbrev mutual
  -- with that many braces open before it, no more than 64 are open at once where it is shown
  pub shallow : ℕ → ItemValue → Bool
  shallow d (item.Filters r) = true
  shallow d (item.Anchors h) = true
  shallow d (item.Blocks h block) = nat_le (d + 1) 64 && block_shallow (d + 1) block

  pub block_shallow : ℕ → ItemValues → Bool
  block_shallow d no_items = true
  block_shallow d (one_more i is) = shallow d i && block_shallow d is

filters_shallow : (d : ℕ) (rs : List Rule) → list_all (shallow d) (map (λ (r : Rule). item.Filters r) rs) ≡ true
filters_shallow d [] = refl
filters_shallow d (r ∷ rs) = filters_shallow d rs

anchors_shallow : (d : ℕ) (hs : List Heading) → list_all (shallow d) (map (λ (h : Heading). item.Anchors h) hs) ≡ true
anchors_shallow d [] = refl
anchors_shallow d (h ∷ hs) = anchors_shallow d hs

carried_shallow : (d : ℕ) (hs : List Heading) (block : ItemValues) → nat_le (d + 1) 64 ≡ true → block_shallow (d + 1) block ≡ true → list_all (shallow d) (carried hs block) ≡ true
carried_shallow d [] block e k = refl
carried_shallow d (h ∷ hs) block e k = rw (e, k) (anchors_shallow d hs)

values_shallow : (d : ℕ) (xs : List ItemValue) → list_all (shallow d) xs ≡ true → block_shallow d (values_of xs) ≡ true
values_shallow d [] h = refl
values_shallow d (x ∷ xs) h = let both = both_true (shallow d x) (list_all (shallow d) xs) h in rw both.0 (values_shallow d xs both.1)

mutual
  rules_shallow : (d : ℕ) (p : Policy) (u : ℕ) (x : ItemText) → text_shallow d x ≡ true → list_all (shallow d) (item_values p u x) ≡ true
  rules_shallow d p u (RuleItem rule) h = filters_shallow d (expanded p rule)
  rules_shallow d p u (AnchorItem a) h = anchors_shallow d (headings a)
  rules_shallow d p u (BlockItem g items) h =
      let both = both_true (nat_le (d + 1) 64) (texts_shallow (d + 1) items) h in
      carried_shallow d (headings (named u g)) (values_of (block_values p 0 items)) both.0 (values_shallow (d + 1) (block_values p 0 items) (blocks_shallow (d + 1) p 0 items both.1))

  blocks_shallow : (d : ℕ) (p : Policy) (u : ℕ) (items : ItemTexts) → texts_shallow d items ≡ true → list_all (shallow d) (block_values p u items) ≡ true
  blocks_shallow d p u no_texts h = refl
  blocks_shallow d p u (one_text x items) h =
      let both = both_true (text_shallow d x) (texts_shallow d items) h in
      all_append (shallow d) (item_values p u x) (block_values p (unnamed_after u x) items) (rules_shallow d p u x both.0) (blocks_shallow d p (unnamed_after u x) items both.1)

-- ---- what a ruleset gives can be shown, and its blocks nest so

record IsFit (place : Place) (profile : Profile) (sofar : Sofar) : Type 0 where
  skip : AreNames profile sofar.content.skip
  main : is_anchor place ≡ true → sofar.content.skip ≡ []
  tables : FitTables profile [] sofar.content.tables
  items : FitsFrom profile [] sofar.content.items
  deep : list_all (shallow 0) sofar.content.items ≡ true

record NoCause (text : ConditionsText) (reserved : Bool) : Type 0 where
  ports : bad_ports text ≡ false
  free : reserved ≡ false
  types : bad_types text ≡ false

none_found : (test : FlagTest) (before : ℕ) (reserved : Bool) (text : ConditionsText) → lowest (condition_causes test before reserved text) ≡ None → NoCause text reserved
none_found test before reserved text e = cases (bad_ports text) (has_no_combination test text) reserved (has_too_many test before text) (bad_types text) refl refl refl e
  where
    cases : (a b r c d : Bool) → bad_ports text ≡ a → reserved ≡ r → bad_types text ≡ d
        → cond a (Some Ports) (cond b (Some NoCombination) (cond r (Some Reserved) (cond c (Some TooMany) (cond d (Some IcmpType) None)))) ≡ None → NoCause text reserved
    cases true b r c d p_is r_is t_is e = absurd cc
    cases false true r c d p_is r_is t_is e = absurd cc
    cases false false true c d p_is r_is t_is e = absurd cc
    cases false false false true d p_is r_is t_is e = absurd cc
    cases false false false false true p_is r_is t_is e = absurd cc
    cases false false false false false p_is r_is t_is e = record { ports = p_is; free = r_is; types = t_is }

six : (a b c d e f : Bool) → lowest ((a, Ports) ∷ (b, NoCombination) ∷ (c, Reserved) ∷ (d, Twice) ∷ (e, TooMany) ∷ (f, IcmpType) ∷ []) ≡ None → (a ≡ false) × (b ≡ false) × (c ≡ false) × (d ≡ false) × (e ≡ false) × (f ≡ false)
six true b c d e f is = absurd cc
six false true c d e f is = absurd cc
six false false true d e f is = absurd cc
six false false false true e f is = absurd cc
six false false false false true f is = absurd cc
six false false false false false true is = absurd cc
six false false false false false false is = (refl, refl, refl, refl, refl, refl)

-- nothing is set in a ruleset for an anchor
set_main : (place : Place) (b : Bool) → lowest ((is_anchor place, SetHere) ∷ (b, TooMany) ∷ []) ≡ None → is_anchor place ≡ true → ⊥
set_main Main b e anchor = false≢true anchor
set_main Anchor b e anchor = cc

two : (a b : Bool) → lowest ((a, Twice) ∷ (b, TooMany) ∷ []) ≡ None → (a ≡ false) × (b ≡ false)
two true b e = absurd cc
two false true e = absurd cc
two false false e = (refl, refl)

setting_fits : (place : Place) (profile : Profile) (sofar : Sofar) (ts : List Token) (setting : Setting) → IsSetting profile ts setting → lowest (setting_causes place setting) ≡ None → IsFit place profile sofar → IsFit place profile (after_statement sofar (Some (Sets setting)))
setting_fits place profile sofar _ _ (PolicySetting ts said is) e h = record { skip = h.skip; main = h.main; tables = h.tables; items = h.items; deep = h.deep }
setting_fits place profile sofar _ _ (SkipSetting ts names is) e h = record {
  skip = each_append (λ name. is_interface_name profile name ≡ true) sofar.content.skip names.items h.skip (some_fits (λ name. is_interface_name profile name ≡ true) (name_fits profile) ts names is);
  main = λ anchor. absurd (set_main place (is_deep names) e anchor);
  tables = h.tables;
  items = h.items;
  deep = h.deep;
}

once_is : (p : Policy) (before : List ItemValue) (h : HeadingText) (block : ItemTexts) → Clear (item_judged (BlockItem h block)) → is_twice before (BlockItem h block) ≡ false → (any_among (paths_within [] (values_of before)) (paths_within [] (values_of (item_values p (unnamed_in 0 before) (BlockItem h block)))) || comes_again (paths_within [] (values_of (item_values p (unnamed_in 0 before) (BlockItem h block))))) ≡ false
unfolding is_twice
once_is p before h block clear e = ap (λ (ps : List Path). any_among (paths_within [] (values_of before)) ps || comes_again ps) (item_paths_are p [] (unnamed_in 0 before) (BlockItem h block) clear) ∙ e

statement_fits : (place : Place) (profile : Profile) (sofar : Sofar) (ts : List Token) (s : Statement) → IsStatement profile ts s → low 0 ts ≡ true → statement_cause place sofar.content.tables sofar.content.items (Some s) ≡ None → IsFit place profile sofar → IsFit place profile (after_statement sofar (Some s))
statement_fits place profile sofar _ _ (SetStatement ts setting is) l e h = setting_fits place profile sofar ts setting is e h
statement_fits place profile sofar _ _ (TableStatement ts table is) l e h =
    let none = two (is_defined sofar.content.tables table.name) (is_too_long table.entries) e in
    record {
      skip = h.skip;
      main = h.main;
      tables = tables_append profile [] sofar.content.tables (table_value table) h.tables (table_fits profile table (table_text_fits profile ts table is) none.1) none.0;
      items = h.items;
      deep = h.deep;
    }
statement_fits place profile sofar _ _ (RuleStatement ts rule is) l e h =
    let u = unnamed_in 0 sofar.content.items in
    let none = none_found (rule_flags rule) (length sofar.content.items) false rule.conditions e in
    let rules = expanded sofar.policy rule in
    let more = map (λ (r : Rule). item.Filters r) rules in
    let fits = filters_all profile u rules (expanded_fit profile sofar.policy rule (text_fits profile ts rule is) none.ports none.types) in
    record {
      skip = h.skip;
      main = h.main;
      tables = h.tables;
      items = from_append profile [] sofar.content.items more h.items (from_all profile sofar.content.items more fits (filters_none rules));
      deep = all_append (shallow 0) sofar.content.items more h.deep (filters_shallow 0 rules);
    }
statement_fits place profile sofar _ _ (AnchorStatement ts a is) l e h =
    let u = unnamed_in 0 sofar.content.items in
    let none = none_found (anchor_flags a) (length sofar.content.items) (is_misnamed u a.target) a.conditions e in
    let more = map (λ (g : Heading). item.Anchors g) (headings a) in
    let fits = (anchor_fits profile u a none.free (headings_fit profile a (anchor_text_fits profile ts a is) none.ports none.types)).0 in
    record {
      skip = h.skip;
      main = h.main;
      tables = h.tables;
      items = from_append profile [] sofar.content.items more h.items (from_all profile sofar.content.items more fits (anchors_none (headings a)));
      deep = all_append (shallow 0) sofar.content.items more h.deep (anchors_shallow 0 (headings a));
    }
statement_fits place profile sofar _ _ (BlockStatement ts us g items is wild are) l e h =
    let u = unnamed_in 0 sofar.content.items in
    let x = BlockItem g items in
    let j = item_judged x in
    let block = ABlock ts us g items is wild are in
    let ws = Word (codes "anchor") ∷ (ts ++ (Mark Open ∷ (us ++ (Mark Close ∷ [])))) in
    let none = six j.ports j.combination (item_misnamed u x) (is_twice sofar.content.items x) (j.many || nat_lt 1024 (length sofar.content.items + j.rules)) j.types e in
    let many = or_parts j.many (nat_lt 1024 (length sofar.content.items + j.rules)) none.4 in
    let clear : Clear j = record { ports = none.0; combination = none.1; many = many.0; types = none.5 } in
    let fits = (item_fits profile sofar.policy u ws x block clear none.2).0 in
    let deep = item_shallow profile ws x block 0 [] (omega arith) (subst (λ (r : List Token). low 0 r ≡ true) (sym (append-nil ws)) l) in
    let more = item_values sofar.policy u x in
    record {
      skip = h.skip;
      main = h.main;
      tables = h.tables;
      items = from_append profile [] sofar.content.items more h.items (from_carried profile sofar.content.items (headings (named u g)) (values_of (block_values sofar.policy 0 items)) fits (once_is sofar.policy sofar.content.items g items clear none.3));
      deep = all_append (shallow 0) sofar.content.items more h.deep (rules_shallow 0 sofar.policy u x deep);
    }

value_fits : (place : Place) (profile : Profile) (sofar : Sofar) (ts : List Token) (value : Option Statement) → value_of profile ts ≡ value → low 0 ts ≡ true → statement_cause place sofar.content.tables sofar.content.items value ≡ None → IsFit place profile sofar → IsFit place profile (after_statement sofar value)
value_fits place profile sofar ts None e l k h = h
value_fits place profile sofar ts (Some s) e l k h = statement_fits place profile sofar ts s (statement_took profile ts s e) l k h

none_answered : (line : ℕ) (sofar next : Sofar) (value : Option Statement) (cause : Option Cause) → answered line sofar value cause ≡ Ok next → cause ≡ None
none_answered line sofar next value None e = refl
none_answered line sofar next value (Some cause) e = absurd cc

defined_fits : (place : Place) (profile : Profile) (line : ℕ) (sofar next : Sofar) (r : Result Definition DefinitionFault) → IsFit place profile sofar → defined line sofar r ≡ Ok next → IsFit place profile next
defined_fits place profile line sofar next (Ok d) h e = subst (IsFit place profile) (done_is (record sofar { macros = sofar.macros ++ d ∷ [] }) next e) (record { skip = h.skip; main = h.main; tables = h.tables; items = h.items; deep = h.deep })
defined_fits place profile line sofar next (Err defining.Memory) h e = absurd cc
defined_fits place profile line sofar next (Err defining.Macro) h e = absurd cc
defined_fits place profile line sofar next (Err defining.Syntax) h e = absurd cc

outcome_fits : (place : Place) (profile : Profile) (sofar next : Sofar) (line : ℕ) (w : Bool) (ts : List Token) → low 0 ts ≡ true → IsFit place profile sofar → statement_outcome place profile sofar line w ts ≡ Ok next → IsFit place profile next
outcome_fits place profile sofar next line true ts l h e = defined_fits place profile line sofar next (definition_at profile sofar.macros ts) h e
outcome_fits place profile sofar next line false ts l h e =
    let cause = statement_cause place sofar.content.tables sofar.content.items (value_of profile ts) in
    subst (IsFit place profile) (answered_is line sofar next (value_of profile ts) cause e) (value_fits place profile sofar ts (value_of profile ts) refl l (none_answered line sofar next (value_of profile ts) cause e) h)

unless_both : (line : ℕ) (o : Option ReadingFault) (r : Result Sofar Refusal) (next : Sofar) → unless_fault line o r ≡ Ok next → (o ≡ None) × (r ≡ Ok next)
unless_both line None r next e = (refl, e)
unless_both line (Some fault) r next e = absurd cc

judge_fits : (place : Place) (profile : Profile) (sofar next : Sofar) (line : ℕ) (w : Bool) (ts : List Placed) → IsFit place profile sofar → judge place profile sofar line w ts ≡ Ok next → IsFit place profile next
judge_fits place profile sofar next line w ts h e =
    let both = unless_both line (reading_fault sofar.macros 0 0 (tokens_of ts)) (statement_outcome place profile sofar line w (tokens_of ts)) next e in
    outcome_fits place profile sofar next line w (tokens_of ts) (fault_low sofar.macros 0 0 (tokens_of ts) both.0) h both.1

-- ---- shown tokens are good

abbrev IsClean : Token → Type 0
IsClean t = (is_bad t ≡ false) × (is_unknown [] t ≡ false)

simple_clean : (ts : List Token) → AllByRecursion Simple ts → AllByRecursion IsClean ts
simple_clean [] h = tt
simple_clean (t ∷ ts) h = ((h.0.good, h.0.known), simple_clean ts h.1)

heading_simple : (h : Heading) → AllByRecursion Simple (heading_tokens h)
heading_simple h = lines.all_append (name_tokens h.target) (more_tokens (as_rule h)) (cases (is_unnamed h.target.names)) (more_short h).simple
  where
    cases : (b : Bool) → AllByRecursion Simple (cond b [] (Quoted (target_text h.target) ∷ []))
    cases true = tt
    cases false = (simple_string (target_text h.target), tt)

mutual
  item_clean : (i : ItemValue) → AllByRecursion IsClean (item_tokens i)
  item_clean (item.Filters r) = simple_clean (rule_tokens r) (rule_short r).simple
  item_clean (item.Anchors h) = simple_clean (anchor_tokens h) (anchor_short h).simple
  item_clean (item.Blocks h block) =
      let behind : AllByRecursion IsClean (Mark Open ∷ (Newline ∷ (block_tokens block ++ (Mark Close ∷ [])))) = ((refl, refl), ((refl, refl), each_append IsClean (block_tokens block) (Mark Close ∷ []) (block_clean block) ((refl, refl), tt))) in
      ((refl, refl), each_append IsClean (heading_tokens h) (Mark Open ∷ (Newline ∷ (block_tokens block ++ (Mark Close ∷ [])))) (simple_clean (heading_tokens h) (heading_simple h)) behind)

  block_clean : (is : ItemValues) → AllByRecursion IsClean (block_tokens is)
  block_clean no_items = tt
  block_clean (one_more i is) = each_append IsClean (item_tokens i) (Newline ∷ block_tokens is) (item_clean i) ((refl, refl), block_clean is)

-- ---- and few of their braces are open at once

simple_low : (ts more : List Token) (d : ℕ) → AllByRecursion Simple ts → d ≤ 64 → low d more ≡ true → low d (ts ++ more) ≡ true
simple_low [] more d h k e = e
simple_low (t ∷ ts) more d h k e =
    let here : (nat_le d 64 && low d (ts ++ more)) ≡ true = rw (at_most d k) (simple_low ts more d h.1 k e) in
    subst (λ (n : ℕ). (nat_le n 64 && low n (ts ++ more)) ≡ true) (sym (h.0.level d)) here

both_from : (a b : Bool) → a ≡ true → b ≡ true → (a && b) ≡ true
both_from true b h k = k
both_from false b h k = cc

one_back : (d : ℕ) → d + 1 - 1 ≡ d
one_back d = omega arith

mutual
  item_low : (d : ℕ) (i : ItemValue) (more : List Token) → d ≤ 64 → shallow d i ≡ true → low d more ≡ true → low d (item_tokens i ++ more) ≡ true
  item_low d (item.Filters r) more k h e = simple_low (rule_tokens r) more d (rule_short r).simple k e
  item_low d (item.Anchors g) more k h e = simple_low (anchor_tokens g) more d (anchor_short g).simple k e
  item_low d (item.Blocks g block) more k h e =
      let both = both_true (nat_le (d + 1) 64) (block_shallow (d + 1) block) h in
      let fits = leb-true (d + 1) 64 both.0 in
      let close : List Token = Mark Close ∷ [] in
      let braces : List Token = Mark Open ∷ (Newline ∷ (block_tokens block ++ close)) in
      let closed : low (d + 1) (Mark Close ∷ more) ≡ true = subst (λ (n : ℕ). (nat_le n 64 && low n more) ≡ true) (sym (one_back d)) (rw (at_most d k) e) in
      let within : low (d + 1) ((block_tokens block ++ close) ++ more) ≡ true = subst (λ (r : List Token). low (d + 1) r ≡ true) (sym (append_assoc (block_tokens block) close more)) (block_low (d + 1) block (Mark Close ∷ more) fits both.1 closed) in
      let newline : low (d + 1) (Newline ∷ ((block_tokens block ++ close) ++ more)) ≡ true = rw both.0 within in
      let opens : low d (braces ++ more) ≡ true = subst (λ (n : ℕ). (nat_le n 64 && low n (Newline ∷ ((block_tokens block ++ close) ++ more))) ≡ true) (sym (opened d k)) (both_from (nat_le (d + 1) 64) (low (d + 1) (Newline ∷ ((block_tokens block ++ close) ++ more))) both.0 newline) in
      let all : low d ((heading_tokens g ++ braces) ++ more) ≡ true = subst (λ (r : List Token). low d r ≡ true) (sym (append_assoc (heading_tokens g) braces more)) (simple_low (heading_tokens g) (braces ++ more) d (heading_simple g) k opens) in
      rw (at_most d k) all

  block_low : (d : ℕ) (is : ItemValues) (more : List Token) → d ≤ 64 → block_shallow d is ≡ true → low d more ≡ true → low d (block_tokens is ++ more) ≡ true
  block_low d no_items more k h e = e
  block_low d (one_more i is) more k h e =
      let both = both_true (shallow d i) (block_shallow d is) h in
      let rest : low d (Newline ∷ (block_tokens is ++ more)) ≡ true = rw (at_most d k) (block_low d is more k both.1 e) in
      subst (λ (r : List Token). low d r ≡ true) (sym (append_assoc (item_tokens i) (Newline ∷ block_tokens is) more)) (item_low d i (Newline ∷ (block_tokens is ++ more)) k both.0 rest)

-- ---- so there is no fault

no_fault : (c d : ℕ) (ts : List Token) → AllByRecursion IsClean ts → low d ts ≡ true → c + length ts ≤ 65536 → reading_fault [] c d ts ≡ None
no_fault c d [] h l k = refl
no_fault c d (t ∷ ts) h l k =
    let both = both_true (nat_le (depth_after d t) 64) (low (depth_after d t) ts) l in
    rw (h.0.0, h.0.1, not_long c (omega (arith, k)), not_deep (depth_after d t) both.0) (no_fault (c + 1) (depth_after d t) ts h.1 both.1 (omega (arith, k)))
  where
    not_long : (c : ℕ) → c + 1 ≤ 65536 → nat_le 65536 c ≡ false
    not_long c k = grind (arith, nat_tests, k)

    not_deep : (n : ℕ) → nat_le n 64 ≡ true → nat_lt 64 n ≡ false
    not_deep n e = grind (arith, nat_tests, e)

shown_tokens : (profile : Profile) (u : ℕ) (i : ItemValue) → FitsItem profile u i → tokens_of (tokens (shown_item i)) ≡ item_tokens i ++ (Newline ∷ [])
shown_tokens profile u i fits =
    let lexes : tokens (shown_item i) ≡ placed_item 1 i ++ (at_line (end_line 1 i) Newline ∷ []) = ap (lexed 1) (sym (append-nil (shown_item i))) ∙ item_lexes profile u 1 i [] fits in
    ap tokens_of lexes ∙ tokens_append (placed_item 1 i) (at_line (end_line 1 i) Newline ∷ []) ∙ ap (λ (ts : List Token). ts ++ (Newline ∷ [])) (item_tokens_of 1 i)

short_tokens : (profile : Profile) (u : ℕ) (i : ItemValue) → FitsItem profile u i → is_short i ≡ true → length (item_tokens i) ≤ 65536
short_tokens profile u (item.Filters r) fits e = let s = (rule_short r).short in omega (arith, s)
short_tokens profile u (item.Anchors g) fits e = let s = (anchor_short g).short in omega (arith, s)
short_tokens profile u (item.Blocks g block) fits e =
    let i = item.Blocks g block in
    let few = leb-true (length (tokens (shown_item i))) 65537 e in
    let same = ap (λ (ts : List Token). length ts) (shown_tokens profile u i fits) in
    let l = length-map (tokens (shown_item i)) (λ (p : Placed). p.token) in
    let k = length-append (item_tokens i) (Newline ∷ []) in
    omega (arith, few, same, l, k)

long_is : (profile : Profile) (u : ℕ) (i : ItemValue) → FitsItem profile u i → shallow 0 i ≡ true → is_short i ≡ true → IsStatementLong i
long_is profile u i fits h e =
    let few = short_tokens profile u i fits e in
    no_fault 0 0 (item_tokens i) (item_clean i) (subst (λ (r : List Token). low 0 r ≡ true) (append-nil (item_tokens i)) (item_low 0 i [] (omega arith) h refl)) (omega (arith, few))

all_long : (profile : Profile) (before items : List ItemValue) → FitsFrom profile before items → list_all (shallow 0) items ≡ true → list_all is_short items ≡ true → AllByRecursion IsStatementLong items
all_long profile before [] fits h e = tt
all_long profile before (i ∷ items) fits h e =
    let deep = both_true (shallow 0 i) (list_all (shallow 0) items) h in
    let short = both_true (is_short i) (list_all is_short items) e in
    (long_is profile (unnamed_in 0 before) i fits.0 deep.0 short.0, all_long profile (before ++ i ∷ []) items fits.2 deep.1 short.1)

-- ---- a whole text

abbrev value : List Name → List TableValue → List ItemValue → RulesetValue
value skip tables items = record { skip = skip; tables = tables; items = items }

-- tables and rules behind the skipped interfaces
behind_skip : (place : Place) (profile : Profile) (p : Policy) (skip : List Name) (sofar : Sofar) (n : ℕ) → IsFit place profile sofar → length sofar.content.items ≤ 1024 → list_all is_short sofar.content.items ≡ true
    → reading_from macros_of (judge place profile) (so_far p skip [] []) [] (lexed n (table_lines sofar.content.tables ++ shown_rules sofar.content.items)) ≡ Ok (so_far p skip sofar.content.tables sofar.content.items)
behind_skip place profile p skip sofar n fits room short =
    tables_again place profile p skip [] sofar.content.tables n (shown_rules sofar.content.items) fits.tables
    ∙ items_again place profile sofar.content.items p skip sofar.content.tables [] (n + length sofar.content.tables) fits.items (all_long profile [] sofar.content.items fits.items fits.deep short) (omega (arith, room))

whole_again : (place : Place) (profile : Profile) (sofar : Sofar) (skip : List Name) → sofar.content.skip ≡ skip → AreNames profile skip → IsFit place profile sofar → length sofar.content.items ≤ 1024 → list_all is_short sofar.content.items ≡ true → length skip ≤ 65531
    → ruleset_if (reading_from macros_of (judge place profile) nothing [] (tokens (skip_line skip ++ (table_lines sofar.content.tables ++ shown_rules sofar.content.items)))) ≡ Ok (value skip sofar.content.tables sofar.content.items)
whole_again place profile sofar [] is names fits room short few = ap ruleset_if (behind_skip place profile nothing.policy [] sofar 1 fits room short)
whole_again Main profile sofar (name ∷ more) is names fits room short few =
    ap ruleset_if (skip_again profile nothing.policy name more (table_lines sofar.content.tables ++ shown_rules sofar.content.items) names few ∙ behind_skip Main profile nothing.policy (name ∷ more) sofar 2 fits room short)
whole_again Anchor profile sofar (name ∷ more) is names fits room short few = absurd (let none = fits.main refl in cc)

-- what is asked of rules with a block is only their length
pub shown_again : (place : Place) (profile : Profile) (text : List ℕ) (r : RulesetValue) → length r.skip ≤ 65531 → list_all is_short r.items ≡ true → reading place profile text ≡ Ok r → reading place profile (shown r) ≡ Ok r
unfolding reading shown
shown_again place profile text r few short e =
    let m = made_is (reading_from macros_of (judge place profile) nothing [] (tokens text)) r e in
    let fits = reading_keeps (λ (s : Sofar). IsFit place profile s × Room s.content.items) macros_of (judge place profile)
    (λ sofar next line w ts h e. (judge_fits place profile sofar next line w ts h.0 e, few_stay place profile sofar next line w ts h.1 e))
    (tokens text) nothing m.0 [] (record { skip = tt; main = λ anchor. refl; tables = tt; items = tt; deep = refl }, (omega arith, refl)) m.1 in
    let few' : length m.0.content.skip ≤ 65531 = subst (λ (s : RulesetValue). length s.skip ≤ 65531) (sym m.2) few in
    let short' : list_all is_short m.0.content.items ≡ true = subst (λ (s : RulesetValue). list_all is_short s.items ≡ true) (sym m.2) short in
    subst (λ (s : RulesetValue). ruleset_if (reading_from macros_of (judge place profile) nothing [] (tokens (skip_line s.skip ++ (table_lines s.tables ++ shown_rules s.items)))) ≡ Ok s) m.2 (whole_again place profile m.0 m.0.content.skip refl fits.0.skip fits.0 fits.1.0 short' few')
