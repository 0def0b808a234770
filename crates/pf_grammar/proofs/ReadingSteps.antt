-- Reading a source, one statement after another.
use Rattle.std.proofs.Common.{◌≡◌, ℕ, ◌+◌, ◌<◌, ◌≤◌, Bool, true, false, List, [], ◌∷◌, ◌++◌, length, map, drop, Option, Some, None, option_map, Result, Ok, Err, refl, sym, ap, subst, ◌∙◌, ◌||◌, arith, length-append}
use Rattle.std.proofs.lemmas.Bool.{false≢true}
use Rattle.std.proofs.lemmas.List.{map-append, length-map}
use Rattle.pf_rules.specs.declared.profile.Profile.{Profile}
use Rattle.pf_tokens.specs.declared.defining.DefinitionFault.{DefinitionFault}
use Rattle.pf_tokens.specs.declared.defining.DefinitionFault.TheVariants as defining
use Rattle.pf_tokens.specs.declared.fault.ReadingFault.{ReadingFault}
use Rattle.pf_tokens.specs.Tokens.{Token, Placed, first, tokens}
use Rattle.pf_tokens.specs.Macros.{Definition, is_definition}
use Rattle.pf_tokens.specs.Flow.{statement_raw, ending_raw}
use Rattle.pf_tokens.specs.Parsing.{tokens_of}
use Rattle.pf_tokens.specs.Productions.{is_end}
use Rattle.pf_tokens.specs.Reading.{◌>>=◌, statement_judged, reading_from, past_newlines}
use Rattle.pf_tokens.proofs.Walking.{reading_begins, later_shorter}
use Rattle.std.specs.Prelude.{nat_lt}
use Rattle.std.proofs.lemmas.Bool.{or_parts}
use Rattle.std.proofs.lemmas.Bool.Decides.{nat_tests}
use Rattle.pf_expansion.specs.declared.cause.Cause.{Cause}
use Rattle.pf_grammar.specs.declared.fault.ParseFault.{ParseFault}
use Rattle.pf_grammar.specs.declared.fault.ParseFault.TheVariants as faults
use Rattle.pf_grammar.specs.declared.fault.Refusal.{Refusal}
use Rattle.pf_rules.specs.declared.parts.Policy.{Policy}
use Rattle.pf_rules.specs.declared.rule.Rule.{Rule}
use Rattle.pf_rules.specs.declared.item.Item.{Item}
use Rattle.pf_rules.specs.Items.{ItemValue, Heading}
use Rattle.pf_rules.specs.inner.Items.{is_overfull}
use Rattle.pf_rules.specs.Items as item
use Rattle.pf_rules.specs.Seen.{item_of, items_of}
use Rattle.std.specs.List.{list_any}
use Rattle.pf_expansion.specs.Anchors.{headings, heading_with, anchor_flags, anchor_causes, is_misnamed}
use Rattle.pf_statements.specs.Anchors.{AnchorText}
use Rattle.pf_expansion.specs.Blocks.{block_causes, is_twice, item_judged, item_misnamed, item_values, unnamed_in}
use Rattle.pf_grammar.proofs.BlockRoom.{item_fine}
use Rattle.pf_grammar.specs.declared.place.Place.{Place}
use Rattle.pf_statements.specs.Statements.{Statement, Sets, Rules, SetPolicy, SetSkip, RuleText, Tables, Anchors, AnchorBlocks, BlockItem}
use Rattle.pf_expansion.specs.Expansion.{expanded, combined, rule_flags, rule_with}
use Rattle.pf_expansion.specs.Causes.{has_too_many, bad_ports, has_no_combination, bad_types, lowest, rule_causes, condition_causes}
use Rattle.pf_rules.specs.declared.parts.FlagTest.{FlagTest}
use Rattle.pf_statements.specs.Conditions.{ConditionsText}
use Rattle.pf_grammar.specs.Causes.{setting_causes, statement_cause}
use Rattle.pf_grammar.specs.Reading.{Sofar, judge, macros_of, answered, after_statement, defined, statement_outcome, unless_fault, nothing, reading, ruleset_if, Fails}
use Rattle.pf_grammar.specs.inner.Gathering.{Judges}
use Rattle.pf_expansion.specs.Tables.{table_causes}

pub items_append : (is more : List Item) → items_of (is ++ more) ≡ items_of is ++ items_of more
items_append is more = map-append item_of is more

-- ---- one statement

-- a statement has begun behind what was read so far: its line, whether it defines a macro, its tokens, and what follows it
pub record Begun (sofar : Sofar) (line : ℕ) (old ts : List Placed) (defines : Bool) (statement rest : List Placed) : Type 0 where
  pub is_past : ts ≡ past_newlines old
  pub is_line : Some line ≡ option_map (λ (p : Placed). p.line) (first (past_newlines old))
  pub is_defines : defines ≡ is_definition ts
  pub is_statement : statement ≡ statement_raw sofar.macros (is_definition ts) 0 ts
  pub is_rest : rest ≡ drop 1 (ending_raw sofar.macros (is_definition ts) 0 ts)

pub rest_shorter : (sofar : Sofar) (line : ℕ) (old ts : List Placed) (defines : Bool) (statement rest : List Placed) → Begun sofar line old ts defines statement rest → length rest < length old
rest_shorter sofar line old ts defines statement rest b = omega (arith, ap (λ (us : List Placed). length us) b.is_rest, later_shorter sofar.macros (is_definition ts) line old ts b.is_past b.is_line)

module _ (place : Place) (profile : Profile) where
  -- what the tokens that follow make of what is before
  abbrev pub from : Sofar → List Placed → Result Sofar Refusal
  from sofar ts = reading_from macros_of (judge place profile) sofar [] ts

  one_more : (sofar : Sofar) (line : ℕ) (old ts : List Placed) (defines : Bool) (statement rest : List Placed) → Begun sofar line old ts defines statement rest → from sofar old ≡ (statement_judged (judge place profile) sofar line defines statement >>= λ next. from next rest)
  one_more sofar line old ts defines statement rest b = rw (b.is_defines, b.is_statement, b.is_rest) (reading_begins macros_of (judge place profile) sofar line old ts b.is_past b.is_line)

  without_tokens : (sofar : Sofar) (line : ℕ) (defines : Bool) (statement : List Placed) → is_end (tokens_of statement) ≡ true → statement_judged (judge place profile) sofar line defines statement ≡ Ok sofar
  without_tokens sofar line defines [] e = refl
  without_tokens sofar line defines (p ∷ ps) e = absurd (false≢true e)

  with_tokens : (sofar : Sofar) (line : ℕ) (defines : Bool) (statement : List Placed) → is_end (tokens_of statement) ≡ false → statement_judged (judge place profile) sofar line defines statement ≡ judge place profile sofar line defines statement
  with_tokens sofar line defines [] e = absurd (false≢true (sym e))
  with_tokens sofar line defines (p ∷ ps) e = refl

  -- a statement left without tokens is passed over
  pub passed_over : (sofar : Sofar) (line : ℕ) (old ts : List Placed) (defines : Bool) (statement rest : List Placed) → Begun sofar line old ts defines statement rest → is_end (tokens_of statement) ≡ true → from sofar old ≡ from sofar rest
  passed_over sofar line old ts defines statement rest b e = one_more sofar line old ts defines statement rest b ∙ ap (λ (r : Result Sofar Refusal). r >>= λ next. from next rest) (without_tokens sofar line defines statement e)

  -- with another statement
  pub went_on : (sofar next : Sofar) (line : ℕ) (old ts : List Placed) (defines : Bool) (statement rest : List Placed) → Begun sofar line old ts defines statement rest → is_end (tokens_of statement) ≡ false → judge place profile sofar line defines statement ≡ Ok next → from sofar old ≡ from next rest
  went_on sofar next line old ts defines statement rest b e is = one_more sofar line old ts defines statement rest b ∙ ap (λ (r : Result Sofar Refusal). r >>= λ next. from next rest) (with_tokens sofar line defines statement e ∙ is)

  -- the first refused statement refuses the text
  pub stopped_at : (sofar : Sofar) (refusal : Refusal) (line : ℕ) (old ts : List Placed) (defines : Bool) (statement rest : List Placed) → Begun sofar line old ts defines statement rest → is_end (tokens_of statement) ≡ false → judge place profile sofar line defines statement ≡ Err refusal → from sofar old ≡ Err refusal
  stopped_at sofar refusal line old ts defines statement rest b e is = one_more sofar line old ts defines statement rest b ∙ ap (λ (r : Result Sofar Refusal). r >>= λ next. from next rest) (with_tokens sofar line defines statement e ∙ is)

-- the text's refusal is that of the statement
pub fails_so : (place : Place) (profile : Profile) (text : List ℕ) (sofar : Sofar) (fault : ParseFault) (line : ℕ) (old ts : List Placed) (defines : Bool) (statement rest : List Placed) → Begun sofar line old ts defines statement rest → is_end (tokens_of statement) ≡ false
    → Judges sofar (Err fault) (judge place profile sofar line defines statement) → from place profile sofar old ≡ from place profile nothing (tokens text) → Fails fault (reading place profile text)
unfolding reading
fails_so place profile text sofar faults.Memory line old ts defines statement rest b e is same = tt
fails_so place profile text sofar (faults.Refused refusal) line old ts defines statement rest b e is same = ap ruleset_if (sym same ∙ stopped_at place profile sofar refusal line old ts defines statement rest b e is)

-- ---- no more than 1,024 rules, and no block that has more

abbrev pub Room : List ItemValue → Type 0
Room items = (length items ≤ 1024) × (list_any is_overfull items ≡ false)

any_append : (xs ys : List ItemValue) → list_any is_overfull xs ≡ false → list_any is_overfull ys ≡ false → list_any is_overfull (xs ++ ys) ≡ false
any_append [] ys p q = q
any_append (x ∷ xs) ys p q = let h = or_parts (is_overfull x) (list_any is_overfull xs) p in rw h.0 (any_append xs ys h.1 q)

room_added : (xs ys : List ItemValue) → Room xs → length xs + length ys ≤ 1024 → list_any is_overfull ys ≡ false → Room (xs ++ ys)
room_added xs ys room few none = (omega (arith, few, length-append xs ys), any_append xs ys room.1 none)

filters_fine : (rs : List Rule) → list_any is_overfull (map (λ (r : Rule). item.Filters r) rs) ≡ false
filters_fine [] = refl
filters_fine (r ∷ rs) = filters_fine rs

anchors_fine : (hs : List Heading) → list_any is_overfull (map (λ (h : Heading). item.Anchors h) hs) ≡ false
anchors_fine [] = refl
anchors_fine (h ∷ hs) = anchors_fine hs

answered_ok : (line : ℕ) (sofar next : Sofar) (value : Option Statement) (cause : Option Cause) → answered line sofar value cause ≡ Ok next → (cause ≡ None) × (after_statement sofar value ≡ next)
answered_ok line sofar next value None e = (refl, cc)
answered_ok line sofar next value (Some cause) e = absurd (let h = e in cc)

fourth : (a b c d e : Bool) (p q r s t : Cause) → lowest ((a, p) ∷ (b, q) ∷ (c, r) ∷ (d, s) ∷ (e, t) ∷ []) ≡ None → d ≡ false
fourth a b c false e p q r s t is = refl
fourth true b c true e p q r s t is = absurd (let h = is in cc)
fourth false true c true e p q r s t is = absurd (let h = is in cc)
fourth false false true true e p q r s t is = absurd (let h = is in cc)
fourth false false false true e p q r s t is = absurd (let h = is in cc)

fifth : (a b c d e f : Bool) (p q r s t u : Cause) → lowest ((a, p) ∷ (b, q) ∷ (c, r) ∷ (d, s) ∷ (e, t) ∷ (f, u) ∷ []) ≡ None → e ≡ false
fifth a b c d false f p q r s t u is = refl
fifth true b c d true f p q r s t u is = absurd (let h = is in cc)
fifth false true c d true f p q r s t u is = absurd (let h = is in cc)
fifth false false true d true f p q r s t u is = absurd (let h = is in cc)
fifth false false false true true f p q r s t u is = absurd (let h = is in cc)
fifth false false false false true f p q r s t u is = absurd (let h = is in cc)

below : (n : ℕ) → nat_lt 1024 n ≡ false → n ≤ 1024
below n e = grind (arith, nat_tests, e)

few_found : (test : FlagTest) (before : ℕ) (reserved : Bool) (text : ConditionsText) → lowest (condition_causes test before reserved text) ≡ None → before + length (combined test text) ≤ 1024
unfolding has_too_many
few_found test before reserved text e =
    below (before + length (combined test text)) (or_parts _ _ (fourth (bad_ports text) (has_no_combination test text) reserved (has_too_many test before text) (bad_types text) _ _ _ _ _ e)).1

few_rules : (p : Policy) (items : ℕ) (text : RuleText) → lowest (rule_causes items text) ≡ None → items + length (expanded p text) ≤ 1024
unfolding expanded
few_rules p items text e = omega (arith, few_found (rule_flags text) items false text.conditions e, length-map (combined (rule_flags text) text.conditions) (rule_with p text))

few_headings : (items unnamed : ℕ) (text : AnchorText) → lowest (anchor_causes items unnamed text) ≡ None → items + length (headings text) ≤ 1024
unfolding headings
few_headings items unnamed text e = omega (arith, few_found (anchor_flags text) items (is_misnamed unnamed text.target) text.conditions e, length-map (combined (anchor_flags text) text.conditions) (heading_with text))

few_answered : (line : ℕ) (place : Place) (sofar next : Sofar) (value : Option Statement) → Room sofar.content.items → answered line sofar value (statement_cause place sofar.content.tables sofar.content.items value) ≡ Ok next → Room next.content.items
few_answered line place sofar next None few e = absurd (let h = e in cc)
few_answered line place sofar next (Some (Sets (SetPolicy policy))) few e = subst (λ (s : Sofar). Room s.content.items) (answered_ok line sofar next (Some (Sets (SetPolicy policy))) (lowest (setting_causes place (SetPolicy policy))) e).1 few
few_answered line place sofar next (Some (Sets (SetSkip names))) few e = subst (λ (s : Sofar). Room s.content.items) (answered_ok line sofar next (Some (Sets (SetSkip names))) (lowest (setting_causes place (SetSkip names))) e).1 few
few_answered line place sofar next (Some (Tables t)) few e = subst (λ (s : Sofar). Room s.content.items) (answered_ok line sofar next (Some (Tables t)) (lowest (table_causes sofar.content.tables t)) e).1 few
few_answered line place sofar next (Some (Rules text)) few e =
    let a = answered_ok line sofar next (Some (Rules text)) (lowest (rule_causes (length sofar.content.items) text)) e in
    let rules = expanded sofar.policy text in
    subst (λ (s : Sofar). Room s.content.items) a.1 (room_added sofar.content.items (map (λ (r : Rule). item.Filters r) rules) few (omega (arith, few_rules sofar.policy (length sofar.content.items) text a.0, length-map rules (λ (r : Rule). item.Filters r))) (filters_fine rules))
few_answered line place sofar next (Some (Anchors text)) few e =
    let a = answered_ok line sofar next (Some (Anchors text)) (lowest (anchor_causes (length sofar.content.items) (unnamed_in 0 sofar.content.items) text)) e in
    subst (λ (s : Sofar). Room s.content.items) a.1 (room_added sofar.content.items (map (λ (h : Heading). item.Anchors h) (headings text)) few (omega (arith, few_headings (length sofar.content.items) (unnamed_in 0 sofar.content.items) text a.0, length-map (headings text) (λ (h : Heading). item.Anchors h))) (anchors_fine (headings text)))
few_answered line place sofar next (Some (AnchorBlocks heading block)) few e =
    let item = BlockItem heading block in
    let a = answered_ok line sofar next (Some (AnchorBlocks heading block)) (lowest (block_causes sofar.content.items item)) e in
    let values = item_values sofar.policy (unnamed_in 0 sofar.content.items) item in
    let many = fifth (item_judged item).ports (item_judged item).combination (item_misnamed (unnamed_in 0 sofar.content.items) item) (is_twice sofar.content.items item) ((item_judged item).many || nat_lt 1024 (length sofar.content.items + (item_judged item).rules)) (item_judged item).types _ _ _ _ _ _ a.0 in
    let parts = or_parts (item_judged item).many (nat_lt 1024 (length sofar.content.items + (item_judged item).rules)) many in
    let fine = item_fine sofar.policy (unnamed_in 0 sofar.content.items) item parts.0 in
    let count = fine.count in
    let room = below (length sofar.content.items + (item_judged item).rules) parts.1 in
    subst (λ (s : Sofar). Room s.content.items) a.1 (room_added sofar.content.items values few (omega (arith, count, room)) fine.blocks)

ok_is : (x y : Sofar) → (let given : Result Sofar Refusal = Ok x in given ≡ Ok y) → x ≡ y
ok_is x y e = cc

few_defined : (line : ℕ) (sofar next : Sofar) (read : Result Definition DefinitionFault) → Room sofar.content.items → defined line sofar read ≡ Ok next → Room next.content.items
few_defined line sofar next (Ok definition) few e = subst (λ (s : Sofar). Room s.content.items) (ok_is (record sofar { macros = sofar.macros ++ definition ∷ [] }) next e) few
few_defined line sofar next (Err defining.Memory) few e = absurd (let h = e in cc)
few_defined line sofar next (Err defining.Macro) few e = absurd (let h = e in cc)
few_defined line sofar next (Err defining.Syntax) few e = absurd (let h = e in cc)

few_outcome : (place : Place) (profile : Profile) (sofar next : Sofar) (line : ℕ) (defines : Bool) (ts : List Token) → Room sofar.content.items → statement_outcome place profile sofar line defines ts ≡ Ok next → Room next.content.items
few_outcome place profile sofar next line true ts few e = few_defined line sofar next _ few e
few_outcome place profile sofar next line false ts few e = few_answered line place sofar next _ few e

unless : (line : ℕ) (fault : Option ReadingFault) (result : Result Sofar Refusal) (next : Sofar) → unless_fault line fault result ≡ Ok next → result ≡ Ok next
unless line None result next e = e
unless line (Some fault) result next e = absurd (let h = e in cc)

pub few_stay : (place : Place) (profile : Profile) (sofar next : Sofar) (line : ℕ) (defines : Bool) (statement : List Placed) → Room sofar.content.items → judge place profile sofar line defines statement ≡ Ok next → Room next.content.items
few_stay place profile sofar next line defines statement few e = few_outcome place profile sofar next line defines (tokens_of statement) few (unless line _ _ next e)
