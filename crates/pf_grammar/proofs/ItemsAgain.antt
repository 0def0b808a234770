-- Shown rules of each kind are read as themselves.
use Rattle.std.proofs.Common.{◌≡◌, ℕ, ◌+◌, ◌<◌, ◌≤◌, ◌||◌, Bool, true, false, cond, List, [], ◌∷◌, ◌++◌, length, map, Option, Some, None, Result, Ok, refl, sym, ap, ◌∙◌, append_assoc, arith}
use Rattle.std.specs.Prelude.{codes, flat_map, nat_lt}
use Rattle.std.specs.List.{AllByRecursion}
use Rattle.std.proofs.lemmas.Bool.Decides.{nat_tests}
use Rattle.std.proofs.lemmas.List.{append-nil, length-append}
use Rattle.pf_rules.specs.declared.profile.Profile.{Profile}
use Rattle.pf_tokens.specs.declared.symbol.Symbol.TheVariants.{Open, Close, Equals}
use Rattle.pf_tokens.specs.declared.fault.ReadingFault.{ReadingFault}
use Rattle.pf_tokens.specs.Tokens.{Token, Word, Quoted, Mark, Newline, Placed}
use Rattle.pf_tokens.specs.Macros.{is_definition, replaced}
use Rattle.pf_tokens.specs.Faults.{reading_fault}
use Rattle.pf_tokens.specs.Productions.{begins_symbol}
use Rattle.pf_tokens.specs.Reading.{◌>>=◌, statement_judged, with_statement, reading_from}
use Rattle.pf_rules.specs.declared.parts.Policy.{Policy}
use Rattle.pf_rules.specs.Names.{Name}
use Rattle.pf_rules.specs.Rulesets.{TableValue}
use Rattle.pf_rules.specs.Items.{Heading, ItemValue, ItemValues, Filters, Blocks, values_of}
use Rattle.pf_rules.specs.Items as item
use Rattle.pf_statements.proofs.Fronts.{rank, no_symbol}
use Rattle.pf_statements.specs.Statements.{Statement, AnchorBlocks, value_of}
use Rattle.pf_statements.specs.Grammar.{BlockStatement, EmptyLine}
use Rattle.pf_statements.proofs.StatementsSpelled.{statement_reads}
use Rattle.pf_expansion.specs.declared.cause.Cause.{Cause}
use Rattle.pf_expansion.specs.declared.cause.Cause.TheVariants.{Ports, NoCombination, Reserved, Twice, TooMany, IcmpType}
use Rattle.pf_expansion.specs.declared.judged.Judged.{Judged}
use Rattle.pf_expansion.specs.Causes.{lowest}
use Rattle.pf_expansion.specs.Blocks.{any_among, comes_again, is_twice, item_misnamed, paths_in, paths_within, unnamed_in, is_unnamed}
use Rattle.pf_show.specs.Shown.{shown_rules, target_text}
use Rattle.pf_grammar.specs.declared.fault.Refusal.{Refusal}
use Rattle.pf_grammar.specs.declared.place.Place.{Place}
use Rattle.pf_grammar.specs.Causes.{statement_cause}
use Rattle.pf_grammar.specs.Reading.{Sofar, macros_of, judge, statement_outcome, answered, unless_fault}
use Rattle.pf_grammar.proofs.ShownTokens.{shown_rank, rule_tokens}
use Rattle.pf_grammar.proofs.Parts.{lexed, at_line}
use Rattle.pf_grammar.proofs.RuleParts.{more_tokens, rule_line}
use Rattle.pf_grammar.proofs.Lines.{so_far, line_read, simple_in_line, simple_level, rule_short, rule_added, flattened_none, not_equals}
use Rattle.pf_grammar.proofs.AnchorLine.{as_rule, as_fitting, anchor_tokens, anchor_line, anchor_short, anchor_is_added}
use Rattle.pf_grammar.proofs.BlockValues.{FitsItem, written_heading, written_block, written_item, heading_tokens, item_tokens, block_tokens, heading_spelled, not_wild, block_spelled, item_clean, item_named, item_made, item_pathed}
use Rattle.pf_grammar.proofs.BlockLines.{end_line, placed_item, placed_block, item_lexes, item_tokens_of, item_goes, statement_read}

-- ---- rules that a source gives, one after another

-- a path of a block in it is that of another one
abbrev pub twice_in : List ItemValue → ItemValue → Bool
twice_in before i = any_among (paths_within [] (values_of before)) (paths_in [] i) || comes_again (paths_in [] i)

abbrev pub FitsFrom : Profile → List ItemValue → List ItemValue → Type 0
FitsFrom profile before [] = Unit {0}
FitsFrom profile before (i ∷ is) = FitsItem profile (unnamed_in 0 before) i × (twice_in before i ≡ false) × FitsFrom profile (before ++ i ∷ []) is

-- as a statement it has no more tokens and open braces than one may have
abbrev pub IsStatementLong : ItemValue → Type 0
IsStatementLong i = reading_fault [] 0 0 (item_tokens i) ≡ None

-- ---- a rule with its block

not_above : (n : ℕ) → n < 1024 → nat_lt 1024 (n + 1) ≡ false
not_above n h = grind (arith, nat_tests, h)

abbrev cause_with : ℕ → Bool → Bool → Judged → Option Cause
cause_with before misnamed twice j =
    lowest ((j.ports, Ports) ∷ (j.combination, NoCombination) ∷ (misnamed, Reserved) ∷ (twice, Twice) ∷ (j.many || nat_lt 1024 (before + j.rules), TooMany) ∷ (j.types, IcmpType) ∷ [])

clean_cause : (n : ℕ) → n < 1024 → cause_with n false false (record { ports = false; combination = false; many = false; types = false; rules = 1 }) ≡ None
clean_cause n h = rw (not_above n h) refl

twice_is : (profile : Profile) (before : List ItemValue) (i : ItemValue) → FitsItem profile (unnamed_in 0 before) i → twice_in before i ≡ false → is_twice before (written_item i) ≡ false
unfolding is_twice
twice_is profile before i fits once = rw (item_pathed profile [] (unnamed_in 0 before) i fits) once

module _ (place : Place) (profile : Profile) (p : Policy) (skip : List Name) (tables : List TableValue) (before : List ItemValue) (n : ℕ) (h : Heading) (block : ItemValues) (fits : FitsItem profile (unnamed_in 0 before) (Blocks h block)) (once : twice_in before (Blocks h block) ≡ false) (room : length before < 1024) where
  whole : ItemValue
  whole = Blocks h block

  sofar : Sofar
  sofar = so_far p skip tables before

  said : Statement
  said = AnchorBlocks (written_heading h) (written_block block)

  no_cause : statement_cause place tables before (Some (AnchorBlocks (written_heading h) (written_block block))) ≡ None
  no_cause =
      ap (λ (j : Judged). cause_with (length before) (item_misnamed (unnamed_in 0 before) (written_item (Blocks h block))) (is_twice before (written_item (Blocks h block))) j) (item_clean profile (unnamed_in 0 before) (Blocks h block) fits)
      ∙ ap (λ (b : Bool). cause_with (length before) b (is_twice before (written_item (Blocks h block))) (record { ports = false; combination = false; many = false; types = false; rules = 1 })) (item_named profile (unnamed_in 0 before) (Blocks h block) fits)
      ∙ ap (λ (b : Bool). cause_with (length before) false b (record { ports = false; combination = false; many = false; types = false; rules = 1 })) (twice_is profile before (Blocks h block) fits once)
      ∙ clean_cause (length before) room

  value : value_of profile (item_tokens (Blocks h block)) ≡ Some (AnchorBlocks (written_heading h) (written_block block))
  value = statement_reads profile (item_tokens (Blocks h block)) (AnchorBlocks (written_heading h) (written_block block))
      (BlockStatement (heading_tokens h) (Newline ∷ block_tokens block) (written_heading h) (written_block block) (heading_spelled profile h fits.0) (not_wild h.target fits.1.plain) (EmptyLine (block_tokens block) (written_block block) (block_spelled profile 0 block fits.3)))

  abbrev added : List ItemValue → Result Sofar Refusal
  added items = Ok (so_far p skip tables (before ++ items))

  is_outcome : statement_outcome place profile (so_far p skip tables before) n false (item_tokens (Blocks h block)) ≡ added (Blocks h block ∷ [])
  is_outcome =
      ap (λ (v : Option Statement). answered n (so_far p skip tables before) v (statement_cause place tables before v)) value
      ∙ ap (answered n (so_far p skip tables before) (Some (AnchorBlocks (written_heading h) (written_block block)))) no_cause
      ∙ ap added (item_made profile p (unnamed_in 0 before) (Blocks h block) fits)

  -- ---- it defines no macro

  first_same : (ts : List Token) → begins_symbol Equals ts ≡ false → begins_symbol Equals (ts ++ (Mark Open ∷ [])) ≡ false
  first_same [] e = refl
  first_same (t ∷ ts) e = e

  behind_named : (b : Bool) → begins_symbol Equals (cond b [] (Quoted (target_text h.target) ∷ []) ++ (more_tokens (as_rule h))) ≡ false
  behind_named true = let r : 1 < rank (more_tokens (as_rule h)) = shown_rank profile (as_rule h) (as_fitting profile h fits.0) in no_symbol Equals (more_tokens (as_rule h)) (omega arith) (omega (arith, r))
  behind_named false = refl

  defines_none : (ts : List Token) (rest : List Placed) → begins_symbol Equals ts ≡ false → is_definition (at_line n (Word (codes "anchor")) ∷ (map (at_line n) (ts ++ (Mark Open ∷ [])) ++ rest)) ≡ false
  defines_none [] rest e = refl
  defines_none (t ∷ ts) rest e = not_equals true t e

  abbrev behind_word : List Placed
  behind_word = map (at_line n) (heading_tokens h ++ (Mark Open ∷ [])) ++ (at_line n Newline ∷ (placed_block (n + 1) block ++ (at_line (end_line n (Blocks h block)) (Mark Close) ∷ [])))

  no_definition : is_definition (at_line n (Word (codes "anchor")) ∷ behind_word) ≡ false
  no_definition = defines_none (heading_tokens h) _ (behind_named (is_unnamed h.target.names))

  pub block_added : reading_fault [] 0 0 (item_tokens (Blocks h block)) ≡ None → with_statement macros_of (judge place profile) (so_far p skip tables before) (placed_item n (Blocks h block)) ≡ added (Blocks h block ∷ [])
  block_added fine =
      let ps = placed_item n (Blocks h block) in
      ap (λ (w : Bool). statement_judged (judge place profile) (so_far p skip tables before) n w (flat_map (replaced [] w) ps)) no_definition
      ∙ ap (statement_judged (judge place profile) (so_far p skip tables before) n false) (flattened_none ps false)
      ∙ ap (λ (ts : List Token). unless_fault n (reading_fault [] 0 0 ts) (statement_outcome place profile (so_far p skip tables before) n false ts)) (item_tokens_of n (Blocks h block))
      ∙ ap (λ (o : Option ReadingFault). unless_fault n o (statement_outcome place profile (so_far p skip tables before) n false (item_tokens (Blocks h block)))) fine
      ∙ is_outcome

-- ---- items

abbrev done : Policy → List Name → List TableValue → List ItemValue → Result Sofar Refusal
done p skip tables items = Ok (so_far p skip tables items)

-- shown rules are read as themselves
pub items_again : (place : Place) (profile : Profile) (items : List ItemValue) (p : Policy) (skip : List Name) (tables : List TableValue) (before : List ItemValue) (n : ℕ) → FitsFrom profile before items → AllByRecursion IsStatementLong items → length before + length items ≤ 1024
    → reading_from macros_of (judge place profile) (so_far p skip tables before) [] (lexed n (shown_rules items)) ≡ Ok (so_far p skip tables (before ++ items))
unfolding reading_from
items_again place profile [] p skip tables before n fits fine room = ap (done p skip tables) (sym (append-nil before))
items_again place profile (Filters r ∷ items) p skip tables before n fits fine room =
    let simple = (rule_short r).simple in
    ap (reading_from macros_of (judge place profile) (so_far p skip tables before) []) (rule_line profile r n (shown_rules items) fits.0)
    ∙ line_read place profile p skip tables before n (rule_tokens r) [] (lexed (n + 1) (shown_rules items)) (simple_in_line (rule_tokens r) simple) (simple_level n 0 (rule_tokens r) simple)
    ∙ ap (λ (o : Result Sofar Refusal). o >>= λ next. reading_from macros_of (judge place profile) next [] (lexed (n + 1) (shown_rules items))) (rule_added place profile p skip tables before n r fits.0 (omega (arith, room)))
    ∙ items_again place profile items p skip tables (before ++ Filters r ∷ []) (n + 1) fits.2 fine.1 (let l = length-append before (Filters r ∷ []) in omega (arith, l, room))
    ∙ ap (done p skip tables) (append_assoc before (Filters r ∷ []) items)
items_again place profile (item.Anchors h ∷ items) p skip tables before n fits fine room =
    let simple = (anchor_short h).simple in
    ap (reading_from macros_of (judge place profile) (so_far p skip tables before) []) (anchor_line profile h n (shown_rules items) fits.0.0)
    ∙ line_read place profile p skip tables before n (anchor_tokens h) [] (lexed (n + 1) (shown_rules items)) (simple_in_line (anchor_tokens h) simple) (simple_level n 0 (anchor_tokens h) simple)
    ∙ ap (λ (o : Result Sofar Refusal). o >>= λ next. reading_from macros_of (judge place profile) next [] (lexed (n + 1) (shown_rules items))) (anchor_is_added place profile p skip tables before n h fits.0.0 fits.0.1 (omega (arith, room)))
    ∙ items_again place profile items p skip tables (before ++ item.Anchors h ∷ []) (n + 1) fits.2 fine.1 (let l = length-append before (item.Anchors h ∷ []) in omega (arith, l, room))
    ∙ ap (done p skip tables) (append_assoc before (item.Anchors h ∷ []) items)
items_again place profile (Blocks h block ∷ items) p skip tables before n fits fine room =
    let i = Blocks h block in
    let m = end_line n i in
    let goes = item_goes n 0 0 i [] (ap (reading_fault [] 0 0) (append-nil (item_tokens i)) ∙ fine.0) in
    ap (reading_from macros_of (judge place profile) (so_far p skip tables before) []) (item_lexes profile (unnamed_in 0 before) n i (shown_rules items) fits.0)
    ∙ statement_read place profile p skip tables before (placed_item n i) (lexed (m + 1) (shown_rules items)) m goes.runs
    ∙ ap (λ (o : Result Sofar Refusal). o >>= λ next. reading_from macros_of (judge place profile) next [] (lexed (m + 1) (shown_rules items))) (block_added place profile p skip tables before n h block fits.0 fits.1 (omega (arith, room)) fine.0)
    ∙ items_again place profile items p skip tables (before ++ i ∷ []) (m + 1) fits.2 fine.1 (let l = length-append before (i ∷ []) in omega (arith, l, room))
    ∙ ap (done p skip tables) (append_assoc before (i ∷ []) items)
