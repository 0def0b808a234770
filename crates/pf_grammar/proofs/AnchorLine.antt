-- The shown line of an anchor rule without a block is read again.
use Rattle.std.proofs.Common.{◌≡◌, ℕ, ◌<◌, true, false, List, [], ◌∷◌, ◌++◌, length, map, Option, Some, None, Result, Ok, refl, sym, ap, subst, ◌∙◌, arith}
use Rattle.std.specs.Prelude.{codes}
use Rattle.std.proofs.lemmas.List.{append-nil}
use Rattle.pf_rules.specs.declared.profile.Profile.{Profile}
use Rattle.pf_tokens.specs.Tokens.{Token, Word, Quoted}
use Rattle.pf_tokens.specs.Reading.{with_statement}
use Rattle.pf_rules.specs.declared.rule.Action.TheVariants as act
use Rattle.pf_rules.specs.declared.parts.FlagTest.{FlagTest}
use Rattle.pf_rules.specs.declared.parts.FlagTest.TheVariants as flags
use Rattle.pf_rules.specs.declared.parts.Policy.{Policy}
use Rattle.pf_rules.specs.declared.rule.Rule.{Rule}
use Rattle.pf_rules.specs.Names.{Name}
use Rattle.pf_rules.specs.Items.{Target, Heading, ItemValue, Filters, Blocks}
use Rattle.pf_rules.specs.Items as item
use Rattle.pf_rules.specs.Rulesets.{TableValue}
use Rattle.pf_statements.specs.ConditionGrammar.{IsBehind, Missing, Behind, IsFlags}
use Rattle.pf_statements.specs.Anchors.{AnchorText}
use Rattle.pf_statements.specs.Statements.{Statement, Anchors, value_of}
use Rattle.pf_statements.specs.Grammar.{IsAnchor, TargetString, AnchorStatement}
use Rattle.pf_statements.proofs.StatementsSpelled.{statement_reads}
use Rattle.pf_expansion.specs.Anchors.{headings, heading_with, is_misnamed}
use Rattle.pf_show.specs.Shown.{line as shown_line, Part, direction_parts, quick_parts, condition_parts, flags_parts, heading_parts, anchor_parts, target_part, target_text}
use Rattle.pf_grammar.specs.declared.fault.Refusal.{Refusal}
use Rattle.pf_grammar.specs.declared.place.Place.{Place}
use Rattle.pf_grammar.specs.Causes.{statement_cause}
use Rattle.pf_grammar.specs.Reading.{Sofar, macros_of, judge, statement_outcome, answered}
use Rattle.pf_grammar.proofs.ShownTokens.{FitsRule, FitsConditions, FitsFlags, direction_tokens, quick_tokens, interface_tokens, family_tokens, protocol_tokens, ends_tokens, type_tokens, flags_tokens, test_of_tokens, option_tokens, common_tokens, written_flags, written_types, written_conditions, direction_spelled, quick_spelled, flags_spelled, common_spelled, common_split}
use Rattle.pf_grammar.proofs.Expanded.{combined_again, no_bad_ports, some_combination, not_too_many, no_bad_types}
use Rattle.pf_grammar.proofs.Parts.{lexed, with_newline, AreParts, OnePart, word_part, line_lexes}
use Rattle.pf_grammar.proofs.RuleParts.{more_tokens, more_are}
use Rattle.pf_grammar.proofs.Lines.{Simple, Short, short_append, then_short, simple_word, direction_short, quick_short, interface_short, family_short, protocol_short, ends_short, option_short, no_fault, so_far, not_definition, line_judged}
use Rattle.pf_expansion.specs.Blocks.{unnamed_in}
use Rattle.pf_grammar.proofs.Targets.{FitsTarget, target_is_part, target_again}

-- the block rule whose words behind the action are those behind an anchor rule's target
abbrev pub as_rule : Heading → Rule
as_rule h = record { action = act.Drop; quick = h.quick; conditions = h.conditions; keeps_state = false }

-- an anchor rule of a ruleset that a source gives
pub record FitsHeading (profile : Profile) (h : Heading) : Type 0 where
  pub target : FitsTarget h.target
  pub conditions : FitsConditions profile h.conditions
  pub no_type : h.conditions.icmp_type ≡ None

abbrev pub as_fitting : (profile : Profile) (h : Heading) → FitsHeading profile h → FitsRule profile (as_rule h)
as_fitting profile h fits = record { conditions = fits.conditions; state = refl }

-- ---- its tokens

abbrev pub anchor_tokens : Heading → List Token
anchor_tokens h = Word (codes "anchor") ∷ Quoted (target_text h.target) ∷ more_tokens (as_rule h)

-- the line of a block rule shows no state
pub behind_are : (profile : Profile) (h : Heading) → FitsHeading profile h → AreParts (heading_parts h) (more_tokens (as_rule h))
unfolding heading_parts
behind_are profile h fits =
    subst (λ (ps : List Part). AreParts (direction_parts h.conditions.direction ++ (quick_parts h.quick ++ (condition_parts h.conditions ++ ps))) (more_tokens (as_rule h))) (append-nil (flags_parts act.Drop h.conditions.flags))
    (more_are profile (as_rule h) (as_fitting profile h fits))

pub anchor_line : (profile : Profile) (h : Heading) (n : ℕ) (rest : List ℕ) → FitsHeading profile h → lexed n (shown_line (anchor_parts h) ++ rest) ≡ with_newline n (anchor_tokens h) rest
unfolding anchor_parts
anchor_line profile h n rest fits =
    line_lexes n (codes "anchor") (target_part h.target ∷ heading_parts h) (Word (codes "anchor") ∷ []) (Quoted (target_text h.target) ∷ more_tokens (as_rule h)) rest (word_part 97 (110 ∷ 99 ∷ 104 ∷ 111 ∷ 114 ∷ []) refl)
    (OnePart (target_part h.target) (heading_parts h) (Quoted (target_text h.target) ∷ []) (more_tokens (as_rule h)) (target_is_part h.target fits.target) (behind_are profile h fits))

pub simple_string : (text : List ℕ) → Simple (Quoted text)
simple_string text = record { in_line = refl; good = refl; known = refl; level = λ d. refl }

pub more_short : (h : Heading) → Short 34 (more_tokens (as_rule h))
more_short h =
    let c = h.conditions in
    short_append 1 33 (direction_tokens c.direction) _ (direction_short c.direction)
    (short_append 1 32 (quick_tokens h.quick) _ (quick_short h.quick)
    (short_append 3 29 (interface_tokens c.interface) _ (interface_short c.interface)
    (short_append 1 28 (family_tokens c.family) _ (family_short c.family)
    (short_append 2 26 (protocol_tokens c.protocol) _ (protocol_short c.protocol)
    (short_append 18 8 (ends_tokens c.source c.source_port c.destination c.destination_port) (option_tokens (as_rule h)) (ends_short c.source c.source_port c.destination c.destination_port) (option_short (as_rule h)))))))

pub anchor_short : (h : Heading) → Short 36 (anchor_tokens h)
anchor_short h = then_short 35 _ _ (simple_word _) (then_short 34 _ _ (simple_string (target_text h.target)) (more_short h))

-- ---- they spell it

abbrev pub written_anchor : Heading → AnchorText
written_anchor h = record { target = h.target; quick = h.quick; conditions = written_conditions (as_rule h) }

pub flags_behind : (test : FlagTest) → FitsFlags test → IsBehind (codes "flags") IsFlags (flags_tokens act.Drop test) (written_flags act.Drop test)
flags_behind flags.Any fits = Missing
flags_behind (flags.Just set of) fits = Behind (test_of_tokens (flags.Just set of)) (flags.Just set of) (flags_spelled (flags.Just set of) fits)

pub no_types_left : (types : Option ℕ) (ts : List Token) → types ≡ None → type_tokens types ++ (ts ++ []) ≡ ts
no_types_left None ts e = append-nil ts
no_types_left (Some n) ts e = absurd cc

pub types_unwritten : (types : Option ℕ) → types ≡ None → written_types types ≡ None
types_unwritten None e = refl
types_unwritten (Some n) e = absurd cc

pub anchor_spelled : (profile : Profile) (h : Heading) → FitsHeading profile h → IsAnchor profile (Quoted (target_text h.target) ∷ more_tokens (as_rule h)) (written_anchor h)
anchor_spelled profile h fits = record {
  target = Quoted (target_text h.target) ∷ [];
  direction = direction_tokens h.conditions.direction;
  quick = quick_tokens h.quick;
  common = common_tokens h.conditions;
  flags = flags_tokens act.Drop h.conditions.flags;
  whole =
      ap (λ (us : List Token). Quoted (target_text h.target) ∷ (direction_tokens h.conditions.direction ++ (quick_tokens h.quick ++ us)))
      (sym (common_split (as_rule h)) ∙ ap (λ (us : List Token). common_tokens h.conditions ++ us) (no_types_left h.conditions.icmp_type (flags_tokens act.Drop h.conditions.flags) fits.no_type));
  is_target = TargetString (target_text h.target) h.target (target_again h.target fits.target);
  is_direction = direction_spelled h.conditions.direction;
  is_quick = quick_spelled h.quick;
  is_common = common_spelled profile h.conditions fits.conditions;
  are_flags = flags_behind h.conditions.flags fits.conditions.flags;
  no_types = types_unwritten h.conditions.icmp_type fits.no_type;
}

anchor_value : (profile : Profile) (h : Heading) → FitsHeading profile h → value_of profile (anchor_tokens h) ≡ Some (Anchors (written_anchor h))
anchor_value profile h fits = statement_reads profile (anchor_tokens h) (Anchors (written_anchor h)) (AnchorStatement _ (written_anchor h) (anchor_spelled profile h fits))

-- ---- it expands to itself

pub headings_again : (profile : Profile) (h : Heading) → FitsHeading profile h → headings (written_anchor h) ≡ h ∷ []
unfolding headings
headings_again profile h fits = ap (map (heading_with (written_anchor h))) (combined_again profile (as_rule h) (as_fitting profile h fits))

no_cause : (place : Place) (profile : Profile) (tables : List TableValue) (before : List ItemValue) (h : Heading) → FitsHeading profile h → is_misnamed (unnamed_in 0 before) h.target ≡ false → length before < 1024 → statement_cause place tables before (Some (Anchors (written_anchor h))) ≡ None
no_cause place profile tables before h fits free room =
    let r = as_rule h in
    let is = as_fitting profile h fits in
    rw (no_bad_ports profile r is, some_combination profile r is, free, not_too_many profile (length before) r is room, no_bad_types profile r is) refl

abbrev pub anchor_added : Policy → List Name → List TableValue → List ItemValue → Heading → Result Sofar Refusal
anchor_added p skip tables items h = Ok (so_far p skip tables (items ++ item.Anchors h ∷ []))

anchor_outcome : (place : Place) (profile : Profile) (p : Policy) (skip : List Name) (tables : List TableValue) (items : List ItemValue) (n : ℕ) (h : Heading) → FitsHeading profile h → is_misnamed (unnamed_in 0 items) h.target ≡ false → length items < 1024 → statement_outcome place profile (so_far p skip tables items) n false (anchor_tokens h) ≡ anchor_added p skip tables items h
anchor_outcome place profile p skip tables items n h fits free room =
    ap (λ (value : Option Statement). answered n (so_far p skip tables items) value (statement_cause place tables items value)) (anchor_value profile h fits)
    ∙ ap (answered n (so_far p skip tables items) (Some (Anchors (written_anchor h)))) (no_cause place profile tables items h fits free room)
    ∙ ap (λ (hs : List Heading). let next : Result Sofar Refusal = Ok (so_far p skip tables (items ++ map (λ (h : Heading). item.Anchors h) hs)) in next) (headings_again profile h fits)

pub anchor_is_added : (place : Place) (profile : Profile) (p : Policy) (skip : List Name) (tables : List TableValue) (items : List ItemValue) (n : ℕ) (h : Heading) → FitsHeading profile h → is_misnamed (unnamed_in 0 items) h.target ≡ false → length items < 1024
    → with_statement macros_of (judge place profile) (so_far p skip tables items) (map (λ (t : Token). record { token = t; line = n; written = true }) (anchor_tokens h)) ≡ anchor_added p skip tables items h
anchor_is_added place profile p skip tables items n h fits free room =
    let short = anchor_short h in
    line_judged place profile p skip tables items n (anchor_tokens h) (omega arith) (not_definition n (Word (codes "anchor")) (Quoted (target_text h.target) ∷ more_tokens (as_rule h)) refl) (no_fault (anchor_tokens h) 0 short.simple (let k = short.short in omega (arith, k)))
    ∙ anchor_outcome place profile p skip tables items n h fits free room
