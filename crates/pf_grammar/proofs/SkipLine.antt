-- The shown line of skipped interfaces is read again.
use Rattle.std.proofs.Common.{◌≡◌, ℕ, ◌+◌, ◌<◌, ◌≤◌, true, false, List, [], ◌∷◌, ◌++◌, length, map, Option, Some, None, Result, Ok, refl, ap, ◌∙◌, arith}
use Rattle.std.specs.Prelude.{codes}
use Rattle.std.specs.List.{AllByRecursion}
use Rattle.pf_rules.specs.declared.profile.Profile.{Profile}
use Rattle.pf_tokens.specs.declared.symbol.Symbol.TheVariants.{Open, Close}
use Rattle.pf_tokens.specs.Tokens.{Token, Word, Mark}
use Rattle.pf_tokens.specs.Macros.{depth_behind}
use Rattle.pf_tokens.specs.Blanks.{blanked}
use Rattle.pf_tokens.specs.Faults.{reading_fault}
use Rattle.pf_tokens.specs.Lists.{Elements}
use Rattle.pf_tokens.specs.Reading.{◌>>=◌, reading_from}
use Rattle.pf_grammar.specs.declared.fault.Refusal.{Refusal}
use Rattle.pf_rules.specs.declared.parts.Policy.{Policy}
use Rattle.pf_grammar.specs.declared.place.Place.TheVariants.{Main}
use Rattle.pf_rules.specs.Names.{Name}
use Rattle.pf_rules.specs.Words.{is_interface_name}
use Rattle.pf_statements.specs.Statements.{SetSkip, Statement, Sets, value_of}
use Rattle.pf_grammar.specs.Causes.{statement_cause}
use Rattle.pf_tokens.specs.ListGrammar.{IsElements, LastOne, OneMore, NoComma, Braces, Listed}
use Rattle.pf_statements.specs.ConditionGrammar.{IsInterfaceName, NameWord}
use Rattle.pf_statements.specs.Grammar.{SkipSetting, SetStatement}
use Rattle.pf_grammar.specs.Reading.{Sofar, macros_of, judge, statement_outcome, answered}
use Rattle.pf_show.specs.Shown.{skip_line}
use Rattle.pf_statements.proofs.StatementsSpelled.{statement_reads}
use Rattle.pf_grammar.proofs.Parts.{lexed, at_line, with_newline, AreParts, OnePart, word_part, open_part, close_part, line_lexes}
use Rattle.pf_grammar.proofs.RuleParts.{name_word, some_word, one_part, behind_key}
use Rattle.pf_grammar.proofs.Lines.{AreInLine, not_full, not_definition, line_judged, line_read, so_far}

abbrev pub AreNames : Profile → List Name → Type 0
AreNames profile names = AllByRecursion (λ name. is_interface_name profile name ≡ true) names

abbrev words : List Name → List Token
words names = map (λ name. Word name) names

abbrev closed : List Name → List Token
closed names = words names ++ Mark Close ∷ []

abbrev skip_tokens : List Name → List Token
skip_tokens names = Word (codes "set") ∷ Word (codes "skip") ∷ Word (codes "on") ∷ Mark Open ∷ closed names

-- ---- its tokens

names_are : (profile : Profile) (names : List Name) → AreNames profile names → AreParts (names ++ codes "}" ∷ []) (closed names)
names_are profile [] fits = one_part (codes "}") (Mark Close ∷ []) close_part
names_are profile (name ∷ names) fits =
    let word = name_word profile name fits.0 in
    OnePart name (names ++ codes "}" ∷ []) (Word name ∷ []) (closed names) (some_word name word.some word.words) (names_are profile names fits.1)

skip_lexes : (profile : Profile) (name : Name) (names : List Name) (n : ℕ) (rest : List ℕ) → AreNames profile (name ∷ names) → lexed n (skip_line (name ∷ names) ++ rest) ≡ with_newline n (skip_tokens (name ∷ names)) rest
skip_lexes profile name names n rest fits =
    line_lexes n (codes "set") _ (Word (codes "set") ∷ []) _ rest (word_part 115 (101 ∷ 116 ∷ []) refl)
    (behind_key 115 (107 ∷ 105 ∷ 112 ∷ []) _ _ refl (behind_key 111 (110 ∷ []) _ _ refl (OnePart (codes "{") ((name ∷ names) ++ codes "}" ∷ []) (Mark Open ∷ []) (closed (name ∷ names)) open_part (names_are profile (name ∷ names) fits))))

closed_in_line : (names : List Name) → AreInLine (closed names)
closed_in_line [] = (refl, tt)
closed_in_line (name ∷ names) = (refl, closed_in_line names)

closed_level : (n : ℕ) (names : List Name) → depth_behind 1 (map (at_line n) (closed names)) ≡ 0
closed_level n [] = refl
closed_level n (name ∷ names) = closed_level n names

closed_fault : (names : List Name) (count : ℕ) → count + length names < 65536 → reading_fault [] count 1 (closed names) ≡ None
closed_fault [] count h = rw (not_full count (omega (arith, h))) refl
closed_fault (name ∷ names) count h = rw (not_full count (omega (arith, h))) (closed_fault names (count + 1) (omega (arith, h)))

-- ---- its value

names_elements : (profile : Profile) (name : Name) (names : List Name) → AreNames profile (name ∷ names) → IsElements (IsInterfaceName profile) (words (name ∷ names)) (name ∷ names) 0
names_elements profile name [] fits = LastOne _ name (NameWord name fits.0)
names_elements profile name (other ∷ names) fits = OneMore (Word name ∷ []) [] _ name (other ∷ names) 0 (NameWord name fits.0) NoComma (names_elements profile other names fits.1)

closed_blanked : (names : List Name) → blanked 1 (closed names) ≡ closed names
closed_blanked [] = refl
closed_blanked (name ∷ names) = ap (λ (ts : List Token). Word name ∷ ts) (closed_blanked names)

abbrev listed : List Name → Elements Name
listed names = record { items = names; deepest = 1 }

skip_value : (profile : Profile) (name : Name) (names : List Name) → AreNames profile (name ∷ names) → value_of profile (skip_tokens (name ∷ names)) ≡ Some (Sets (SetSkip (listed (name ∷ names))))
skip_value profile name names fits =
    statement_reads profile (skip_tokens (name ∷ names)) (Sets (SetSkip (listed (name ∷ names))))
    (SetStatement _ (SetSkip (listed (name ∷ names))) (SkipSetting _ (listed (name ∷ names)) (Listed _ (listed (name ∷ names)) (Braces (words (name ∷ names)) (words (name ∷ names)) (name ∷ names) 0 (closed_blanked (name ∷ names)) (names_elements profile name names fits)))))

abbrev skipping : Policy → List Name → Result Sofar Refusal
skipping p names = Ok (so_far p names [] [])

skip_outcome : (profile : Profile) (p : Policy) (name : Name) (names : List Name) (n : ℕ) → AreNames profile (name ∷ names) → statement_outcome Main profile (so_far p [] [] []) n false (skip_tokens (name ∷ names)) ≡ skipping p (name ∷ names)
skip_outcome profile p name names n fits =
    ap (λ (value : Option Statement). answered n (so_far p [] [] []) value (statement_cause Main [] [] value)) (skip_value profile name names fits)

-- with at most 65,531 names the line sets them
pub skip_again : (profile : Profile) (p : Policy) (name : Name) (names : List Name) (rest : List ℕ) → AreNames profile (name ∷ names) → length (name ∷ names) ≤ 65531
    → reading_from macros_of (judge Main profile) (so_far p [] [] []) [] (lexed 1 (skip_line (name ∷ names) ++ rest)) ≡ reading_from macros_of (judge Main profile) (so_far p (name ∷ names) [] []) [] (lexed 2 rest)
skip_again profile p name names rest fits few =
    let ts = skip_tokens (name ∷ names) in
    let fault : reading_fault [] 0 0 ts ≡ None = closed_fault (name ∷ names) 4 (omega (arith, few)) in
    ap (reading_from macros_of (judge Main profile) (so_far p [] [] []) []) (skip_lexes profile name names 1 rest fits)
    ∙ line_read Main profile p [] [] [] 1 ts [] (lexed 2 rest) (refl, (refl, (refl, (refl, closed_in_line (name ∷ names))))) (closed_level 1 (name ∷ names))
    ∙ ap (λ (o : Result Sofar Refusal). o >>= λ next. reading_from macros_of (judge Main profile) next [] (lexed 2 rest)) (line_judged Main profile p [] [] [] 1 ts (omega arith) (not_definition 1 (Word (codes "set")) (Word (codes "skip") ∷ Word (codes "on") ∷ Mark Open ∷ closed (name ∷ names)) refl) fault ∙ skip_outcome profile p name names 1 fits)
