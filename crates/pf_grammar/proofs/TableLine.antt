-- The shown lines of tables are read again.
use Rattle.std.proofs.Common.{◌≡◌, ℕ, ◌+◌, ◌*◌, ◌≤◌, Bool, true, false, List, [], ◌∷◌, ◌++◌, length, map, Option, Some, None, option_map, Result, Ok, refl, sym, ap, subst, ◌∙◌, append_assoc, arith}
use Rattle.std.specs.Prelude.{codes, nat_lt}
use Rattle.std.specs.List.{AllByRecursion}
use Rattle.std.proofs.lemmas.Bool.Decides.{nat_tests}
use Rattle.std.proofs.lemmas.List.{append-nil}
use Rattle.pf_addr.specs.Blocks.{Block}
use Rattle.pf_addr.specs.Shown.{shown_prefix}
use Rattle.pf_addr.proofs.Made.{FitsBlock}
use Rattle.pf_rules.specs.declared.profile.Profile.{Profile}
use Rattle.pf_rules.specs.Words.{is_table_name}
use Rattle.pf_tokens.specs.declared.symbol.Symbol.TheVariants.{Open, Close, Not, Less, Greater}
use Rattle.pf_tokens.specs.Tokens.{Token, Word, Mark}
use Rattle.pf_tokens.specs.Macros.{depth_behind}
use Rattle.pf_tokens.specs.Blanks.{blanked}
use Rattle.pf_tokens.specs.Faults.{reading_fault}
use Rattle.pf_tokens.specs.Lists.{Elements}
use Rattle.pf_tokens.specs.Reading.{◌>>=◌, reading_from}
use Rattle.pf_rules.specs.declared.parts.Policy.{Policy}
use Rattle.pf_rules.specs.declared.ruleset.TableEntry.{TableEntry}
use Rattle.pf_rules.specs.Names.{Name}
use Rattle.pf_rules.specs.Rulesets.{TableValue}
use Rattle.pf_tokens.specs.ListGrammar.{IsElements, LastOne, OneMore, NoComma, Braces}
use Rattle.pf_statements.specs.ConditionGrammar.{key, TableSign}
use Rattle.pf_statements.specs.Tables.{TableText, new_table}
use Rattle.pf_statements.specs.Statements.{Statement, Tables, value_of}
use Rattle.pf_statements.specs.Grammar.{IsEntry, EntryIn, EntryOut, NoNewline, AreEntries, NoEntries, SomeEntries, AreTableOptions, NoTableOption, PersistOption, ConstOption, EntriesOption, TableOptions, TableStatement}
use Rattle.pf_statements.proofs.StatementsSpelled.{statement_reads}
use Rattle.pf_expansion.specs.Tables.{first_of_each, table_value, is_defined, is_too_long}
use Rattle.pf_show.specs.Shown.{negated_part, entry_part, entries_parts, word_parts, table_sign, table_parts, table_lines, line}
use Rattle.pf_grammar.specs.declared.fault.Refusal.{Refusal}
use Rattle.pf_grammar.specs.declared.place.Place.{Place}
use Rattle.pf_grammar.specs.Causes.{statement_cause}
use Rattle.pf_grammar.specs.Reading.{Sofar, macros_of, judge, statement_outcome, answered}
use Rattle.pf_grammar.proofs.ShownTokens.{FitsIf, negated_tokens, prefix_tokens, table_tokens, block_spelled}
use Rattle.pf_grammar.proofs.Parts.{lexed, at_line, with_newline, IsPart, AreParts, NoPart, OnePart, word_part, open_part, close_part, parts_append, line_lexes}
use Rattle.pf_grammar.proofs.RuleParts.{one_part, prefix_parts, negated_prefix, table_name_word, table_part}
use Rattle.pf_grammar.proofs.Lines.{Simple, simple_word, simple_mark, Short, short_append, none_short, word_short, mark_short, more_short, then_short, length_short, AreInLine, not_full, not_definition, line_judged, line_read, so_far}

-- ---- what a table of a ruleset is

abbrev pub FitsEntry : TableEntry → Type 0
FitsEntry e = FitsBlock e.prefix

pub record FitsEntries (es : List TableEntry) : Type 0 where
  pub each : AllByRecursion FitsEntry es
  pub once : first_of_each es ≡ es
  pub few : length es ≤ 4096

pub record FitsTable (profile : Profile) (t : TableValue) : Type 0 where
  pub name : is_table_name profile t.name ≡ true
  pub entries : FitsIf FitsEntries t.entries

-- none has the name of one before it
abbrev pub FitTables : Profile → List TableValue → List TableValue → Type 0
FitTables profile before [] = Unit {0}
FitTables profile before (t ∷ ts) = FitsTable profile t × (is_defined before t.name ≡ false) × FitTables profile (before ++ t ∷ []) ts

-- ---- its tokens

abbrev entry_tokens : TableEntry → List Token
entry_tokens e = negated_tokens e.negated (prefix_tokens e.prefix)

abbrev all_tokens : List TableEntry → List Token
all_tokens [] = []
all_tokens (e ∷ es) = entry_tokens e ++ all_tokens es

abbrev closed : List TableEntry → List Token
closed [] = Mark Close ∷ []
closed (e ∷ es) = entry_tokens e ++ closed es

closed_is : (es : List TableEntry) → all_tokens es ++ (Mark Close ∷ []) ≡ closed es
closed_is [] = refl
closed_is (e ∷ es) = append_assoc (entry_tokens e) (all_tokens es) (Mark Close ∷ []) ∙ ap (λ (ts : List Token). entry_tokens e ++ ts) (closed_is es)

abbrev entries_tokens : Option (List TableEntry) → List Token
entries_tokens None = []
entries_tokens (Some es) = Mark Open ∷ closed es

abbrev said_tokens : Bool → List ℕ → List Token
said_tokens true word = key word
said_tokens false word = []

abbrev flag_tokens : TableValue → List Token
flag_tokens t = said_tokens t.persist (codes "persist") ++ said_tokens t.is_const (codes "const")

abbrev front_tokens : TableValue → List Token
front_tokens t = Word (codes "table") ∷ (table_tokens t.name ++ flag_tokens t)

abbrev option_tokens : TableValue → List Token
option_tokens t = said_tokens t.persist (codes "persist") ++ (said_tokens t.is_const (codes "const") ++ entries_tokens t.entries)

abbrev line_tokens : TableValue → List Token
line_tokens t = Word (codes "table") ∷ (table_tokens t.name ++ option_tokens t)

line_split : (t : TableValue) → line_tokens t ≡ front_tokens t ++ entries_tokens t.entries
line_split t =
    ap (λ (ts : List Token). Word (codes "table") ∷ ts)
    (ap (λ (ts : List Token). table_tokens t.name ++ ts) (sym (append_assoc (said_tokens t.persist (codes "persist")) (said_tokens t.is_const (codes "const")) (entries_tokens t.entries)))
    ∙ sym (append_assoc (table_tokens t.name) (flag_tokens t) (entries_tokens t.entries)))

-- ---- the line has them

entry_is : (b : Bool) (block : Block) → FitsBlock block → IsPart (negated_part b (shown_prefix block)) (negated_tokens b (prefix_tokens block))
entry_is true block fits = negated_prefix block fits
entry_is false block fits = prefix_parts block fits

closed_are : (es : List TableEntry) → AllByRecursion FitsEntry es → AreParts (map entry_part es ++ codes "}" ∷ []) (closed es)
closed_are [] fits = one_part (codes "}") (Mark Close ∷ []) close_part
closed_are (e ∷ es) fits = OnePart (entry_part e) (map entry_part es ++ codes "}" ∷ []) (entry_tokens e) (closed es) (entry_is e.negated e.prefix fits.0) (closed_are es fits.1)

entries_are : (o : Option (List TableEntry)) → FitsIf FitsEntries o → AreParts (entries_parts o) (entries_tokens o)
entries_are None fits = NoPart
entries_are (Some es) fits = OnePart (codes "{") (map entry_part es ++ codes "}" ∷ []) (Mark Open ∷ []) (closed es) open_part (closed_are es fits.each)

persist_are : (b : Bool) → AreParts (word_parts b (codes "persist")) (said_tokens b (codes "persist"))
persist_are true = one_part _ _ (word_part 112 (101 ∷ 114 ∷ 115 ∷ 105 ∷ 115 ∷ 116 ∷ []) refl)
persist_are false = NoPart

const_are : (b : Bool) → AreParts (word_parts b (codes "const")) (said_tokens b (codes "const"))
const_are true = one_part _ _ (word_part 99 (111 ∷ 110 ∷ 115 ∷ 116 ∷ []) refl)
const_are false = NoPart

table_lexes : (profile : Profile) (t : TableValue) (n : ℕ) (rest : List ℕ) → FitsTable profile t → lexed n (line (table_parts t) ++ rest) ≡ with_newline n (line_tokens t) rest
unfolding table_parts
table_lexes profile t n rest fits =
    line_lexes n (codes "table") _ (Word (codes "table") ∷ []) _ rest (word_part 116 (97 ∷ 98 ∷ 108 ∷ 101 ∷ []) refl)
    (OnePart (table_sign t.name) _ (table_tokens t.name) _ (table_part t.name (table_name_word profile t.name fits.name))
    (parts_append (word_parts t.persist (codes "persist")) _ (said_tokens t.persist (codes "persist")) _ (persist_are t.persist)
    (parts_append (word_parts t.is_const (codes "const")) (entries_parts t.entries) (said_tokens t.is_const (codes "const")) (entries_tokens t.entries) (const_are t.is_const) (entries_are t.entries fits.entries))))

-- ---- no fault while it is read

fault_past : (d : ℕ) → nat_lt 64 d ≡ false → (ts us : List Token) (count : ℕ) → AllByRecursion Simple ts → count + length ts ≤ 65536 → reading_fault [] count d (ts ++ us) ≡ reading_fault [] (count + length ts) d us
fault_past d shallow [] us count simple h = ap (λ (n : ℕ). reading_fault [] n d us) (omega arith)
fault_past d shallow (t ∷ ts) us count simple h =
    let s = simple.0 in
    rw (s.good, s.known, s.level d, not_full count (omega (arith, h)), shallow) (fault_past d shallow ts us (count + 1) simple.1 (omega (arith, h)) ∙ ap (λ (n : ℕ). reading_fault [] n d us) (omega arith))

level_past : (n d : ℕ) (ts us : List Token) → AllByRecursion Simple ts → depth_behind d (map (at_line n) (ts ++ us)) ≡ depth_behind d (map (at_line n) us)
level_past n d [] us simple = refl
level_past n d (t ∷ ts) us simple = ap (λ (k : ℕ). depth_behind k (map (at_line n) (ts ++ us))) (simple.0.level d) ∙ level_past n d ts us simple.1

in_line_append : (ts us : List Token) → AllByRecursion Simple ts → AreInLine us → AreInLine (ts ++ us)
in_line_append [] us simple more = more
in_line_append (t ∷ ts) us simple more = (simple.0.in_line, in_line_append ts us simple.1 more)

prefix_short : (block : Block) → Short 3 (prefix_tokens block)
prefix_short block = then_short 2 _ _ (simple_word _) (length_short _ block.len)

entry_short : (b : Bool) (block : Block) → Short 4 (negated_tokens b (prefix_tokens block))
entry_short true block = then_short 3 _ _ (simple_mark Not (λ d. refl)) (prefix_short block)
entry_short false block = more_short 3 4 _ (omega arith) (prefix_short block)

entries_short : (es : List TableEntry) → Short (4 * length es) (all_tokens es)
entries_short [] = none_short
entries_short (e ∷ es) = more_short (4 + 4 * length es) (4 * length (e ∷ es)) _ (omega arith) (short_append 4 (4 * length es) (entry_tokens e) (all_tokens es) (entry_short e.negated e.prefix) (entries_short es))

said_short : (b : Bool) (word : List ℕ) → Short 1 (said_tokens b word)
said_short true word = word_short word
said_short false word = more_short 0 1 _ (omega arith) none_short

front_short : (t : TableValue) → Short 6 (front_tokens t)
front_short t =
    then_short 5 _ _ (simple_word _)
    (short_append 3 2 (table_tokens t.name) (flag_tokens t)
    (then_short 2 _ _ (simple_mark Less (λ d. refl)) (then_short 1 _ _ (simple_word t.name) (mark_short Greater (λ d. refl))))
    (short_append 1 1 (said_tokens t.persist (codes "persist")) (said_tokens t.is_const (codes "const")) (said_short t.persist _) (said_short t.is_const _)))

-- a line whose braces close on it, and in which nothing is wrong
record Good (ts : List Token) : Type 0 where
  in_line : AreInLine ts
  level : (n : ℕ) → depth_behind 0 (map (at_line n) ts) ≡ 0
  fault : reading_fault [] 0 0 ts ≡ None

braces_in_line : (es : List TableEntry) → AreInLine (Mark Open ∷ (all_tokens es ++ (Mark Close ∷ [])))
braces_in_line es = (refl, in_line_append (all_tokens es) (Mark Close ∷ []) (entries_short es).simple (refl, tt))

braces_fault : (es : List TableEntry) (count : ℕ) → length es ≤ 4096 → count ≤ 6 → reading_fault [] count 0 (Mark Open ∷ (all_tokens es ++ (Mark Close ∷ []))) ≡ None
braces_fault es count few small =
    let short = entries_short es in
    let len = short.short in
    rw (not_full count (omega (arith, small))) (
    fault_past 1 refl (all_tokens es) (Mark Close ∷ []) (count + 1) short.simple (omega (arith, len, few, small))
    ∙ rw (not_full ((count + 1) + length (all_tokens es)) (omega (arith, len, few, small))) refl)

good_line : (t : TableValue) (o : Option (List TableEntry)) → FitsIf FitsEntries o → Good (front_tokens t ++ entries_tokens o)
good_line t None fits =
    let short = front_short t in
    record {
      in_line = in_line_append (front_tokens t) [] short.simple tt;
      level = λ n. level_past n 0 (front_tokens t) [] short.simple;
      fault = fault_past 0 refl (front_tokens t) [] 0 short.simple (let h = short.short in omega (arith, h));
    }
good_line t (Some es) fits =
    let short = front_short t in
    let braces = ap (λ (ts : List Token). Mark Open ∷ ts) (closed_is es) in
    subst Good (ap (λ (ts : List Token). front_tokens t ++ ts) braces) (record {
      in_line = in_line_append (front_tokens t) _ short.simple (braces_in_line es);
      level = λ n. level_past n 0 (front_tokens t) _ short.simple ∙ level_past n 1 (all_tokens es) (Mark Close ∷ []) (entries_short es).simple;
      fault = fault_past 0 refl (front_tokens t) _ 0 short.simple (let h = short.short in omega (arith, h)) ∙ braces_fault es (0 + length (front_tokens t)) fits.few (let h = short.short in omega (arith, h));
    })

good : (profile : Profile) (t : TableValue) → FitsTable profile t → Good (line_tokens t)
good profile t fits = subst Good (sym (line_split t)) (good_line t t.entries fits.entries)

-- ---- its value

abbrev listed : List TableEntry → Elements TableEntry
listed es = record { items = es; deepest = 1 }

abbrev base : Name → Bool → Bool → TableText
base name persist is_const = record { name = name; persist = persist; is_const = is_const; entries = None }

abbrev said : Name → Bool → Bool → Option (List TableEntry) → TableText
said name persist is_const o = record { name = name; persist = persist; is_const = is_const; entries = option_map listed o }

abbrev written : TableValue → TableText
written t = said t.name t.persist t.is_const t.entries

abbrev entry_of : Bool → Block → TableEntry
entry_of b block = record { negated = b; prefix = block }

entry_spelled : (b : Bool) (block : Block) → FitsBlock block → IsEntry (negated_tokens b (prefix_tokens block)) (entry_of b block)
entry_spelled true block fits = EntryOut (prefix_tokens block) block (block_spelled block fits)
entry_spelled false block fits = EntryIn (prefix_tokens block) block (block_spelled block fits)

elements_spelled : (e : TableEntry) (es : List TableEntry) → AllByRecursion FitsEntry (e ∷ es) → IsElements IsEntry (all_tokens (e ∷ es)) (e ∷ es) 0
elements_spelled e [] fits = subst (λ (ts : List Token). IsElements IsEntry ts (e ∷ []) 0) (sym (append-nil (entry_tokens e))) (LastOne (entry_tokens e) e (entry_spelled e.negated e.prefix fits.0))
elements_spelled e (f ∷ es) fits = OneMore (entry_tokens e) [] (all_tokens (f ∷ es)) e (f ∷ es) 0 (entry_spelled e.negated e.prefix fits.0) NoComma (elements_spelled f es fits.1)

blanked_simple : (ts us : List Token) → AllByRecursion Simple ts → blanked 1 (ts ++ us) ≡ ts ++ blanked 1 us
blanked_simple [] us simple = refl
blanked_simple (t ∷ ts) us simple = rw (simple.0.in_line, simple.0.level 1) (ap (λ (vs : List Token). t ∷ vs) (blanked_simple ts us simple.1))

entries_spelled : (es : List TableEntry) → AllByRecursion FitsEntry es → AreEntries (Mark Open ∷ closed es) (listed es)
entries_spelled [] fits = NoEntries [] NoNewline
entries_spelled (e ∷ es) fits =
    subst (λ (ts : List Token). AreEntries (Mark Open ∷ ts) (listed (e ∷ es))) (closed_is (e ∷ es))
    (SomeEntries _ (listed (e ∷ es)) (Braces (all_tokens (e ∷ es)) (all_tokens (e ∷ es)) (e ∷ es) 0 (blanked_simple (all_tokens (e ∷ es)) (Mark Close ∷ []) (entries_short (e ∷ es)).simple) (elements_spelled e es fits)))

list_spelled : (name : Name) (p c : Bool) (o : Option (List TableEntry)) → FitsIf FitsEntries o → AreTableOptions (base name p c) (entries_tokens o) (said name p c o)
list_spelled name p c None fits = NoTableOption (base name p c)
list_spelled name p c (Some es) fits =
    subst (λ (ts : List Token). AreTableOptions (base name p c) ts (said name p c (Some es))) (append-nil (Mark Open ∷ closed es))
    (EntriesOption (base name p c) (said name p c (Some es)) (Mark Open ∷ closed es) [] (listed es) refl (entries_spelled es fits.each) (NoTableOption (said name p c (Some es))))

const_spelled : (name : Name) (p c : Bool) (o : Option (List TableEntry)) → FitsIf FitsEntries o → AreTableOptions (base name p false) (said_tokens c (codes "const") ++ entries_tokens o) (said name p c o)
const_spelled name p true o fits = ConstOption (base name p false) (said name p true o) (entries_tokens o) (list_spelled name p true o fits)
const_spelled name p false o fits = list_spelled name p false o fits

options_spelled : (name : Name) (p c : Bool) (o : Option (List TableEntry)) → FitsIf FitsEntries o → AreTableOptions (new_table name) (said_tokens p (codes "persist") ++ (said_tokens c (codes "const") ++ entries_tokens o)) (said name p c o)
options_spelled name true c o fits = PersistOption (new_table name) (said name true c o) _ (const_spelled name true c o fits)
options_spelled name false c o fits = const_spelled name false c o fits

line_value : (profile : Profile) (t : TableValue) → FitsTable profile t → value_of profile (line_tokens t) ≡ Some (Tables (written t))
line_value profile t fits =
    statement_reads profile (line_tokens t) (Tables (written t))
    (TableStatement _ (written t) (TableOptions (table_tokens t.name) (option_tokens t) t.name (written t) (TableSign t.name fits.name) (options_spelled t.name t.persist t.is_const t.entries fits.entries)))

-- ---- it is added

entries_again : (o : Option (List TableEntry)) → FitsIf FitsEntries o → option_map (λ (list : Elements TableEntry). first_of_each list.items) (option_map listed o) ≡ o
entries_again None fits = refl
entries_again (Some es) fits = ap (λ (fs : List TableEntry). Some fs) fits.once

abbrev with_entries : TableValue → Option (List TableEntry) → TableValue
with_entries t o = record { name = t.name; persist = t.persist; is_const = t.is_const; entries = o }

table_again_value : (profile : Profile) (t : TableValue) → FitsTable profile t → table_value (written t) ≡ t
table_again_value profile t fits = ap (with_entries t) (entries_again t.entries fits.entries)

small_enough : (n : ℕ) → n ≤ 4096 → nat_lt 4096 n ≡ false
small_enough n h = grind (arith, nat_tests, h)

not_long : (o : Option (List TableEntry)) → FitsIf FitsEntries o → is_too_long (option_map listed o) ≡ false
not_long None fits = refl
not_long (Some es) fits = ap (λ (fs : List TableEntry). nat_lt 4096 (length fs)) fits.once ∙ small_enough (length es) fits.few

abbrev added : Policy → List Name → List TableValue → TableValue → Result Sofar Refusal
added p skip before t = Ok (so_far p skip (before ++ t ∷ []) [])

line_outcome : (place : Place) (profile : Profile) (p : Policy) (skip : List Name) (before : List TableValue) (n : ℕ) (t : TableValue) → FitsTable profile t → is_defined before t.name ≡ false → statement_outcome place profile (so_far p skip before []) n false (line_tokens t) ≡ added p skip before t
line_outcome place profile p skip before n t fits free =
    ap (λ (value : Option Statement). answered n (so_far p skip before []) value (statement_cause place before [] value)) (line_value profile t fits)
    ∙ rw (free, not_long t.entries fits.entries) (ap (added p skip before) (table_again_value profile t fits))

table_again : (place : Place) (profile : Profile) (p : Policy) (skip : List Name) (before : List TableValue) (n : ℕ) (t : TableValue) (rest : List ℕ) → FitsTable profile t → is_defined before t.name ≡ false
    → reading_from macros_of (judge place profile) (so_far p skip before []) [] (lexed n (line (table_parts t) ++ rest)) ≡ reading_from macros_of (judge place profile) (so_far p skip (before ++ t ∷ []) []) [] (lexed (n + 1) rest)
table_again place profile p skip before n t rest fits free =
    let g = good profile t fits in
    ap (reading_from macros_of (judge place profile) (so_far p skip before []) []) (table_lexes profile t n rest fits)
    ∙ line_read place profile p skip before [] n (line_tokens t) [] (lexed (n + 1) rest) g.in_line (g.level n)
    ∙ ap (λ (o : Result Sofar Refusal). o >>= λ next. reading_from macros_of (judge place profile) next [] (lexed (n + 1) rest)) (
    line_judged place profile p skip before [] n (line_tokens t) (omega arith) (not_definition n (Word (codes "table")) (table_tokens t.name ++ option_tokens t) refl) g.fault
    ∙ line_outcome place profile p skip before n t fits free)

-- shown tables are read as themselves
pub tables_again : (place : Place) (profile : Profile) (p : Policy) (skip : List Name) (before ts : List TableValue) (n : ℕ) (rest : List ℕ) → FitTables profile before ts
    → reading_from macros_of (judge place profile) (so_far p skip before []) [] (lexed n (table_lines ts ++ rest)) ≡ reading_from macros_of (judge place profile) (so_far p skip (before ++ ts) []) [] (lexed (n + length ts) rest)
tables_again place profile p skip before [] n rest fits =
    ap (λ (all : List TableValue). reading_from macros_of (judge place profile) (so_far p skip all []) [] (lexed n rest)) (sym (append-nil before))
    ∙ ap (λ (m : ℕ). reading_from macros_of (judge place profile) (so_far p skip (before ++ []) []) [] (lexed m rest)) (omega arith)
tables_again place profile p skip before (t ∷ ts) n rest fits =
    ap (λ (text : List ℕ). reading_from macros_of (judge place profile) (so_far p skip before []) [] (lexed n text)) (append_assoc (line (table_parts t)) (table_lines ts) rest)
    ∙ table_again place profile p skip before n t (table_lines ts ++ rest) fits.0 fits.1
    ∙ tables_again place profile p skip (before ++ t ∷ []) ts (n + 1) rest fits.2
    ∙ ap (λ (all : List TableValue). reading_from macros_of (judge place profile) (so_far p skip all []) [] (lexed ((n + 1) + length ts) rest)) (append_assoc before (t ∷ []) ts)
    ∙ ap (λ (m : ℕ). reading_from macros_of (judge place profile) (so_far p skip (before ++ (t ∷ ts)) []) [] (lexed m rest)) (omega arith)
