-- Texts in files, and the input in their place.
use Rattle.std.proofs.Common.{◌≡◌, ℕ, ◌+◌, ◌<◌, ◌≤◌, Bool, true, false, List, Option, Some, None, Result, Ok, Err, [], ◌∷◌, ◌++◌, ◌∙◌, ◌||◌, append-nil, codes, if◌then◌else◌, length, map, take, get_or, ap, refl, arith, Bor}
use Rattle.std.specs.Option.{option_copied}
use Rattle.std.specs.Prelude.{IfOk, IfSome}
use Rattle.std.proofs.lemmas.List.{map-append, take_more}
use Rattle.clap.specs.Words.{Text}
use Rattle.cli_io.specs.declared.paragraph.Explanation.{Explanation}
use Rattle.pf_grammar.specs.declared.place.Place.{Place}
use Rattle.pf_tool.specs.Options.{check_as}
use Rattle.pf_tool.specs.Tool.{Written, SourceValue, of_input, IsSource, AreAt, AreTexts, AreRules, AreLines, AreChecked, AreTested, IsAnswer, quieted, is_refused, checked_source, checked_sources, packet_texts, test_output, tested_sources}
use Rattle.pf_tool.specs.declared.output.Output.{Output}
use Rattle.pf_tool.specs.declared.reporting.Reporter.{Reporter}
use Rattle.pf_tool.specs.declared.source.Source.{Source}
use Rattle.pf_tool.specs.declared.output.Ending.{Ending}
use Rattle.pf_tool.specs.declared.output.Ending.TheVariants.{Done, Refused}
use Rattle.pf_tool.specs.inner.Calls.{test_value}
use Rattle.pf_tool.specs.inner.Output.{written, rendered, quieted_bytes, Renders}
use Rattle.pf_tool.specs.inner.Sources.{source_in}

-- one file more, with its text
pub one_more : (has : Text → Text → Type 0) (files : List Text) (sources : List SourceValue) (file : Text) (source : SourceValue)
    → AreAt has files sources → IsSource has file source → AreAt has (files ++ file ∷ []) (sources ++ source ∷ [])
one_more has [] [] file source h k = (k, tt)
one_more has [] (s ∷ sources) file source h k = absurd h
one_more has (f ∷ files) [] file source h k = absurd h
one_more has (f ∷ files) (s ∷ sources) file source h k = (h.0, one_more has files sources file source h.1 k)

-- the same of the sources of paths so far
pub next_source : (has : Text → Text → Type 0) (paths : List (Bor (List ℕ))) (i : ℕ) (d : Bor (List ℕ)) (so_far sources : List Source) (source : Source) → i < length paths
    → AreAt has (map (λ p. p.now) (take i paths)) (map source_in so_far) → IsSource has (get_or paths i d).now (source_in source) → sources ≡ so_far ++ source ∷ []
    → AreAt has (map (λ p. p.now) (take (i + 1) paths)) (map source_in sources)
next_source has paths i d so_far sources source h at is e =
    let files = map (λ p. p.now) (take i paths) in
    let found = map source_in so_far in
    rw (e, take_more paths i d h, map-append, map-append) (one_more has files found (get_or paths i d).now (source_in source) at is)

-- files are named
pub named_texts : (has : Text → Text → Type 0) (paths : List (Bor (List ℕ))) (sources : List SourceValue) (input : List ℕ) → 0 < length paths
    → AreAt has (map (λ p. p.now) paths) sources → AreTexts has (map (λ p. p.now) paths) sources input
named_texts has [] sources input n h = absurd (omega (arith, n))
named_texts has (p ∷ paths) sources input n h = h

-- no file is named
pub input_text : (has : Text → Text → Type 0) (paths : List (Bor (List ℕ))) (so_far sources : List Source) (source : Source) (input : List ℕ) → length paths ≡ 0
    → AreAt has (map (λ p. p.now) paths) (map source_in so_far) → source_in source ≡ of_input input → sources ≡ so_far ++ source ∷ []
    → AreTexts has (map (λ p. p.now) paths) (map source_in sources) input
input_text has [] [] sources source input n h same e = rw (e, same) refl
input_text has [] (s ∷ so_far) sources source input n h same e = absurd h
input_text has (p ∷ paths) so_far sources source input n h same e = absurd (omega (arith, n))

-- without arguments the input has the packets that no file has
pub input_lines : (has : Text → Text → Type 0) (more : Option Text) (packets : List (Bor (List ℕ))) (lines : SourceValue) (input : List ℕ) → length packets < 1
    → AreRules has more lines input → AreLines has more (map (λ p. p.now) packets) lines input
input_lines has (Some path) packets lines input n h = h
input_lines has None [] lines input n h = h
input_lines has None (p ∷ packets) lines input n h = absurd (omega (arith, n))

-- arguments have packets
pub no_lines : (has : Text → Text → Type 0) (more : Option Text) (packets : List (Bor (List ℕ))) (lines : SourceValue) (input : List ℕ) → 1 ≤ length packets
    → AreRules has more lines [] → AreLines has more (map (λ p. p.now) packets) lines input
no_lines has (Some path) packets lines input n h = h
no_lines has None [] lines input n h = absurd (omega (arith, n))
no_lines has None (p ∷ packets) lines input n h = h

-- with -q nothing is written but messages
pub quieted_so : (quiet : Bool) (r : Reporter) (w : Written) → quieted_bytes quiet (rendered r w) ≡ rendered r (quieted quiet w)
quieted_so true r w = refl
quieted_so false r w = refl

-- what is written, and nothing behind it
same_ending : (e : Ending) → (if is_refused e || false then Refused else Done) ≡ e
same_ending Done = refl
same_ending Refused = refl

same_written : (w : Written) → record { text = w.text ++ []; messages = w.messages ++ []; ending = if is_refused w.ending || false then Refused else Done } ≡ w
same_written w = rw (append-nil w.text, append-nil w.messages, same_ending w.ending) refl

-- check of one ruleset
one_source : (place : Place) (s : SourceValue) → checked_sources place (s ∷ []) ≡ checked_source place s
unfolding checked_sources
one_source place s = same_written (checked_source place s)

-- check of files, or of the input
check_answers : (has : Text → Text → Type 0) (table : List Explanation) (place : Place) (quiet : Bool) (files : List Text) (input : List ℕ) (w : Written)
    → AreChecked has place quiet files input w → IsAnswer has table (check_as place quiet files) input w
check_answers has table place quiet (file ∷ files) input w h = h
check_answers has table place true [] input w h = h
check_answers has table place false [] input w h = h.2 ∙ ap (checked_sources place) h.1 ∙ one_source place (of_input input)

pub files_checked : (has : Text → Text → Type 0) (table : List Explanation) (place : Place) (quiet : Bool) (files : List Text) (sources : List SourceValue) (input : List ℕ) (r : Reporter) (all out : Output)
    → AreTexts has files sources input → written all ≡ rendered r (checked_sources place sources) → written out ≡ quieted_bytes quiet (written all)
    → Renders r out (IsAnswer has table (check_as place quiet files) input)
files_checked has table place quiet files sources input r all out h e q =
    let w = quieted quiet (checked_sources place sources) in
    (w, check_answers has table place quiet files input w (sources, h, refl), q ∙ ap (quieted_bytes quiet) e ∙ quieted_so quiet r (checked_sources place sources))

-- arguments have packets, and the input has the rules
own_packets : (packets : List Text) (input : List ℕ) → tested_sources packets (of_input input) (of_input []) ≡ test_output (codes "stdin") packets input
unfolding packet_texts
own_packets packets input = ap (λ (ps : List Text). test_output (codes "stdin") ps input) (append-nil packets)

-- test under the rules of a file, or of the input
test_answers : (has : Text → Text → Type 0) (table : List Explanation) (file more : Option Text) (quiet : Bool) (packets : List Text) (input : List ℕ) (w : Written)
    → AreTested has file more quiet packets input w → IsAnswer has table (test_value file more quiet packets) input w
test_answers has table (Some file) more quiet packets input w h = h
test_answers has table None (Some more) quiet packets input w h = h
test_answers has table None None quiet [] input w h = h
test_answers has table None None true (packet ∷ packets) input w h = h
test_answers has table None None false (packet ∷ packets) input w h =
    let rules : h.0 ≡ of_input input = h.1 in
    let lines : h.2.0 ≡ of_input [] = h.2.1 in
    h.2.2 ∙ ap (λ (s : SourceValue). tested_sources (packet ∷ packets) s h.2.0) rules ∙ ap (tested_sources (packet ∷ packets) (of_input input)) lines ∙ own_packets (packet ∷ packets) input

pub files_tested : (has : Text → Text → Type 0) (table : List Explanation) (file more : Option Text) (quiet : Bool) (packets : List Text) (rules lines : SourceValue) (input : List ℕ) (r : Reporter) (all out : Output)
    → AreRules has file rules input → AreLines has more packets lines input → written all ≡ rendered r (tested_sources packets rules lines)
    → written out ≡ quieted_bytes quiet (written all) → Renders r out (IsAnswer has table (test_value file more quiet packets) input)
files_tested has table file more quiet packets rules lines input r all out h k e q =
    let w = quieted quiet (tested_sources packets rules lines) in
    (w, test_answers has table file more quiet packets input w (rules, h, (lines, k, refl)), q ∙ ap (quieted_bytes quiet) e ∙ quieted_so quiet r (tested_sources packets rules lines))

-- what is written exactly so
pub exactly : {E : Type 0} (result : Result Output E) (r : Reporter) (w : Written) → IfOk result (λ out. written out ≡ rendered r w) → IfOk result (λ out. Renders r out (λ v. v ≡ w))
exactly (Err fault) r w h = tt
exactly (Ok out) r w h = (w, refl, h)
