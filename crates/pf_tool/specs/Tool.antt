-- What the program writes.
use Rattle.std.specs.Prelude.{◌≡◌, ◌⊎◌, ℕ, ◌+◌, Bool, true, false, List, [], ◌∷◌, ◌++◌, Option, Some, None}
use Rattle.std.specs.Prelude.{Result, Ok, Err}
use Rattle.std.specs.Prelude.{IfSome, codes, decimal, map, option_map, if◌then◌else◌}
use Rattle.std.specs.List.{flat_map, list_any}
use Rattle.std.specs.Io.KnownBytes.{Appends}
use Rattle.clap.specs.Words.{Text}
use Rattle.pf_grammar.specs.declared.fault.Refusal.{Refusal}
use Rattle.pf_grammar.specs.declared.place.Place.{Place}
use Rattle.pf_grammar.specs.declared.place.Place.TheVariants.{Main}
use Rattle.pf_rules.specs.declared.profile.Profile.TheVariants.{Two}
use Rattle.pf_expansion.specs.Causes.{cause_code}
use Rattle.pf_rules.specs.Rulesets.{RulesetValue}
use Rattle.pf_grammar.specs.Reading.{reading}
use Rattle.pf_show.specs.Shown.{shown}
use Rattle.pf_config.specs.declared.fault.ConfigFault.{ConfigFault}
use Rattle.pf_config.specs.Map.{Configuration}
use Rattle.pf_config.specs.Changes.{load_ruleset}
use Rattle.pf_command.specs.Effect.{empty}
use Rattle.pf_config.specs.Codes.{fault_code}
use Rattle.pf_eval.specs.Packets.{PacketValue}
use Rattle.pf_eval.specs.PacketTexts.{packet_of}
use Rattle.pf_eval.specs.Seen.{verdict_text}
use Rattle.pf_eval.specs.Verdicts.{Judgement, judgement}
use Rattle.pf_scripts.specs.Lines.{ScriptLine, lines, words_if}
use Rattle.pf_scripts.specs.Ctl.{PrintedValue, text_of, printed}
use Rattle.pf_scripts.specs.Ctl as script
use Rattle.pf_lab.specs.Scripts as lab
use Rattle.cli_io.specs.declared.paragraph.Explanation.{Explanation}
use Rattle.cli_io.specs.Explained.{paragraph, paragraphs}
use Rattle.cli_io.specs.Sources.{IsAt}
use Rattle.pf_tool.specs.declared.output.Ending.{Ending}
use Rattle.pf_tool.specs.declared.output.Ending.TheVariants.{Done, Refused}
use Rattle.pf_tool.specs.declared.reporting.Level.{Level}
use Rattle.pf_tool.specs.Messages.{Message, Refuses, Decides, message_lines}
use Rattle.pf_tool.specs.Options.{CallValue, Test, Check, Ctl, Lab, Explain, CheckFiles, TestFiles}
use Rattle.cli_io.specs.declared.status.Status.{Status}
use Rattle.cli_io.specs.declared.status.Status.TheVariants as status
use Rattle.cli_io.specs.Written.{line, AppendsFront}

-- ---- what is written

-- the bytes of standard output, the messages for standard error, and how the run ends
pub record Written : Type 0 where
  pub text : List ℕ
  pub messages : List Message
  pub ending : Ending

-- nothing is refused, and there is no message
abbrev pub answered : List ℕ → Written
answered text = record { text = text; messages = []; ending = Done }

-- a string and a message before what is written
abbrev pub behind : List ℕ → Message → Written → Written
behind text message later =
    record { text = text ++ later.text; messages = message ∷ later.messages; ending = later.ending }

-- refused CODE line LINE, or refused CODE
abbrev pub refused_text : Option ℕ → (code : ℕ) → List ℕ
refused_text None code = line (codes "refused " ++ decimal code)
refused_text (Some at) code = line (codes "refused " ++ decimal code ++ codes " line " ++ decimal at)

-- a source is refused with this number, at its line where the refusal names one
abbrev pub refused : (source : Text) → (line : Option ℕ) → (code : ℕ) → Written
refused source at code =
    record { text = refused_text at code; messages = Refuses source at code ∷ []; ending = Refused }

-- the text of a ruleset is refused
abbrev pub refused_ruleset : (source : Text) → Refusal → Written
refused_ruleset source r = refused source (Some r.line) (cause_code r.cause)

-- the packet with this number is none
abbrev pub refused_packet : (n : ℕ) → Written
refused_packet n = refused (codes "packet " ++ decimal n) None 30

-- the verdict line of the packet with this number before what follows; what is no packet ends it
abbrev pub put_verdict : Configuration → (n : ℕ) → Option Judgement → Written → Written
put_verdict c n None later = refused_packet n
put_verdict c n (Some verdict) later = behind (line (verdict_text verdict)) (Decides n c verdict) later

-- a line for each packet text in turn, numbered from this number on
abbrev pub verdict_lines : Configuration → (n : ℕ) → List Text → Written
verdict_lines c n [] = answered []
verdict_lines c n (packet ∷ packets) = put_verdict c n
    (option_map (λ (k : PacketValue). judgement c k) (packet_of packet)) (verdict_lines c (n + 1) packets)

-- a load that is refused
abbrev pub refused_load : (source : Text) → Option ℕ → Written
refused_load source None = record { text = []; messages = []; ending = Refused }
refused_load source (Some code) = refused source None code

-- the verdicts at a configuration, or the refusal of the load that made none
abbrev pub tested_over : (source : Text) → List Text → Result Configuration ConfigFault → Written
tested_over source packets (Err fault) = refused_load source (fault_code fault)
tested_over source packets (Ok c) = verdict_lines c 1 packets

-- the text's ruleset is loaded as the main one
abbrev pub tested : (source : Text) → List Text → Result RulesetValue Refusal → Written
tested source packets (Err refusal) = refused_ruleset source refusal
tested source packets (Ok rules) = tested_over source packets (load_ruleset empty [] rules)

-- test PACKET.. over the text of this source
unfoldable pub test_output : (source : Text) → List Text → List ℕ → Written
test_output source packets text = tested source packets (reading Main Two text)

-- the rules as they are understood, or the refusal of their text
abbrev pub checked : (source : Text) → Result RulesetValue Refusal → Written
checked source (Err refusal) = refused_ruleset source refusal
checked source (Ok rules) = answered (shown rules)

-- check over the text of this source
unfoldable pub check_output : (source : Text) → Place → List ℕ → Written
check_output source place text = checked source (reading place Two text)

-- ---- scripts

-- for each printed line the number of the refusal that it is, if it is one
abbrev pub marks : PrintedValue → List (Option ℕ)
marks (script.Refused code at) = Some code ∷ []
marks (script.Lines text) = map (λ (l : ScriptLine). None) (lines text)

-- a refusal at a printed line, before the messages of the lines behind it
abbrev pub put_refusal : (n : ℕ) → Option ℕ → List Message → List Message
put_refusal n None later = later
put_refusal n (Some code) later = Refuses (codes "stdout") (Some n) code ∷ later

-- the refusals among printed lines, numbered from this number on
abbrev pub refusals_in : (n : ℕ) → List (Option ℕ) → List Message
refusals_in n [] = []
refusals_in n (mark ∷ later) = put_refusal n mark (refusals_in (n + 1) later)

-- what a script prints; a refusal doesn't end it
unfoldable pub scripted : List PrintedValue → Written
scripted printed = record {
  text = flat_map text_of printed;
  messages = refusals_in 1 (flat_map marks printed);
  ending = Done;
}

-- ---- rulesets in files

-- a ruleset or packets: the name that messages have for it, and its text, none where it can't be read
pub record SourceValue : Type 0 where
  pub name : Text
  pub text : Option (List ℕ)

-- the input
abbrev pub of_input : List ℕ → SourceValue
of_input input = record { name = codes "stdin"; text = Some input }

-- a source that can't be read
abbrev pub unread : (source : Text) → Written
unread source = refused source None 90

-- check of a ruleset, none of a file that can't be read
abbrev pub checked_by : (source : Text) → Place → Option (List ℕ) → Written
checked_by source place None = unread source
checked_by source place (Some text) = check_output source place text

-- the same of a source
abbrev pub checked_source : Place → SourceValue → Written
checked_source place s = checked_by s.name place s.text

-- the ending is that of a refusal
abbrev pub is_refused : Ending → Bool
is_refused Done = false
is_refused Refused = true

-- each ruleset in turn; the run is refused where one of them is
unfoldable pub checked_sources : Place → List SourceValue → Written
checked_sources place sources = record {
  text = flat_map (λ s. (checked_source place s).text) sources;
  messages = flat_map (λ s. (checked_source place s).messages) sources;
  ending = if list_any (λ s. is_refused (checked_source place s).ending) sources then Refused else Done;
}

-- the packets of a file, one a line; none where a line isn't UTF-8
unfoldable pub packet_texts : List ℕ → Option (List Text)
packet_texts bytes = words_if (map (λ l. l.content) (lines bytes))

-- the packets of arguments before those of lines
abbrev pub tested_lines : (rules lines : Text) → List Text → List ℕ → Option (List Text) → Written
tested_lines rules lines packets text None = unread lines
tested_lines rules lines packets text (Some more) = test_output rules (packets ++ more) text

-- test under rules, of packets given as arguments and in lines, with the names of both sources; none of a file that
-- can't be read
abbrev pub tested_texts : (rules lines : Text) → List Text → (text bytes : Option (List ℕ)) → Written
tested_texts rules lines packets None bytes = unread rules
tested_texts rules lines packets (Some text) None = unread lines
tested_texts rules lines packets (Some text) (Some bytes) = tested_lines rules lines packets text (packet_texts bytes)

-- the same of two sources
abbrev pub tested_sources : List Text → (rules lines : SourceValue) → Written
tested_sources packets rules more = tested_texts rules.name more.name packets rules.text more.text

-- with -q nothing is written but messages
abbrev pub quieted : Bool → Written → Written
quieted true w = record w { text = [] }
quieted false w = w

-- the contents of the file at this path; none of one that can't be read
abbrev pub IsSource : (has : (path text : Text) → Type 0) → (file : Text) → SourceValue → Type 0
IsSource has file s = (s.name ≡ file) × IsAt has (Some file) s.text

-- these are the contents of the files at these paths, in order
abbrev pub AreAt : (has : (path text : Text) → Type 0) → (files : List Text) → List SourceValue → Type 0
AreAt has [] [] = Unit {0}
AreAt has [] (s ∷ sources) = ⊥
AreAt has (file ∷ files) [] = ⊥
AreAt has (file ∷ files) (s ∷ sources) = IsSource has file s × AreAt has files sources

-- the rulesets of files; without files that of the input
abbrev pub AreTexts : (has : (path text : Text) → Type 0) → (files : List Text) → List SourceValue → List ℕ → Type 0
AreTexts has [] sources input = sources ≡ of_input input ∷ []
AreTexts has (file ∷ files) sources input = AreAt has (file ∷ files) sources

-- check of files, or of the input
abbrev pub AreChecked : (has : (path text : Text) → Type 0) → Place → Bool → (files : List Text) → List ℕ → Written →
    Type 0
AreChecked has place quiet files input w = (sources : List SourceValue) × AreTexts has files sources input
    × (w ≡ quieted quiet (checked_sources place sources))

-- the rules of a file; without a file those of the input
abbrev pub AreRules : (has : (path text : Text) → Type 0) → (file : Option Text) → SourceValue → List ℕ → Type 0
AreRules has (Some file) rules input = IsSource has file rules
AreRules has None rules input = rules ≡ of_input input

-- the packets of the input, none where arguments are packets
abbrev pub AreInputLines : (packets : List Text) → SourceValue → List ℕ → Type 0
AreInputLines [] more input = more ≡ of_input input
AreInputLines (packet ∷ packets) more input = more ≡ of_input []

-- the packets of a file; without a file those of the input
abbrev pub AreLines : (has : (path text : Text) → Type 0) → (file : Option Text) → (packets : List Text) →
    SourceValue → List ℕ → Type 0
AreLines has (Some file) packets more input = IsSource has file more
AreLines has None packets more input = AreInputLines packets more input

-- test under these rules, of packets given as arguments and after them in lines
abbrev pub IsTested : (has : (path text : Text) → Type 0) → (more : Option Text) → Bool → List Text → SourceValue →
    List ℕ → Written → Type 0
IsTested has more quiet packets rules input w = (found : SourceValue) × AreLines has more packets found input
    × (w ≡ quieted quiet (tested_sources packets rules found))

-- test under the rules of a file, or of the input
abbrev pub AreTested : (has : (path text : Text) → Type 0) → (file more : Option Text) → Bool → List Text → List ℕ →
    Written → Type 0
AreTested has file more quiet packets input w =
    (rules : SourceValue) × AreRules has file rules input × IsTested has more quiet packets rules input w

-- ---- refusals

-- a refusal's paragraph, or all of a table
abbrev pub explained : List Explanation → Option Explanation → Written
explained table None = answered (paragraphs table)
explained table (Some r) = answered (paragraph r)

-- ---- a run

-- how a run with this ending exits
abbrev pub status_of : Ending → Status
status_of Done = status.Done
status_of Refused = status.Refused

-- what is asked for, over what files have and over this input, with this table of refusals
abbrev pub IsAnswer : (has : (path text : Text) → Type 0) → List Explanation → CallValue → List ℕ → Written → Type 0
IsAnswer has table (Test packets) input w = w ≡ test_output (codes "stdin") packets input
IsAnswer has table (Check place) input w = w ≡ check_output (codes "stdin") place input
IsAnswer has table Ctl input w = w ≡ scripted (printed input)
IsAnswer has table Lab input w = w ≡ answered (lab.printed input)
IsAnswer has table (Explain refusal) input w = w ≡ explained table refusal
IsAnswer has table (CheckFiles place quiet files) input w = AreChecked has place quiet files input w
IsAnswer has table (TestFiles file more quiet packets) input w = AreTested has file more quiet packets input w

-- the text is put behind what was written before, and the run ends as the text does
abbrev pub Writes : Option (List ℕ) → Option (List ℕ) → Status → Written → Type 0
Writes old new ending written = Appends old new written.text × (ending ≡ status_of written.ending)

-- what a run of a call may have written that failed: a front of its answer, or of `memory`; nothing is one of either
abbrev pub WroteFront : (has : (path text : Text) → Type 0) → List Explanation → CallValue →
    (input old new : Option (List ℕ)) → Type 0
WroteFront has table call input old new = AppendsFront old new (line (codes "memory"))
    ⊎ IfSome input (λ bytes. (w : Written) × IsAnswer has table call bytes w × AppendsFront old new w.text)

-- What a run that ended so has done, over what files have and over this input. Out of memory it wrote that alone; the
-- text for arguments that aren't understood isn't specified.
abbrev pub Ran : (has : (path text : Text) → Type 0) → List Explanation → Status → Option CallValue →
    Option (List ℕ) → Option (List ℕ) → Option (List ℕ) → Type 0
Ran has table status.Memory call input old new = Appends old new (line (codes "memory"))
Ran has table status.Failed None input old new = Unit {0}
Ran has table status.Failed (Some call) input old new = WroteFront has table call input old new
Ran has table ending (Some call) input old new =
    IfSome input (λ bytes. (w : Written) × IsAnswer has table call bytes w × Writes old new ending w)
Ran has table ending None input old new = ending ≡ status.Usage

-- what was answered, and its messages of this level behind what standard error had, or a front of them
abbrev pub ReportsFront : (has : (path text : Text) → Type 0) → List Explanation → Level → Status → CallValue →
    (input old new errors errors_new : Option (List ℕ)) → Type 0
ReportsFront has table level ending call input old new errors errors_new = IfSome input (λ bytes. (w : Written) ×
    IsAnswer has table call bytes w × Writes old new ending w
    × AppendsFront errors errors_new (message_lines level table w.messages))

-- What a run that ended so has written on standard error: the messages of what it answered, as far as they could be
-- written. Where it answered nothing it wrote no message.
abbrev pub Reported : (has : (path text : Text) → Type 0) → List Explanation → Level → Status → Option CallValue →
    (input old new errors errors_new : Option (List ℕ)) → Type 0
Reported has table level status.Done (Some call) input old new errors errors_new =
    ReportsFront has table level status.Done call input old new errors errors_new
Reported has table level status.Refused (Some call) input old new errors errors_new =
    ReportsFront has table level status.Refused call input old new errors errors_new
Reported has table level ending call input old new errors errors_new = Appends errors errors_new []
