-- Scripts over one configuration: what each line does and prints.
use Rattle.std.specs.Prelude.{ℕ, Bool, true, false, List, [], ◌∷◌, ◌++◌, Option, Some, None}
use Rattle.std.specs.Prelude.{Result, Ok, Err, codes, decimal, unwrap_or, bytes_eq}
use Rattle.std.specs.Prelude.{if◌then◌else◌}
use Rattle.clap.specs.Words.{Text, Row, matches_of, first_of, fault_of}
use Rattle.clap.specs.Kinds.{Kinds}
use Rattle.pf_rules.specs.declared.profile.Profile.TheVariants.{Two}
use Rattle.pf_rules.specs.Rulesets.{RulesetValue}
use Rattle.pf_config.specs.Map.{Configuration}
use Rattle.pf_grammar.specs.declared.fault.Refusal.{Refusal}
use Rattle.pf_grammar.specs.Reading.{reading}
use Rattle.pf_eval.specs.Packets.{PacketValue}
use Rattle.pf_eval.specs.PacketTexts.{packet_of}
use Rattle.pf_eval.specs.Verdicts.{judgement}
use Rattle.pf_eval.specs.Seen.{verdict_text}
use Rattle.pf_entry.specs.Entry.{Command, load, flush_rules, flush_tables, flush_all, add, delete, replace, flush_table}
use Rattle.pf_command.specs.Effect.{Effect, RefusedCommand, refused_text, effect, after_command, place_at, empty}
use Rattle.pf_arguments.specs.Options.{pfctl_app}
use Rattle.pf_arguments.specs.Asked.{Asked, ActionValue, Change, CheckOnly, given_in, asked}
use Rattle.pf_arguments.specs.Answers.{command_fault_code}
use Rattle.pf_scripts.specs.Lines.{ScriptLine, lines, bytes_of, words_in, line, refused_line, spaced, are_adjacent}
use Rattle.pf_scripts.specs.Listings.{listed}

-- ---- what is printed of a change

-- a change of one table counts
abbrev pub is_counted : Command → Bool
is_counted (load p profile text) = false
is_counted (flush_rules p) = false
is_counted (flush_tables p) = false
is_counted (flush_all p) = false
is_counted (add p table list) = true
is_counted (delete p table list) = true
is_counted (replace p table list) = true
is_counted (flush_table p table) = true

-- ok, with how many addresses were added and removed where these count
abbrev pub counts_line : Bool → ℕ → ℕ → List ℕ
counts_line counts added removed =
    if counts then line (codes "ok " ++ decimal added ++ codes " " ++ decimal removed) else line (codes "ok")

-- what a line prints: a refusal with its number and a ruleset's line, or lines
pub data PrintedValue : Type 0 where
  Refused : (code at : ℕ) → PrintedValue
  Lines : (text : List ℕ) → PrintedValue

-- the line of a refusal, or the lines
abbrev pub text_of : PrintedValue → List ℕ
text_of (Refused code at) = refused_line code at
text_of (Lines text) = text

-- what is printed of a command's effect, or of its refusal
abbrev pub change_printed : Bool → Result Effect RefusedCommand → PrintedValue
change_printed counts (Ok e) = Lines (counts_line counts e.added e.removed)
change_printed counts (Err r) = Refused r.code r.line

-- the line of it
abbrev pub change_line : Bool → Result Effect RefusedCommand → List ℕ
change_line counts result = text_of (change_printed counts result)

-- ---- what a line of pfctl's arguments asks for

-- the file of -f is standard input, or there is none
abbrev pub is_standard : Option Text → Bool
is_standard None = true
is_standard (Some file) = bytes_eq file (codes "-")

-- what the arguments give, pfctl itself first; none where they aren't understood
abbrev pub rows_unless : Kinds → List Row → Option (List Row)
rows_unless [] rows = Some rows
rows_unless (k ∷ ks) rows = None

-- what is given for each option, none where the arguments aren't pfctl's
unfoldable pub rows_in : List Text → Option (List Row)
rows_in words = rows_unless (fault_of pfctl_app words) (matches_of pfctl_app words)

-- an action, or the number of its refusal
abbrev pub numbered : Asked → Result ActionValue ℕ
numbered (Ok action) = Ok action
numbered (Err fault) = Err (unwrap_or (command_fault_code fault) 0)

-- what rows ask for, with the text of the file; any other file is 40
-- Source: pfctl(8).
abbrev pub rows_asked : List ℕ → List Row → Result ActionValue ℕ
rows_asked text rows =
    if is_standard (first_of (codes "file") rows) then numbered (asked (given_in rows) text) else Err 40

-- the same of arguments; those that aren't pfctl's are 40
abbrev pub asked_at : List ℕ → Option (List Row) → Result ActionValue ℕ
asked_at text None = Err 40
asked_at text (Some rows) = rows_asked text rows

-- the action that arguments ask for, with the text of their file, or the number of the refusal
abbrev pub action_in : List Text → List ℕ → Result ActionValue ℕ
action_in words text = asked_at text (rows_in words)

-- ---- what it gives where nothing is changed

-- a change that is asked for and not made, or what is printed
pub data WordsValue : Type 0 where
  Asks : (command : Command) → WordsValue
  Prints : (printed : PrintedValue) → WordsValue

-- -n: the text is only read
abbrev pub checked : Result RulesetValue Refusal → WordsValue
checked (Ok rules) = Prints (Lines (line (codes "ok")))
checked (Err refusal) = Prints (Refused (refused_text refusal).code (refused_text refusal).line)

-- what is listed, or its refusal
abbrev pub shown : Result (List ℕ) ℕ → WordsValue
shown (Ok output) = Prints (Lines output)
shown (Err code) = Prints (Refused code 0)

-- an action where nothing is changed: a change is handed back
abbrev pub looked : Configuration → List ℕ → Result ActionValue ℕ → WordsValue
looked c text (Err code) = Prints (Refused code 0)
looked c text (Ok (Change command)) = Asks command
looked c text (Ok (CheckOnly p)) = checked (reading (place_at p) Two text)
looked c text (Ok action) = shown (listed c action)

-- arguments with the text of their file
-- Source: pfctl(8). Example: pfctl -F rules asks for a change.
abbrev pub words_read : Configuration → List Text → List ℕ → WordsValue
words_read c words text = looked c text (action_in words text)

-- ---- what it does

-- the configuration after a line, and what it prints
pub record Outcome : Type 0 where
  pub configuration : Configuration
  pub printed : PrintedValue

-- a configuration and what is printed
abbrev pub prints : Configuration → PrintedValue → Outcome
prints c printed = record { configuration = c; printed = printed }

-- a change is made, and its effect printed; all else changes nothing
abbrev pub done_with : Configuration → WordsValue → Outcome
done_with c (Asks command) = prints (after_command c command) (change_printed (is_counted command) (effect c command))
done_with c (Prints printed) = prints c printed

-- a line of pfctl's arguments, with the text of their file
abbrev pub pfctl : Configuration → List Text → List ℕ → Outcome
pfctl c words text = done_with c (words_read c words text)

-- ---- a ruleset behind a line

-- the file is standard input
abbrev pub is_input : Option Text → Bool
is_input None = false
is_input (Some file) = bytes_eq file (codes "-")

-- a ruleset follows: -f - is given, or is among arguments that can't be read
abbrev pub takes_text_by : List Text → Option (List Row) → Bool
takes_text_by words None = are_adjacent (codes "-f") (codes "-") words
takes_text_by words (Some rows) = is_input (first_of (codes "file") rows)

-- a ruleset follows where the file is standard input; of arguments that aren't understood, where -f and - are side by
-- side
abbrev pub takes_text : List Text → Bool
takes_text words = takes_text_by words (rows_in words)

-- ---- line by line

-- arguments that wait for the end of their text, and the text so far
pub record WaitingWords : Type 0 where
  pub words : List Text
  pub text : List ℕ

-- the configuration, whether a ruleset is being read, and what a line printed, if anything
pub record StepValue : Type 0 where
  pub configuration : Configuration
  pub waiting : Option WaitingWords
  pub printed : List PrintedValue

-- a line is done with, and no text is waited for
abbrev pub done : Outcome → StepValue
done outcome = record { configuration = outcome.configuration; waiting = None; printed = outcome.printed ∷ [] }

-- a line of pfctl's arguments: it is run at once, or waits for its text
abbrev pub pfctl_line : Configuration → List Text → StepValue
pfctl_line c words =
    if takes_text words then record {
      configuration = c;
      waiting = Some (record { words = words; text = [] });
      printed = [];
    }
    else done (pfctl c words [])

-- the line of a packet's verdict, 30 where the text is no packet
abbrev pub packet_printed : Configuration → Option PacketValue → PrintedValue
packet_printed c None = Refused 30 0
packet_printed c (Some k) = Lines (line (verdict_text (judgement c k)))

-- test PACKET
unfoldable pub tested : Configuration → List Text → PrintedValue
tested c words = packet_printed c (packet_of (spaced words))

-- pfctl WORDS, or test PACKET; an empty line does nothing, any other is 40
abbrev pub at_words : Configuration → Option (List Text) → StepValue
at_words c None = done (prints c (Refused 40 0))
at_words c (Some []) = record { configuration = c; waiting = None; printed = [] }
at_words c (Some (w ∷ ws)) =
    if bytes_eq w (codes "pfctl") then pfctl_line c (w ∷ ws)
    else if bytes_eq w (codes "test") then done (prints c (tested c ws))
    else done (prints c (Refused 40 0))

-- a line: one of a ruleset, up to a line `.`, or one with arguments
abbrev pub stepped : Configuration → Option WaitingWords → ScriptLine → StepValue
stepped c None l = at_words c (words_in l.content)
stepped c (Some w) l =
    if bytes_eq l.content (codes ".") then done (pfctl c w.words w.text)
    else record {
      configuration = c;
      waiting = Some (record { words = w.words; text = w.text ++ bytes_of l });
      printed = [];
    }

-- the end of the script ends a ruleset
abbrev pub at_end : Configuration → Option WaitingWords → List PrintedValue
at_end c None = []
at_end c (Some w) = (pfctl c w.words w.text).printed ∷ []

-- what the lines of a script print from here on, up to its end
abbrev pub printed_from : Configuration → Option WaitingWords → List ScriptLine → List PrintedValue
printed_from c waiting [] = at_end c waiting
printed_from c waiting (l ∷ ls) =
    let s = stepped c waiting l in s.printed ++ printed_from s.configuration s.waiting ls

-- what a script prints over an empty configuration
unfoldable pub printed : List ℕ → List PrintedValue
printed script = printed_from empty None (lines script)
