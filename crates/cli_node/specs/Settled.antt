-- What the subcommand `node` does with its arguments and its file of settings.
use Rattle.std.specs.Prelude.{◌≡◌, ◌⊎◌, ℕ, Bool, true, false, ◌&&◌, ◌||◌, not, List, [], ◌∷◌, Option, Some, None, map}
use Rattle.std.specs.Prelude.{option_map, is_some, unwrap_or, codes}
use Rattle.clap.specs.Words.{Row, Text, all_of, first_of}
use Rattle.toml.specs.Data.{get_member, no_members}
use Rattle.toml.specs.Parse.{parse_document}
use Rattle.cli_files.specs.Files.{settings_of}
use Rattle.cli_files.specs.Settings.{IsRefused, first_wrong, texts_at}
use Rattle.cli_files.specs.declared.settings.NodeFile.{NodeFile}
use Rattle.cli_files.specs.declared.settings_fault.FileFault.{FileFault}
use Rattle.cli_files.specs.declared.settings_fault.FileFault.TheVariants as fault
use Rattle.cli_io.specs.Given.{is_given}
use Rattle.cli_io.specs.Numbers.{number_at}
use Rattle.cli_node.specs.declared.node.NodeArguments.{NodeArguments}
use Rattle.cli_node.specs.declared.outcome.Outcome.{Outcome}
use Rattle.cli_node.specs.declared.outcome.Outcome.TheVariants.{Memory, Refused, RefusedLine}
use Rattle.cli_node.specs.Doing.{NodeEvent, Ran, Checked}
use Rattle.cli_node.specs.Given.{is_set, number_for, text_for}
use Rattle.cli_node.specs.Places.{has_8_bits, turns_or_all}

-- What the arguments and a file of settings say, with these members: an option goes before the file.
pub record AreArguments
    (rows : List Row) (file : NodeFile) (members : List (List ℕ)) (w : NodeArguments) : Type 0 where
  pub me : number_for rows file (codes "me") ≡ Some w.me
  pub cluster : number_for rows file (codes "cluster") ≡ Some w.cluster
  pub is_from_file : w.is_from_file ≡ is_some (first_of (codes "config") rows)
  pub is_new : w.is_new ≡ is_given (first_of (codes "new") rows)
  pub turns : w.turns ≡ turns_or_all (number_at rows (codes "turns"))
  pub makes_starts : w.makes_starts ≡ is_given (first_of (codes "new-starts") rows)
  pub is_unsealed : w.is_unsealed ≡ is_set rows file (codes "unsealed")
  pub is_quiet : w.is_quiet ≡ is_set rows file (codes "quiet")
  pub store : text_for rows file (codes "store") ≡ Some w.store.now
  pub key : option_map (λ t. t.now) w.key ≡ text_for rows file (codes "key")
  pub other_key : option_map (λ t. t.now) w.other_key ≡ text_for rows file (codes "other-key")
  pub control : option_map (λ t. t.now) w.control ≡ text_for rows file (codes "control")
  pub metrics : option_map (λ t. t.now) w.metrics ≡ text_for rows file (codes "metrics")
  pub are_members : map (λ t. t.now) w.members.now ≡ members

-- a member's number, the cluster and the store are given; the number has 8 bits
abbrev pub is_complete : List Row → NodeFile → Bool
is_complete rows file = has_8_bits (number_for rows file (codes "me"))
    && (is_some (number_for rows file (codes "cluster")) && is_some (text_for rows file (codes "store")))

-- each setting has the one that it needs: a second key and new starts a key, figures a control socket
abbrev pub is_whole : NodeArguments → Bool
is_whole w = ((not (is_some w.other_key) && not w.makes_starts) || is_some w.key)
    && (not (is_some w.metrics) || is_some w.control)

-- the members that the arguments name, else those of the file
abbrev pub members_for : List Row → NodeFile → List (List ℕ)
members_for rows file =
    unwrap_or (all_of (codes "member") rows) (texts_at (get_member (codes "members") (settings_of file)))

-- the number with which settings are refused: 92 where a file is named, 40 for arguments alone
abbrev pub settings_code : (named : Option Text) → ℕ
settings_code None = 40
settings_code (Some path) = 92

-- A node is checked or run, once; it is refused where a setting lacks the one that it needs.
abbrev pub IsDone : (did : List NodeEvent → Type 0) → (code : ℕ) → (is_whole is_check : Bool) → NodeArguments →
    Outcome → Type 0
IsDone did code false is_check w outcome = did [] × (outcome ≡ Refused code)
IsDone did code true false w outcome = did (Ran w outcome ∷ [])
IsDone did code true true w outcome = did (Checked w outcome ∷ [])

-- What these settings give with these members: a refusal where one is missing, else what the node gives that they
-- describe. It is checked where that is asked for.
abbrev pub IsSettled : (did : List NodeEvent → Type 0) → List Row → NodeFile → (members : List (List ℕ)) → Outcome →
    Type 0
IsSettled did rows file members outcome =
    let code = settings_code (first_of (codes "config") rows) in
    ((is_complete rows file ≡ false) × (did [] × (outcome ≡ Refused code)))
    ⊎ ((w : NodeArguments) × (AreArguments rows file members w
    × IsDone did code (is_whole w) (is_given (first_of (codes "check") rows)) w outcome))

-- the same, or no node is run when out of memory
abbrev pub IsSettledOr : (did : List NodeEvent → Type 0) → List Row → NodeFile → (members : List (List ℕ)) → Outcome →
    Type 0
IsSettledOr did rows file members outcome =
    (did [] × (outcome ≡ Memory)) ⊎ IsSettled did rows file members outcome

-- what a file is refused with whose settings are wrong
abbrev pub bad_settings : (line : Option ℕ) → Outcome
bad_settings None = Refused 92
bad_settings (Some at) = RefusedLine 92 at

abbrev pub settings_outcome : FileFault → Outcome
settings_outcome fault.Memory = Memory
settings_outcome (fault.Syntax line) = bad_settings (Some line)
settings_outcome (fault.Unknown line) = bad_settings line
settings_outcome (fault.Value line) = bad_settings line

-- why the file at a path gives no settings: out of memory, it can't be read, or is refused for this fault
abbrev pub IsUnread : (has : (path text : List ℕ) → Type 0) → (path : Text) → Outcome → Type 0
IsUnread has path outcome = (outcome ≡ Memory) ⊎ ((outcome ≡ Refused 90)
    ⊎ ((text : List ℕ) × (fault : FileFault) × has path text × IsRefused fault text
    × (outcome ≡ settings_outcome fault)))

-- the same of the file that is named; without one nothing is read
abbrev pub IsUnsettled : (has : (path text : List ℕ) → Type 0) → (named : Option Text) → Outcome → Type 0
IsUnsettled has None outcome = ⊥
IsUnsettled has (Some path) outcome = IsUnread has path outcome

-- these are the settings that the bytes of a file have; each key names a setting, and has such a value
abbrev pub AreOfText : (text : List ℕ) → NodeFile → Type 0
AreOfText text file = (parse_document text ≡ Some (settings_of file)) × (first_wrong (settings_of file) ≡ None)

-- the settings of the file that the arguments name, none without one
abbrev pub AreSettings : (has : (path text : List ℕ) → Type 0) → (named : Option Text) → NodeFile → Type 0
AreSettings has None file = settings_of file ≡ no_members
AreSettings has (Some path) file = (text : List ℕ) × has path text × AreOfText text file

-- What `node` gives: its file's refusal, of which no node is run, or what its settings give.
abbrev pub IsNode : (did : List NodeEvent → Type 0) → (has : (path text : List ℕ) → Type 0) → List Row → Outcome →
    Type 0
IsNode did has rows outcome = (did [] × IsUnsettled has (first_of (codes "config") rows) outcome)
    ⊎ ((file : NodeFile) × (AreSettings has (first_of (codes "config") rows) file
    × IsSettledOr did rows file (members_for rows file) outcome))
