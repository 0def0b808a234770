-- The changes of a script in the form of `ctl`'s.
use Rattle.std.specs.Prelude.{◌≡◌, ℕ, ◌+◌, ◌-◌, ◌^◌, Bool, false, List, [], ◌∷◌, ◌++◌, map, min, Option, Some, None}
use Rattle.std.specs.Prelude.{Result, Ok, Err, bytes_eq, codes, nat_lt, option_map, if◌then◌else◌}
use Rattle.clap.specs.Words.{Text}
use Rattle.pf_entry.specs.Entry.{Command}
use Rattle.pf_scripts.specs.Ctl.{takes_text}
use Rattle.pf_scripts.specs.Lines.{ScriptLine, lines, bytes_of, words_in}
use Rattle.pf_scripts.specs.WordsRead.{change_in}
use Rattle.cli_ask.specs.Checking.{command_refusal}
use Rattle.cli_ask.specs.declared.checking.Refused.{Refused}
use Rattle.cli_ask.specs.declared.script.Change.{Change}
use Rattle.cli_ask.specs.declared.script.Left.{Left}
use Rattle.cli_ask.specs.declared.outcome.Outcome.{Outcome}
use Rattle.cli_ask.specs.declared.outcome.Outcome.TheVariants as outcome

-- a change: the number of its line, its arguments, `pfctl` first, and the text behind them
pub record ScriptChange : Type 0 where
  pub line : ℕ
  pub words : List Text
  pub text : List ℕ

-- a change, or a line that asks for none, with which the script ends
pub data Item : Type 0 where
  Found : (change : ScriptChange) → Item
  Bad : (line : ℕ) → Item

-- what is behind a line: with a change whose text goes on, or without
abbrev pub Behind : Type 0
Behind = Option ScriptChange → List Item

-- a change: its ruleset or addresses follow, where it has any
abbrev pub at_change : ScriptChange → Behind → List Item
at_change c behind = if takes_text c.words then behind (Some c) else Found c ∷ behind None

-- the first argument is pfctl
abbrev pub is_pfctl : List Text → Bool
is_pfctl [] = false
is_pfctl (w ∷ ws) = bytes_eq w (codes "pfctl")

abbrev pub at_words : ScriptChange → Behind → List Item
at_words c behind = if is_pfctl c.words then at_change c behind else Bad c.line ∷ []

-- a line with arguments, or an empty one; one that isn't UTF-8 asks for no change
abbrev pub at_line : (number : ℕ) → Option (List Text) → Behind → List Item
at_line number None behind = Bad number ∷ []
at_line number (Some []) behind = behind None
at_line number (Some (w ∷ ws)) behind = at_words (record { line = number; words = w ∷ ws; text = [] }) behind

-- a line of the text of a change, which ends at a line `.`
abbrev pub at_text : ScriptChange → ScriptLine → Behind → List Item
at_text c l behind =
    if bytes_eq l.content (codes ".") then Found c ∷ behind None
    else behind (Some (record c { text = c.text ++ bytes_of l }))

-- the number of the line behind this one
abbrev pub number_behind : ℕ → ℕ
number_behind number = min (number + 1) (2 ^ 64 - 1)

-- What lines ask for, of which the first has this number, behind a change whose lines go on, or without. The end of a
-- script ends them.
-- Example: pfctl -F rules on line 1 and pass on line 2: a change, and 2.
abbrev pub items_from : (number : ℕ) → (begun : Option ScriptChange) → List ScriptLine → List Item
items_from number None [] = []
items_from number (Some c) [] = Found c ∷ []
items_from number None (l ∷ ls) =
    at_line number (words_in l.content) (λ begun. items_from (number_behind number) begun ls)
items_from number (Some c) (l ∷ ls) = at_text c l (λ begun. items_from (number_behind number) begun ls)

-- what a script asks for
abbrev pub items_in : (script : List ℕ) → List Item
items_in script = items_from 1 None (lines script)

-- ---- what a script is refused for before a node is asked

-- the refusal of a change's lines, with the line of the script: they begin after the line with its arguments
abbrev pub behind_words : (at : ℕ) → Refused → Refused
behind_words at r = record { code = r.code; line = min (at + r.line) (2 ^ 64 - 1) }

-- the command of a change, or the number of the refusal of its arguments
abbrev pub command_in : ScriptChange → Result Command ℕ
command_in c = change_in c.words c.text

abbrev pub change_refusal : (at : ℕ) → Result Command ℕ → Option Refused
change_refusal at (Ok command) = option_map (behind_words at) (command_refusal command)
change_refusal at (Err code) = Some (record { code = code; line = at })

-- what a change is refused for before a node is asked
abbrev pub fault_of : ScriptChange → Option Refused
fault_of c = change_refusal c.line (command_in c)

abbrev pub first_of : Option Refused → Option Refused → Option Refused
first_of None later = later
first_of (Some r) later = Some r

-- the first refusal of the changes from a line on, or of a line that asks for none
abbrev pub script_refusal : (from : ℕ) → List Item → Option Refused
script_refusal from [] = None
script_refusal from (Bad at ∷ items) = Some (record { code = 40; line = at })
script_refusal from (Found c ∷ items) =
    if nat_lt c.line from then script_refusal from items else first_of (fault_of c) (script_refusal from items)

-- ---- the code's values

abbrev pub change_value : Change → ScriptChange
change_value c = record { line = c.line; words = map (λ w. w.now) c.words.items; text = c.text.items }

-- what is left of a script asks for, behind a change whose text goes on, or without
abbrev pub items_left : Left → Option ScriptChange → List Item
items_left left begun = items_from left.line begun (lines left.bytes.now)

-- a change was found before these items, or there are none
abbrev pub found : Option ScriptChange → List Item → List Item
found None items = []
found (Some c) items = Found c ∷ items

-- arguments were found, and then what follows them, or there are none
abbrev pub begun_at : Option ScriptChange → Behind → List Item
begun_at None behind = []
begun_at (Some c) behind = at_words c behind

-- why there is no next change: the next line asks for none, which is 40; out of memory isn't specified
abbrev pub IsBadAt : Outcome → List Item → Type 0
IsBadAt (outcome.Answered kind reply) items = ⊥
IsBadAt (outcome.Refused r) items = (r.code ≡ 40) × (items ≡ Bad r.line ∷ [])
IsBadAt outcome.Memory items = Unit {0}
IsBadAt outcome.Unread items = ⊥

-- this is the refusal; out of memory isn't specified
abbrev pub IsRefusal : Option Refused → Outcome → Type 0
IsRefusal refusal (outcome.Answered kind reply) = ⊥
IsRefusal refusal (outcome.Refused r) = refusal ≡ Some r
IsRefusal refusal outcome.Memory = Unit {0}
IsRefusal refusal outcome.Unread = ⊥
