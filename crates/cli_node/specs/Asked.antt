-- A command asked of a node over a wire, and what is shown of it.
use Rattle.std.specs.Prelude.{◌≡◌, ◌⊎◌, ℕ, Bool, true, false, ◌&&◌, nat_le, List, ◌∷◌, [], ◌++◌, bytes_eq, codes}
use Rattle.std.specs.Prelude.{Option, Some, None, is_some, Ok, Err, if◌then◌else◌}
use Rattle.clap.specs.Words.{Row, Text, first_of}
use Rattle.pf_arguments.specs.Answers.{command_fault_code}
use Rattle.pf_arguments.specs.Asked.{Change, CheckOnly, ShowRules, ShowTables, ShowAnchors, TableShow, TableTest}
use Rattle.pf_arguments.specs.Asked.{Asked as Answer, asked, given_in}
use Rattle.pf_entry.specs.Owned.{command_value}
use Rattle.pf_entry.specs.declared.command.Command.{Command}
use Rattle.px_wire.specs.Message.{group}
use Rattle.px_wire.specs.declared.membership.Membership.{Membership}
use Rattle.px_transport.specs.Wires.{WireEvent, Handed, IsQuiet, Moves}
use Rattle.node_udp.specs.Asking.{IsAsk, Listens}
use Rattle.node_udp.specs.declared.answer.AskAnswer.{AskAnswer}
use Rattle.cli_io.specs.Numbers.{number_at}
use Rattle.cli_io.specs.Sources.{IsNamed}
use Rattle.cli_node.specs.declared.ask.AskArguments.{AskArguments}
use Rattle.cli_node.specs.declared.outcome.Outcome.{Outcome}
use Rattle.cli_node.specs.declared.outcome.Outcome.TheVariants.{Memory, Refused, Unread}
use Rattle.cli_node.specs.Doing.{IsLeft}
use Rattle.cli_node.specs.Endings.{answer_outcome}
use Rattle.cli_node.specs.Places.{has_8_bits, waits_of}

-- The command was asked of the node in one datagram, and the first answer within the waits is shown; or none was sent,
-- since it was out of memory or the command is too long.
abbrev pub IsAsked : {W : Type 0} → (traffic : W → List WireEvent → Type 0) → (old new : W) → Membership →
    (node waits : ℕ) → Command → Outcome → Type 0
IsAsked traffic old new m node waits command outcome =
    ((answer : AskAnswer) × (outcome ≡ answer_outcome node answer) × (bytes : List ℕ) ×
    IsAsk (group m) node command bytes ×
    Moves (traffic old) (traffic new)
    (λ es es'. Listens (group m) node waits (es ++ Handed node bytes ∷ []) answer es'))
    ⊎ (((outcome ≡ Memory) ⊎ (outcome ≡ Refused 41)) × IsQuiet (traffic old) (traffic new))

-- ---- what is asked

-- who is asked and how long an answer is waited for, as the arguments have it
pub record AreAskArguments (rows : List Row) (w : AskArguments) : Type 0 where
  pub to : first_of (codes "to") rows ≡ Some w.to.now
  pub cluster : number_at rows (codes "cluster") ≡ Some w.cluster
  pub members : number_at rows (codes "members") ≡ Some w.members
  pub node : number_at rows (codes "node") ≡ Some w.node
  pub waits : w.waits ≡ waits_of (number_at rows (codes "wait"))

-- waits for these seconds can be counted
abbrev pub is_wait : Option ℕ → Bool
is_wait None = true
is_wait (Some seconds) = nat_le seconds 65535

-- the address, the cluster, how many members it has and the number of one are given, in their bits
abbrev pub names_node : List Row → Bool
names_node rows = is_some (first_of (codes "to") rows) && (is_some (number_at rows (codes "cluster"))
    && (has_8_bits (number_at rows (codes "members")) && (has_8_bits (number_at rows (codes "node"))
    && is_wait (number_at rows (codes "wait")))))

-- the change that the arguments and the text of `-f` spell was asked over a wire to who listens there, over which
-- nothing else came or went
abbrev pub AsksOver : {W : Type 0} → (traffic : W → List WireEvent → Type 0) → (reaches : (to : List ℕ) → W → Type 0) →
    (went : List WireEvent → Type 0) → (is_text : (name text : List ℕ) → Type 0) → List Row → AskArguments → Outcome →
    Type 0
AsksOver {W} traffic reaches went is_text rows w outcome =
    (m : Membership) × (text : List ℕ) × (command : Command) × (wire : W) × (back : W)
    × (m.cluster ≡ w.cluster) × (m.members ≡ w.members)
    × IsNamed (first_of (codes "file") rows) is_text text
    × (asked (given_in rows) text ≡ Ok (Change (command_value command)))
    × reaches w.to.now wire × IsAsked traffic wire back m w.node w.waits command outcome × IsLeft traffic went back

-- ---- why nothing is asked

-- what a source that can't be read gives: a file 40
abbrev pub IsUnread : (name : Text) → Outcome → Type 0
IsUnread name outcome =
    (outcome ≡ Memory) ⊎ (outcome ≡ (if bytes_eq name (codes "-") then Unread else Refused 40))

abbrev pub HasNoText : (named : Option Text) → Outcome → Type 0
HasNoText None outcome = ⊥
HasNoText (Some name) outcome = IsUnread name outcome

-- the number of what spells no change: that of the arguments' fault, else 40
abbrev pub unasked_code : Answer → Option ℕ
unasked_code (Ok (Change command)) = None
unasked_code (Ok (CheckOnly path)) = Some 40
unasked_code (Ok (ShowRules path)) = Some 40
unasked_code (Ok (ShowTables path)) = Some 40
unasked_code (Ok ShowAnchors) = Some 40
unasked_code (Ok (TableShow path table)) = Some 40
unasked_code (Ok (TableTest path table list)) = Some 40
unasked_code (Err fault) = command_fault_code fault

-- out of memory, or refused with this number
abbrev pub IsRefusedWith : (code : Option ℕ) → Outcome → Type 0
IsRefusedWith None outcome = outcome ≡ Memory
IsRefusedWith (Some code) outcome = (outcome ≡ Memory) ⊎ (outcome ≡ Refused code)

-- The text can't be read, with it the arguments spell no change, or there is no wire.
abbrev pub IsUnasked : (is_unreached : (to : List ℕ) → Type 0) → (is_text : (name text : List ℕ) → Type 0) →
    List Row → AskArguments → Outcome → Type 0
IsUnasked is_unreached is_text rows w outcome = HasNoText (first_of (codes "file") rows) outcome
    ⊎ (((text : List ℕ) × (IsNamed (first_of (codes "file") rows) is_text text
    × IsRefusedWith (unasked_code (asked (given_in rows) text)) outcome))
    ⊎ ((outcome ≡ Refused 82) × is_unreached w.to.now))

-- what `ask` gives of a node that has a place among the members; 40 of another
abbrev pub AsksNode : {W : Type 0} → (traffic : W → List WireEvent → Type 0) → (reaches : (to : List ℕ) → W → Type 0) →
    (is_unreached : (to : List ℕ) → Type 0) → (went : List WireEvent → Type 0) →
    (is_text : (name text : List ℕ) → Type 0) → List Row → AskArguments → (has_place : Bool) → Outcome → Type 0
AsksNode traffic reaches is_unreached went is_text rows w false outcome = went [] × (outcome ≡ Refused 40)
AsksNode traffic reaches is_unreached went is_text rows w true outcome =
    (went [] × IsUnasked is_unreached is_text rows w outcome) ⊎ AsksOver traffic reaches went is_text rows w outcome
