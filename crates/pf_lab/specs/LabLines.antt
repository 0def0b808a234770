-- What a line of a lab's script asks for.
use Rattle.std.specs.Prelude.{ℕ, Bool, false, ◌&&◌, nat_lt, List, [], ◌∷◌, Option, Some, None, Result, Ok, Err}
use Rattle.std.specs.Prelude.{codes, bytes_eq, if◌then◌else◌}
use Rattle.clap.specs.Words.{Text}
use Rattle.pf_entry.specs.Entry as entry
use Rattle.pf_scripts.specs.Ctl.{takes_text}
use Rattle.pf_lab.specs.Numbers.{number_of}
use Rattle.pf_lab.specs.Asking.{AskedChange, change_of}

pub data ActionValue : Type 0 where
  Ask : (node : ℕ) → (command : entry.Command) → ActionValue
  Tick : (node : ℕ) → ActionValue
  Deliver : (message : ℕ) → ActionValue

pub data EventValue : Type 0 where
  Runs : (action : ActionValue) → EventValue
  StopBefore : (action : ActionValue) → EventValue
  StopAfter : (action : ActionValue) → EventValue
  Restart : (node : ℕ) → EventValue

-- what a line asks for
pub data LineValue : Type 0 where
  Happens : (event : EventValue) → LineValue
  Run : LineValue
  Test : (node : ℕ) → (packet : List Text) → LineValue
  State : LineValue
  Log : (node : ℕ) → LineValue
  Sent : LineValue

-- a value, or the number of the refusal
abbrev pub Asked : Type 0 → Type 0
Asked X = Result X ℕ

abbrev pub mapped : {X Y : Type 0} → (X → Y) → Asked X → Asked Y
mapped f (Ok x) = Ok (f x)
mapped f (Err code) = Err code

-- an argument that is no number is 40; a number past 255 is read as that, which no node has
abbrev pub node_if : Option ℕ → Asked ℕ
node_if None = Err 40
node_if (Some n) = Ok (if nat_lt n 255 then n else 255)

abbrev pub node_of : Text → Asked ℕ
node_of word = node_if (number_of word)

abbrev pub message_if : Option ℕ → Asked ℕ
message_if None = Err 40
message_if (Some n) = Ok n

abbrev pub message_of : Text → Asked ℕ
message_of word = message_if (number_of word)

-- the only argument
abbrev pub only : List Text → Asked Text
only [] = Err 40
only (w ∷ []) = Ok w
only (w ∷ v ∷ ws) = Err 40

abbrev pub at_word : {X : Type 0} → (Text → Asked X) → Asked Text → Asked X
at_word f (Ok word) = f word
at_word f (Err code) = Err code

-- NODE WORDS; a node that is no number comes first
abbrev pub ask_if : Asked ℕ → AskedChange → Asked ActionValue
ask_if (Err code) change = Err code
ask_if (Ok node) (Ok command) = Ok (Ask node command)
ask_if (Ok node) (Err code) = Err code

abbrev pub ask_of : List Text → Option (List ℕ) → Asked ActionValue
ask_of [] text = Err 40
ask_of (node ∷ words) text = ask_if (node_of node) (change_of (node ∷ words) text)

-- with the text behind the line, if one may be there
abbrev pub action_of : List Text → Option (List ℕ) → Asked ActionValue
action_of [] text = Err 40
action_of (w ∷ ws) text =
    if bytes_eq w (codes "ask") then ask_of ws text
    else if bytes_eq w (codes "tick") then mapped Tick (at_word node_of (only ws))
    else if bytes_eq w (codes "deliver") then mapped Deliver (at_word message_of (only ws))
    else Err 40

-- under a stop no text may follow
abbrev pub event_of : List Text → List ℕ → Asked EventValue
event_of [] text = Err 40
event_of (w ∷ ws) text =
    if bytes_eq w (codes "stop-before") then mapped StopBefore (action_of ws None)
    else if bytes_eq w (codes "stop-after") then mapped StopAfter (action_of ws None)
    else if bytes_eq w (codes "restart") then mapped Restart (at_word node_of (only ws))
    else mapped Runs (action_of (w ∷ ws) (Some text))

abbrev pub bare : Text → Option LineValue
bare w =
    if bytes_eq w (codes "run") then Some Run
    else if bytes_eq w (codes "state") then Some State
    else if bytes_eq w (codes "sent") then Some Sent
    else None

abbrev pub bare_or : Option LineValue → Asked LineValue
bare_or (Some line) = Ok line
bare_or None = Err 40

abbrev pub test_of : List Text → Asked LineValue
test_of [] = Err 40
test_of (node ∷ packet) = mapped (λ m. Test m packet) (node_of node)

-- a line with these arguments; text is what follows it
abbrev pub line_asked : List Text → List ℕ → Asked LineValue
line_asked [] text = Err 40
line_asked (w ∷ []) text = bare_or (bare w)
line_asked (w ∷ v ∷ ws) text =
    if bytes_eq w (codes "test") then test_of (v ∷ ws)
    else if bytes_eq w (codes "log") then mapped Log (at_word node_of (only (v ∷ ws)))
    else mapped Happens (event_of (w ∷ v ∷ ws) text)

-- a ruleset follows the line of an ask, ask in pfctl's place
abbrev pub is_followed : List Text → Bool
is_followed [] = false
is_followed (w ∷ ws) = bytes_eq w (codes "ask") && takes_text (w ∷ ws)
