-- A change of a script, as it is asked at a control socket.
use Rattle.std.specs.Prelude.{◌≡◌, ◌⊎◌, ℕ, Bool, true, false, List, [], ◌∷◌, ◌++◌, Option, Some, None, Result, Ok, Err}
use Rattle.std.specs.Prelude.{codes, decimal, nat_lt, if◌then◌else◌}
use Rattle.std.specs.Io.KnownBytes.{Appends}
use Rattle.cli_io.specs.declared.status.Status.{Status}
use Rattle.cli_io.specs.declared.status.Status.TheVariants as status
use Rattle.cli_io.specs.Written.{line, AppendsFront, RanOut}
use Rattle.pf_entry.specs.Entry.{Command}
use Rattle.pf_arguments.specs.Asked.{is_too_long}
use Rattle.pf_scripts.specs.Lines.{refused_line}
use Rattle.cli_ask.specs.Answers.{begins, outcome_behind}
use Rattle.cli_ask.specs.Asking.{Answered, Event, Adds, IsAskedAt}
use Rattle.cli_ask.specs.Calls.{Request, entry_call}
use Rattle.cli_ask.specs.Scripts.{ScriptChange, Item, Bad, Found, command_in}
use Rattle.cli_ask.specs.declared.call.Kind.TheVariants as kind
use Rattle.cli_ask.specs.declared.exchange.AskFault.{AskFault}
use Rattle.cli_ask.specs.declared.exchange.AskFault.TheVariants as fault
use Rattle.cli_ask.specs.declared.scripting.Went.{Went}
use Rattle.cli_ask.specs.declared.scripting.Went.TheVariants.{Made, Stopped}

-- the request of a command, or the number of the refusal; a command that no entry has room for is 41
abbrev pub sent_for : Result Command ℕ → Result Request ℕ
sent_for (Ok command) = if is_too_long command then Err 41 else Ok (entry_call command kind.Change)
sent_for (Err code) = Err code

-- what is sent for a change, or the number of the refusal of its arguments
abbrev pub call_for : ScriptChange → Result Request ℕ
call_for c = sent_for (command_in c)

-- how a change went, and what is printed of it
pub record Printed : Type 0 where
  pub is_made : Bool
  pub bytes : List ℕ

abbrev pub printed : Went → Printed
printed (Made bytes) = record { is_made = true; bytes = bytes.items }
printed (Stopped bytes) = record { is_made = false; bytes = bytes.items }

abbrev pub went_value : Result Went AskFault → Result Printed AskFault
went_value (Ok went) = Ok (printed went)
went_value (Err f) = Err f

-- the change was made where the outcome is `ok`: then that is printed, else the whole answer
abbrev pub went_by_outcome : (outcome body : List ℕ) → Printed
went_by_outcome outcome body =
    if begins outcome (codes "ok") then record { is_made = true; bytes = outcome }
    else record { is_made = false; bytes = body }

abbrev pub went_by : Answered → Result Printed AskFault
went_by (Ok a) = Ok (went_by_outcome (outcome_behind a.body) a.body)
went_by (Err f) = Err f

-- that, unless out of memory
abbrev pub GoesAs : (wanted got : Result Printed AskFault) → Type 0
GoesAs wanted got = (got ≡ wanted) ⊎ (got ≡ Err fault.Memory)

-- a change whose arguments are refused
abbrev pub unsent : (code : ℕ) → Printed
unsent code = record { is_made = false; bytes = refused_line code 0 }

-- The change is asked, and goes by the answer; one whose arguments are refused isn't asked.
abbrev pub IsMade : Result Request ℕ → (seconds : ℕ) → List Event → Result Printed AskFault → Type 0
IsMade (Err code) seconds es went = (es ≡ []) × GoesAs (Ok (unsent code)) went
IsMade (Ok call) seconds es went = ((es ≡ []) × (went ≡ Err fault.Memory))
    ⊎ ((answer : Answered) × (IsAskedAt call seconds es answer × GoesAs (went_by answer) went))

abbrev pub Makes : (given now : List Event → Type 0) → Result Request ℕ → (seconds : ℕ) → Result Printed AskFault →
    Type 0
Makes given now call seconds went = (es : List Event) × (Adds given now es × IsMade call seconds es went)

-- ---- what is written

-- a script ends with this; out of memory that is written in its place; where a write failed a front of either
abbrev pub Ended : (text : List ℕ) → Status → (old new : Option (List ℕ)) → Type 0
Ended text status.Done old new = ⊥
Ended text status.Refused old new = Appends old new text
Ended text status.Usage old new = ⊥
Ended text status.Memory old new = Appends old new (line (codes "memory"))
Ended text status.Failed old new = AppendsFront old new text ⊎ AppendsFront old new (line (codes "memory"))

-- what ends a script, and the line at which it ended
-- Example: refused 85, and line 7.
abbrev pub end_text : (said : List ℕ) → (at : ℕ) → List ℕ
end_text said at = said ++ line (codes "line " ++ decimal at)

-- a script ends, and so
abbrev pub Ends : Option Status → (Status → Type 0) → Type 0
Ends None so = ⊥
Ends (Some ending) so = so ending

-- what is written of a change that was made; the script goes on unless that fails
abbrev pub ShowsMade : List ℕ → Option Status → (old new : Option (List ℕ)) → Type 0
ShowsMade bytes None old new = Appends old new bytes
ShowsMade bytes (Some ending) old new = (ending ≡ status.Failed) × AppendsFront old new bytes

abbrev pub ShowsPrinted : (is_made : Bool) → List ℕ → (at : ℕ) → Option Status → (old new : Option (List ℕ)) → Type 0
ShowsPrinted true bytes at ended old new = ShowsMade bytes ended old new
ShowsPrinted false bytes at ended old new = Ends ended (λ ending. Ended (end_text bytes at) ending old new)

-- What is written of how the change of a line went: what is printed of it, where it was made; else that and the line,
-- with which the script ends.
abbrev pub Shows : Result Printed AskFault → (at : ℕ) → Option Status → (old new : Option (List ℕ)) → Type 0
Shows (Ok p) at ended old new = ShowsPrinted p.is_made p.bytes at ended old new
Shows (Err fault.Memory) at ended old new = Ends ended (λ ending. RanOut ending old new)
Shows (Err fault.NoAnswer) at ended old new =
    Ends ended (λ ending. Ended (end_text (codes "refused 85\n") at) ending old new)
Shows (Err fault.BadAnswer) at ended old new =
    Ends ended (λ ending. Ended (end_text (codes "refused 86\n") at) ending old new)

-- The change is asked, and this is written of how it went; none is how the script ends where it goes on.
pub record AsksOne (c : ScriptChange) (seconds : ℕ) (es : List Event) (ended : Option Status)
    (old new : Option (List ℕ)) : Type 0 where
  pub went : Result Printed AskFault
  pub made : IsMade (call_for c) seconds es went
  pub shown : Shows went c.line ended old new

-- ---- a script

-- what comes then, where the script goes on
abbrev pub Then : Option Status → (List Event → Status → Option (List ℕ) → Type 0) → List Event → Status →
    (old new : Option (List ℕ)) → Type 0
Then None later es ending old new = later es ending new
Then (Some ended) later es ending old new = (es ≡ []) × ((ending ≡ ended) × (new ≡ old))

-- a change is asked, and then what is behind it
pub record AsksFirst (c : ScriptChange) (seconds : ℕ)
    (later : List Event → Status → Option (List ℕ) → Option (List ℕ) → Type 0)
    (es : List Event) (ending : Status) (old new : Option (List ℕ)) : Type 0 where
  pub front : List Event
  pub rest : List Event
  pub ended : Option Status
  pub written : Option (List ℕ)
  pub are : es ≡ front ++ rest
  pub one : AsksOne c seconds front ended old written
  pub goes_on : Then ended (λ es ending new. later es ending written new) rest ending written new

-- a change before the first line that is asked is passed over
abbrev pub AsksFrom : (is_before : Bool) → ScriptChange → (seconds : ℕ) →
    (later : List Event → Status → Option (List ℕ) → Option (List ℕ) → Type 0) →
    List Event → Status → (old new : Option (List ℕ)) → Type 0
AsksFrom true c seconds later es ending old new = later es ending old new
AsksFrom false c seconds later es ending old new = AsksFirst c seconds later es ending old new

-- The changes of a script are asked in their order, each once what came of the one before it is known and written. It
-- ends with the last, or at the first that isn't made; at a line that asks for no change with 40.
abbrev pub AsksAll : (from seconds : ℕ) → List Item → List Event → Status → (old new : Option (List ℕ)) → Type 0
AsksAll from seconds [] es ending old new =
    (es ≡ []) × (RanOut ending old new ⊎ ((ending ≡ status.Done) × (new ≡ old)))
AsksAll from seconds (Bad at ∷ items) es ending old new =
    (es ≡ []) × Ended (end_text (codes "refused 40\n") at) ending old new
AsksAll from seconds (Found c ∷ items) es ending old new = ((es ≡ []) × RanOut ending old new)
    ⊎ AsksFrom (nat_lt c.line from) c seconds (AsksAll from seconds items) es ending old new

abbrev pub AskedOne : (given now : List Event → Type 0) → ScriptChange → (seconds : ℕ) → Option Status →
    (old new : Option (List ℕ)) → Type 0
AskedOne given now c seconds ended old new =
    (es : List Event) × (Adds given now es × AsksOne c seconds es ended old new)

abbrev pub AskedAll : (given now : List Event → Type 0) → (from seconds : ℕ) → List Item → Status →
    (old new : Option (List ℕ)) → Type 0
AskedAll given now from seconds items ending old new =
    (es : List Event) × (Adds given now es × AsksAll from seconds items es ending old new)
