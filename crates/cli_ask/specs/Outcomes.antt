-- What a run of `ask` asks and writes, and how it ends.
use Rattle.std.specs.Prelude.{◌≡◌, ◌⊎◌, ℕ, Bool, true, false, ◌||◌, List, [], ◌∷◌, Option, Some, None, Result}
use Rattle.std.specs.Prelude.{Ok, Err, codes, bytes_eq}
use Rattle.std.specs.Prelude.{nat_lt, is_some, unwrap_or, if◌then◌else◌}
use Rattle.std.specs.Io.KnownBytes.{Appends}
use Rattle.cli_io.specs.declared.status.Status.{Status}
use Rattle.cli_io.specs.declared.status.Status.TheVariants as status
use Rattle.cli_io.specs.Sources.{IsNamed}
use Rattle.cli_io.specs.Written.{line, AppendsFront}
use Rattle.pf_scripts.specs.Lines.{refused_line}
use Rattle.cli_io.specs.Given.{is_given}
use Rattle.cli_io.specs.Numbers.{number_at}
use Rattle.clap.specs.Words.{Row, Text, all_of, first_of}
use Rattle.cli_ask.specs.Answers.{is_done}
use Rattle.cli_ask.specs.Asking.{Answered as Answer, Event, Adds, AskedAt}
use Rattle.cli_ask.specs.Calls.{Request, call_value, call_of, has_option}
use Rattle.cli_ask.specs.Checking.{by_code}
use Rattle.cli_ask.specs.Codes.{ask_fault_code}
use Rattle.cli_ask.specs.Replies.{reply_value}
use Rattle.cli_ask.specs.Scripts.{items_in, script_refusal}
use Rattle.cli_ask.specs.Scripting.{AskedAll}
use Rattle.cli_ask.specs.declared.checking.Refused as checking
use Rattle.cli_ask.specs.declared.call.Call.{Call}
use Rattle.cli_ask.specs.declared.call.Kind.{Kind}
use Rattle.cli_ask.specs.declared.exchange.Reply.{Reply}
use Rattle.cli_ask.specs.declared.outcome.Outcome.{Outcome}
use Rattle.cli_ask.specs.declared.outcome.Outcome.TheVariants.{Answered, Refused, Memory, Unread}

-- a refusal without a line
abbrev pub refusal : (code : ℕ) → Outcome
refusal code = Refused (by_code code)

-- a file can't be read
abbrev pub unreadable : Outcome
unreadable = refusal 90

-- what is written of an outcome: the answer, or a line; nothing where the input wasn't read
abbrev pub text_of : Outcome → List ℕ
text_of (Answered kind reply) = reply.body.items
text_of (Refused refused) = refused_line refused.code refused.line
text_of Memory = line (codes "memory")
text_of Unread = []

-- how a run with this answer ends: 0 only where what was asked for was done
abbrev pub answer_status : Kind → Reply → Status
answer_status kind reply = if is_done kind reply.code reply.body.items then status.Done else status.Refused

-- how a run with this outcome ends
abbrev pub status_of : Outcome → Status
status_of (Answered kind reply) = answer_status kind reply
status_of (Refused refused) = status.Refused
status_of Memory = status.Memory
status_of Unread = status.Failed

-- the outcome's text is written; when out of memory `memory` alone; where a write failed a front of either
abbrev pub Wrote : Status → Outcome → Option (List ℕ) → Option (List ℕ) → Type 0
Wrote status.Memory outcome old new = Appends old new (line (codes "memory"))
Wrote status.Failed outcome old new =
    AppendsFront old new (line (codes "memory")) ⊎ AppendsFront old new (text_of outcome)
Wrote ending outcome old new = (ending ≡ status_of outcome) × Appends old new (text_of outcome)

-- ---- what is asked

-- what can't be read gives: of a file 90
abbrev pub IsUnread : Text → Outcome → Type 0
IsUnread name outcome =
    (outcome ≡ Memory) ⊎ (outcome ≡ (if bytes_eq name (codes "-") then Unread else unreadable))

abbrev pub HasNoText : (named : Option Text) → Outcome → Type 0
HasNoText None outcome = ⊥
HasNoText (Some name) outcome = IsUnread name outcome

-- a refusal by its number; none when out of memory
abbrev pub outcome_by : Option ℕ → Outcome
outcome_by None = Memory
outcome_by (Some code) = refusal code

-- what a request's answer gives
abbrev pub Replied : Kind → Answer → Outcome → Type 0
Replied k (Ok a) outcome = (reply : Reply) × ((reply_value reply ≡ a) × (outcome ≡ Answered k reply))
Replied k (Err f) outcome = outcome ≡ outcome_by (ask_fault_code f)

-- the request that the arguments ask for with this text; it waits for the positions of `--at`
abbrev pub call_for : List Row → (text : List ℕ) → Result Request checking.Refused
call_for rows text = call_of rows text (unwrap_or (number_at rows (codes "at")) 0)

-- why no request is made: it is refused; out of memory isn't specified
abbrev pub IsWhy : Result Request checking.Refused → Outcome → Type 0
IsWhy call (Answered kind reply) = ⊥
IsWhy call (Refused r) = call ≡ Err r
IsWhy call Memory = Unit {0}
IsWhy call Unread = ⊥

-- the request, or why none is made
abbrev pub IsCall : Result Call Outcome → Result Request checking.Refused → Type 0
IsCall (Ok call) wanted = wanted ≡ Ok (call_value call)
IsCall (Err outcome) wanted = IsWhy wanted outcome

-- for how many seconds it is waited, by `--wait`
abbrev pub seconds_of : List Row → ℕ
seconds_of rows = unwrap_or (number_at rows (codes "wait")) 0

-- The request that the arguments ask for is made, and gives this.
pub record IsMade
    (given now : List Event → Type 0) (rows : List Row) (text : List ℕ) (outcome : Outcome) : Type 0 where
  pub call : Request
  pub answer : Answer
  pub wanted : call_for rows text ≡ Ok call
  pub asked : AskedAt given now call (seconds_of rows) answer
  pub replied : Replied call.kind answer outcome

abbrev pub AsksWith : (given now : List Event → Type 0) → List Row → (text : List ℕ) → Outcome → Type 0
AsksWith given now rows text outcome =
    IsMade given now rows text outcome ⊎ (Adds given now [] × IsWhy (call_for rows text) outcome)

-- nothing is asked: `--from` is there without a script, or there is no text
abbrev pub AsksNothing : (given now : List Event → Type 0) → List Row → Outcome → Type 0
AsksNothing given now rows outcome = Adds given now []
    × (((is_some (number_at rows (codes "from")) ≡ true) × (outcome ≡ refusal 40))
    ⊎ HasNoText (first_of (codes "file") rows) outcome)

-- What a run asks, and what that gives: the request that the arguments and the text ask for, or nothing.
abbrev pub Asks : (given now : List Event → Type 0) → List Row → (is_text : Text → List ℕ → Type 0) → Outcome → Type 0
Asks given now rows is_text outcome = AsksNothing given now rows outcome
    ⊎ ((text : List ℕ) × (IsNamed (first_of (codes "file") rows) is_text text × AsksWith given now rows text outcome))

-- ---- a script

abbrev pub are_there : List Text → Bool
are_there [] = false
are_there (w ∷ ws) = true

-- arguments are there beside a script that are none of it: an option of pfctl's, an address, `--at`
abbrev pub has_others : List Row → Bool
has_others rows = has_option rows || are_there (unwrap_or (all_of (codes "address") rows) [])
    || is_some (number_at rows (codes "at"))

-- what a script is refused for before a node is asked, unless `--unchecked` is given
abbrev pub refusal_in : List Row → (script : List ℕ) → Option checking.Refused
refusal_in rows script = if is_given (first_of (codes "unchecked") rows) then None
    else script_refusal (unwrap_or (number_at rows (codes "from")) 1) (items_in script)

-- for how many seconds it is waited for what comes of a change, by `--wait`: 60 without it, and 1 at least
abbrev pub seconds_by : (wait : Option ℕ) → ℕ
seconds_by None = 60
seconds_by (Some seconds) = if nat_lt 0 seconds then seconds else 1

-- the script is asked
pub record IsScript (rows : List Row) (file : Text) (is_text : Text → List ℕ → Type 0) (script : List ℕ) : Type 0 where
  pub alone : has_others rows ≡ false
  pub text : is_text file script
  pub good : refusal_in rows script ≡ None

-- why a script isn't asked that was read
abbrev pub IsRefusedFor : List Row → (script : List ℕ) → Outcome → Type 0
IsRefusedFor rows script (Answered kind reply) = ⊥
IsRefusedFor rows script (Refused r) = refusal_in rows script ≡ Some r
IsRefusedFor rows script Memory = Unit {0}
IsRefusedFor rows script Unread = ⊥

-- why no change of a script is asked
abbrev pub IsNoScript : List Row → (file : Text) → (is_text : Text → List ℕ → Type 0) → Outcome → Type 0
IsNoScript rows file is_text outcome = ((has_others rows ≡ true) × (outcome ≡ refusal 40))
    ⊎ (HasNoText (Some file) outcome
    ⊎ ((script : List ℕ) × (is_text file script × IsRefusedFor rows script outcome)))

-- What a run with a script asks and writes: its changes from a line on; or nothing is asked, and this is written.
abbrev pub RunsScript : (given now : List Event → Type 0) → List Row → (file : Text) →
    (is_text : Text → List ℕ → Type 0) → Status → (old new : Option (List ℕ)) → Type 0
RunsScript given now rows file is_text ending old new = ((script : List ℕ) × (IsScript rows file is_text script
    × AskedAll given now (unwrap_or (number_at rows (codes "from")) 1) (seconds_by (number_at rows (codes "wait")))
    (items_in script) ending old new))
    ⊎ (Adds given now [] × ((outcome : Outcome)
    × (IsNoScript rows file is_text outcome × Wrote ending outcome old new)))

-- what a run without a script asks, and writes
abbrev pub RunsAlone : (given now : List Event → Type 0) → List Row → (is_text : Text → List ℕ → Type 0) → Status →
    (old new : Option (List ℕ)) → Type 0
RunsAlone given now rows is_text ending old new =
    (outcome : Outcome) × (Asks given now rows is_text outcome × Wrote ending outcome old new)

abbrev pub RunsFor : (file : Option Text) → (given now : List Event → Type 0) → List Row →
    (is_text : Text → List ℕ → Type 0) → Status → (old new : Option (List ℕ)) → Type 0
RunsFor None given now rows is_text ending old new = RunsAlone given now rows is_text ending old new
RunsFor (Some file) given now rows is_text ending old new = RunsScript given now rows file is_text ending old new

-- what a run at a control socket asks and writes, with `--script` or without
abbrev pub Runs : (given now : List Event → Type 0) → List Row → (is_text : Text → List ℕ → Type 0) → Status →
    (old new : Option (List ℕ)) → Type 0
Runs given now rows is_text ending old new =
    RunsFor (first_of (codes "script") rows) given now rows is_text ending old new
