-- What is asked at a control socket, and how often.
use Rattle.std.specs.Prelude.{◌≡◌, ◌⊎◌, ◌+◌, ◌-◌, ◌^◌, ◌<◌, ◌==◌, ℕ, Bool, true, false, ◌&&◌, ◌||◌, List, [], ◌∷◌, ◌++◌}
use Rattle.std.specs.Prelude.{length, take, drop, count_by, min, not, Option, Some, None}
use Rattle.std.specs.Prelude.{Result, Ok, Err, bytes_eq, codes, decimal, if◌then◌else◌}
use Rattle.std.specs.List.{list_all, flat_map}
use Rattle.pf_scripts.specs.Lines.{lines, bytes_of}
use Rattle.cli_ask.specs.Answers.{begins, behind_line, line_len}
use Rattle.cli_ask.specs.Calls.{Request, get}
use Rattle.cli_ask.specs.Replies.{Answer, number, reply_value, text_of}
use Rattle.cli_ask.specs.declared.call.Kind.{Kind}
use Rattle.cli_ask.specs.declared.call.Kind.TheVariants as kind
use Rattle.cli_ask.specs.declared.exchange.AskFault.{AskFault}
use Rattle.cli_ask.specs.declared.exchange.AskFault.TheVariants as fault
use Rattle.cli_ask.specs.declared.exchange.Reply.{Reply}

-- an answer, or why there is none
abbrev pub Answered : Type 0
Answered = Result Answer AskFault

abbrev pub answer_value : Result Reply AskFault → Answered
answer_value (Ok reply) = Ok (reply_value reply)
answer_value (Err f) = Err f

-- the same of verdicts, which are none where the position changed
abbrev pub parts_value : Result (Option Reply) AskFault → Option Answered
parts_value (Ok (Some reply)) = Some (Ok (reply_value reply))
parts_value (Ok None) = None
parts_value (Err f) = Some (Err f)

-- A request and its answer, which was waited for until the limit, in seconds; or the clock was read, and the time up to
-- the limit is over or isn't; or from here on requests are made at the control socket at this path.
pub data Event : Type 0 where
  Asked : (limit : ℕ) → Request → Answered → Event
  Looked : (limit : ℕ) → (is_over : Bool) → Event
  Directed : (path : List ℕ) → Event

abbrev pub asked_count : List Event → ℕ
asked_count [] = 0
asked_count (Asked limit r a ∷ es) = asked_count es + 1
asked_count (Looked limit is_over ∷ es) = asked_count es
asked_count (Directed path ∷ es) = asked_count es

-- where these events came so far, those are with these more
-- Example: what is asked twice is there twice.
abbrev pub Adds : (List Event → Type 0) → (List Event → Type 0) → List Event → Type 0
Adds old new more = (es : List Event) → old es → new (es ++ more)

-- ---- one request, until it is answered

-- the node answers that it is waiting
abbrev pub is_waiting : (body : List ℕ) → Bool
is_waiting body = bytes_eq body (codes "waiting\n")

-- it is asked again: the node is waiting; or there is no answer to what may be sent again
-- Example: a change to which nobody answers isn't.
abbrev pub is_open : Request → Answered → Bool
is_open r (Ok a) = is_waiting a.body
is_open r (Err fault.Memory) = false
is_open r (Err fault.NoAnswer) = r.is_repeatable
is_open r (Err fault.BadAnswer) = r.is_repeatable

-- it isn't asked again: it was answered, or is made once
abbrev pub is_last : Request → (once : Bool) → Answered → Bool
is_last r once a = once || not (is_open r a)

-- what replaces an answer to an accepted request that never came
abbrev pub waiting : Answer
waiting = record { code = 503; body = codes "waiting\n"; front = None; applied = None }

-- the last of them is an answer
abbrev pub ends_answered : List Answered → Bool
ends_answered [] = false
ends_answered (Ok a ∷ []) = true
ends_answered (Err f ∷ []) = false
ends_answered (a ∷ b ∷ more) = ends_answered (b ∷ more)

-- once the time is over: the answer, or where there is none the one before
abbrev pub in_time : (is_waiting : Bool) → Answered → Answered
in_time true (Err f) = Ok waiting
in_time true (Ok a) = Ok a
in_time false a = a

-- that, unless out of memory
abbrev pub OrMemory : Answered → Answered → Type 0
OrMemory wanted got = (got ≡ wanted) ⊎ (got ≡ Err fault.Memory)

-- a request that is made again, since time is left by the clock
abbrev pub asked_again : (limit : ℕ) → Request → Answered → List Event
asked_again limit r a = Asked limit r a ∷ Looked limit false ∷ []

-- How it ends: as it was answered last. Or the time is over by the clock: then, where it wasn't answered last, as it
-- was before. Or it was made 2^64 times.
abbrev pub SeriesEnds : Request → (once : Bool) → (limit : ℕ) → (before : List Answered) → (last : Answered) →
    (looks : List Event) → (answer : Answered) → Type 0
SeriesEnds r once limit before last looks answer =
    ((looks ≡ []) × ((answer ≡ last) × (is_last r once last ≡ true)))
    ⊎ (((looks ≡ Looked limit true ∷ []) × ((is_last r once last ≡ false)
    × OrMemory (in_time (ends_answered before) last) answer))
    ⊎ ((looks ≡ []) × ((answer ≡ last) × (length before ≡ 2 ^ 64 - 1))))

-- A request is made, and again while its answer leaves it open and time is left by the clock; once, it is made a single
-- time.
pub record IsSeries (r : Request) (once : Bool) (limit : ℕ) (es : List Event) (answer : Answered) : Type 0 where
  pub before : List Answered
  pub last : Answered
  pub looks : List Event
  pub are : es ≡ flat_map (asked_again limit r) before ++ Asked limit r last ∷ looks
  pub asks_again : list_all (is_open r) before ≡ true
  pub single : once ≡ true → before ≡ []
  pub ends : SeriesEnds r once limit before last looks answer

-- ---- commands

-- the first line is the whole body
abbrev pub only_line : (body : List ℕ) → Option (List ℕ)
only_line body = if bytes_eq (drop (line_len body) body) (codes "\n") then text_of (take (line_len body) body) else None

-- a request's number, if the answer is that it was accepted
-- Example: asked 1.23, and a newline: 1.23
abbrev pub accepted : (body : List ℕ) → Option (List ℕ)
accepted body = if begins body (codes "asked ") then only_line (drop 6 body) else None

abbrev pub is_command : Kind → Bool
is_command kind.Read = false
is_command kind.List = false
is_command kind.TableTest = false
is_command kind.Test = false
is_command kind.Sync = true
is_command kind.Change = true

-- the number of a command whose outcome is waited for
abbrev pub number_after : Kind → (once : Bool) → (body : List ℕ) → Option (List ℕ)
number_after k once body = if is_command k && not once then accepted body else None

-- what became of a request
abbrev pub outcome_call : (number : List ℕ) → Request
outcome_call number = record (get (codes "/v1/requests/" ++ number) kind.Read) { is_repeatable = true }

-- 503 where it is waited for still
abbrev pub code_of : Answer → ℕ
code_of a = if is_waiting a.body then 503 else a.code

-- the line that a command was accepted, and behind it what came of it
abbrev pub joined : Answer → Answer → Answer
joined first second =
    record second { code = code_of second; body = first.body ++ behind_line (codes "applied ") second.body }

-- the position in the line that has it
abbrev pub position_in : (body : List ℕ) → Option ℕ
position_in body = if begins body (codes "applied ") then number (take (line_len (drop 8 body)) (drop 8 body)) else None

-- how many positions a node has applied that applied this command
abbrev pub synced_at : Option ℕ → Answer → Answer
synced_at None a = record a { code = code_of a }
synced_at (Some p) a = record a { body = codes "at " ++ decimal (min (p + 1) 4294967295) ++ codes "\n" }

abbrev pub synced : Answer → Answer
synced a = synced_at (position_in a.body) a

-- what is answered of a command, by the answer that it was accepted and what became of it
abbrev pub outcome_in : Kind → Answer → Answer → Answer
outcome_in kind.Sync first second = synced second
outcome_in k first second = joined first second

abbrev pub outcome_of : Kind → Answer → Answered → Answered
outcome_of k first (Ok second) = Ok (outcome_in k first second)
outcome_of k first (Err fault.Memory) = Err fault.Memory
outcome_of k first (Err fault.NoAnswer) = Ok (outcome_in k first waiting)
outcome_of k first (Err fault.BadAnswer) = Ok (outcome_in k first waiting)

-- What follows the first answer. Behind a command that was accepted it is asked what became of it.
abbrev pub IsFollowedBy : Option (List ℕ) → Kind → (limit : ℕ) → Answer → List Event → Answered → Type 0
IsFollowedBy None k limit first es answer = (es ≡ []) × (answer ≡ Ok first)
IsFollowedBy (Some number) k limit first es answer = ((es ≡ []) × (answer ≡ Err fault.Memory))
    ⊎ ((second : Answered) × IsSeries (outcome_call number) false limit es second
    × OrMemory (outcome_of k first second) answer)

abbrev pub Follows : Kind → (once : Bool) → (limit : ℕ) → Answered → List Event → Answered → Type 0
Follows k once limit (Err f) es answer = (es ≡ []) × (answer ≡ Err f)
Follows k once limit (Ok first) es answer = IsFollowedBy (number_after k once first.body) k limit first es answer

-- The request, until it is answered, and what follows its answer. So a change is made again only where the node answers
-- that it is waiting.
pub record IsAsked (r : Request) (once : Bool) (limit : ℕ) (es : List Event) (answer : Answered) : Type 0 where
  pub front : List Event
  pub rest : List Event
  pub first : Answered
  pub are : es ≡ front ++ rest
  pub series : IsSeries r once limit front first
  pub follows : Follows r.kind once limit first rest answer

-- ---- verdicts

abbrev pub line_count : (text : List ℕ) → ℕ
line_count text = count_by (λ b. b == 10) text

-- what is behind the first lines of bytes
-- Example: behind 1 line of the lines a, b and c: b and c.
abbrev pub behind_lines : (count : ℕ) → (text : List ℕ) → List ℕ
behind_lines count text = flat_map bytes_of (drop count (lines text))

-- the packets, each a line, behind those that have a verdict so far
abbrev pub left_by : Option Answer → (packets : List ℕ) → List ℕ
left_by None packets = packets
left_by (Some so_far) packets = behind_lines (line_count so_far.body) packets

-- nothing is asked behind it: the last answer isn't one of verdicts, or no packet is left
abbrev pub is_whole : Option Answer → (packets : List ℕ) → Bool
is_whole None packets = false
is_whole (Some so_far) packets = not (so_far.code == 200)
    || (length (behind_lines (line_count so_far.body) packets) == 0)

-- an answer behind those so far: the bodies one behind the other, with the status of the last
abbrev pub with_more : Option Answer → Answer → Answer
with_more None a = a
with_more (Some so_far) a = record so_far { code = a.code; body = so_far.body ++ a.body }

-- the node has applied as many positions as before
abbrev pub IsOfOne : Option Answer → Answer → Type 0
IsOfOne None a = Unit {0}
IsOfOne (Some so_far) a = a.applied ≡ so_far.applied

-- a part of the packets is asked for, and how that was answered
pub record Part : Type 0 where
  pub events : List Event
  pub answer : Answered

-- What parts give behind which no other is asked for: the answers as one; or it was out of memory; or as many parts
-- were asked for as the packets allow.
abbrev pub PartsEnd : Option Answer → (packets : List ℕ) → (allowed : ℕ) → Option Answered → Type 0
PartsEnd None packets allowed gives = ⊥
PartsEnd (Some so_far) packets allowed gives = (gives ≡ Some (Err fault.Memory))
    ⊎ (((is_whole (Some so_far) packets ≡ true) × (gives ≡ Some (Ok so_far)))
    ⊎ ((allowed ≡ 0) × (gives ≡ Some (Err fault.BadAnswer))))

-- what a part gives: more parts, unless there is no answer, or one of another position
abbrev pub IsPart : Option Answer → Answered → (later : List Part) → Option Answered → (Answer → Type 0) → Type 0
IsPart so_far (Err f) later gives more = (later ≡ []) × (gives ≡ Some (Err f))
IsPart so_far (Ok a) later gives more =
    (IsOfOne so_far a × more a) ⊎ ((IsOfOne so_far a → ⊥) × ((later ≡ []) × (gives ≡ None)))

-- The parts in their order, each the packets behind those that have a verdict by then. They give no answer where one is
-- of another position.
abbrev pub AreParts : Request → (once : Bool) → (limit allowed : ℕ) → Option Answer → List Part → Option Answered →
    Type 0
AreParts r once limit allowed so_far [] gives = PartsEnd so_far r.body allowed gives
AreParts r once limit allowed so_far (p ∷ ps) gives = (is_whole so_far r.body ≡ false)
    × (IsSeries (record r { body = left_by so_far r.body }) once limit p.events p.answer
    × IsPart so_far p.answer ps gives (λ a. AreParts r once limit (allowed - 1) (Some (with_more so_far a)) ps gives))

-- all parts from the first packet on
abbrev pub IsBeginning : Request → (once : Bool) → (limit : ℕ) → List Event → Option Answered → Type 0
IsBeginning r once limit es gives = (parts : List Part) × ((es ≡ flat_map (λ p. p.events) parts)
    × AreParts r once limit (length r.body + 1) None parts gives)

-- beginnings in which the position changed
abbrev pub AreAnew : Request → (once : Bool) → (limit : ℕ) → List (List Event) → Type 0
AreAnew r once limit [] = Unit {0}
AreAnew r once limit (begun ∷ more) = IsBeginning r once limit begun None × AreAnew r once limit more

-- Verdicts are asked for anew where the position changed meanwhile, up to three times in all.
pub record AreVerdicts (r : Request) (once : Bool) (limit : ℕ) (es : List Event) (answer : Answered) : Type 0 where
  pub anew : List (List Event)
  pub rest : List Event
  pub are : es ≡ flat_map (λ begun. begun) anew ++ rest
  pub changed : AreAnew r once limit anew
  pub ends : ((length anew < 3) × IsBeginning r once limit rest (Some answer))
      ⊎ ((length anew ≡ 3) × ((rest ≡ []) × (answer ≡ Err fault.BadAnswer)))

-- ---- any request

-- Verdicts are asked for in parts, anything else as a whole.
abbrev pub IsAskedAs : Kind → Request → (once : Bool) → (limit : ℕ) → List Event → Answered → Type 0
IsAskedAs kind.Test r once limit es answer = AreVerdicts r once limit es answer
IsAskedAs k r once limit es answer = IsAsked r once limit es answer

-- for how many seconds it is waited in all where this is asked for: with 0 it is asked once
abbrev pub limit_of : (seconds : ℕ) → ℕ
limit_of seconds = if seconds == 0 then 10 else seconds

abbrev pub IsAskedAt : Request → (seconds : ℕ) → List Event → Answered → Type 0
IsAskedAt r seconds es answer = IsAskedAs r.kind r (seconds == 0) (limit_of seconds) es answer

abbrev pub AskedOn : (given now : List Event → Type 0) → Request → (once : Bool) → (limit : ℕ) → Answered → Type 0
AskedOn given now r once limit answer = (es : List Event) × (Adds given now es × IsSeries r once limit es answer)

abbrev pub FollowedUp : (given now : List Event → Type 0) → Kind → (once : Bool) → (limit : ℕ) → Answer → Answered →
    Type 0
FollowedUp given now k once limit first answer = (es : List Event)
    × (Adds given now es × IsFollowedBy (number_after k once first.body) k limit first es answer)

abbrev pub BegunParts : (given now : List Event → Type 0) → Request → (once : Bool) → (limit : ℕ) → Option Answered →
    Type 0
BegunParts given now r once limit gives = (es : List Event) × (Adds given now es × IsBeginning r once limit es gives)

abbrev pub AskedVerdicts : (given now : List Event → Type 0) → Request → (once : Bool) → (limit : ℕ) → Answered →
    Type 0
AskedVerdicts given now r once limit answer =
    (es : List Event) × (Adds given now es × AreVerdicts r once limit es answer)

abbrev pub AskedAt : (given now : List Event → Type 0) → Request → (seconds : ℕ) → Answered → Type 0
AskedAt given now r seconds answer = (es : List Event) × (Adds given now es × IsAskedAt r seconds es answer)
