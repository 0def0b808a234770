-- What a lab's script prints.
use Rattle.std.specs.Prelude.{ℕ, zero, suc, Bool, false, ◌&&◌, ◌||◌, ◌+◌, nat_le, nat_lt, nat_eq}
use Rattle.std.specs.Prelude.{List, [], ◌∷◌, ◌++◌, length, slice_get, Option, Some, None, Ok, Err, unwrap_or}
use Rattle.std.specs.Prelude.{codes, decimal, bytes_eq, if◌then◌else◌}
use Rattle.std.specs.List.{list_any}
use Rattle.clap.specs.Words.{Text}
use Rattle.px_model.specs.Node as node
use Rattle.px_model.specs.Node.{Envelope}
use Rattle.px_model.specs.Step.{front}
use Rattle.px_model.specs.World as worlds
use Rattle.px_model.specs.World.{World, NodeState, Action, Event, happens, run, start}
use Rattle.px_model.specs.Spelling.{Bytes, command_in}
use Rattle.px_wire.specs.Members.{as_sent}
use Rattle.px_replica.specs.Made.{same}
use Rattle.pf_config.specs.Map.{Configuration}
use Rattle.pf_entry.specs.Entry as entry
use Rattle.pf_entry.specs.Entry.{spelling}
use Rattle.pf_entry.specs.Owned.{is_over}
use Rattle.pf_command.specs.Effect.{empty}
use Rattle.pf_node.specs.Applied.{after}
use Rattle.pf_scripts.specs.Lines.{ScriptLine, lines, bytes_of, words_in, line, refused_line}
use Rattle.pf_scripts.specs.Ctl.{WaitingWords, tested, text_of}
use Rattle.pf_lab.specs.declared.event.Outcome.{Outcome}
use Rattle.pf_lab.specs.declared.event.Outcome.TheVariants as outcome
use Rattle.pf_lab.specs.Outcomes.{is_unknown, outcome_in}
use Rattle.pf_lab.specs.Numbers.{number_of}
use Rattle.pf_lab.specs.LabLines.{ActionValue, Ask, Tick, Deliver, EventValue, Runs, StopBefore, StopAfter, Restart}
use Rattle.pf_lab.specs.LabLines.{LineValue, Happens, Run, Test, State, Log, Sent, Asked, line_asked, is_followed}
use Rattle.pf_lab.specs.Shown.{message_line, log_lines}

-- ---- an event in the world

-- a command before a member has given it origin and number
abbrev pub not_asked : entry.Command → entry.Entry
not_asked c = record { origin = 0; number = 0; command = c }

abbrev pub world_action : ActionValue → Action Bytes
world_action (Ask m c) = worlds.Action.Ask m (command_in (spelling (not_asked c)))
world_action (Tick m) = worlds.Action.Tick m
world_action (Deliver k) = worlds.Action.Deliver k

-- an entry has no room for its command
abbrev pub asks_too_much : ActionValue → Bool
asks_too_much (Ask m c) = is_over (not_asked c)
asks_too_much (Tick m) = false
asks_too_much (Deliver k) = false

abbrev pub world_event : EventValue → Event Bytes
world_event (Runs a) = worlds.Event.Runs (world_action a)
world_event (StopBefore a) = worlds.Event.StopBefore (world_action a)
world_event (StopAfter a) = worlds.Event.StopAfter (world_action a)
world_event (Restart m) = worlds.Event.Restart m

abbrev pub is_too_long : EventValue → Bool
is_too_long (Runs a) = asks_too_much a
is_too_long (StopBefore a) = asks_too_much a
is_too_long (StopAfter a) = asks_too_much a
is_too_long (Restart m) = false

-- a command that is too long is refused before it is an event
abbrev pub world_events : EventValue → List (Event Bytes)
world_events e = if is_too_long e then [] else world_event e ∷ []

-- the event names no member, or no message that was sent
abbrev pub names_none : (n : ℕ) → World Bytes → EventValue → Bool
names_none n w e = if is_too_long e then false else is_unknown n w (world_event e)

-- what becomes of an event that names a member and a message
abbrev pub outcome_of : (n : ℕ) → World Bytes → EventValue → Outcome
outcome_of n w e = if is_too_long e then outcome.Refused 41 else outcome_in n w (world_event e)

-- ---- a lab between two lines

-- How many members it has, and the world. The messages below `passed` were delivered, and those in the list; the
-- messages below `shown` were shown.
pub record LabValue : Type 0 where
  pub members : ℕ
  pub world : World Bytes
  pub passed : ℕ
  pub delivered : List ℕ
  pub shown : ℕ

-- n members, each with an empty record; nothing was sent
abbrev pub new_lab : (n : ℕ) → LabValue
new_lab n = record { members = n; world = start; passed = 0; delivered = []; shown = 0 }

abbrev pub with_world : LabValue → World Bytes → LabValue
with_world v w = record v { world = w }

-- the message k was delivered, to a stopped node or under a stop too
abbrev pub is_delivered : LabValue → (k : ℕ) → Bool
is_delivered v k = nat_lt k v.passed || list_any (λ (j : ℕ). nat_eq j k) v.delivered

-- a lab after a line, and what the line printed
pub record Printed : Type 0 where
  pub lab : LabValue
  pub output : List ℕ

abbrev pub prints : LabValue → List ℕ → Printed
prints v output = record { lab = v; output = output }

-- ---- an event's line

-- the message that an event delivers, under a stop too
abbrev pub message_in : ActionValue → Option ℕ
message_in (Ask m c) = None
message_in (Tick m) = None
message_in (Deliver k) = Some k

abbrev pub delivered_by : EventValue → Option ℕ
delivered_by (Runs a) = message_in a
delivered_by (StopBefore a) = message_in a
delivered_by (StopAfter a) = message_in a
delivered_by (Restart m) = None

-- the node that an event asks, not under a stop
abbrev pub node_in : ActionValue → Option ℕ
node_in (Ask m c) = Some m
node_in (Tick m) = None
node_in (Deliver k) = None

abbrev pub asked_by : EventValue → Option ℕ
asked_by (Runs a) = node_in a
asked_by (StopBefore a) = None
asked_by (StopAfter a) = None
asked_by (Restart m) = None

-- Example: asked 0.3.
abbrev pub asked_line : Option ℕ → (number : ℕ) → List ℕ
asked_line None number = []
asked_line (Some m) number = line (codes "asked " ++ decimal m ++ codes "." ++ decimal number)

abbrev pub stopped_line : Option ℕ → List ℕ
stopped_line None = []
stopped_line (Some m) = line (codes "stopped")

-- what is printed of an event: of an ask its number, or that the node is stopped; a refusal; else nothing
abbrev pub outcome_text : (asked : Option ℕ) → Outcome → List ℕ
outcome_text asked outcome.Nothing = []
outcome_text asked (outcome.Asked number) = asked_line asked number
outcome_text asked (outcome.Refused code) = refused_line code 0
outcome_text asked outcome.Stopped = stopped_line asked

-- a message more was delivered
abbrev pub marked : Option ℕ → LabValue → LabValue
marked None v = v
marked (Some k) v = record v { delivered = v.delivered ++ k ∷ [] }

-- an event happens; one that names no member, or no message that was sent, is 81
abbrev pub happened : LabValue → EventValue → Printed
happened v e =
    if names_none v.members v.world e then prints v (refused_line 81 0)
    else prints (marked (delivered_by e) (with_world v (run same v.members (world_events e) v.world)))
    (outcome_text (asked_by e) (outcome_of v.members v.world e))

-- ---- run

-- the world after the messages below a number, each unless it was delivered before, came in their order
abbrev pub delivered_below : LabValue → (k : ℕ) → World Bytes
delivered_below v zero = v.world
delivered_below v (suc k) =
    if is_delivered v k then delivered_below v k
    else happens same v.members (delivered_below v k) (worlds.Event.Runs (worlds.Action.Deliver k))

-- the messages that were sent so far are delivered
abbrev pub all_delivered : LabValue → LabValue
all_delivered v = record v {
  world = delivered_below v (length v.world.sent);
  passed = length v.world.sent;
  delivered = [];
}

-- four passes, each over the messages that were sent before it began
abbrev pub run_all : LabValue → LabValue
run_all v = all_delivered (all_delivered (all_delivered (all_delivered v)))

-- ---- what is shown of nodes

-- A node that runs has applied all positions below its front: a script that is out of memory before that ends.
-- Example: round 3 front 2 applied 2.
abbrev pub progress : NodeState Bytes → List ℕ
progress s =
    codes " round " ++ decimal s.stored.meta.round ++ codes " front " ++ decimal (front s.stored.learned) ++
    codes " applied " ++ decimal (front s.stored.learned)

-- Example: node 0 stopped.
abbrev pub node_line : (m : ℕ) → NodeState Bytes → List ℕ
node_line m s = line (codes "node " ++ decimal m ++ (if s.is_up then progress s else codes " stopped"))

-- a line for each node below a number
abbrev pub state_lines : World Bytes → ℕ → List ℕ
state_lines w zero = []
state_lines w (suc m) = state_lines w m ++ node_line m (w.nodes m)

-- the configuration after the learned entries up to the first gap
abbrev pub config_at : node.Log Bytes → Configuration
config_at log = unwrap_or (after log (front log)) empty

-- what a node that runs shows; one that is stopped shows that
abbrev pub of_running : NodeState Bytes → (NodeState Bytes → List ℕ) → List ℕ
of_running s shows = if s.is_up then shows s else line (codes "stopped")

-- the same of the node m; 81 is for a number that no node has
abbrev pub of_node : LabValue → (m : ℕ) → (NodeState Bytes → List ℕ) → List ℕ
of_node v m shows = if nat_le v.members m then refused_line 81 0 else of_running (v.world.nodes m) shows

-- what a node has learned, which is nothing 64 positions or more past its front
abbrev pub learned_lines : NodeState Bytes → List ℕ
learned_lines s = log_lines s.stored.learned (front s.stored.learned + 64)

-- the verdict for the packet that the arguments spell
abbrev pub verdict_line : List Text → NodeState Bytes → List ℕ
verdict_line packet s = text_of (tested (config_at s.stored.learned) packet)

-- ---- what is shown of messages

abbrev pub sent_line : (k : ℕ) → Option (Envelope Bytes) → List ℕ
sent_line k None = []
sent_line k (Some x) = message_line k x.sender x.addressee (as_sent x.message)

-- the lines of the messages below a number that weren't shown before
abbrev pub sent_lines : List (Envelope Bytes) → (shown : ℕ) → ℕ → List ℕ
sent_lines sent shown zero = []
sent_lines sent shown (suc k) =
    sent_lines sent shown k ++ (if nat_lt k shown then [] else sent_line k (slice_get sent k))

abbrev pub all_shown : LabValue → LabValue
all_shown v = record v { shown = length v.world.sent }

-- ---- lines

-- what a line asks for is done
abbrev pub done : LabValue → LineValue → Printed
done v (Happens e) = happened v e
done v Run = prints (run_all v) []
done v (Test m packet) = prints v (of_node v m (verdict_line packet))
done v State = prints v (state_lines v.world v.members)
done v (Log m) = prints v (of_node v m learned_lines)
done v Sent = prints (all_shown v) (sent_lines v.world.sent v.shown (length v.world.sent))

-- arguments that ask for nothing print their refusal
abbrev pub done_if : LabValue → Asked LineValue → Printed
done_if v (Ok line) = done v line
done_if v (Err code) = prints v (refused_line code 0)

-- a line with these arguments; text is what follows it
abbrev pub words_done : LabValue → List Text → List ℕ → Printed
words_done v words text = done_if v (line_asked words text)

-- the lab, whether a ruleset is being read, and what a line printed
pub record StepValue : Type 0 where
  pub lab : LabValue
  pub waiting : Option WaitingWords
  pub output : List ℕ

-- a line is done with, and no text is waited for
abbrev pub at_once : Printed → StepValue
at_once p = record { lab = p.lab; waiting = None; output = p.output }

-- nothing is printed, and the rest of a ruleset is waited for
abbrev pub waits : LabValue → List Text → List ℕ → StepValue
waits v words text = record { lab = v; waiting = Some (record { words = words; text = text }); output = [] }

-- a line's arguments; an empty line does nothing, and one that isn't UTF-8 is 40
abbrev pub at_words : LabValue → Option (List Text) → StepValue
at_words v None = at_once (prints v (refused_line 40 0))
at_words v (Some []) = at_once (prints v [])
at_words v (Some (w ∷ ws)) =
    if is_followed (w ∷ ws) then waits v (w ∷ ws) [] else at_once (words_done v (w ∷ ws) [])

-- a line: one of a ruleset, up to a line `.`, or one with arguments
abbrev pub stepped : LabValue → Option WaitingWords → ScriptLine → StepValue
stepped v None l = at_words v (words_in l.content)
stepped v (Some w) l =
    if bytes_eq l.content (codes ".") then at_once (words_done v w.words w.text)
    else waits v w.words (w.text ++ bytes_of l)

-- the end of the script ends a ruleset
abbrev pub at_end : LabValue → Option WaitingWords → List ℕ
at_end v None = []
at_end v (Some w) = (words_done v w.words w.text).output

-- what the lines of a script print from here on, up to its end
abbrev pub printed_from : LabValue → Option WaitingWords → List ScriptLine → List ℕ
printed_from v waiting [] = at_end v waiting
printed_from v waiting (l ∷ ls) =
    let s = stepped v waiting l in s.output ++ printed_from s.lab s.waiting ls

-- ---- scripts

-- 1 to 15 members
abbrev pub few_or_none : Option ℕ → Option ℕ
few_or_none None = None
few_or_none (Some n) = if nat_le 1 n && nat_le n 15 then Some n else None

-- members N
abbrev pub members_in : List Text → Option ℕ
members_in [] = None
members_in (w ∷ []) = None
members_in (w ∷ n ∷ []) = if bytes_eq w (codes "members") then few_or_none (number_of n) else None
members_in (w ∷ n ∷ v ∷ ws) = None

-- a script without the number of members is 40
abbrev pub printed_by : Option ℕ → List ScriptLine → List ℕ
printed_by None ls = refused_line 40 0
printed_by (Some n) ls = printed_from (new_lab n) None ls

-- what is printed where the first line has these arguments; later is what the lines after it print where it is blank
abbrev pub printed_first : Option (List Text) → (later : List ℕ) → List ScriptLine → List ℕ
printed_first None later ls = refused_line 40 0
printed_first (Some []) later ls = later
printed_first (Some (w ∷ ws)) later ls = printed_by (members_in (w ∷ ws)) ls

-- the first line that isn't blank states how many members there are
abbrev pub printed_lines : List ScriptLine → List ℕ
printed_lines [] = refused_line 40 0
printed_lines (l ∷ ls) = printed_first (words_in l.content) (printed_lines ls) ls

-- what a script prints
-- Example: members 3 and state: node 0 round 0 front 0 applied 0, and so for nodes 1 and 2.
unfoldable pub printed : List ℕ → List ℕ
printed script = printed_lines (lines script)
