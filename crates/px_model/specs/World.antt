-- The members, the network and their failures (Paxos Made Simple, 2.1): messages are lost, repeated, delayed
-- and reordered, members stop and restart with what they recorded, and no message is altered.
use Rattle.std.specs.Prelude.{ℕ, Bool, true, false, ◌&&◌, List, [], ◌∷◌, ◌++◌, Option, Some, None}
use Rattle.std.specs.Prelude.{if◌then◌else◌, nat_lt, nat_eq, slice_get}
use Rattle.px_model.specs.Node as node
use Rattle.px_model.specs.Node.{Entry, Meta, Record, Change, Volatile, Envelope, Input, Plan, Answer, client}
use Rattle.px_model.specs.Node.Change.{NewNumber, NewLearned}
use Rattle.px_model.specs.Node.Input.{Asks, Ticks, Comes}
use Rattle.px_model.specs.Node.Answer.{Refused, Planned}
use Rattle.px_model.specs.Step.{put, commit, top, nothing_volatile, position_of, step}

-- A member: whether it runs, its record in stable storage, its volatile part.
pub record NodeState (C : Type 0) : Type 0 where
  pub is_up : Bool
  pub stored : Record C
  pub volatile : Volatile C

-- A member learned an entry at a position.
pub record Learning (C : Type 0) : Type 0 where
  pub member : ℕ
  pub position : ℕ
  pub entry : Entry C

-- The members; all messages ever sent to members, in order; all that was ever learned; all ever asked.
pub record World (C : Type 0) : Type 0 where
  pub nodes : (member : ℕ) → NodeState C
  pub sent : List (Envelope C)
  pub learned : List (Learning C)
  pub asked : List (Entry C)

-- the record that a member begins with
abbrev pub nothing_stored : {C : Type 0} → Record C
nothing_stored = record {
  meta = record { round = 0; number = 0; floor = 0 };
  slots = λ p. record { promised = 0; accepted = None };
  learned = λ p. None;
}

-- every member runs with an empty record; nothing was sent, learned or asked
abbrev pub start : {C : Type 0} → World C
start = record {
  nodes = λ m. record { is_up = true; stored = nothing_stored; volatile = nothing_volatile };
  sent = [];
  learned = [];
  asked = [];
}

-- What a member receives: a command, asked by a call or from outside; its clock; the k-th message ever sent.
pub data Action (C : Type 0) : Type 0 where
  Ask : (member : ℕ) (command : C) → Action C
  AskFrom : (member token : ℕ) (command : C) → Action C
  Tick : (member : ℕ) → Action C
  Deliver : (k : ℕ) → Action C

-- A stop loses the action's messages and the volatile part; the record is as before, or with the change.
pub data Event (C : Type 0) : Type 0 where
  Runs : (action : Action C) → Event C
  StopBefore : (action : Action C) → Event C
  StopAfter : (action : Action C) → Event C
  Restart : (member : ℕ) → Event C

-- to whom a message comes, and as what; none without one
abbrev pub delivered : {C : Type 0} → Option (Envelope C) → Option (ℕ × Input C)
delivered None = None
delivered (Some x) = Some (x.addressee, Comes x.sender x.message)

-- to which member an action comes, and as what; none where no such message was sent
abbrev pub comes_to : {C : Type 0} → World C → Action C → Option (ℕ × Input C)
comes_to w (Ask m c) = Some (m, Asks c)
comes_to w (AskFrom m token c) = Some (m, Comes client (node.Message.Ask token c))
comes_to w (Tick m) = Some (m, Ticks)
comes_to w (Deliver k) = delivered (slice_get w.sent k)

-- the step of the member m in this state
abbrev pub step_of : {C : Type 0} → (C → C → Bool) → (n m : ℕ) → NodeState C → Input C → Answer C
step_of same n m s input =
    step same n m s.stored.meta (s.stored.slots (position_of input)) (top s.stored.slots) s.stored.learned
    s.volatile input

-- the state of a member that has followed its plan
abbrev pub follows : {C : Type 0} → NodeState C → Plan C → NodeState C
follows s plan = record { is_up = true; stored = commit plan.change s.stored; volatile = plan.volatile }

-- the state of a member that has just started with this record
abbrev pub started : {C : Type 0} → Record C → NodeState C
started d = record { is_up = true; stored = d; volatile = nothing_volatile }

-- the step of the member m in its present state
abbrev pub step_in : {C : Type 0} → (C → C → Bool) → (n : ℕ) → World C → (m : ℕ) → Input C →
    Answer C
step_in same n w m input = step_of same n m (w.nodes m) input

-- the messages that go to members; what goes to a client is nobody's to deliver
abbrev pub to_members : {C : Type 0} → List (Envelope C) → List (Envelope C)
to_members [] = []
to_members (x ∷ xs) = if nat_eq x.addressee client then to_members xs else x ∷ to_members xs

-- what a change adds to what was ever learned
abbrev pub learned_by : {C : Type 0} → (m : ℕ) → Option (Change C) → List (Learning C)
learned_by m (Some (NewLearned p e)) = record { member = m; position = p; entry = e } ∷ []
learned_by m _ = []

-- the command that an input asks
abbrev pub command_of : {C : Type 0} → Input C → Option C
command_of (Asks c) = Some c
command_of (Comes from (node.Message.Ask token c)) = Some c
command_of _ = None

-- what a request that records its number adds to what was ever asked
abbrev pub asked_by : {C : Type 0} → (m : ℕ) → Meta → Option C → Option (Change C) → List (Entry C)
asked_by m meta (Some c) (Some (NewNumber k)) = record { origin = m; number = meta.number; command = c } ∷ []
asked_by m meta _ _ = []

-- the member m commits a change on this input, and goes on with this volatile part and these messages
abbrev pub moved : {C : Type 0} → World C → (m : ℕ) → Input C → Option (Change C) → Bool → Volatile C →
    List (Envelope C) → World C
moved w m input change up v sends = record {
  nodes = put w.nodes m (record { is_up = up; stored = commit change (w.nodes m).stored; volatile = v });
  sent = w.sent ++ to_members sends;
  learned = learned_by m change ++ w.learned;
  asked = asked_by m (w.nodes m).stored.meta (command_of input) change ++ w.asked;
}

-- the member m follows its answer's plan; a refusal leaves the world as it is
abbrev pub goes_on : {C : Type 0} → World C → (m : ℕ) → Input C → Answer C → World C
goes_on w m input (Refused code) = w
goes_on w m input (Planned plan) = moved w m input plan.change true plan.volatile plan.sends

-- nothing is committed, and the volatile part is lost
abbrev pub emptied : {C : Type 0} → World C → (m : ℕ) → Bool → World C
emptied w m up = moved w m Ticks None up nothing_volatile []

-- the change is committed, and the rest is lost
abbrev pub stops_after : {C : Type 0} → World C → (m : ℕ) → Input C → Answer C → World C
stops_after w m input (Refused code) = emptied w m false
stops_after w m input (Planned plan) = moved w m input plan.change false nothing_volatile []

-- only a member that runs handles an input
abbrev pub at_member : {C : Type 0} → (n : ℕ) → World C → Option (ℕ × Input C) →
    (ℕ → Input C → World C) → World C
at_member n w None does = w
at_member n w (Some t) does = if nat_lt t.0 n && (w.nodes t.0).is_up then does t.0 t.1 else w

-- the world after one event; only a member that runs takes an action, and only one of the n restarts
unfoldable pub happens : {C : Type 0} → (C → C → Bool) → (n : ℕ) → World C → Event C → World C
happens same n w (Runs a) = at_member n w (comes_to w a) (λ m x. goes_on w m x (step_in same n w m x))
happens same n w (StopBefore a) = at_member n w (comes_to w a) (λ m x. emptied w m false)
happens same n w (StopAfter a) = at_member n w (comes_to w a) (λ m x. stops_after w m x (step_in same n w m x))
happens same n w (Restart m) = if nat_lt m n then emptied w m true else w

-- a whole run
abbrev pub run : {C : Type 0} → (C → C → Bool) → (n : ℕ) → List (Event C) → World C → World C
run same n [] w = w
run same n (e ∷ es) w = run same n es (happens same n w e)
