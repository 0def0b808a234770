-- What a node's timer is given in a round: the time, how the node is, and what was seen of others, all as the datagrams
-- that were taken left them. So one that is nobody's changes nothing of it.
use Rattle.std.specs.Prelude.{◌≡◌, ◌⊎◌, ◌≤◌, ℕ, suc, ◌*◌, ◌==◌, ◌&&◌, Bool, true, false, not, List, [], ◌∷◌, ◌++◌}
use Rattle.std.specs.Prelude.{is_some, length, nat_lt}
use Rattle.px_model.specs.Step.{front}
use Rattle.px_records.specs.declared.records.Records.{Ghosts}
use Rattle.px_transport.specs.Wires.{Adds}
use Rattle.px_replica.specs.Replicas.{learned_by, state_in}
use Rattle.px_replica.specs.declared.state.Replica.{Replica}
use Rattle.node_loop.specs.Progress.{SawAll, looked}
use Rattle.node_loop.specs.Turns.{LoopState, Resent, TickedIf}
use Rattle.node_loop.specs.declared.peer_progress.PeerProgress.{PeerProgress}
use Rattle.node_loop.specs.declared.timer.Action.{Action}
use Rattle.node_loop.specs.declared.timer.Action.TheVariants as actions
use Rattle.node_loop.specs.declared.timer.View.{View}

-- a wait is 1 to 100 milliseconds long
abbrev pub IsShort : Action → Type 0
IsShort actions.Tick = Unit {0}
IsShort (actions.Wait milliseconds) = (1 ≤ milliseconds) × (milliseconds ≤ 100)

-- the clock is to tick
abbrev pub is_tick : Action → Bool
is_tick actions.Tick = true
is_tick (actions.Wait milliseconds) = false

-- what a timer is given, and what it answers
pub data TimerEvent : Type 0 where
  -- what is seen at this time, and whether the clock is to tick, by its answer
  Looks : (now : ℕ) (view : View) (is_tick : Bool) → TimerEvent
  -- votes were sent
  Sends : (now : ℕ) → TimerEvent
  -- it is asked whether what was sent is to be sent again, with its answer
  Repeats : (now : ℕ) (is_due : Bool) → TimerEvent
  -- the node accepts no more commands
  Ends : TimerEvent

-- what is seen of a node, whose front was there before the datagrams were taken
abbrev pub view_of : {R : Type 0} {G : Ghosts R} → Replica R G → (was : ℕ) → PeerProgress → View
view_of s was t = record {
  waiting = length (state_in s).volatile.waiting;
  is_attempting = is_some (state_in s).volatile.attempt;
  is_leading = is_some (state_in s).volatile.lead;
  front = front (learned_by s);
  has_learned = t.has_learned && not (front (learned_by s) == was);
  reached = t.reached;
}

-- that votes were sent, if they were
abbrev pub sends_if : Bool → (now : ℕ) → List TimerEvent
sends_if true now = TimerEvent.Sends now ∷ []
sends_if false now = []

-- what it is given at a look: also that votes were sent, where they were for a position that isn't learned
abbrev pub looks : (now : ℕ) → View → (is_tick : Bool) → PeerProgress → List TimerEvent
looks now v tick t = TimerEvent.Looks now v tick ∷ sends_if (nat_lt v.front t.accepting) now

-- A round: datagrams were taken or passed over, one after the other; then the timer was given what they left to see,
-- and nothing else; something was sent again; and the clock ticked if the timer answered that, and only then.
pub record MakesRound {R : Type 0} {G : Ghosts R} (now : ℕ) (x z : LoopState G) (s u : PeerProgress)
    (before after : List TimerEvent → Type 0) : Type 0 where
  pub datagrams : ℕ
  pub then : LoopState G
  pub seen : PeerProgress
  pub saw : SawAll datagrams x then s seen
  pub looked : u ≡ looked seen
  pub tick : Bool
  pub repeats : Bool
  pub timer_events : Adds before after (looks now (view_of then.replica (front (learned_by x.replica)) seen) tick seen ++
      (TimerEvent.Repeats now repeats ∷ []))
  pub next : LoopState G
  pub again : Resent then next
  pub ticked : TickedIf tick next z

-- ---- how many rounds there were

-- how often it was given what is seen
abbrev pub looks_in : List TimerEvent → ℕ
looks_in [] = 0
looks_in (TimerEvent.Looks now view tick ∷ ts) = suc (looks_in ts)
looks_in (TimerEvent.Sends now ∷ ts) = looks_in ts
looks_in (TimerEvent.Repeats now is_due ∷ ts) = looks_in ts
looks_in (TimerEvent.Ends ∷ ts) = looks_in ts

-- it was given what is seen n times from one to the other
abbrev pub LooksTimes : (n : ℕ) → (before after : List TimerEvent → Type 0) → Type 0
LooksTimes n before after = (more : List TimerEvent) × (looks_in more ≡ n) × Adds before after more

-- In each round it is given once what is seen, and a round is at most 65 turns: so a round at least was made for each
-- 65.
abbrev pub MakesTurns : (turns : ℕ) → (before after : List TimerEvent → Type 0) → Type 0
MakesTurns turns before after = (n : ℕ) × (turns ≤ 65 * n) × LooksTimes n before after

-- The node accepts no more commands, and then rounds are made until none waits to be proposed, or 30 at least.
abbrev pub WorksOff : (waiting : ℕ) → (before after : List TimerEvent → Type 0) → Type 0
WorksOff waiting before after =
    (more : List TimerEvent) × Adds before after (TimerEvent.Ends ∷ more) × ((waiting ≡ 0) ⊎ (30 ≤ looks_in more))
