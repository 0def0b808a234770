-- The events of one member, step after step, from one state to another: the calls that returned Ok, stops, openings.
use Rattle.std.specs.Prelude.{◌≡◌, ℕ, true, false, List, [], ◌∷◌}
use Rattle.px_model.specs.Node.{Record, Input}
use Rattle.px_model.specs.Node.Input.{Asks, Ticks, Comes}
use Rattle.px_model.specs.Step.{nothing_volatile}
use Rattle.px_model.specs.World.{NodeState, started}
use Rattle.px_model.specs.Spelling.{Bytes}
use Rattle.px_wire.specs.Message.{Group}
use Rattle.px_wire.specs.Members.{Passing}
use Rattle.px_replica.specs.Made.{Makes, LeavesOne}
use Rattle.px_replica.specs.declared.datagram.Datagram.{Datagram}

-- a member that doesn't run, with what its record was left as
abbrev pub stopped : Record Bytes → NodeState Bytes
stopped d = record { is_up = false; stored = d; volatile = nothing_volatile }

-- An event of a member.
pub data TraceEvent : Type 0 where
  -- a call for this input returned Ok: this is its state then, and it handed out these datagrams
  Calls : (input : Input Bytes) (after : NodeState Bytes) (out : List Datagram) → TraceEvent
  -- it stopped at some moment of a call for this input, or its store failed, and its record was left so
  Stops : (input : Input Bytes) (left : Record Bytes) → TraceEvent
  -- it was opened with the record that was left
  Opens : TraceEvent

-- what may reach a member, if it was sent: a message comes from somebody who may send it
abbrev pub IsInput : Group → (me : ℕ) → Input Bytes → Type 0
IsInput g me (Asks command) = Unit {0}
IsInput g me Ticks = Unit {0}
IsInput g me (Comes sender message) = Passing g.members sender me message

-- these are the member's events, one after the other, each a step of the model, from state s to state t
abbrev pub Traced : Group → (me : ℕ) → (s : NodeState Bytes) → List TraceEvent → (t : NodeState Bytes) → Type 0
Traced g me s [] t = t ≡ s
Traced g me s (Calls x u out ∷ ds) t =
    (s.is_up ≡ true) × IsInput g me x × Makes g me s u x [] out × Traced g me u ds t
Traced g me s (Stops x left ∷ ds) t =
    (s.is_up ≡ true) × IsInput g me x × LeavesOne g.members me s x left × Traced g me (stopped left) ds t
Traced g me s (Opens ∷ ds) t = Traced g me (started s.stored) ds t
