-- What only code and proofs use beside `Replicas`.
use Rattle.std.specs.Prelude.{◌≡◌, ◌⊎◌, ℕ, List}
use Rattle.px_model.specs.Node as node
use Rattle.px_model.specs.Node.{Record}
use Rattle.px_model.specs.Node.Input.{Comes}
use Rattle.px_model.specs.World.{NodeState}
use Rattle.px_model.specs.Spelling.{Bytes}
use Rattle.px_wire.specs.Message.{Group, DatagramBytes}
use Rattle.px_wire.specs.Members.{as_sent, Passing}
use Rattle.px_replica.specs.Made.{Makes, LeavesOne}
use Rattle.px_replica.specs.declared.datagram.Datagram.{Datagram}

-- ---- datagrams

-- A datagram was taken: it spells a message of somebody to this member, and the step of that message was made.
pub record Takes (g : Group) (me : ℕ) (s t : NodeState Bytes) (bytes : Bytes) (old new : List Datagram) : Type 0 where
  pub sender : ℕ
  pub message : node.Message Bytes
  pub passes : Passing g.members sender me message
  pub spelled : DatagramBytes g sender me (as_sent message) bytes
  pub makes : Makes g me s t (Comes sender message) old new

-- What a stop leaves: the record as before the call, or with the change of the step of a message that the bytes spell.
abbrev pub LeavesOneOf : Group → (me : ℕ) → NodeState Bytes → Bytes → Record Bytes → Type 0
LeavesOneOf g me s bytes left =
    (left ≡ s.stored) ⊎
    ((sender : ℕ) × (message : node.Message Bytes) × Passing g.members sender me message ×
    DatagramBytes g sender me (as_sent message) bytes × LeavesOne g.members me s (Comes sender message) left)
