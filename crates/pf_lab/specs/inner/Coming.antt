-- What only code and proofs use beside `Coming`.
use Rattle.std.specs.Prelude.{◌≡◌, ℕ, Bool, true, false, List, Some, nat_le}
use Rattle.px_model.specs.Node as node
use Rattle.px_model.specs.Node.{Input}
use Rattle.px_model.specs.Node.Input.{Asks, Ticks, Comes}
use Rattle.px_model.specs.World.{World, Action, comes_to}
use Rattle.px_model.specs.Entries.{view_of}
use Rattle.px_model.specs.Spelling.{Bytes}
use Rattle.px_wire.specs.Message.{Group, DatagramBytes}
use Rattle.px_wire.specs.Members.{as_sent, Passing}
use Rattle.px_wire.specs.Sent.{is_command}
use Rattle.pf_entry.specs.Entry.{EntryBytes}
use Rattle.pf_node.specs.Asked.{unnamed}
use Rattle.pf_lab.specs.declared.coming.What.{What}
use Rattle.pf_lab.specs.declared.coming.What.TheVariants as what
use Rattle.pf_lab.specs.declared.event.LabAction.{LabAction}
use Rattle.pf_lab.specs.declared.event.LabAction.TheVariants as lab
use Rattle.pf_lab.specs.declared.event.LabEvent.{LabEvent}
use Rattle.pf_lab.specs.declared.event.LabEvent.TheVariants as event

-- this is the event's action
abbrev pub IsOf : LabEvent → LabAction → Type 0
IsOf (event.Runs a) b = a ≡ b
IsOf (event.StopBefore a) b = a ≡ b
IsOf (event.StopAfter a) b = a ≡ b
IsOf (event.Restart m) b = ⊥

-- the message of the action is none of that many
abbrev pub names_no_message : (sent : ℕ) → LabAction → Bool
names_no_message k (lab.Ask m c) = false
names_no_message k (lab.Tick m) = false
names_no_message k (lab.Deliver p) = nat_le k p

-- these bytes spell the action's command
abbrev pub IsNamed : LabAction → List ℕ → Type 0
IsNamed (lab.Ask m c) bytes = EntryBytes (unnamed c) bytes
IsNamed (lab.Tick m) bytes = Unit {0}
IsNamed (lab.Deliver k) bytes = Unit {0}

-- what the member me receives, as its bytes spell it
abbrev pub IsInput : Group → (me : ℕ) → What → Input Bytes → Type 0
IsInput g me (what.Ask e) x = x ≡ Asks (view_of e).command
IsInput g me what.Tick x = x ≡ Ticks
IsInput g me (what.Datagram bytes) x =
    (from : ℕ) × (message : node.Message Bytes) × (Passing g.members from me message ×
    (DatagramBytes g from me (as_sent message) bytes.now × (x ≡ Comes from message)))

-- what the member me receives by this action
pub record Came (g : Group) (w : World Bytes) (a : Action Bytes) (me : ℕ) (what : What) : Type 0 where
  pub input : Input Bytes
  pub comes : comes_to w a ≡ Some (me, input)
  pub is_spelled : IsInput g me what input

-- a command that comes has a spelling
abbrev pub IsAskable : What → Type 0
IsAskable (what.Ask e) = is_command (view_of e).command ≡ true
IsAskable what.Tick = Unit {0}
IsAskable (what.Datagram bytes) = Unit {0}
