-- What the code's records, messages and events stand for.
use Rattle.std.specs.Prelude.{◌≡◌, ℕ, Bool, option_map}
use Rattle.px_model.specs.Node as node
use Rattle.px_model.specs.Step.{top, step}
use Rattle.px_model.specs.World.{NodeState, step_of}
use Rattle.px_model.specs.Spelling.{Bytes}
use Rattle.px_model.specs.Entries.{entry_of, view_of}
use Rattle.px_model.specs.declared.entry.Entry.{Entry}
use Rattle.px_model.specs.declared.entry.EntryView.{EntryView}
use Rattle.px_model.specs.declared.record.Proposal.{Proposal}
use Rattle.px_model.specs.declared.record.Slot.{Slot}
use Rattle.px_model.specs.declared.record.Meta.{Meta}
use Rattle.px_model.specs.declared.record.Change.{Change}
use Rattle.px_model.specs.declared.record.Change.TheVariants as change
use Rattle.px_model.specs.declared.message.Message.{Message}
use Rattle.px_model.specs.declared.message.Message.TheVariants as message
use Rattle.px_model.specs.declared.message.Event.{Event}
use Rattle.px_model.specs.declared.message.Event.TheVariants as event
use Rattle.px_model.specs.declared.message.Reads.{Reads}
use Rattle.px_model.specs.declared.message.Reads.TheVariants as reads

-- ---- the record

-- the proposal that one in code stands for, as a record or a message to be sent has it
abbrev pub proposal_of : Proposal Entry → node.Proposal Bytes
proposal_of x = record { ballot = x.ballot; entry = entry_of x.entry }

-- the same of a proposal as it comes in a message
abbrev pub report_of : Proposal EntryView → node.Proposal Bytes
report_of x = record { ballot = x.ballot; entry = view_of x.entry }

-- the slot that one in code stands for
abbrev pub slot_of : Slot → node.Slot Bytes
slot_of s = record { promised = s.promised; accepted = option_map proposal_of s.accepted }

-- a record's numbers, as those in code stand for them
abbrev pub meta_of : Meta → node.Meta
meta_of m = record { round = m.round; number = m.number; floor = m.floor }

-- the change of a record that one in code stands for
abbrev pub change_of : Change → node.Change Bytes
change_of (change.Round r) = node.Change.NewRound r
change_of (change.Number k) = node.Change.NewNumber k
change_of (change.Floor b) = node.Change.NewFloor b
change_of (change.Promised p b) = node.Change.NewPromise p b
change_of (change.Accepted p b e) = node.Change.NewAccepted p b (entry_of e)
change_of (change.Learned p e) = node.Change.NewLearned p (entry_of e)

-- ---- messages, as they are sent and as they come

-- the message that one to be sent stands for; of Ask the entry's number is the token
abbrev pub message_of : Message Entry → node.Message Bytes
message_of (message.Prepare b p) = node.Message.Prepare b p
message_of (message.Promise b p a) = node.Message.Promise b p (option_map proposal_of a)
message_of (message.PrepareAll b p) = node.Message.PrepareAll b p
message_of (message.PromiseAll b p t a) = node.Message.PromiseAll b p t (option_map proposal_of a)
message_of (message.Accept b p e) = node.Message.Accept b p (entry_of e)
message_of (message.Vote b p e) = node.Message.Vote b p (entry_of e)
message_of (message.Nack b p q) = node.Message.Nack b p q
message_of (message.Need p) = node.Message.Need p
message_of (message.Learned p e) = node.Message.Learned p (entry_of e)
message_of (message.Ask e) = node.Message.Ask (entry_of e).number (entry_of e).command
message_of (message.Asked t k) = node.Message.Asked t k
message_of (message.AskRefused t c) = node.Message.AskRefused t c

-- the same of a message as it comes
abbrev pub come_of : Message EntryView → node.Message Bytes
come_of (message.Prepare b p) = node.Message.Prepare b p
come_of (message.Promise b p a) = node.Message.Promise b p (option_map report_of a)
come_of (message.PrepareAll b p) = node.Message.PrepareAll b p
come_of (message.PromiseAll b p t a) = node.Message.PromiseAll b p t (option_map report_of a)
come_of (message.Accept b p e) = node.Message.Accept b p (view_of e)
come_of (message.Vote b p e) = node.Message.Vote b p (view_of e)
come_of (message.Nack b p q) = node.Message.Nack b p q
come_of (message.Need p) = node.Message.Need p
come_of (message.Learned p e) = node.Message.Learned p (view_of e)
come_of (message.Ask e) = node.Message.Ask (view_of e).number (view_of e).command
come_of (message.Asked t k) = node.Message.Asked t k
come_of (message.AskRefused t c) = node.Message.AskRefused t c

-- the input that an event in code stands for
abbrev pub input_of : Event → node.Input Bytes
input_of (event.Asks e) = node.Input.Asks (view_of e).command
input_of event.Ticks = node.Input.Ticks
input_of (event.Comes from x) = node.Input.Comes from (come_of x)

-- ---- what a step reads

-- requests of proposers are answered from a slot, and a prepare request for all positions from the top too
abbrev pub message_reads : node.Message Bytes → Reads
message_reads (node.Message.Prepare b p) = reads.Slot p
message_reads (node.Message.Promise b p a) = reads.Nothing
message_reads (node.Message.PrepareAll b p) = reads.SlotAndTop p
message_reads (node.Message.PromiseAll b p t a) = reads.Nothing
message_reads (node.Message.Accept b p e) = reads.Slot p
message_reads (node.Message.Vote b p e) = reads.Nothing
message_reads (node.Message.Nack b p q) = reads.Nothing
message_reads (node.Message.Need p) = reads.Nothing
message_reads (node.Message.Learned p e) = reads.Nothing
message_reads (node.Message.Ask t c) = reads.Nothing
message_reads (node.Message.Asked t k) = reads.Nothing
message_reads (node.Message.AskRefused t c) = reads.Nothing

-- what an input reads of slots and top: a message by its kind, a command and the clock nothing
abbrev pub reads_of : node.Input Bytes → Reads
reads_of (node.Input.Asks c) = reads.Nothing
reads_of node.Input.Ticks = reads.Nothing
reads_of (node.Input.Comes from x) = message_reads x

-- this slot and this top are the record's, as far as these are read
abbrev pub IsRead : Reads → node.Record Bytes → (slot : node.Slot Bytes) → (top : ℕ) → Type 0
IsRead reads.Nothing d slot t = Unit {0}
IsRead (reads.Slot p) d slot t = slot ≡ d.slots p
IsRead (reads.SlotAndTop p) d slot t = (slot ≡ d.slots p) × (t ≡ top d.slots)

-- with what is read of a member's record, its step is that of the member
abbrev pub ReadsSuffice : Type 0
ReadsSuffice =
    (same : Bytes → Bytes → Bool) (n me : ℕ) (s : NodeState Bytes) (input : node.Input Bytes) →
    (slot : node.Slot Bytes) (top : ℕ) → IsRead (reads_of input) s.stored slot top →
    step same n me s.stored.meta slot top s.stored.learned s.volatile input ≡ step_of same n me s input
