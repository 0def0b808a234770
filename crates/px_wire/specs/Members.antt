-- The messages of the replicated log as those of datagrams. A command is its bytes.
use Rattle.std.specs.Prelude.{ℕ, Option, Some, None}
use Rattle.px_model.specs.Node as node
use Rattle.px_model.specs.Node.{Entry, Proposal, Envelope}
use Rattle.px_model.specs.Node.Message.{Prepare, Promise, PrepareAll, PromiseAll, Accept, Vote, Nack, Need, Learned}
use Rattle.px_model.specs.Node.Message.{Asked, AskRefused}
use Rattle.px_model.specs.Fits.{Passes, EnvelopeFits}
use Rattle.px_model.specs.Spelling.{Bytes, command_in, spelled}
use Rattle.px_model.specs.Seen.{come_of}
use Rattle.px_model.specs.declared.entry.EntryView.{EntryView}
use Rattle.px_model.specs.declared.message.Message as declared
use Rattle.px_wire.specs.declared.membership.Membership.{Membership}
use Rattle.px_wire.specs.Message.{Lent, Message, prepare, promise, accept, vote, nack, need, learned, ask, asked}
use Rattle.px_wire.specs.Message.{ask_refused, prepare_all, promise_all}
use Rattle.px_wire.specs.Sent.{is_command}

-- ---- sent

-- the entry as it is encoded, with the bytes that spell it
abbrev pub lent_entry : Entry Bytes → Lent
lent_entry e = record { origin = e.origin; number = e.number; bytes = spelled e }

-- the same of what was accepted: a ballot and an entry, or none
abbrev pub lent_proposal : Option (Proposal Bytes) → Option (ℕ × Lent)
lent_proposal None = None
lent_proposal (Some x) = Some (x.ballot, lent_entry x.entry)

-- the message that is encoded
abbrev pub as_sent : node.Message Bytes → Message
as_sent (Prepare b p) = prepare b p
as_sent (Promise b p a) = promise b p (lent_proposal a)
as_sent (PrepareAll b p) = prepare_all b p
as_sent (PromiseAll b p top a) = promise_all b p top (lent_proposal a)
as_sent (Accept b p e) = accept b p (lent_entry e)
as_sent (Vote b p e) = vote b p (lent_entry e)
as_sent (Nack b p q) = nack b p q
as_sent (Need p) = need p
as_sent (Learned p e) = learned p (lent_entry e)
as_sent (node.Message.Ask token c) = ask (lent_entry (record { origin = 255; number = token; command = c }))
as_sent (Asked token k) = asked token k
as_sent (AskRefused token code) = ask_refused token code

-- ---- heard

-- the entry that was decoded; its command is cut out of its bytes
abbrev pub entry_heard : Lent → Entry Bytes
entry_heard x = record { origin = x.origin; number = x.number; command = command_in x.bytes }

-- the same of what was accepted: a proposal, or none
abbrev pub proposal_heard : Option (ℕ × Lent) → Option (Proposal Bytes)
proposal_heard None = None
proposal_heard (Some a) = Some (record { ballot = a.0; entry = entry_heard a.1 })

-- the message that was decoded
abbrev pub as_heard : Message → node.Message Bytes
as_heard (prepare b p) = Prepare b p
as_heard (promise b p a) = Promise b p (proposal_heard a)
as_heard (accept b p e) = Accept b p (entry_heard e)
as_heard (vote b p e) = Vote b p (entry_heard e)
as_heard (nack b p q) = Nack b p q
as_heard (need p) = Need p
as_heard (learned p e) = Learned p (entry_heard e)
as_heard (ask e) = node.Message.Ask e.number (command_in e.bytes)
as_heard (asked t k) = Asked t k
as_heard (ask_refused t code) = AskRefused t code
as_heard (prepare_all b p) = PrepareAll b p
as_heard (promise_all b p top a) = PromiseAll b p top (proposal_heard a)

-- ---- in code

-- a message on its way, whose commands have a spelling
abbrev pub Passing : (members from to : ℕ) → node.Message Bytes → Type 0
Passing n from to x = EnvelopeFits (Passes is_command) n (record { sender = from; addressee = to; message = x })

-- such a message from there arrives at this member
abbrev pub Comes : Membership → (from : ℕ) → declared.Message EntryView → Type 0
Comes m from x = Passing m.members from m.me (come_of x)
