-- What a message in code shows, and what a reader of fields answers.
use Rattle.std.specs.Prelude.{◌≡◌, ℕ, List, Option, Some, None, Result, Ok, Err}
use Rattle.px_model.specs.Spelling.{spelled}
use Rattle.px_model.specs.Entries.{view_of}
use Rattle.px_model.specs.declared.entry.EntryView.{EntryView}
use Rattle.px_model.specs.declared.record.Proposal.{Proposal}
use Rattle.px_model.specs.declared.message.Message as declared
use Rattle.px_model.specs.declared.message.Message.TheVariants as views
use Rattle.px_wire.specs.declared.fault.WireFault.{WireFault}
use Rattle.px_wire.specs.Message.{Lent, Message, prepare, promise, accept, vote, nack, need, learned, ask, asked}
use Rattle.px_wire.specs.Message.{ask_refused, prepare_all, promise_all}
use Rattle.px_wire.specs.Fields.{Field, first_fault}

-- an entry with the bytes that spell it
abbrev pub lent_of : EntryView → Lent
lent_of e = record { origin = (view_of e).origin; number = (view_of e).number; bytes = spelled (view_of e) }

-- the accepted proposal that a message in code reports, if it reports one: its ballot and its entry
abbrev pub accepted_of : Option (Proposal EntryView) → Option (ℕ × Lent)
accepted_of None = None
accepted_of (Some a) = Some (a.ballot, lent_of a.entry)

-- the message that a decoded one shows
abbrev pub message_of : declared.Message EntryView → Message
message_of (views.Prepare b p) = prepare b p
message_of (views.Promise b p a) = promise b p (accepted_of a)
message_of (views.PrepareAll b p) = prepare_all b p
message_of (views.PromiseAll b p top a) = promise_all b p top (accepted_of a)
message_of (views.Accept b p e) = accept b p (lent_of e)
message_of (views.Vote b p e) = vote b p (lent_of e)
message_of (views.Nack b p q) = nack b p q
message_of (views.Need p) = need p
message_of (views.Learned p e) = learned p (lent_of e)
message_of (views.Ask e) = ask (lent_of e)
message_of (views.Asked t n) = asked t n
message_of (views.AskRefused t c) = ask_refused t c

-- a function answers the value where the fields have no fault, and else the first fault
abbrev pub Answers : {X Y : Type 0} → (X → Y) → Result X WireFault → Option WireFault → Y → Type 0
Answers view (Ok x) fault value = (fault ≡ None) × (view x ≡ value)
Answers view (Err e) fault value = fault ≡ Some e

-- the sender and the message of a whole datagram
abbrev pub ReadsDatagram :
    List ℕ → Result (ℕ × declared.Message EntryView) WireFault →
    List Field → Option (ℕ × Message) → Type 0
ReadsDatagram bytes result fs value = Answers (λ x. Some (x.0, message_of x.1)) result (first_fault fs 0 bytes) value
