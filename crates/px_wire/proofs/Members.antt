-- What fits for the members has a spelling, what has a spelling fits for them, and is what was sent.
use Rattle.std.proofs.Common.{◌≡◌, ℕ, ◌^◌, ◌<◌, ◌≤◌, Bool, true, leb, List, [], ◌∷◌, length, drop, Option, Some, None, refl, sym, ap, subst, ◌∙◌, arith}
use Rattle.std.specs.Prelude.{option_map, IfOk, Result, Ok, Err}
use Rattle.px_model.specs.Node as node
use Rattle.px_model.specs.Node.{Entry, Proposal, Envelope}
use Rattle.px_model.specs.Node.Message.{Prepare, Promise, PrepareAll, PromiseAll, Accept, Vote, Nack, Need, Learned, Asked, AskRefused}
use Rattle.px_model.specs.World.{Event}
use Rattle.px_model.specs.Law.{Among, world_after}
use Rattle.px_model.specs.Fits as fits
use Rattle.px_model.specs.Fits.{Passes, EnvelopeFits, EventFits}
use Rattle.px_model.specs.Spelling.{Bytes, command_in, spelled}
use Rattle.px_model.specs.Entries.{view_of}
use Rattle.px_model.specs.Seen.{come_of, report_of}
use Rattle.px_model.specs.declared.entry.EntryView.{EntryView}
use Rattle.px_model.specs.declared.record.Proposal as kept
use Rattle.px_model.specs.declared.message.Message as declared
use Rattle.px_model.specs.declared.message.Message.TheVariants as views
use Rattle.px_model.proofs.AlwaysFits.{always_fits}
use Rattle.pf_entry.specs.Entry as entries
use Rattle.std.proofs.lemmas.Bool.{leb-true}
use Rattle.pf_entry.proofs.Takes.{IsBytes, IsBytes-drop, both_true}
use Rattle.px_wire.specs.declared.membership.Membership.{Membership}
use Rattle.px_wire.specs.declared.fault.WireFault.{WireFault}
use Rattle.px_wire.specs.Message.{Group, group, Lent, IsSpelling, Message, prepare, promise, accept, vote, nack, need, learned, ask, asked, ask_refused, prepare_all, promise_all, IsReported, IsBody, HasSpelling, DatagramBytes}
use Rattle.px_wire.specs.Sent as sent
use Rattle.px_wire.specs.Sent.{asked_by, is_command, AreBytes, lent_bytes}
use Rattle.px_wire.specs.Seen.{lent_of, accepted_of, message_of}
use Rattle.px_wire.specs.Members.{lent_entry, lent_proposal, as_sent, entry_heard, proposal_heard, as_heard, Passing, Comes}
use Rattle.px_wire.proofs.Commands.{command_back}
use Rattle.px_wire.proofs.Sent.{fits_has, has_fits}
use Rattle.px_wire.proofs.Lending.{ten_bytes}

-- ---- sent

ballot_fits : (n b : ℕ) → fits.IsBallot n b → sent.IsBallot n b
ballot_fits n b h = record { begun = h.begun; round = h.round; member = h.member }

own_fits : (n m b : ℕ) → fits.IsBallotOf n m b → sent.IsBallotOf n m b
own_fits n m b h = (ballot_fits n b h.0, h.1)

carried : (IsOrigin : ℕ → Type 0) (o k : ℕ) (c : Bytes) → IsOrigin o → k < 2 ^ 48 → is_command c ≡ true → sent.EntryFits IsOrigin (record { origin = o; number = k; bytes = asked_by o k c })
carried IsOrigin o k c origin number command =
    let back : command_in (asked_by o k c) ≡ c = command_back o k c command in
    record { origin = origin; number = number; command = ap is_command back ∙ command; bytes = ap (asked_by o k) (sym back) }

entry_fits : (n : ℕ) (e : Entry Bytes) → fits.EntryFits (Passes is_command) n e → sent.MembersFits n (lent_entry e)
entry_fits n e h = carried (λ o. o < n) e.origin e.number e.command h.origin h.number h.command

asked_fits : (token : ℕ) (c : Bytes) → token < 2 ^ 48 → is_command c ≡ true → sent.EntryFits (λ o. o ≡ 255) (record { origin = 255; number = token; bytes = asked_by 255 token c })
asked_fits token c number command = carried (λ o. o ≡ 255) 255 token c refl number command

report_fits : (n b : ℕ) (a : Option (Proposal Bytes)) → fits.ReportFits (Passes is_command) n b a → sent.ReportFits n b (lent_proposal a)
report_fits n b None h = tt
report_fits n b (Some x) h = (ballot_fits n x.ballot h.0.ballot, h.1, entry_fits n x.entry h.0.entry)

message_fits : (n from to : ℕ) (x : node.Message Bytes) → fits.MessageFits (Passes is_command) n from to x → sent.MessageFits n from to (as_sent x)
message_fits n from to (Prepare b p) h = (own_fits n from b h.0, h.1)
message_fits n from to (Promise b p a) h = (own_fits n to b h.0, h.1, report_fits n b a h.2)
message_fits n from to (PrepareAll b p) h = (own_fits n from b h.0, h.1)
message_fits n from to (PromiseAll b p top a) h = (own_fits n to b h.0, h.1, h.2, report_fits n b a h.3)
message_fits n from to (Accept b p e) h = (own_fits n from b h.0, h.1, entry_fits n e h.2)
message_fits n from to (Vote b p e) h = (ballot_fits n b h.0, h.1, entry_fits n e h.2)
message_fits n from to (Nack b p q) h = (own_fits n to b h.0, h.1, ballot_fits n q h.2, h.3)
message_fits n from to (Need p) h = h
message_fits n from to (Learned p e) h = (h.0, entry_fits n e h.1)
message_fits n from to (node.Message.Ask token c) h = asked_fits token c h.0 h.1
message_fits n from to (Asked token k) h = h
message_fits n from to (AskRefused token code) h = h

between_fits : (n from to : ℕ) (x : node.Message Bytes) → fits.IsBetween n from to x → sent.IsBetween n from to (as_sent x)
between_fits n from to (Prepare b p) h = h
between_fits n from to (Promise b p a) h = h
between_fits n from to (PrepareAll b p) h = h
between_fits n from to (PromiseAll b p top a) h = h
between_fits n from to (Accept b p e) h = h
between_fits n from to (Vote b p e) h = h
between_fits n from to (Nack b p q) h = h
between_fits n from to (Need p) h = h
between_fits n from to (Learned p e) h = h
between_fits n from to (node.Message.Ask token c) h = h
between_fits n from to (Asked token k) h = h
between_fits n from to (AskRefused token code) h = h

pub sent_fits : (n : ℕ) (x : Envelope Bytes) → EnvelopeFits (Passes is_command) n x → sent.Fits n x.sender x.addressee (as_sent x.message)
sent_fits n x h = record { between = between_fits n x.sender x.addressee x.message h.between; message = message_fits n x.sender x.addressee x.message h.message }

pub sent_has : (g : Group) (x : Envelope Bytes) → g.members ≤ 15 → EnvelopeFits (Passes is_command) g.members x → HasSpelling g x.sender x.addressee (as_sent x.message)
sent_has g x le h = fits_has g x.sender x.addressee (as_sent x.message) le (sent_fits g.members x h)

pub ever_has : (same : Bytes → Bytes → Bool) (g : Group) → 1 ≤ g.members → g.members ≤ 15 → (events : List (Event Bytes)) → ((e : Event Bytes) → Among events e → EventFits (Passes is_command) e) → (x : Envelope Bytes) → Among (world_after same g.members events).sent x → HasSpelling g x.sender x.addressee (as_sent x.message)
ever_has same g some le events asks x there = sent_has g x le ((always_fits (Passes is_command) same g.members le events asks).sent x there)

-- ---- heard

ballot_heard : (n b : ℕ) → sent.IsBallot n b → fits.IsBallot n b
ballot_heard n b h = record { begun = h.begun; round = h.round; member = h.member }

own_heard : (n m b : ℕ) → sent.IsBallotOf n m b → fits.IsBallotOf n m b
own_heard n m b h = (ballot_heard n b h.0, h.1)

entry_comes : (n : ℕ) (x : Lent) → sent.MembersFits n x → fits.EntryFits (Passes is_command) n (entry_heard x)
entry_comes n x h = record { origin = h.origin; number = h.number; command = h.command }

report_heard : (n b : ℕ) (a : Option (ℕ × Lent)) → sent.ReportFits n b a → fits.ReportFits (Passes is_command) n b (proposal_heard a)
report_heard n b None h = tt
report_heard n b (Some a) h = (record { ballot = ballot_heard n a.0 h.0; entry = entry_comes n a.1 h.2 }, h.1)

message_heard : (n from to : ℕ) (x : Message) → sent.MessageFits n from to x → fits.MessageFits (Passes is_command) n from to (as_heard x)
message_heard n from to (prepare b p) h = (own_heard n from b h.0, h.1)
message_heard n from to (promise b p a) h = (own_heard n to b h.0, h.1, report_heard n b a h.2)
message_heard n from to (accept b p e) h = (own_heard n from b h.0, h.1, entry_comes n e h.2)
message_heard n from to (vote b p e) h = (ballot_heard n b h.0, h.1, entry_comes n e h.2)
message_heard n from to (nack b p q) h = (own_heard n to b h.0, h.1, ballot_heard n q h.2, h.3)
message_heard n from to (need p) h = h
message_heard n from to (learned p e) h = (h.0, entry_comes n e h.1)
message_heard n from to (ask e) h = (h.number, h.command)
message_heard n from to (asked t k) h = h
message_heard n from to (ask_refused t code) h = h
message_heard n from to (prepare_all b p) h = (own_heard n from b h.0, h.1)
message_heard n from to (promise_all b p top a) h = (own_heard n to b h.0, h.1, h.2, report_heard n b a h.3)

between_heard : (n from to : ℕ) (x : Message) → sent.IsBetween n from to x → fits.IsBetween n from to (as_heard x)
between_heard n from to (prepare b p) h = h
between_heard n from to (promise b p a) h = h
between_heard n from to (accept b p e) h = h
between_heard n from to (vote b p e) h = h
between_heard n from to (nack b p q) h = h
between_heard n from to (need p) h = h
between_heard n from to (learned p e) h = h
between_heard n from to (ask e) h = h
between_heard n from to (asked t k) h = h
between_heard n from to (ask_refused t code) h = h
between_heard n from to (prepare_all b p) h = h
between_heard n from to (promise_all b p top a) h = h

pub heard_fits : (g : Group) (from to : ℕ) (x : Message) → AreBytes (lent_bytes x) → HasSpelling g from to x → EnvelopeFits (Passes is_command) g.members (record { sender = from; addressee = to; message = as_heard x })
heard_fits g from to x bytes h =
    let f = has_fits g from to x bytes h in
    record { between = between_heard g.members from to x f.between; message = message_heard g.members from to x f.message }

-- ---- heard as sent

abbrev with_command : Entry Bytes → Bytes → Entry Bytes
with_command e c = record { origin = e.origin; number = e.number; command = c }

abbrev with_entry : Proposal Bytes → Entry Bytes → Proposal Bytes
with_entry x e = record { ballot = x.ballot; entry = e }

entry_back : (n : ℕ) (e : Entry Bytes) → fits.EntryFits (Passes is_command) n e → entry_heard (lent_entry e) ≡ e
entry_back n e h = ap (λ (c : Bytes). with_command e c) (command_back e.origin e.number e.command h.command)

report_back : (n b : ℕ) (a : Option (Proposal Bytes)) → fits.ReportFits (Passes is_command) n b a → proposal_heard (lent_proposal a) ≡ a
report_back n b None h = refl
report_back n b (Some x) h = ap (λ (e : Entry Bytes). Some (with_entry x e)) (entry_back n x.entry h.0.entry)

message_back : (n from to : ℕ) (x : node.Message Bytes) → fits.MessageFits (Passes is_command) n from to x → as_heard (as_sent x) ≡ x
message_back n from to (Prepare b p) h = refl
message_back n from to (Promise b p a) h = ap (λ (r : Option (Proposal Bytes)). Promise b p r) (report_back n b a h.2)
message_back n from to (PrepareAll b p) h = refl
message_back n from to (PromiseAll b p top a) h = ap (λ (r : Option (Proposal Bytes)). PromiseAll b p top r) (report_back n b a h.3)
message_back n from to (Accept b p e) h = ap (λ (e : Entry Bytes). Accept b p e) (entry_back n e h.2)
message_back n from to (Vote b p e) h = ap (λ (e : Entry Bytes). Vote b p e) (entry_back n e h.2)
message_back n from to (Nack b p q) h = refl
message_back n from to (Need p) h = refl
message_back n from to (Learned p e) h = ap (λ (e : Entry Bytes). Learned p e) (entry_back n e h.1)
message_back n from to (node.Message.Ask token c) h = ap (λ (c : Bytes). node.Message.Ask token c) (command_back 255 token c h.1)
message_back n from to (Asked token k) h = refl
message_back n from to (AskRefused token code) h = refl

pub heard_as_sent : (n : ℕ) (x : Envelope Bytes) → EnvelopeFits (Passes is_command) n x → as_heard (as_sent x.message) ≡ x.message
heard_as_sent n x h = message_back n x.sender x.addressee x.message h.message

-- ---- a message in code, as it is sent

lent_accepted : (a : Option (kept.Proposal EntryView)) → accepted_of a ≡ lent_proposal (option_map report_of a)
lent_accepted None = refl
lent_accepted (Some x) = refl

-- its sender is a member
sent_lent : (n from to : ℕ) (x : declared.Message EntryView) → n ≤ 15 → from < n → fits.IsBetween n from to (come_of x) → message_of x ≡ as_sent (come_of x)
sent_lent n from to (views.Prepare b p) le lt h = refl
sent_lent n from to (views.Promise b p a) le lt h = ap (λ (r : Option (ℕ × Lent)). promise b p r) (lent_accepted a)
sent_lent n from to (views.PrepareAll b p) le lt h = refl
sent_lent n from to (views.PromiseAll b p top a) le lt h = ap (λ (r : Option (ℕ × Lent)). promise_all b p top r) (lent_accepted a)
sent_lent n from to (views.Accept b p e) le lt h = refl
sent_lent n from to (views.Vote b p e) le lt h = refl
sent_lent n from to (views.Nack b p q) le lt h = refl
sent_lent n from to (views.Need p) le lt h = refl
sent_lent n from to (views.Learned p e) le lt h = refl
sent_lent n from to (views.Ask e) le lt h = absurd (omega (arith, h.0))
sent_lent n from to (views.Asked t k) le lt h = refl
sent_lent n from to (views.AskRefused t c) le lt h = refl

pub lent_is_sent : (g : Group) (from to : ℕ) (x : declared.Message EntryView) → g.members ≤ 15 → from < g.members → Passing g.members from to (come_of x) → message_of x ≡ as_sent (come_of x)
lent_is_sent g from to x le lt h = sent_lent g.members from to x le lt h.between

pub lent_has : (g : Group) (from to : ℕ) (x : declared.Message EntryView) → g.members ≤ 15 → from < g.members → Passing g.members from to (come_of x) → HasSpelling g from to (message_of x)
lent_has g from to x le lt h = subst (λ (w : Message). HasSpelling g from to w) (sym (lent_is_sent g from to x le lt h)) (sent_has g (record { sender = from; addressee = to; message = come_of x }) le h)

-- ---- a message in code, as it comes

command_kept : (o k : ℕ) (c : Bytes) → 10 ≤ length (asked_by o k c) → command_in (asked_by o k c) ≡ c
unfolding spelled command_in
command_kept o k [] long = absurd (omega (arith, long))
command_kept o k (f ∷ rest) long = refl

long_spelling : (x : Lent) → IsSpelling x → 10 ≤ length x.bytes
long_spelling x is =
    let n : length x.bytes ≡ length (entries.spelling is.entry) = ap length is.spelled.spelled in
    omega (arith, n, ten_bytes is.entry)

entry_kept : (e : EntryView) → IsSpelling (lent_of e) → entry_heard (lent_of e) ≡ view_of e
entry_kept e is = ap (λ (c : Bytes). with_command (view_of e) c) (command_kept (view_of e).origin (view_of e).number (view_of e).command (long_spelling (lent_of e) is))

report_kept : (g : Group) (b : ℕ) (a : Option (kept.Proposal EntryView)) → IsReported g b (accepted_of a) → proposal_heard (accepted_of a) ≡ option_map report_of a
report_kept g b None h = refl
report_kept g b (Some x) h = ap (λ (e : Entry Bytes). Some (with_entry (report_of x) e)) (entry_kept x.entry h.2.0)

heard_lent : (g : Group) (from to : ℕ) (x : declared.Message EntryView) → IsBody g from to (message_of x) → as_heard (message_of x) ≡ come_of x
heard_lent g from to (views.Prepare b p) h = refl
heard_lent g from to (views.Promise b p a) h = ap (λ (r : Option (Proposal Bytes)). Promise b p r) (report_kept g b a h.2)
heard_lent g from to (views.PrepareAll b p) h = refl
heard_lent g from to (views.PromiseAll b p top a) h = ap (λ (r : Option (Proposal Bytes)). PromiseAll b p top r) (report_kept g b a h.3)
heard_lent g from to (views.Accept b p e) h = ap (λ (e : Entry Bytes). Accept b p e) (entry_kept e h.2.0)
heard_lent g from to (views.Vote b p e) h = ap (λ (e : Entry Bytes). Vote b p e) (entry_kept e h.2.0)
heard_lent g from to (views.Nack b p q) h = refl
heard_lent g from to (views.Need p) h = refl
heard_lent g from to (views.Learned p e) h = ap (λ (e : Entry Bytes). Learned p e) (entry_kept e h.1.0)
heard_lent g from to (views.Ask e) h = ap (λ (e : Entry Bytes). node.Message.Ask e.number e.command) (entry_kept e h.0)
heard_lent g from to (views.Asked t k) h = refl
heard_lent g from to (views.AskRefused t c) h = refl

-- an entry's bytes are the datagram's last ones
tail_bytes : (n : ℕ) (bytes lent : List ℕ) → IsBytes bytes → drop n bytes ≡ lent → IsBytes lent
tail_bytes n bytes lent fits is = subst IsBytes is (IsBytes-drop n bytes fits)

no_bytes : IsBytes []
no_bytes i = omega arith

lent_are_bytes : (g : Group) (from to : ℕ) (x : Message) (bytes : List ℕ) → IsBytes bytes → DatagramBytes g from to x bytes → IsBytes (lent_bytes x)
lent_are_bytes g from to (prepare b p) bytes fits d = no_bytes
lent_are_bytes g from to (promise b p None) bytes fits d = no_bytes
lent_are_bytes g from to (promise b p (Some a)) bytes fits d = tail_bytes 37 bytes a.1.bytes fits (ap (drop 37) d.spelled)
lent_are_bytes g from to (accept b p e) bytes fits d = tail_bytes 29 bytes e.bytes fits (ap (drop 29) d.spelled)
lent_are_bytes g from to (vote b p e) bytes fits d = tail_bytes 29 bytes e.bytes fits (ap (drop 29) d.spelled)
lent_are_bytes g from to (nack b p q) bytes fits d = no_bytes
lent_are_bytes g from to (need p) bytes fits d = no_bytes
lent_are_bytes g from to (learned p e) bytes fits d = tail_bytes 21 bytes e.bytes fits (ap (drop 21) d.spelled)
lent_are_bytes g from to (ask e) bytes fits d = tail_bytes 17 bytes e.bytes fits (ap (drop 17) d.spelled)
lent_are_bytes g from to (asked t k) bytes fits d = no_bytes
lent_are_bytes g from to (ask_refused t code) bytes fits d = no_bytes
lent_are_bytes g from to (prepare_all b p) bytes fits d = no_bytes
lent_are_bytes g from to (promise_all b p top None) bytes fits d = no_bytes
lent_are_bytes g from to (promise_all b p top (Some a)) bytes fits d = tail_bytes 41 bytes a.1.bytes fits (ap (drop 41) d.spelled)

read_comes : (m : Membership) (from : ℕ) (x : declared.Message EntryView) (bytes : List ℕ) → IsBytes bytes → DatagramBytes (group m) from m.me (message_of x) bytes → Comes m from x
read_comes m from x bytes fits d =
    let h = heard_fits (group m) from m.me (message_of x) (lent_are_bytes (group m) from m.me (message_of x) bytes fits d) d.fits in
    subst (λ (w : node.Message Bytes). Passing m.members from m.me w) (heard_lent (group m) from m.me x d.fits.body) h

pub comes_is : (m : Membership) (bytes : List ℕ) (r : Result (ℕ × declared.Message EntryView) WireFault) → IsBytes bytes → IfOk r (λ x. DatagramBytes (group m) x.0 m.me (message_of x.1) bytes) → IfOk r (λ x. Comes m x.0 x.1)
comes_is m bytes (Ok x) fits d = read_comes m x.0 x.1 bytes fits d
comes_is m bytes (Err f) fits d = tt

-- ---- a member encodes

at_most_15 : (m : Membership) → m.members ≤ 15
at_most_15 m = leb-true m.members 15 (both_true (leb 1 m.members) (leb m.members 15) m.counted).1

pub member_has : (m : Membership) (to : ℕ) (x : declared.Message EntryView) (sent : node.Message Bytes) → m.me < m.members → Passing m.members m.me to sent → come_of x ≡ sent → HasSpelling (group m) m.me to (message_of x)
member_has m to x sent lt h is = lent_has (group m) m.me to x (at_most_15 m) lt (subst (λ (w : node.Message Bytes). Passing m.members m.me to w) (sym is) h)

pub member_is_sent : (m : Membership) (to : ℕ) (x : declared.Message EntryView) (sent : node.Message Bytes) → m.me < m.members → Passing m.members m.me to sent → come_of x ≡ sent → message_of x ≡ as_sent sent
member_is_sent m to x sent lt h is = lent_is_sent (group m) m.me to x (at_most_15 m) lt (subst (λ (w : node.Message Bytes). Passing m.members m.me to w) (sym is) h) ∙ ap as_sent is
