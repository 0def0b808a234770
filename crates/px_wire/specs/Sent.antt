-- What a member can show of what it sends, in numbers. Then its message has a spelling.
-- n is the number of members. A command is given by its bytes: an entry's spelling without who asked and the number.
use Rattle.std.specs.Prelude.{◌≡◌, ℕ, ◌<◌, ◌≤◌, ◌^◌, ◌/◌, ◌%◌, ◌&&◌, ◌⊎◌, Bool}
use Rattle.std.specs.Prelude.{true, false, is_some, nat_lt, slice_index_or, List, [], Option, Some, None}
use Rattle.std.specs.List.{list_all}
use Rattle.pf_entry.specs.Reading.{reading}
use Rattle.px_model.specs.Spelling.{command_in, spelled}
use Rattle.px_wire.specs.Message.{Lent, Message, prepare, promise, accept, vote, nack, need, learned, ask, asked}
use Rattle.px_wire.specs.Message.{ask_refused, prepare_all, promise_all}

-- ---- commands

-- the bytes of the entry with that command, asked by o as number k
abbrev pub asked_by : (o k : ℕ) → (command : List ℕ) → List ℕ
asked_by o k command = spelled (record { origin = o; number = k; command = command })

-- the bytes are those of a command: with an origin and a number they spell an entry
unfoldable pub is_command : List ℕ → Bool
is_command command = list_all (λ b. nat_lt b 256) command && is_some (reading (asked_by 0 0 command))

-- ---- numbers

-- a ballot that one of the members made: its round is 1 to 2^48-1
pub record IsBallot (n b : ℕ) : Type 0 where
  pub begun : 1 ≤ b / 256
  pub round : b / 256 < 2 ^ 48
  pub member : b % 256 < n

-- this member's ballot
abbrev pub IsBallotOf : (n member b : ℕ) → Type 0
IsBallotOf n m b = IsBallot n b × (b % 256 ≡ m)

-- positions are 0 to 999,999
abbrev pub IsPosition : ℕ → Type 0
IsPosition p = p < 1_000_000

-- tokens and the numbers of entries are below 2^48
abbrev pub IsNumber : ℕ → Type 0
IsNumber k = k < 2 ^ 48

-- ---- entries and messages

-- an entry of such an origin, which is the one in its bytes
pub record EntryFits (IsOrigin : ℕ → Type 0) (x : Lent) : Type 0 where
  pub origin : IsOrigin x.origin
  pub number : IsNumber x.number
  pub command : is_command (command_in x.bytes) ≡ true
  pub bytes : x.bytes ≡ asked_by x.origin x.number (command_in x.bytes)

-- a member asked it
abbrev pub MembersFits : ℕ → Lent → Type 0
MembersFits n x = EntryFits (λ o. o < n) x

-- what a promise of ballot b reports: nothing, or a proposal of a lower ballot
abbrev pub ReportFits : (n b : ℕ) → Option (ℕ × Lent) → Type 0
ReportFits n b None = Unit {0}
ReportFits n b (Some a) = IsBallot n a.0 × (a.0 < b) × MembersFits n a.1

-- what a message reports, by its kind: what proposes has the sender's ballot, what answers it the addressee's,
-- a vote any member's
abbrev pub MessageFits : (n from to : ℕ) → Message → Type 0
MessageFits n from to (prepare b p) = IsBallotOf n from b × IsPosition p
MessageFits n from to (promise b p a) = IsBallotOf n to b × IsPosition p × ReportFits n b a
MessageFits n from to (accept b p e) = IsBallotOf n from b × IsPosition p × MembersFits n e
MessageFits n from to (vote b p e) = IsBallot n b × IsPosition p × MembersFits n e
MessageFits n from to (nack b p q) = IsBallotOf n to b × IsPosition p × IsBallot n q × (b ≤ q)
MessageFits n from to (need p) = IsPosition p
MessageFits n from to (learned p e) = IsPosition p × MembersFits n e
MessageFits n from to (ask e) = EntryFits (λ o. o ≡ 255) e
MessageFits n from to (asked t k) = IsNumber t × IsNumber k
MessageFits n from to (ask_refused t code) = IsNumber t × ((code ≡ 60) ⊎ (code ≡ 62))
MessageFits n from to (prepare_all b p) = IsBallotOf n from b × IsPosition p
MessageFits n from to (promise_all b p top a) =
    IsBallotOf n to b × IsPosition p × (top ≤ 1_000_000) × ReportFits n b a

-- who sends it to whom: a client only asks, and is only answered
abbrev pub IsBetween : (n from to : ℕ) → Message → Type 0
IsBetween n from to (ask e) = (from ≡ 255) × (to < n)
IsBetween n from to (asked t k) = (from < n) × (to ≡ 255)
IsBetween n from to (ask_refused t code) = (from < n) × (to ≡ 255)
IsBetween n from to (prepare b p) = (from < n) × (to < n)
IsBetween n from to (promise b p a) = (from < n) × (to < n)
IsBetween n from to (accept b p e) = (from < n) × (to < n)
IsBetween n from to (vote b p e) = (from < n) × (to < n)
IsBetween n from to (nack b p q) = (from < n) × (to < n)
IsBetween n from to (need p) = (from < n) × (to < n)
IsBetween n from to (learned p e) = (from < n) × (to < n)
IsBetween n from to (prepare_all b p) = (from < n) × (to < n)
IsBetween n from to (promise_all b p top a) = (from < n) × (to < n)

-- a message on its way that fits
pub record Fits (n from to : ℕ) (x : Message) : Type 0 where
  pub between : IsBetween n from to x
  pub message : MessageFits n from to x

-- ---- messages to all

-- nothing in the message depends on which member it goes to
abbrev pub is_for_all : Message → Bool
is_for_all (prepare b p) = true
is_for_all (promise b p a) = false
is_for_all (accept b p e) = true
is_for_all (vote b p e) = true
is_for_all (nack b p q) = false
is_for_all (need p) = true
is_for_all (learned p e) = true
is_for_all (ask e) = true
is_for_all (asked t k) = false
is_for_all (ask_refused t code) = false
is_for_all (prepare_all b p) = true
is_for_all (promise_all b p top a) = false

-- ---- the bytes of its entry

-- each number of the list is a byte, 0 to 255
abbrev pub AreBytes : List ℕ → Type 0
AreBytes bytes = (i : ℕ) → slice_index_or bytes i 0 < 256

-- the bytes of the entry that a promise reports, none where it reports none
abbrev pub reported_bytes : Option (ℕ × Lent) → List ℕ
reported_bytes None = []
reported_bytes (Some a) = a.1.bytes

-- the bytes of a message's entry, if it has one
abbrev pub lent_bytes : Message → List ℕ
lent_bytes (prepare b p) = []
lent_bytes (promise b p a) = reported_bytes a
lent_bytes (accept b p e) = e.bytes
lent_bytes (vote b p e) = e.bytes
lent_bytes (nack b p q) = []
lent_bytes (need p) = []
lent_bytes (learned p e) = e.bytes
lent_bytes (ask e) = e.bytes
lent_bytes (asked t k) = []
lent_bytes (ask_refused t code) = []
lent_bytes (prepare_all b p) = []
lent_bytes (promise_all b p top a) = reported_bytes a
