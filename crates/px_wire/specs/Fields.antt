-- The fields of a datagram, each with its offset, its length, what is allowed there, and the code where it isn't.
use Rattle.std.specs.Prelude.{◌≡◌, ℕ, ◌+◌, ◌==◌, ◌&&◌, Bool, false, nat_le, nat_lt, List, []}
use Rattle.std.specs.Prelude.{◌∷◌, length, take, drop, Option, Some, None, option_map}
use Rattle.std.specs.Prelude.{if◌then◌else◌}
use Rattle.std.specs.Int.{Width, w8, w32, w64, byte_len, from_be_bytes}
use Rattle.pf_entry.specs.Entry as entries
use Rattle.pf_entry.specs.Reading as entry_reading
use Rattle.px_wire.specs.declared.membership.Membership.{Membership}
use Rattle.px_wire.specs.declared.fault.WireFault.{WireFault}
use Rattle.px_wire.specs.Message.{group, Lent, Message, prepare, promise, accept, vote, nack, need, learned, ask, asked}
use Rattle.px_wire.specs.Message.{ask_refused, prepare_all, promise_all, is_member, is_client, is_party, is_kind}
use Rattle.px_wire.specs.Message.{is_ballot, is_ballot_of, is_position, is_top, is_number, is_refusal, is_accepted}

-- a field as it is in given bytes
pub record Field : Type 0 where
  pub at : ℕ
  pub len : ℕ
  pub code : ℕ
  pub allowed : Bool  -- its value there

-- the fault with this code at this offset
abbrev pub fault : ℕ → ℕ → WireFault
fault code at = record { code = code; offset = at }

-- 50 where its bytes aren't all there, else its code where its value isn't allowed
unfoldable pub fault_of : Field → List ℕ → Option WireFault
fault_of f bytes =
    if nat_lt (length bytes) (f.at + f.len) then Some (fault 50 f.at)
    else if f.allowed then None
    else Some (fault f.code f.at)

-- the first fault if there is one, else the other
abbrev pub or_else : Option WireFault → Option WireFault → Option WireFault
or_else None other = other
or_else (Some f) other = Some f

-- the fault of the first field that has one, else 56 at the first byte past the last field
abbrev pub first_fault : List Field → ℕ → List ℕ → Option WireFault
first_fault [] end bytes = if nat_lt end (length bytes) then Some (fault 56 end) else None
first_fault (f ∷ fs) end bytes = or_else (fault_of f bytes) (first_fault fs (f.at + f.len) bytes)

-- ---- the fields

-- the number that the bytes have at an offset
unfoldable pub number : Width → ℕ → List ℕ → ℕ
number w at bytes = from_be_bytes w (take (byte_len w) (drop at bytes))

-- the number that one byte has at an offset
abbrev pub u8 : ℕ → List ℕ → ℕ
u8 at bytes = number w8 at bytes

-- the number that four bytes have at an offset
abbrev pub u32 : ℕ → List ℕ → ℕ
u32 at bytes = number w32 at bytes

-- the number that eight bytes have at an offset
abbrev pub u64 : ℕ → List ℕ → ℕ
u64 at bytes = number w64 at bytes

-- the field at this offset, of that many bytes, with its code; and whether its value is allowed
abbrev pub field : ℕ → ℕ → ℕ → Bool → Field
field at len code allowed = record { at = at; len = len; code = code; allowed = allowed }

-- a ballot of this member
abbrev pub ballot : Membership → ℕ → ℕ → List ℕ → Field
ballot m node at bytes = field at 8 57 (is_ballot_of (group m) node (u64 at bytes))

-- a ballot of any member
abbrev pub any_ballot : Membership → ℕ → List ℕ → Field
any_ballot m at bytes = field at 8 57 (is_ballot (group m) (u64 at bytes))

-- a position, 0 to 999,999
abbrev pub position : ℕ → List ℕ → Field
position at bytes = field at 4 57 (is_position (u32 at bytes))

-- a token, or the number of an entry: below 2^48
abbrev pub token : ℕ → List ℕ → Field
token at bytes = field at 8 57 (is_number (u64 at bytes))

-- the bytes of the entry whose length is at an offset
abbrev pub entry_bytes : ℕ → List ℕ → List ℕ
entry_bytes at bytes = take (u32 at bytes) (drop (at + 4) bytes)

-- an entry with the bytes that spell it
abbrev pub lent : List ℕ → entries.Entry → Lent
lent bytes e = record { origin = e.origin; number = e.number; bytes = bytes }

-- the entry that all of the bytes spell
unfoldable pub lent_in : List ℕ → Option Lent
lent_in bytes = option_map (lent bytes) (entry_reading.reading bytes)

-- there is an entry, with such an origin
abbrev pub is_entry : (ℕ → Bool) → Option Lent → Bool
is_entry origin None = false
is_entry origin (Some e) = origin e.origin

-- the length of an entry
abbrev pub len : ℕ → List ℕ → Field
len at bytes = field at 4 57 (nat_le 1 (u32 at bytes) && nat_le (u32 at bytes) 32768)

-- length and entry
abbrev pub entry : (ℕ → Bool) → ℕ → List ℕ → List Field
entry origin at bytes =
    len at bytes
    ∷ field (at + 4) (u32 at bytes) 57 (is_entry origin (lent_in (entry_bytes at bytes)))
    ∷ []

-- 0, or a ballot below that of the promise, and an entry
abbrev pub accepted : Membership → ℕ → ℕ → List ℕ → List Field
accepted m below at bytes =
    field at 8 57 (is_accepted (group m) below (u64 at bytes))
    ∷ (if u64 at bytes == 0 then [] else entry (is_member (group m)) (at + 8) bytes)

-- a ballot not below the one refused
abbrev pub promised : Membership → ℕ → ℕ → List ℕ → Field
promised m least at bytes = field at 8 57 (is_ballot (group m) (u64 at bytes) && nat_le least (u64 at bytes))

-- ---- the fields after byte 12, by kind

-- of Prepare: the sender's ballot, a position
abbrev pub prepare_fields : Membership → ℕ → List ℕ → List Field
prepare_fields m from bytes = ballot m from 13 bytes ∷ position 21 bytes ∷ []

-- of Promise: the addressee's ballot, a position, what was accepted there
abbrev pub promise_fields : Membership → List ℕ → List Field
promise_fields m bytes = ballot m m.me 13 bytes ∷ position 21 bytes ∷ accepted m (u64 13 bytes) 25 bytes

-- of Accept: the sender's ballot, a position, an entry
abbrev pub accept_fields : Membership → ℕ → List ℕ → List Field
accept_fields m from bytes = ballot m from 13 bytes ∷ position 21 bytes ∷ entry (is_member (group m)) 25 bytes

-- of Vote: a ballot of any member, a position, an entry
abbrev pub vote_fields : Membership → List ℕ → List Field
vote_fields m bytes = any_ballot m 13 bytes ∷ position 21 bytes ∷ entry (is_member (group m)) 25 bytes

-- of Nack: the addressee's ballot, a position, the ballot promised there, not below the one refused
abbrev pub nack_fields : Membership → List ℕ → List Field
nack_fields m bytes = ballot m m.me 13 bytes ∷ position 21 bytes ∷ promised m (u64 13 bytes) 25 bytes ∷ []

-- of Need: a position
abbrev pub need_fields : List ℕ → List Field
need_fields bytes = position 13 bytes ∷ []

-- of Learned: a position, an entry
abbrev pub learned_fields : Membership → List ℕ → List Field
learned_fields m bytes = position 13 bytes ∷ entry (is_member (group m)) 17 bytes

-- of Ask: an entry of origin 255
abbrev pub ask_fields : List ℕ → List Field
ask_fields bytes = entry is_client 13 bytes

-- of Asked: the token, the number that the entry got
abbrev pub asked_fields : List ℕ → List Field
asked_fields bytes = token 13 bytes ∷ token 21 bytes ∷ []

-- of AskRefused: the token, the number of the refusal
abbrev pub ask_refused_fields : List ℕ → List Field
ask_refused_fields bytes = token 13 bytes ∷ field 21 1 57 (is_refusal (u8 21 bytes)) ∷ []

-- of PrepareAll: the sender's ballot, a position
abbrev pub prepare_all_fields : Membership → ℕ → List ℕ → List Field
prepare_all_fields m from bytes = ballot m from 13 bytes ∷ position 21 bytes ∷ []

-- of PromiseAll: the addressee's ballot, a position, the top, what was accepted there
abbrev pub promise_all_fields : Membership → List ℕ → List Field
promise_all_fields m bytes =
    ballot m m.me 13 bytes
    ∷ position 21 bytes
    ∷ field 25 4 57 (is_top (u32 25 bytes))
    ∷ accepted m (u64 13 bytes) 29 bytes

-- the fields after byte 12, by kind; a kind that isn't 1 to 11 is read as 12
abbrev pub body : Membership → ℕ → ℕ → List ℕ → List Field
body m from kind bytes =
    if kind == 1 then prepare_fields m from bytes
    else if kind == 2 then promise_fields m bytes
    else if kind == 3 then accept_fields m from bytes
    else if kind == 4 then vote_fields m bytes
    else if kind == 5 then nack_fields m bytes
    else if kind == 6 then need_fields bytes
    else if kind == 7 then learned_fields m bytes
    else if kind == 8 then ask_fields bytes
    else if kind == 9 then asked_fields bytes
    else if kind == 10 then ask_refused_fields bytes
    else if kind == 11 then prepare_all_fields m from bytes
    else promise_all_fields m bytes

-- what a member takes for a datagram to it
abbrev pub fields : Membership → List ℕ → List Field
fields m bytes =
    field 0 4 51 (u32 0 bytes == 0x50465852)
    ∷ field 4 1 52 (u8 4 bytes == 1)
    ∷ field 5 4 53 (u32 5 bytes == m.cluster)
    ∷ field 9 1 54 (u8 9 bytes == m.members)
    ∷ field 10 1 54 (is_party (group m) (u8 10 bytes))
    ∷ field 11 1 54 (u8 11 bytes == m.me)
    ∷ field 12 1 55 (is_kind (u8 10 bytes) m.me (u8 12 bytes))
    ∷ body m (u8 10 bytes) (u8 12 bytes) bytes

-- the bytes are no datagram for this member, by this code at this offset
abbrev pub WireFaultAt : Membership → List ℕ → ℕ → ℕ → Type 0
WireFaultAt m bytes code offset = first_fault (fields m bytes) 0 bytes ≡ Some (fault code offset)

-- ---- the message that the fields make

-- the entry whose length is at an offset, if its bytes spell one
abbrev pub entry_value : ℕ → List ℕ → Option Lent
entry_value at bytes = lent_in (entry_bytes at bytes)

-- what a promise reports at an offset: none for ballot 0, else ballot and entry, if the entry can be read
abbrev pub accepted_value : ℕ → List ℕ → Option (Option (ℕ × Lent))
accepted_value at bytes =
    if u64 at bytes == 0 then Some None
    else option_map (λ e. Some (u64 at bytes, e)) (entry_value (at + 8) bytes)

-- the fields of Prepare as a message
abbrev pub prepare_value : List ℕ → Option Message
prepare_value bytes = Some (prepare (u64 13 bytes) (u32 21 bytes))

-- the fields of Promise as a message, if what it reports can be read
abbrev pub promise_value : List ℕ → Option Message
promise_value bytes = option_map (λ a. promise (u64 13 bytes) (u32 21 bytes) a) (accepted_value 25 bytes)

-- the fields of Accept as a message, if its entry can be read
abbrev pub accept_value : List ℕ → Option Message
accept_value bytes = option_map (λ e. accept (u64 13 bytes) (u32 21 bytes) e) (entry_value 25 bytes)

-- the fields of Vote as a message, if its entry can be read
abbrev pub vote_value : List ℕ → Option Message
vote_value bytes = option_map (λ e. vote (u64 13 bytes) (u32 21 bytes) e) (entry_value 25 bytes)

-- the fields of Nack as a message
abbrev pub nack_value : List ℕ → Option Message
nack_value bytes = Some (nack (u64 13 bytes) (u32 21 bytes) (u64 25 bytes))

-- the fields of Need as a message
abbrev pub need_value : List ℕ → Option Message
need_value bytes = Some (need (u32 13 bytes))

-- the fields of Learned as a message, if its entry can be read
abbrev pub learned_value : List ℕ → Option Message
learned_value bytes = option_map (λ e. learned (u32 13 bytes) e) (entry_value 17 bytes)

-- the fields of Ask as a message, if its entry can be read
abbrev pub ask_value : List ℕ → Option Message
ask_value bytes = option_map (λ e. ask e) (entry_value 13 bytes)

-- the fields of Asked as a message
abbrev pub asked_value : List ℕ → Option Message
asked_value bytes = Some (asked (u64 13 bytes) (u64 21 bytes))

-- the fields of AskRefused as a message
abbrev pub ask_refused_value : List ℕ → Option Message
ask_refused_value bytes = Some (ask_refused (u64 13 bytes) (u8 21 bytes))

-- the fields of PrepareAll as a message
abbrev pub prepare_all_value : List ℕ → Option Message
prepare_all_value bytes = Some (prepare_all (u64 13 bytes) (u32 21 bytes))

-- the fields of PromiseAll as a message, if what it reports can be read
abbrev pub promise_all_value : List ℕ → Option Message
promise_all_value bytes =
    option_map (λ a. promise_all (u64 13 bytes) (u32 21 bytes) (u32 25 bytes) a) (accepted_value 29 bytes)

-- the message that the fields make, where none of them has a fault
abbrev pub value : ℕ → List ℕ → Option Message
value kind bytes =
    if kind == 1 then prepare_value bytes
    else if kind == 2 then promise_value bytes
    else if kind == 3 then accept_value bytes
    else if kind == 4 then vote_value bytes
    else if kind == 5 then nack_value bytes
    else if kind == 6 then need_value bytes
    else if kind == 7 then learned_value bytes
    else if kind == 8 then ask_value bytes
    else if kind == 9 then asked_value bytes
    else if kind == 10 then ask_refused_value bytes
    else if kind == 11 then prepare_all_value bytes
    else promise_all_value bytes

-- the sender and the message
abbrev pub datagram : List ℕ → Option (ℕ × Message)
datagram bytes = option_map (λ v. (u8 10 bytes, v)) (value (u8 12 bytes) bytes)
