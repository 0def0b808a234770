-- Messages, and the one spelling of each as a datagram. Numbers are unsigned, the highest byte first.
use Rattle.std.specs.Prelude.{◌≡◌, ℕ, ◌<◌, ◌≤◌, ◌^◌, ◌%◌, ◌==◌, ◌&&◌, ◌||◌, Bool}
use Rattle.std.specs.Prelude.{not, nat_le, nat_lt, List, [], ◌∷◌, ◌++◌, length, Option, Some, None, IsTrue}
use Rattle.std.specs.Prelude.{if◌then◌else◌}
use Rattle.std.specs.Int.{w32, w64, to_be_bytes}
use Rattle.px_wire.specs.declared.membership.Membership.{Membership}
use Rattle.pf_entry.specs.Entry as entries

-- who takes part: a cluster's number, and how many members it has
pub record Group : Type 0 where
  pub cluster : ℕ
  pub members : ℕ

-- the group, apart from who of it reads and writes
abbrev pub group : Membership → Group
group m = record { cluster = m.cluster; members = m.members }

-- an entry as it is in a datagram: who asked, the number there, and the bytes that spell it
pub record Lent : Type 0 where
  pub origin : ℕ
  pub number : ℕ
  pub bytes : List ℕ

-- a ballot is its number, 256 times the round and the node
pub data Message : Type 0 where
  prepare : (ballot position : ℕ) → Message
  promise : (ballot position : ℕ) → (accepted : Option (ℕ × Lent)) → Message
  accept : (ballot position : ℕ) → (entry : Lent) → Message
  vote : (ballot position : ℕ) → (entry : Lent) → Message
  nack : (ballot position promised : ℕ) → Message
  need : (position : ℕ) → Message
  learned : (position : ℕ) → (entry : Lent) → Message
  ask : (entry : Lent) → Message
  asked : (token number : ℕ) → Message
  ask_refused : (token code : ℕ) → Message
  prepare_all : (ballot position : ℕ) → Message
  promise_all : (ballot position top : ℕ) → (accepted : Option (ℕ × Lent)) → Message

-- ---- the spelling

-- a length of four bytes, and the entry
abbrev pub sized : Lent → List ℕ
sized e = to_be_bytes w32 (length e.bytes) ++ e.bytes

-- 0, or a ballot and the entry
abbrev pub reported : Option (ℕ × Lent) → List ℕ
reported None = to_be_bytes w64 0
reported (Some a) = to_be_bytes w64 a.0 ++ sized a.1

-- the number of a message's kind, 1 to 12
abbrev pub kind : Message → ℕ
kind (prepare b p) = 1
kind (promise b p a) = 2
kind (accept b p e) = 3
kind (vote b p e) = 4
kind (nack b p q) = 5
kind (need p) = 6
kind (learned p e) = 7
kind (ask e) = 8
kind (asked t n) = 9
kind (ask_refused t c) = 10
kind (prepare_all b p) = 11
kind (promise_all b p top a) = 12

-- what follows the kind
abbrev pub body : Message → List ℕ
body (prepare b p) = to_be_bytes w64 b ++ to_be_bytes w32 p
body (promise b p a) = to_be_bytes w64 b ++ to_be_bytes w32 p ++ reported a
body (accept b p e) = to_be_bytes w64 b ++ to_be_bytes w32 p ++ sized e
body (vote b p e) = to_be_bytes w64 b ++ to_be_bytes w32 p ++ sized e
body (nack b p q) = to_be_bytes w64 b ++ to_be_bytes w32 p ++ to_be_bytes w64 q
body (need p) = to_be_bytes w32 p
body (learned p e) = to_be_bytes w32 p ++ sized e
body (ask e) = sized e
body (asked t n) = to_be_bytes w64 t ++ to_be_bytes w64 n
body (ask_refused t c) = to_be_bytes w64 t ++ c ∷ []
body (prepare_all b p) = to_be_bytes w64 b ++ to_be_bytes w32 p
body (promise_all b p top a) = to_be_bytes w64 b ++ to_be_bytes w32 p ++ to_be_bytes w32 top ++ reported a

-- magic, version, cluster, members, from, to, kind, body
abbrev pub spelling : Group → ℕ → ℕ → Message → List ℕ
spelling g from to message =
    to_be_bytes w32 0x50465852 ++ 1 ∷ to_be_bytes w32 g.cluster
    ++ g.members ∷ from ∷ to ∷ kind message ∷ body message

-- ---- what is allowed

-- the number of one of the members, who are numbered from 0
abbrev pub is_member : Group → ℕ → Bool
is_member g node = nat_lt node g.members

-- 255 for who is none
abbrev pub is_client : ℕ → Bool
is_client node = node == 255

-- a member, or 255 for who is none
abbrev pub is_party : Group → ℕ → Bool
is_party g from = is_member g from || from == 255

-- only an ask is from one who is no member, and only its answers are to one
abbrev pub is_kind : ℕ → ℕ → ℕ → Bool
is_kind from to kind =
    nat_le 1 kind && nat_le kind 12
    && (if kind == 8 then from == 255 else not (from == 255))
    && (if kind == 9 || kind == 10 then to == 255 else not (to == 255))

-- round 1 to 2^48-1 of a member
abbrev pub is_ballot : Group → ℕ → Bool
is_ballot g b = nat_le 256 b && nat_lt b (2 ^ 56) && is_member g (b % 256)

-- the same, of this member
abbrev pub is_ballot_of : Group → ℕ → ℕ → Bool
is_ballot_of g node b = is_ballot g b && b % 256 == node

-- positions are 0 to 999,999
abbrev pub is_position : ℕ → Bool
is_position p = nat_le p 999999

-- a top is 0 to 1,000,000
abbrev pub is_top : ℕ → Bool
is_top top = nat_le top 1000000

-- a token, or a number of an entry
abbrev pub is_number : ℕ → Bool
is_number n = nat_lt n (2 ^ 48)

-- the number of a refusal that a client is answered with: 60 or 62
abbrev pub is_refusal : ℕ → Bool
is_refusal code = code == 60 || code == 62

-- no proposal, or one of a ballot below that of the promise
abbrev pub is_accepted : Group → ℕ → ℕ → Bool
is_accepted g b a = a == 0 || (is_ballot g a && nat_lt a b)

-- the bytes spell an entry, of this origin and number
pub record IsSpelling (x : Lent) : Type 0 where
  pub entry : entries.Entry
  pub spelled : entries.EntryBytes entry x.bytes
  pub origin : entry.origin ≡ x.origin
  pub number : entry.number ≡ x.number

-- an entry that a member asked
abbrev pub IsMembers : Group → Lent → Type 0
IsMembers g e = IsSpelling e × IsTrue (is_member g e.origin)

-- what a promise of ballot b reports: nothing, or a proposal of a lower ballot, its entry a member's
abbrev pub IsReported : Group → ℕ → Option (ℕ × Lent) → Type 0
IsReported g b None = Unit {0}
IsReported g b (Some a) = IsTrue (is_ballot g a.0) × (a.0 < b) × IsMembers g a.1

-- what follows the kind: what proposes has the sender's ballot, what answers it the addressee's, a vote any
-- member's
abbrev pub IsBody : Group → ℕ → ℕ → Message → Type 0
IsBody g from to (prepare b p) = IsTrue (is_ballot_of g from b) × IsTrue (is_position p)
IsBody g from to (promise b p a) = IsTrue (is_ballot_of g to b) × IsTrue (is_position p) × IsReported g b a
IsBody g from to (accept b p e) = IsTrue (is_ballot_of g from b) × IsTrue (is_position p) × IsMembers g e
IsBody g from to (vote b p e) = IsTrue (is_ballot g b) × IsTrue (is_position p) × IsMembers g e
IsBody g from to (nack b p q) =
    IsTrue (is_ballot_of g to b) × IsTrue (is_position p) × IsTrue (is_ballot g q) × (b ≤ q)
IsBody g from to (need p) = IsTrue (is_position p)
IsBody g from to (learned p e) = IsTrue (is_position p) × IsMembers g e
IsBody g from to (ask e) = IsSpelling e × (e.origin ≡ 255)
IsBody g from to (asked t n) = IsTrue (is_number t) × IsTrue (is_number n)
IsBody g from to (ask_refused t c) = IsTrue (is_number t) × IsTrue (is_refusal c)
IsBody g from to (prepare_all b p) = IsTrue (is_ballot_of g from b) × IsTrue (is_position p)
IsBody g from to (promise_all b p top a) =
    IsTrue (is_ballot_of g to b) × IsTrue (is_position p) × IsTrue (is_top top) × IsReported g b a

-- the message has a spelling, of the one to the other
pub record HasSpelling (g : Group) (from to : ℕ) (message : Message) : Type 0 where
  pub sender : IsTrue (is_party g from)
  pub addressee : IsTrue (is_party g to)
  pub kind : IsTrue (is_kind from to (kind message))
  pub body : IsBody g from to message

-- the bytes spell this message of the one to the other
pub record DatagramBytes (g : Group) (from to : ℕ) (message : Message) (bytes : List ℕ) : Type 0 where
  pub fits : HasSpelling g from to message
  pub spelled : bytes ≡ spelling g from to message
