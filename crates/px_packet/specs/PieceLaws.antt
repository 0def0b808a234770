-- Laws of pieces.
use Rattle.std.specs.Prelude.{◌≡◌, ℕ, ◌*◌, ◌<◌, ◌^◌, ◌==◌, Bool, true, false, List, [], ◌∷◌, ◌++◌, length}
use Rattle.std.specs.Prelude.{Option, Some, None, IfSome, slice_get, slice_index_or, nat_le, if◌then◌else◌, ◌&&◌}
use Rattle.std.specs.List.{All, list_all, list_any, find}
use Rattle.px_packet.specs.Pieces.{Piece, IsFormed, piece_of, part_of, piece_bytes, count_of}
use Rattle.px_packet.specs.Held.{is_present, bits_of, has_bit}
use Rattle.px_packet.specs.Reassembling.{Unfinished, joined, unfinished_after, finished_by, due_after}
use Rattle.px_packet.specs.Sending.{Sent, CanBeCut, is_kept, name_of, sent_after}

-- ---- bytes

-- pieces that have the same bytes are the same
abbrev pub PiecesDiffer : Type 0
PiecesDiffer = (p q : Piece) → p.name < 2 ^ 32 → q.name < 2 ^ 32 → p.size < 2 ^ 16 → q.size < 2 ^ 16 →
    piece_bytes p ≡ piece_bytes q → p ≡ q

-- the bit of a part is 1 where it has come
abbrev pub BitsReport : Type 0
BitsReport = (parts : List (List ℕ)) (k : ℕ) → k < length parts →
    has_bit (bits_of parts) k ≡ is_present (slice_index_or parts k [])

-- ---- what a sender cut: a list of datagrams, of which each is named by its place

-- what is kept are datagrams that were cut, under their names
pub record Keeps (log : List (List ℕ)) (s : Sent) : Type 0 where
  pub count_is : s.count ≡ length log
  pub kept : All (λ (c : ℕ × List ℕ). slice_get log c.0 ≡ Some c.1) s.cuts

-- the datagrams that were cut, after another one
abbrev pub log_after : List (List ℕ) → Sent → List ℕ → List (List ℕ)
log_after log s m = if is_kept s m then log else log ++ m ∷ []

-- a name is one datagram's: it is kept and cut under it
abbrev pub NamedOnce : Type 0
NamedOnce = (log : List (List ℕ)) (s : Sent) (m : List ℕ) → Keeps log s →
    Keeps (log_after log s m) (sent_after s m) × (slice_get (log_after log s m) (name_of s m) ≡ Some m)

-- ---- what a receiver reassembles

-- a piece is one of the datagram that was cut under its name
abbrev pub IsPieceOf : (log : List (List ℕ)) → Piece → Type 0
IsPieceOf log p =
    (m : List ℕ) × (slice_get log p.name ≡ Some m) × CanBeCut m × (1160 * p.index < length m) ×
    (p ≡ piece_of p.name m p.index)

-- an unfinished datagram is one that was cut under its name: each part that has come is its part
pub record IsPartOf (log : List (List ℕ)) (u : Unfinished) : Type 0 where
  pub whole : List ℕ
  pub cut : slice_get log u.name ≡ Some whole
  pub size_is : u.size ≡ length whole
  pub count_is : length u.parts ≡ count_of (length whole)
  pub each : (k : ℕ) → k < length u.parts → is_present (slice_index_or u.parts k []) ≡ true →
      slice_index_or u.parts k [] ≡ part_of whole k

-- and each of them
abbrev pub ArePartsOf : (log : List (List ℕ)) → List Unfinished → Type 0
ArePartsOf log us = All (IsPartOf log) us

-- where pieces are those of datagrams that a sender cut, what is reassembled is the datagram that was cut under that
-- name, byte for byte, whatever pieces came, in whatever order and how often
abbrev pub JoinedWasCut : Type 0
JoinedWasCut = (log : List (List ℕ)) (us : List Unfinished) (p : Piece) (now : ℕ) → ArePartsOf log us →
    IsPieceOf log p → ArePartsOf log (unfinished_after us p now) ×
    IfSome (finished_by us p now) (λ m. slice_get log p.name ≡ Some m)

-- each piece of a datagram that was cut under a name is one of it
abbrev pub CutIsPiece : Type 0
CutIsPiece = (log : List (List ℕ)) (name : ℕ) (m : List ℕ) (k : ℕ) → slice_get log name ≡ Some m → CanBeCut m →
    1160 * k < length m → IsPieceOf log (piece_of name m k)

-- and all that stays so as more datagrams are cut
abbrev pub LogGrows : Type 0
LogGrows = (log : List (List ℕ)) (m : List ℕ) (us : List Unfinished) (p : Piece) →
    (ArePartsOf log us → ArePartsOf (log ++ m ∷ []) us) × (IsPieceOf log p → IsPieceOf (log ++ m ∷ []) p)

-- a report changes nothing of it
abbrev pub ReportKeeps : Type 0
ReportKeeps = (log : List (List ℕ)) (us : List Unfinished) (now : ℕ) → ArePartsOf log us →
    ArePartsOf log (due_after now us)

-- the parts of a datagram one behind the other are the datagram
abbrev pub CutIsJoined : Type 0
CutIsJoined = (m : List ℕ) (parts : List (List ℕ)) → length parts ≡ count_of (length m) →
    ((k : ℕ) → k < length parts → slice_index_or parts k [] ≡ part_of m k) → joined parts ≡ m

-- ---- every piece, in any order

-- whether a number is in a list
abbrev pub is_among : ℕ → List ℕ → Bool
is_among k ks = list_any (λ j. j == k) ks

-- the parts of a datagram with these numbers have come, and no others
pub record HasCome (m : List ℕ) (ks : List ℕ) (u : Unfinished) : Type 0 where
  pub count_is : length u.parts ≡ count_of (length m)
  pub each : (k : ℕ) → k < length u.parts → slice_index_or u.parts k [] ≡ (if is_among k ks then part_of m k else [])

-- the unfinished datagram with a name and a length
abbrev pub unfinished_with : List Unfinished → (name size : ℕ) → Option Unfinished
unfinished_with us name size = find (λ u. (u.name == name) && (u.size == size)) us

-- so it is with the datagram of a name; it is no unfinished one where no part of it has come
abbrev pub Pending : List Unfinished → (name : ℕ) → (m : List ℕ) → (ks : List ℕ) → Type 0
Pending us name m [] = unfinished_with us name (length m) ≡ None
Pending us name m (k ∷ ks) =
    (u : Unfinished) × (unfinished_with us name (length m) ≡ Some u) × HasCome m (k ∷ ks) u

-- with the piece that is the last of a datagram to come the datagram is given, and with each other it isn't, and one
-- part more has come: so it is given once all pieces have come, in whatever order, and no earlier
abbrev pub PiecesAreJoined : Type 0
PiecesAreJoined = (us : List Unfinished) (name : ℕ) (m ks : List ℕ) (k now : ℕ) → CanBeCut m →
    1160 * k < length m → Pending us name m ks →
    (((j : ℕ) → 1160 * j < length m → is_among j (k ∷ ks) ≡ true) → finished_by us (piece_of name m k) now ≡ Some m) ×
    ((j : ℕ) → 1160 * j < length m → is_among j (k ∷ ks) ≡ false →
    (finished_by us (piece_of name m k) now ≡ None) ×
    Pending (unfinished_after us (piece_of name m k) now) name m (k ∷ ks))

-- ---- how much memory is taken

-- at most 8 unfinished datagrams, of 29 parts at most, of 1,160 bytes at most
abbrev pub is_bounded : List Unfinished → Bool
is_bounded us =
    nat_le (length us) 8 &&
    list_all (λ u. nat_le (length u.parts) 29 && list_all (λ part. nat_le (length part) 1160) u.parts) us

abbrev pub StaysBounded : Type 0
StaysBounded = (us : List Unfinished) (p : Piece) (now : ℕ) → IsFormed p → is_bounded us ≡ true →
    is_bounded (unfinished_after us p now) ≡ true
