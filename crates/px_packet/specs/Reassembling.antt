-- What a receiver does with the pieces of one sender.
use Rattle.std.specs.Prelude.{ℕ, ◌+◌, ◌*◌, ◌-◌, ◌^◌, ◌==◌, ◌&&◌, Bool, not, List, [], ◌∷◌, ◌++◌, length, drop}
use Rattle.std.specs.Prelude.{min, replicate}
use Rattle.std.specs.Prelude.{Option, Some, None, nat_le, nat_lt, slice_set, slice_index_or, if◌then◌else◌}
use Rattle.std.specs.List.{list_all, flat_map, remove, position_or_len}
use Rattle.px_packet.specs.Pieces.{Piece, count_of}
use Rattle.px_packet.specs.Held.{is_present, bits_of}
use Rattle.px_packet.specs.declared.held.PiecesHeld.{PiecesHeld}

-- an unfinished datagram: its name, how long it is, its parts in order, of which one that hasn't come is empty, when it
-- is reported next which have come, in milliseconds, and how often that was since the last part came
pub record Unfinished : Type 0 where
  pub name : ℕ
  pub size : ℕ
  pub parts : List (List ℕ)
  pub due : ℕ
  pub reports : ℕ

-- n milliseconds later, up to 2^64 - 1
abbrev pub later : (now : ℕ) → ℕ → ℕ
later now n = min (now + n) (2 ^ 64 - 1)

-- how long after a part it is reported which have come: 5 ms where the last of the datagram has, since those before it
-- were sent first, else 20 ms
abbrev pub pause : List (List ℕ) → ℕ
pause parts = if is_present (slice_index_or parts (length parts - 1) []) then 5 else 20

-- the datagram of a piece, of which nothing has come
abbrev pub empty_of : Piece → (now : ℕ) → Unfinished
empty_of p now =
    record { name = p.name; size = p.size; parts = replicate (count_of p.size) []; due = now; reports = 0 }

-- whether a piece is one of the datagram
abbrev pub is_of : Piece → Unfinished → Bool
is_of p u = (u.name == p.name) && (u.size == p.size)

-- whether the part with this number hasn't come
abbrev pub lacks : Unfinished → ℕ → Bool
lacks u k = nat_lt k (length u.parts) && not (is_present (slice_index_or u.parts k []))

-- the same with these parts, of which one came now
abbrev pub with_parts : Unfinished → (parts : List (List ℕ)) → (now : ℕ) → Unfinished
with_parts u parts now = record u { parts = parts; due = later now (pause parts); reports = 0 }

-- with the part of a piece, if it hadn't come
abbrev pub with_part : Unfinished → Piece → (now : ℕ) → Unfinished
with_part u p now =
    if lacks u p.index then with_parts u (slice_set u.parts p.index p.part) now else u

-- whether all parts have come
abbrev pub is_whole : Unfinished → Bool
is_whole u = list_all is_present u.parts

-- the parts one behind the other
abbrev pub joined : List (List ℕ) → List ℕ
joined parts = flat_map (λ part. part) parts

-- the place of the datagram of a piece, or the end
abbrev pub place_of : List Unfinished → Piece → ℕ
place_of us p = position_or_len (is_of p) us

-- the datagram at a place, with the part of a piece
abbrev pub filled_at : List Unfinished → (i : ℕ) → Piece → (now : ℕ) → Unfinished
filled_at us i p now = with_part (slice_index_or us i (empty_of p now)) p now

-- the datagram at a place, if it has all parts with the piece
abbrev pub given_at : List Unfinished → (i : ℕ) → Piece → (now : ℕ) → Option (List ℕ)
given_at us i p now = if is_whole (filled_at us i p now) then Some (joined (filled_at us i p now).parts) else None

-- the unfinished datagrams after a piece of the one at a place
abbrev pub after_at : List Unfinished → (i : ℕ) → Piece → (now : ℕ) → List Unfinished
after_at us i p now = if is_whole (filled_at us i p now) then remove us i else slice_set us i (filled_at us i p now)

-- a datagram of which this is the first piece that came
abbrev pub first_of : Piece → (now : ℕ) → Unfinished
first_of p now = with_part (empty_of p now) p now

-- that datagram, if it has no other piece
abbrev pub given_first : Piece → (now : ℕ) → Option (List ℕ)
given_first p now = if is_whole (first_of p now) then Some (joined (first_of p now).parts) else None

-- the eight that began last
abbrev pub latest : List Unfinished → List Unfinished
latest us = drop (length us - 8) us

-- the unfinished datagrams after the first piece of one: the one that began first gives way to a ninth
abbrev pub after_first : List Unfinished → Piece → (now : ℕ) → List Unfinished
after_first us p now = if is_whole (first_of p now) then us else latest (us ++ first_of p now ∷ [])

-- the unfinished datagrams after a piece
abbrev pub unfinished_after : List Unfinished → Piece → (now : ℕ) → List Unfinished
unfinished_after us p now =
    if nat_lt (place_of us p) (length us) then after_at us (place_of us p) p now else after_first us p now

-- the datagram of which all parts have come with a piece
abbrev pub finished_by : List Unfinished → Piece → (now : ℕ) → Option (List ℕ)
finished_by us p now =
    if nat_lt (place_of us p) (length us) then given_at us (place_of us p) p now else given_first p now

-- ---- when it is reported which parts have come

-- whether it is reported again: 6 times at most since the last part came
abbrev pub is_open : Unfinished → Bool
is_open u = nat_lt u.reports 6

-- whether it is to be reported now
abbrev pub is_due : (now : ℕ) → Unfinished → Bool
is_due now u = is_open u && nat_le u.due now

-- when it is reported next, if it is
abbrev pub due_at : Unfinished → Option ℕ
due_at u = if is_open u then Some u.due else None

-- the earlier of two times
abbrev pub earlier : Option ℕ → Option ℕ → Option ℕ
earlier None t = t
earlier (Some s) None = Some s
earlier (Some s) (Some t) = Some (min s t)

-- when the first report is due
abbrev pub first_due : List Unfinished → Option ℕ
first_due [] = None
first_due (u ∷ us) = earlier (due_at u) (first_due us)

-- the same, reported now: where no part comes it is reported again, after 50 ms and then each time after 50 ms more, as
-- the report or what it asked for may be lost
abbrev pub reported : (now : ℕ) → Unfinished → Unfinished
reported now u =
    record u { due = later now (50 * (u.reports + 1)); reports = min (u.reports + 1) 255 }

-- the first that is due, if there is one, and what is reported of it
abbrev pub due_held : (now : ℕ) → List Unfinished → Option PiecesHeld
due_held now [] = None
due_held now (u ∷ us) =
    if is_due now u then Some (record { name = u.name; bits = bits_of u.parts }) else due_held now us

-- the unfinished datagrams after that
abbrev pub due_after : (now : ℕ) → List Unfinished → List Unfinished
due_after now [] = []
due_after now (u ∷ us) = if is_due now u then reported now u ∷ us else u ∷ due_after now us
