-- Which client is let go: one whose request comes too late, one that is silent, and for another that comes the one that
-- has been left alone longest. Times are in microseconds.
use Rattle.std.specs.Prelude.{ℕ, ◌+◌, ◌==◌, ◌&&◌, ◌||◌, Bool, false, not, List, [], ◌∷◌, ◌++◌, length}
use Rattle.std.specs.Prelude.{take, drop, min, nat_le, nat_lt, Option, Some, None, slice_get, unwrap_or}
use Rattle.std.specs.List.{prefix_len}
use Rattle.http_server.specs.Connection.{history}
use Rattle.http_server.specs.History.{IsDone}
use Rattle.node_control.specs.declared.client.Client.{Client}
use Rattle.node_control.specs.inner.Ending.{has_more}
use Rattle.node_control.specs.inner.Rows.{up_to_max}

-- since when it has been left alone: since a request has been coming, or else since it moved a byte last
abbrev pub idle_since : Client → ℕ
idle_since c = unwrap_or c.began c.moved

-- this long ago
abbrev pub has_passed : (time now : ℕ) → Option ℕ → Bool
has_passed time now None = false
has_passed time now (Some since) = nat_lt (up_to_max (since + time)) now

-- a request has been coming for too long
abbrev pub is_late : (now : ℕ) → Client → Bool
is_late now c = has_passed 10000000 now c.began

-- it has moved no byte for so long, or was served as often as may be and has all
abbrev pub is_quiet : (now : ℕ) → Client → Bool
is_quiet now c = has_passed 30000000 now (Some c.moved)

abbrev pub is_spent : Client → Bool
is_spent c = nat_le 1000 c.served && not (has_more c)

-- HTTP has nothing more to do there
abbrev pub IsDoneThere : Client → Type 0
IsDoneThere c = IsDone (history c.connection)

-- ---- among some

-- the earliest of these times, n where there is none before it
abbrev pub earliest : (n : ℕ) → List Client → ℕ
earliest n [] = n
earliest n (c ∷ cs) = earliest (min n (idle_since c)) cs

abbrev pub first_time : List Client → ℕ
first_time cs = earliest 18446744073709551615 cs

-- the place of the first that has been left alone for the longest time
abbrev pub most_silent : List Client → ℕ
most_silent cs = prefix_len (λ c. not (idle_since c == first_time cs)) cs

-- without the one at a place
abbrev pub without : (place : ℕ) → List Client → List Client
without place cs = take place cs ++ drop (place + 1) cs

-- whether the one at a place has been left alone for a second
abbrev pub is_silent : (now : ℕ) → Option Client → Bool
is_silent now None = false
is_silent now (Some c) = has_passed 1000000 now (Some (idle_since c))

-- there is room for one more: fewer are there than may be, or one is silent
abbrev pub has_room : (now most : ℕ) → List Client → Bool
has_room now most cs = nat_le (length cs) most || is_silent now (slice_get cs (most_silent cs))
