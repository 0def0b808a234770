-- What a sender keeps of the datagrams that it cut for one receiver.
use Rattle.std.specs.Prelude.{ℕ, ◌+◌, ◌-◌, ◌<◌, ◌≤◌, ◌==◌, Bool, List, [], ◌∷◌, ◌++◌, length, drop, Option}
use Rattle.std.specs.Prelude.{option_map, nat_lt, bytes_eq}
use Rattle.std.specs.Prelude.{slice_index_or, slice_get, if◌then◌else◌}
use Rattle.std.specs.List.{position_or_len}

-- how many datagrams were cut, and the last of them, each with its name
pub record Sent : Type 0 where
  pub count : ℕ
  pub cuts : List (ℕ × List ℕ)

-- it can be cut: it isn't empty, and has no more bytes than 29 pieces
pub record CanBeCut (m : List ℕ) : Type 0 where
  pub some : 0 < length m
  pub short : length m ≤ 33640

-- the place of a datagram that is kept, byte for byte the same, or the end
abbrev pub place_of : List (ℕ × List ℕ) → List ℕ → ℕ
place_of cuts m = position_or_len (λ c. bytes_eq c.1 m) cuts

abbrev pub is_kept : Sent → List ℕ → Bool
is_kept s m = nat_lt (place_of s.cuts m) (length s.cuts)

-- the name of a datagram: that which it has where it is kept, else how many were cut before it
abbrev pub name_of : Sent → List ℕ → ℕ
name_of s m = if is_kept s m then (slice_index_or s.cuts (place_of s.cuts m) (0, [])).0 else s.count

-- the eight that were cut last
abbrev pub latest : List (ℕ × List ℕ) → List (ℕ × List ℕ)
latest cuts = drop (length cuts - 8) cuts

-- what is kept after a datagram was cut
abbrev pub sent_after : Sent → List ℕ → Sent
sent_after s m =
    if is_kept s m then s else record { count = s.count + 1; cuts = latest (s.cuts ++ (s.count, m) ∷ []) }

-- the datagram with a name, while it is kept
abbrev pub cut_with : Sent → ℕ → Option (List ℕ)
cut_with s name = option_map (λ c. c.1) (slice_get s.cuts (position_or_len (λ c. c.0 == name) s.cuts))
