-- Worked examples.
use Rattle.std.specs.Prelude.{◌≡◌, ℕ, List, [], ◌∷◌, Some, None, refl}
use Rattle.px_packet.specs.Pieces.{piece_of, piece_bytes, count_of}
use Rattle.px_packet.specs.Held.{bits_of}
use Rattle.px_packet.specs.Reassembling.{Unfinished, empty_of, with_part, reported, due_at}

-- three bytes under the name 7 are one piece
pub a_piece : piece_bytes (piece_of 7 (97 ∷ 98 ∷ 99 ∷ []) 0) ≡ 0 ∷ 0 ∷ 0 ∷ 7 ∷ 0 ∷ 3 ∷ 0 ∷ 97 ∷ 98 ∷ 99 ∷ []
a_piece = refl

-- 1,160 bytes have one piece, one more has two, and the longest datagram has 29
pub one_piece : count_of 1160 ≡ 1
one_piece = refl

pub two_pieces : count_of 1161 ≡ 2
two_pieces = refl

pub all_pieces : count_of 33640 ≡ 29
all_pieces = refl

-- of three parts the first and the last have come
pub first_and_last : bits_of ((1 ∷ []) ∷ [] ∷ (2 ∷ []) ∷ []) ≡ 5
first_and_last = refl

-- a datagram of two pieces of which one came at 100 ms
abbrev after : (index : ℕ) → Unfinished
after index =
    let p = record (piece_of 7 [] 0) { size = 1161; index = index; part = 1 ∷ [] } in
    with_part (empty_of p 100) p 100

-- it is reported after 20 ms; after 5 ms where the last came; and again after 50 ms, and 100 ms after that
pub first_came : due_at (after 0) ≡ Some 120
first_came = refl

pub last_came : due_at (after 1) ≡ Some 105
last_came = refl

pub reported_once : due_at (reported 105 (after 1)) ≡ Some 155
reported_once = refl

pub reported_twice : due_at (reported 155 (reported 105 (after 1))) ≡ Some 255
reported_twice = refl

-- six times in all
pub no_more : due_at (record (after 1) { reports = 6 }) ≡ None
no_more = refl
