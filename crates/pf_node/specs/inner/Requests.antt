-- What bounds the numbers of a member's requests.
use Rattle.std.specs.Prelude.{◌≡◌, ℕ, ◌+◌, ◌*◌, ◌<◌, ◌≤◌, List, length, Some, slice_index}
use Rattle.px_model.specs.Node.{Entry, Log}
use Rattle.px_model.specs.Spelling.{Bytes}

-- no request of this member below k has a number above n
abbrev pub AreWithin : Log Bytes → (origin k n : ℕ) → Type 0
AreWithin log origin k n =
    (p : ℕ) → p < k → (e : Entry Bytes) → log p ≡ Some e → e.origin ≡ origin → e.number ≤ n

-- each of these is such a bound for the positions below its stretch's end
abbrev pub AreBounds : Log Bytes → (origin : ℕ) → List ℕ → Type 0
AreBounds log origin bounds =
    (i : ℕ) → i < length bounds → AreWithin log origin (256 * (i + 1)) (slice_index bounds i)
