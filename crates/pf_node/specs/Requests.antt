-- Where a request was learned.
use Rattle.std.specs.Prelude.{ℕ, zero, suc, Bool, false, ◌==◌, ◌&&◌, Option, Some, None, if◌then◌else◌}
use Rattle.px_model.specs.Node.{Entry, Log}
use Rattle.px_model.specs.Spelling.{Bytes}

-- an entry is the request of this member with this number
abbrev pub is_request : (origin number : ℕ) → Option (Entry Bytes) → Bool
is_request origin number None = false
is_request origin number (Some e) = (e.origin == origin) && (e.number == number)

-- the last position below k at which the request was learned
abbrev pub place_below : Log Bytes → (origin number : ℕ) → (k : ℕ) → Option ℕ
place_below log origin number zero = None
place_below log origin number (suc k) =
    if is_request origin number (log k) then Some k else place_below log origin number k
