-- The start that follows a start.
use Rattle.std.specs.Prelude.{ℕ, ◌+◌, ◌==◌, Option, Some, None, min, max, if◌then◌else◌}
use Rattle.px_packet.specs.declared.start.Start.{Start}

-- the start of a store after this one, at a time in seconds since 1970: its number is above the last one, and the time
-- at least
abbrev pub next_start : (last : Start) → (seconds salt : ℕ) → Option Start
next_start last seconds salt =
    if last.number == 0xFFFFFFFF then None
    else Some (record { number = max (min seconds 0xFFFFFFFF) (last.number + 1); salt = salt })
