-- What a node's timer is given of time.
use Rattle.std.specs.Prelude.{◌≡◌, ◌-◌, ◌/◌, ◌^◌, ℕ, List, [], ◌∷◌, map, min, Option, Some, None}
use Rattle.std.specs.Time.{instant_nanos}
use Rattle.std.specs.declared.time.Instant.{Instant}
use Rattle.px_transport.specs.Wires.{Adds}
use Rattle.node_loop.specs.Timing.{TimerEvent}

-- what a clock gives that is read, which may be nothing
abbrev pub Reading : Type 0
Reading = Option Instant

-- the microseconds from one reading to another; none where one of them is missing
abbrev pub between : (start now : Reading) → ℕ
between None now = 0
between (Some start) None = 0
between (Some start) (Some now) = min ((instant_nanos now - instant_nanos start) / 1000) (2 ^ 64 - 1)

-- the times at which a timer was given what is seen, in order
abbrev pub times_in : List TimerEvent → List ℕ
times_in [] = []
times_in (TimerEvent.Looks now view tick ∷ ts) = now ∷ times_in ts
times_in (TimerEvent.Sends now ∷ ts) = times_in ts
times_in (TimerEvent.Repeats now is_due ∷ ts) = times_in ts
times_in (TimerEvent.Ends ∷ ts) = times_in ts

-- it was given what is seen at these times
abbrev pub LooksAt : (times : List ℕ) → (before after : List TimerEvent → Type 0) → Type 0
LooksAt times before after = (more : List TimerEvent) × (times_in more ≡ times) × Adds before after more

-- The clock was read once for each time that the timer was given what is seen, and each of these is how long it was
-- then since the start.
-- Example: two rounds: two readings.
abbrev pub IsTimed : (start : Reading) → (was is : List Reading → Type 0) →
    (before after : List TimerEvent → Type 0) → Type 0
IsTimed start was is before after =
    (rs : List Reading) × Adds was is rs × LooksAt (map (between start) rs) before after

-- The clock was read at the start, and then so.
abbrev pub IsTimedRun : (was is : List Reading → Type 0) → (before after : List TimerEvent → Type 0) → Type 0
IsTimedRun was is before after = (start : Reading) × (rs : List Reading) × Adds was is (start ∷ rs)
    × LooksAt (map (between start) rs) before after
