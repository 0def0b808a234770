-- When a member's clock ticks, as its timer returns. Times are in microseconds.
use Rattle.std.specs.Prelude.{◌≡◌, ◌≤◌, ◌+◌, ◌-◌, ◌*◌, ◌/◌, ◌^◌, ◌&&◌, ◌||◌, ℕ, Bool, false, max, min, nat_le, nat_lt}
use Rattle.std.specs.Prelude.{if◌then◌else◌}
use Rattle.node_loop.specs.declared.tick_timer.TickTimer.{TickTimer}
use Rattle.node_loop.specs.declared.timer.Action.{Action}
use Rattle.node_loop.specs.declared.timer.Action.TheVariants as actions

-- the time that is so much later, in 64 bits
abbrev pub later : (now time : ℕ) → ℕ
later now time = min (now + time) (2 ^ 64 - 1)

-- where the clock ticks now
abbrev pub IfTicks : Action → Type 0 → Type 0
IfTicks actions.Tick holds = holds
IfTicks (actions.Wait milliseconds) holds = Unit {0}

-- where it doesn't
abbrev pub IfWaits : Action → Type 0 → Type 0
IfWaits actions.Tick holds = Unit {0}
IfWaits (actions.Wait milliseconds) holds = holds

-- the front when it was looked at last
abbrev pub front_of : TickTimer → ℕ
front_of p = p.front

-- when the clock ticked last
abbrev pub ticked_of : TickTimer → ℕ
ticked_of p = p.ticked

-- when the front moved last, or it was first seen that entries are lacking
abbrev pub moved_of : TickTimer → ℕ
moved_of p = p.moved

-- before then no waiting command is proposed
abbrev pub hold_of : TickTimer → ℕ
hold_of p = p.hold

-- before then the clock doesn't tick again, unless the front moves
abbrev pub rest_of : TickTimer → ℕ
rest_of p = p.rest

-- how long an answer takes, as was measured
abbrev pub answer_of : TickTimer → ℕ
answer_of p = p.answer

-- the longest time that an attempt, or what is lacked, is waited for: 4 s, or four times what was measured and some
-- more
abbrev pub patience_of : TickTimer → ℕ
patience_of p = max 4000000 (max p.trip p.answer * 4 + (20000 + 5000 * p.me))

-- by when the clock ticks at the latest
abbrev pub latest_of : TickTimer → ℕ
latest_of p = max p.hold (max p.moved p.ticked + patience_of p)

-- the timer of this member at its start: it saw nothing, waits for nothing, proposes nothing, and isn't to end
abbrev pub IsStarted : (me : ℕ) → TickTimer → Type 0
IsStarted me p = (p.me ≡ me) × (p.front ≡ 0) × (p.ticked ≡ 0) × (p.moved ≡ 0) × (p.hold ≡ 0) × (p.rest ≡ 0)
    × (p.is_proposing ≡ false) × (p.is_behind ≡ false) × (p.is_ending ≡ false)

-- whether it proposes
abbrev pub is_proposing_of : TickTimer → Bool
is_proposing_of p = p.is_proposing

-- whether entries are lacking that others have
abbrev pub is_behind_of : TickTimer → Bool
is_behind_of p = p.is_behind

-- whether it is to end
abbrev pub is_ending_of : TickTimer → Bool
is_ending_of p = p.is_ending

-- it lacks entries, or is to end, as before
abbrev pub IsAsBefore : (before after : TickTimer) → Type 0
IsAsBefore p q = (q.is_behind ≡ p.is_behind) × (q.is_ending ≡ p.is_ending)

-- nothing of when the clock ticks next has changed
abbrev pub AreTimes : (before after : TickTimer) → Type 0
AreTimes p q =
    (q.hold ≡ p.hold) × (q.rest ≡ p.rest) × (q.ticked ≡ p.ticked) × (q.moved ≡ p.moved) × (q.front ≡ p.front)

-- an answer took this time: it counts half, from 500 us to 4 s
abbrev pub answered : (time answer : ℕ) → ℕ
answered time answer = answer / 2 + min (max time 500) 4000000 / 2

-- when what was sent is sent again: behind one and a half answers and 5 ms, from the 16th time on twice as long and so
-- on, and from the 64th never
abbrev pub repeat_at : TickTimer → ℕ
repeat_at p =
    if nat_le 64 p.repeats then 2 ^ 64 - 1
    else later p.repeated (min (later (later p.answer (p.answer / 2)) 5000 * (p.repeats / 16 + 1)) (2 ^ 64 - 1))

-- No command is accepted where the member has just started, where it lacks entries and its front moved, or that was
-- first seen, a while ago at most, and where it is to end.
-- Example: one that is behind at 3 s, and whose front moved at 2 s.
abbrev pub is_listening : TickTimer → (now : ℕ) → Bool
is_listening p now = nat_lt now 200000 || ((p.is_behind && nat_lt now (later p.moved 2000000)) || p.is_ending)
