-- Who is heard, and what is written about that on standard error. Times are in microseconds.
use Rattle.std.specs.Prelude.{ℕ, zero, suc, ◌+◌, ◌-◌, ◌*◌, ◌/◌, ◌==◌, ◌&&◌, ◌||◌, Bool, true, false, not, List, []}
use Rattle.std.specs.Prelude.{◌∷◌, length}
use Rattle.std.specs.Prelude.{min, nat_le, nat_lt, Option, Some, None, is_some, slice_get, slice_set, unwrap_or}
use Rattle.std.specs.Prelude.{if◌then◌else◌}
use Rattle.px_wire.specs.declared.head.Head.{Head}
use Rattle.node_loop.specs.declared.counts.RoundCounts.{RoundCounts}
use Rattle.node_control.specs.declared.hearing.Hearing.{Hearing}
use Rattle.node_control.specs.declared.hearing.Said.{Said}
use Rattle.node_control.specs.declared.hearing.Said.TheVariants.{Nothing, Alone, Again}
use Rattle.node_control.specs.inner.Rows.{up_to_max}

-- fewer whole seconds have passed since then
abbrev pub is_within : (since now seconds : ℕ) → Bool
is_within since now seconds = nat_lt ((now - since) / 1000000) seconds

abbrev pub is_recent : (now : ℕ) → Option ℕ → Bool
is_recent now None = false
is_recent now (Some since) = is_within since now 10

-- how many of the members below k, but for this one, were heard lately
abbrev pub heard_below : (me now : ℕ) → (heard : List ℕ) → (k : ℕ) → ℕ
heard_below me now heard zero = 0
heard_below me now heard (suc k) =
    if not (k == me) && is_recent now (slice_get heard k) then min (heard_below me now heard k + 1) 255
    else heard_below me now heard k

abbrev pub count_heard : (now : ℕ) → Hearing → ℕ
count_heard now h = heard_below h.m.me now h.heard h.m.members

-- with itself they are no majority
abbrev pub is_alone : (now : ℕ) → Hearing → Bool
is_alone now h = nat_le (2 * (count_heard now h + 1)) h.m.members

-- what is written once a majority is heard no longer, or again; the latter unless only warnings are written
abbrev pub said_by : (alone said quiet : Bool) → (heard : ℕ) → Said
said_by true true quiet n = Nothing
said_by true false quiet n = Alone n
said_by false true true n = Nothing
said_by false true false n = Again
said_by false false quiet n = Nothing

abbrev pub said_at : (now : ℕ) → Hearing → Said
said_at now h = said_by (is_alone now h) h.is_said h.is_quiet (count_heard now h)

-- that is noted
abbrev pub judged : (now : ℕ) → Hearing → Hearing
judged now h = record h { is_said = is_alone now h }

-- ---- messages

-- a message with this head came: of another member, or of a sender that is no member
abbrev pub heard_by : (now : ℕ) → Head → Hearing → Hearing
heard_by now head h =
    if head.from == h.m.me then h
    else if nat_le h.m.members head.from then record h { others = up_to_max (h.others + 1) }
    else record h { heard = slice_set h.heard head.from now; others = 0 }

-- it is written once that a member's message is of a position near the end of the log
abbrev pub is_of_other : Head → Hearing → Bool
is_of_other head h = not (head.from == h.m.me) && nat_lt head.from h.m.members

abbrev pub logs_end : Head → Hearing → Bool
logs_end head h =
    is_of_other head h && (nat_le 900000 (unwrap_or head.position 0) && not h.is_ending)

abbrev pub with_end : Head → Hearing → Hearing
with_end head h = record h { is_ending = h.is_ending || logs_end head h }

abbrev pub all_heard : (now : ℕ) → List Head → Hearing → Hearing
all_heard now [] h = h
all_heard now (head ∷ heads) h = all_heard now heads (heard_by now head (with_end head h))

-- datagrams that came and are no messages, nor answered
abbrev pub others_in : (messages : ℕ) → RoundCounts → ℕ
others_in messages c = c.came - up_to_max (c.answered + messages)

-- what is known after a round in which messages with these heads came
abbrev pub after_round : (now : ℕ) → List Head → RoundCounts → Hearing → Hearing
after_round now heads c h =
    all_heard now heads (record h { others = up_to_max (h.others + others_in (length heads) c) })

-- ---- what others have

-- it is written that the node has caught up, if it lacked for long what others have
abbrev pub logs_caught_up : (lacks : Bool) → (now : ℕ) → (since : Option ℕ) → (quiet : Bool) → Bool
logs_caught_up lacks now None quiet = false
logs_caught_up lacks now (Some since) quiet = not lacks && (not quiet && not (is_within since now 3))

-- since when it lacks it
abbrev pub lacking_since : (lacks : Bool) → (now : ℕ) → (since : Option ℕ) → Option ℕ
lacking_since false now since = None
lacking_since true now None = Some now
lacking_since true now (Some since) = Some since

-- that is noted
abbrev pub with_lack : (lacks : Bool) → (now : ℕ) → Hearing → Hearing
with_lack lacks now h = record h { lacking = lacking_since lacks now h.lacking }

-- what is known after a round in which messages with these heads came, once it lacks what others have or doesn't
abbrev pub after_look : (lacks : Bool) → (now : ℕ) → List Head → RoundCounts → Hearing → Hearing
after_look lacks now heads c h = with_lack lacks now (judged now (after_round now heads c h))
