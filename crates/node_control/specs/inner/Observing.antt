-- What is seen of a node in a round, and what is counted of it then.
use Rattle.std.specs.Prelude.{◌≡◌, ℕ, ◌+◌, ◌-◌, ◌/◌, ◌==◌, ◌&&◌, ◌||◌, Bool, true, false, not, List, [], ◌∷◌, length}
use Rattle.std.specs.Prelude.{map}
use Rattle.std.specs.Prelude.{max, nat_le, nat_lt, Option, if◌then◌else◌}
use Rattle.px_wire.specs.Heads.{is_nack, learned_below, proposal_in}
use Rattle.px_wire.specs.declared.head.Head.{Head}
use Rattle.node_loop.specs.declared.counts.RoundCounts.{RoundCounts}
use Rattle.node_loop.specs.declared.running.Progress.{Progress}
use Rattle.node_requests.specs.declared.counters.Counters.{Counters}
use Rattle.node_control.specs.declared.hearing.Hearing.{Hearing}
use Rattle.node_control.specs.declared.observer.Observer.{Observer}
use Rattle.node_control.specs.declared.observer.Row.{Row}
use Rattle.node_control.specs.inner.Hearing.{after_look}
use Rattle.node_control.specs.inner.Rows.{up_to_max, sampled, reported, sent_more, heard_from, is_due}
use Rattle.node_control.specs.inner.Watching.{is_proposed, proposed_then, stood_since, seconds_since}

-- what was seen by now: the members' rows, what was counted in all, how many datagrams came in the round, the time,
-- when what members show was kept last, the front and since when it hasn't moved, the proposal of another member, how
-- often a proposal was refused by a higher round, and the most bytes of a datagram that fits no packet, since the front
-- moved; and who is heard
pub record Seen : Type 0 where
  pub rows : List Row
  pub unsent : ℕ
  pub dropped : ℕ
  pub ignored : ℕ
  pub came : ℕ
  pub now : ℕ
  pub sampled_at : ℕ
  pub front : ℕ
  pub since : Option ℕ
  pub proposed : Option (ℕ × ℕ)
  pub outrun : ℕ
  pub large : ℕ
  pub has_packets : Bool
  pub hearing : Hearing

-- the code's
abbrev pub seen_of : Observer → Seen
seen_of o = record {
  rows = o.rows.items;
  unsent = o.unsent;
  dropped = o.dropped;
  ignored = o.ignored;
  came = o.came;
  now = o.now;
  sampled_at = o.sampled;
  front = o.front;
  since = o.since;
  proposed = o.proposed;
  outrun = o.outrun;
  large = o.large;
  has_packets = o.has_packets;
  hearing = o.hearing;
}

-- ---- as a round begins

-- what members show is kept, if that is due
abbrev pub kept_at : (now : ℕ) → Seen → Seen
kept_at now s = if is_due s.sampled_at now then record s { sampled_at = now; rows = map sampled s.rows } else s

-- commands wait here, or at a member that proposes one
abbrev pub waits_at : (front : ℕ) → (waiting : Bool) → Seen → Bool
waits_at front waiting s = waiting || is_proposed front s.now s.proposed

-- the node's front, and since when it hasn't moved; what is counted of that begins anew where the front moved
abbrev pub stood_at : (front : ℕ) → (waiting : Bool) → Seen → Seen
stood_at front waiting s =
    if front == s.front then record s { since = stood_since false (waits_at front waiting s) s.since s.now }
    else record s {
      front = front;
      since = stood_since true (waits_at front waiting s) s.since s.now;
      outrun = 0;
      large = 0;
    }

-- a round begins at this time, of a node with this front at which commands wait or don't
abbrev pub begun : (now front : ℕ) → (waiting : Bool) → Seen → Seen
begun now front waiting s = stood_at front waiting (kept_at now (record s { now = now }))

-- ---- what went over the wire

-- a message that another member sent: its proposal, and whether it refuses one
abbrev pub noted : Head → Seen → Seen
noted h s =
    if h.from == h.to then s else record s {
      proposed = proposed_then s.front s.now (proposal_in h) s.proposed;
      outrun = if is_nack h.kind then up_to_max (s.outrun + 1) else s.outrun;
    }

-- a message came of the member whose row it is
abbrev pub heard : Head → Seen → Seen
heard h s = record s { rows = map (heard_from h.from (learned_below h) s.now) s.rows }

abbrev pub all_noted : List Head → Seen → Seen
all_noted [] s = s
all_noted (h ∷ hs) s = all_noted hs (noted h (heard h s))

-- datagrams that came and are neither messages nor dropped nor answered
abbrev pub ignored_in : (messages : ℕ) → RoundCounts → ℕ
ignored_in messages c = c.came - up_to_max (up_to_max (c.dropped + c.answered) + messages)

-- what was counted in the round, in which that many messages were taken
abbrev pub in_all : (messages : ℕ) → RoundCounts → Seen → Seen
in_all messages c s = record s {
  came = c.came;
  unsent = up_to_max (s.unsent + c.unsent);
  dropped = up_to_max (s.dropped + c.dropped);
  ignored = up_to_max (s.ignored + ignored_in messages c);
  large = if nat_le 1401 c.longest && not s.has_packets then max s.large c.longest else s.large;
}

-- what was handed over for each member
abbrev pub sent_in : RoundCounts → Seen → Seen
sent_in c s = record s { rows = map (sent_more c.sent) s.rows }

-- messages with these heads were taken, and this went over the wire
abbrev pub counted : List Head → RoundCounts → Seen → Seen
counted heads c s = all_noted heads (sent_in c (in_all (length heads) c s))

-- who is heard is noted of them, and whether the node lacks what others have then
abbrev pub listened : (lacks : Bool) → List Head → RoundCounts → Seen → Seen
listened lacks heads c s = record s { hearing = after_look lacks s.now heads c s.hearing }

-- ---- what is reported

-- What is counted for clients after a round with this result. A turn that neither received a datagram nor is to be
-- followed by a wait was a tick.
pub record IsShown (s : Seen) (made : Progress) (old new : Counters) : Type 0 where
  pub up : new.up ≡ s.now / 1000000
  pub stood : new.stood ≡ seconds_since s.since s.now
  pub outrun : new.outrun ≡ s.outrun
  pub large : new.large ≡ s.large
  pub unsent : new.unsent ≡ s.unsent
  pub dropped : new.dropped ≡ s.dropped
  pub ignored : new.ignored ≡ s.ignored
  pub turns : new.turns ≡ up_to_max (old.turns + made.turns)
  pub ticks : new.ticks ≡ (if made.wait == 0 && nat_lt s.came made.turns then up_to_max (old.ticks + 1) else old.ticks)
  pub peers : length old.peers.items ≡ length s.rows → new.peers.items ≡ map (reported s.now) s.rows
  pub members : new.members ≡ old.members
  pub clients : new.clients ≡ old.clients
  pub served : new.served ≡ old.served
  pub refused : new.refused ≡ old.refused
  pub unavailable : new.unavailable ≡ old.unavailable

-- what the loop counts of the node stays so while clients are answered
pub record AreKept (old new : Counters) : Type 0 where
  pub up : new.up ≡ old.up
  pub peers : new.peers ≡ old.peers
  pub stood : new.stood ≡ old.stood
  pub outrun : new.outrun ≡ old.outrun
  pub large : new.large ≡ old.large
  pub members : new.members ≡ old.members
  pub unsent : new.unsent ≡ old.unsent
  pub dropped : new.dropped ≡ old.dropped
  pub ignored : new.ignored ≡ old.ignored
  pub turns : new.turns ≡ old.turns
  pub ticks : new.ticks ≡ old.ticks
