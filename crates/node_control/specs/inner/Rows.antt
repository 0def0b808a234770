-- What is counted of the other members, a row for each.
use Rattle.std.specs.Prelude.{ℕ, ◌+◌, ◌-◌, ◌^◌, ◌==◌, Bool, List, [], ◌∷◌, Option, Some, None, map, max, min, nat_le}
use Rattle.std.specs.Prelude.{if◌then◌else◌, option_map, slice_get, slice_index}
use Rattle.px_wire.specs.declared.head.Head.{Head}
use Rattle.px_wire.specs.Heads.{learned_below}
use Rattle.node_requests.specs.declared.counters.PeerCounters.{PeerCounters}
use Rattle.node_control.specs.declared.observer.Row.{Row}
use Rattle.node_control.specs.inner.Watching.{seconds_since}

-- a sum, up to 2^64 - 1
abbrev pub up_to_max : ℕ → ℕ
up_to_max n = min n (2 ^ 64 - 1)

-- whether a second has passed since what members showed was kept last
abbrev pub is_due : (last now : ℕ) → Bool
is_due last now = nat_le (up_to_max (last + 1000000)) now

-- what a member shows is kept beside what it had shown the two times before
unfoldable pub sampled : Row → Row
sampled r = record r { earlier = r.shown ∷ (slice_index r.earlier 0 ∷ (slice_index r.earlier 1 ∷ [])) }

-- what is reported of a member: whole seconds since it was heard, and what it had shown three looks ago
abbrev pub reported : (now : ℕ) → Row → PeerCounters
reported now r = record {
  node = r.node;
  heard = option_map (λ at. seconds_since (Some at) now) r.heard;
  datagrams_in = r.datagrams_in;
  datagrams_out = r.datagrams_out;
  shown = slice_index r.earlier 2;
}

-- n datagrams were handed over for it
abbrev pub sent_some : Option ℕ → Row → Row
sent_some None r = r
sent_some (Some n) r = record r { datagrams_out = up_to_max (r.datagrams_out + n) }

abbrev pub sent_more : (sent : List ℕ) → Row → Row
sent_more sent r = sent_some (slice_get sent r.node) r

-- a datagram of a member came, which shows this
abbrev pub heard_from : (from shown now : ℕ) → Row → Row
heard_from from shown now r =
    if r.node == from then record r {
      heard = Some now;
      datagrams_in = up_to_max (r.datagrams_in + 1);
      shown = max r.shown shown;
    }
    else r

-- messages with these heads came, one after the other
abbrev pub rows_after : (now : ℕ) → List Head → List Row → List Row
rows_after now [] rows = rows
rows_after now (h ∷ heads) rows = rows_after now heads (map (heard_from h.from (learned_below h) now) rows)
