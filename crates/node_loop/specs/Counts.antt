-- What is counted of what goes over the wire in a round.
use Rattle.std.specs.Prelude.{◌≡◌, ◌⊎◌, ℕ, ◌+◌, ◌==◌, Bool, true, false, List, [], ◌∷◌, length, max, min, nat_lt}
use Rattle.std.specs.Prelude.{replicate}
use Rattle.std.specs.Prelude.{slice_index, slice_set, if◌then◌else◌}
use Rattle.px_model.specs.Law.{Among}
use Rattle.px_model.specs.Spelling.{Bytes}
use Rattle.px_replica.specs.declared.datagram.Datagram.{Datagram}
use Rattle.px_wire.specs.Message.{Group}
use Rattle.node_loop.specs.Resending.{IsOutside}
use Rattle.node_loop.specs.declared.counts.RoundCounts.{RoundCounts}

-- one more, up to 2^32 - 1
abbrev pub one_more : ℕ → ℕ
one_more n = min (n + 1) 4294967295

-- nothing went over the wire of this member
abbrev pub nothing_of : (me : ℕ) → RoundCounts
nothing_of me = record {
  me = me;
  came = 0;
  dropped = 0;
  answered = 0;
  unsent = 0;
  sent = replicate 15 0;
  longest = 0;
}

-- a datagram of n bytes came; one of 0 bytes is in place of one that was dropped
abbrev pub one_in : (bytes : ℕ) → RoundCounts → RoundCounts
one_in n c = record c { came = one_more c.came; dropped = if n == 0 then one_more c.dropped else c.dropped }

-- A datagram that came was passed over: it is of no member, where such aren't heard, and was dropped; or it came
-- before, byte for byte, and was answered.
abbrev pub PassedOver : Group → (me : ℕ) → (hears_asks : Bool) → (before : List Bytes) → Bytes → (c d : RoundCounts) →
    Type 0
PassedOver g me hears before bytes c d =
    ((hears ≡ false) × IsOutside g me bytes × (d ≡ record c { dropped = one_more c.dropped })) ⊎
    (Among before bytes × (d ≡ record c { answered = one_more c.answered }))

-- one of n bytes was handed over, for a member or for somebody else
abbrev pub handed_to : (is_member : Bool) → (to bytes : ℕ) → RoundCounts → RoundCounts
handed_to true to n c = record c {
  sent = slice_set c.sent to (one_more (slice_index c.sent to));
  longest = if to == c.me then c.longest else max c.longest n;
}
handed_to false to n c = c

-- one of n bytes was handed over, and was sent or not
abbrev pub one_out : (to bytes : ℕ) → (is_sent : Bool) → RoundCounts → RoundCounts
one_out to n is_sent c =
    handed_to (nat_lt to 15) to n (record c { unsent = if is_sent then c.unsent else one_more c.unsent })

-- the counts without those that weren't sent
abbrev pub but_unsent : RoundCounts → RoundCounts
but_unsent c = record c { unsent = 0 }

-- these were handed over, whether they were sent or not
abbrev pub all_out : List Datagram → RoundCounts → RoundCounts
all_out [] c = c
all_out (d ∷ out) c = all_out out (one_out d.to (length d.bytes.items) true c)
