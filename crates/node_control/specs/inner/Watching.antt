-- What is reported of a node's state, from what came over its wire.
use Rattle.std.specs.Prelude.{ℕ, ◌-◌, ◌/◌, ◌==◌, ◌&&◌, Bool, true, false, List, [], ◌∷◌, Option, Some, None}
use Rattle.std.specs.Prelude.{nat_le, nat_lt}
use Rattle.std.specs.Prelude.{if◌then◌else◌}
use Rattle.px_wire.specs.declared.head.Head.{Head}
use Rattle.px_wire.specs.Heads.{proposal_in}

-- a proposal is kept where it isn't below the front; else the older one is
abbrev pub proposed_then : (front now : ℕ) → Option ℕ → (was : Option (ℕ × ℕ)) → Option (ℕ × ℕ)
proposed_then front now None was = was
proposed_then front now (Some p) was = if nat_le front p then Some (p, now) else was

-- the same with a message of this head, which counts where another member sent it
abbrev pub proposed_by : (front now : ℕ) → Head → (was : Option (ℕ × ℕ)) → Option (ℕ × ℕ)
proposed_by front now h was = if h.from == h.to then was else proposed_then front now (proposal_in h) was

-- the same with these, one after the other
abbrev pub proposed_after : (front now : ℕ) → List Head → (was : Option (ℕ × ℕ)) → Option (ℕ × ℕ)
proposed_after front now [] was = was
proposed_after front now (h ∷ hs) was = proposed_after front now hs (proposed_by front now h was)

-- another member proposes a command at the front or beyond it
abbrev pub is_proposed : (front now : ℕ) → Option (ℕ × ℕ) → Bool
is_proposed front now None = false
is_proposed front now (Some (p, at)) = nat_le front p && nat_lt (now - at) 6000000

-- since when commands have waited while the front didn't move
abbrev pub stood_since : (has_moved waits : Bool) → Option ℕ → (now : ℕ) → Option ℕ
stood_since has_moved false since now = None
stood_since true true since now = Some now
stood_since false true None now = Some now
stood_since false true (Some t) now = Some t

-- n whole seconds, 0 where there is no time
abbrev pub seconds_since : Option ℕ → (now : ℕ) → ℕ
seconds_since None now = 0
seconds_since (Some t) now = (now - t) / 1000000
