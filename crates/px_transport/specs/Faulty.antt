-- What a wire that fails at times shows.
use Rattle.std.specs.Prelude.{◌≡◌, ℕ, ◌+◌, ◌-◌, ◌^◌, min, List, [], ◌∷◌}
use Rattle.px_transport.specs.Wires.{WireEvent, Handed}
use Rattle.px_transport.specs.declared.faulty.FaultyWire.{FaultyWire}

-- the wire below
abbrev pub inner_of : {W : Type 0} → FaultyWire W → W
inner_of w = w.inner

-- how many receives are left up to the next that fails
abbrev pub recvs_left : {W : Type 0} → FaultyWire W → ℕ
recvs_left w = w.recvs_left

-- how many sends are left up to the next that fails
abbrev pub sends_left : {W : Type 0} → FaultyWire W → ℕ
sends_left w = w.sends_left

-- each how many fail
abbrev pub period_of : {W : Type 0} → FaultyWire W → ℕ
period_of w = w.period

-- how many never reached the wire below, up to 2^64 - 1
abbrev pub missed_of : {W : Type 0} → FaultyWire W → ℕ
missed_of w = w.missed

-- those of the wire below, and those that never reached it
abbrev pub failures_of : {W : Type 0} → ℕ → FaultyWire W → ℕ
failures_of below w = min (below + w.missed) (2 ^ 64 - 1)

-- ---- traffic

-- what goes over the wire
pub data Faulty : Type 0 where
  -- over the wire below, too
  Passes : WireEvent → Faulty
  -- it is handed a datagram that doesn't reach the wire below
  Loses : (to : ℕ) (bytes : List ℕ) → Faulty

-- over the wire below
abbrev pub below_in : List Faulty → List WireEvent
below_in [] = []
below_in (Passes e ∷ xs) = e ∷ below_in xs
below_in (Loses to bytes ∷ xs) = below_in xs

-- over this wire
abbrev pub above_in : List Faulty → List WireEvent
above_in [] = []
above_in (Passes e ∷ xs) = e ∷ above_in xs
above_in (Loses to bytes ∷ xs) = Handed to bytes ∷ above_in xs

-- this went over the wire, where that is what goes over the wire below
pub record WentFaulty (below : List WireEvent → Type 0) (es : List WireEvent) : Type 0 where
  pub events : List Faulty
  pub below_is : below (below_in events)
  pub above_is : es ≡ above_in events
