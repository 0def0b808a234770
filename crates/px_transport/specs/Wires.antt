-- What goes over a wire.
use Rattle.std.specs.Prelude.{◌≡◌, ℕ, ◌+◌, ◌-◌, ◌^◌, Bool, true, false, min, List, [], ◌∷◌, ◌++◌, map, length}
use Rattle.std.specs.Prelude.{Option, Some, None, nat_le, if◌then◌else◌}

-- what goes over a wire
pub data WireEvent : Type 0 where
  -- it gave a datagram
  Gave : (bytes : List ℕ) → WireEvent
  -- it was handed a datagram for a member
  Handed : (to : ℕ) (bytes : List ℕ) → WireEvent

-- what a receive gives, if anything
abbrev pub gives : Option (List ℕ) → List WireEvent
gives None = []
gives (Some bytes) = Gave bytes ∷ []

-- datagrams that are handed over, each with the member for whom it is, in order
abbrev pub hands : List (ℕ × List ℕ) → List WireEvent
hands ds = map (λ d. Handed d.0 d.1) ds

-- of what went over a wire, what it gave
abbrev pub given_in : List WireEvent → List (List ℕ)
given_in [] = []
given_in (Gave bytes ∷ es) = bytes ∷ given_in es
given_in (Handed to bytes ∷ es) = given_in es

-- and what it was handed
abbrev pub handed_in : List WireEvent → List (ℕ × List ℕ)
handed_in [] = []
handed_in (Gave bytes ∷ es) = handed_in es
handed_in (Handed to bytes ∷ es) = (to, bytes) ∷ handed_in es

-- What went over something is a list of events, in order. It grew by these, whatever it was before.
abbrev pub Adds : {X : Type 0} → (old new : List X → Type 0) → (more : List X) → Type 0
Adds {X} old new more = (es : List X) → old es → new (es ++ more)

-- nothing went over it
abbrev pub IsQuiet : {X : Type 0} → (old new : List X → Type 0) → Type 0
IsQuiet {X} old new = (es : List X) → old es → new es

-- whatever it was before, it became one of which this holds
abbrev pub Moves : {X : Type 0} → (old new : List X → Type 0) → (how : (es es' : List X) → Type 0) → Type 0
Moves {X} old new how = (es : List X) → old es → (es' : List X) × new es' × how es es'

-- a datagram, where it is no longer than the room; else none of it
abbrev pub within : (room : ℕ) → List ℕ → List ℕ
within room d = if nat_le (length d) room then d else []

-- one failure more, up to 2^64 - 1
abbrev pub one_more : ℕ → ℕ
one_more failures = min (failures + 1) (2 ^ 64 - 1)

-- a send that isn't made is counted, and nothing else
abbrev pub Counts : Bool → ℕ → ℕ → Type 0
Counts true old new = new ≡ old
Counts false old new = new ≡ one_more old
