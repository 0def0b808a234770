-- Which datagrams the node isn't shown.
use Rattle.std.specs.Prelude.{◌≡◌, ◌⊎◌, ℕ, Bool, false, List, [], ◌∷◌, Option, Some, None}
use Rattle.px_model.specs.Law.{Among}
use Rattle.px_model.specs.Spelling.{Bytes}
use Rattle.px_wire.specs.Message.{Group, Message, DatagramBytes}
use Rattle.px_replica.specs.Replicas.{IsUnspelled}

-- what a datagram spells for this member, if anything, is of one who is no member
abbrev pub IsOutside : Group → (me : ℕ) → Bytes → Type 0
IsOutside g me bytes = (from : ℕ) (message : Message) → DatagramBytes g from me message bytes → from ≡ 255

-- the datagram came before, byte for byte; or it is of no member, and such aren't heard
abbrev pub IsKnown : Group → (me : ℕ) → (hears_asks : Bool) → (before : List Bytes) → Bytes → Type 0
IsKnown g me hears before bytes = Among before bytes ⊎ ((hears ≡ false) × IsOutside g me bytes)

-- the datagram is no message that arrives at the member: it is nobody's, or known
abbrev pub IsPassedOver : Group → (me : ℕ) → (hears_asks : Bool) → (before : List Bytes) → Bytes → Type 0
IsPassedOver g me hears before bytes = IsUnspelled g me bytes ⊎ IsKnown g me hears before bytes

-- the datagram that came, if one did
abbrev pub came_in : Option Bytes → List Bytes
came_in None = []
came_in (Some bytes) = bytes ∷ []
