-- What goes over a wire that keeps a member's datagrams to itself.
use Rattle.std.specs.Prelude.{◌≡◌, ◌⊎◌, ◌<◌, ℕ, Bool, true, List, [], ◌∷◌, ◌++◌, length, map, Option, None, Some}
use Rattle.px_transport.specs.Wires.{WireEvent, Gave, Handed, within}
use Rattle.px_transport.specs.declared.loopback.LoopbackWire.{LoopbackWire}

-- the wire below
abbrev pub below_of : {W : Type 0} → LoopbackWire W → W
below_of w = w.below

-- the number of the member
abbrev pub me_of : {W : Type 0} → LoopbackWire W → ℕ
me_of w = w.me

-- the datagrams that it sent to itself and that are still to come, in order
abbrev pub kept_of : {W : Type 0} → LoopbackWire W → List (List ℕ)
kept_of w = map (λ d. d.items) w.kept.items

-- the first is given, or an empty datagram where it is longer than the room, and the others are still to come
abbrev pub IsReturned : List (List ℕ) → (room : ℕ) → Option (List ℕ) → List (List ℕ) → Type 0
IsReturned [] room came later = (came ≡ None) × (later ≡ [])
IsReturned (d ∷ ds) room came later = (came ≡ Some (within room d)) × (later ≡ ds)

-- ---- traffic

-- what goes over the wire
pub data Loop : Type 0 where
  -- over the wire below, too
  Passes : WireEvent → Loop
  -- it is handed a datagram of the member for itself, which it keeps
  Keeps : (bytes : List ℕ) → Loop
  -- it gives one that it kept
  Returns : (bytes : List ℕ) → Loop

-- over the wire below
abbrev pub below_in : List Loop → List WireEvent
below_in [] = []
below_in (Passes e ∷ xs) = e ∷ below_in xs
below_in (Keeps bytes ∷ xs) = below_in xs
below_in (Returns bytes ∷ xs) = below_in xs

-- over this wire
abbrev pub above_in : (me : ℕ) → List Loop → List WireEvent
above_in me [] = []
above_in me (Passes e ∷ xs) = e ∷ above_in me xs
above_in me (Keeps bytes ∷ xs) = Handed me bytes ∷ above_in me xs
above_in me (Returns bytes ∷ xs) = Gave bytes ∷ above_in me xs

-- From what is kept to what is kept then: what is kept first is given first, whole, or in its place an empty datagram.
abbrev pub IsQueue : List Loop → (kept then : List (List ℕ)) → Type 0
IsQueue [] kept then = then ≡ kept
IsQueue (Passes e ∷ xs) kept then = IsQueue xs kept then
IsQueue (Keeps bytes ∷ xs) kept then = IsQueue xs (kept ++ bytes ∷ []) then
IsQueue (Returns bytes ∷ xs) [] then = ⊥
IsQueue (Returns bytes ∷ xs) (d ∷ ds) then = ((bytes ≡ d) ⊎ (bytes ≡ [])) × IsQueue xs ds then

-- this went over the wire, where that is what goes over the wire below
pub record Looped {W : Type 0} (below : List WireEvent → Type 0) (w : LoopbackWire W) (es : List WireEvent) :
    Type 0 where
  pub loops : List Loop
  pub below_is : below (below_in loops)
  pub above_is : es ≡ above_in (me_of w) loops
  pub queue : IsQueue loops [] (kept_of w)

-- a datagram is kept: it is the member's own to itself, and there is room
abbrev pub IsKept : {W : Type 0} → LoopbackWire W → (to : ℕ) → List ℕ → Bool → LoopbackWire W → Type 0
IsKept old to bytes sent new =
    (sent ≡ true) × (to ≡ me_of old) × (length (kept_of old) < 64) × (kept_of new ≡ kept_of old ++ bytes ∷ [])
    × (below_of new ≡ below_of old)
