-- What went over a wire in memory, and what is still to come.
use Rattle.std.specs.Prelude.{◌≡◌, ℕ, List, [], ◌∷◌, map, take, drop, Option, Some, None, IfSome, if◌then◌else◌}
use Rattle.px_transport.specs.Wires.{WireEvent, given_in, handed_in}
use Rattle.px_transport.specs.declared.memory.MemoryWire.{MemoryWire}

-- the datagrams that it gave so far, in order, each as it was given
abbrev pub given_of : MemoryWire → List (List ℕ)
given_of w = take w.next (map (λ d. d.items) w.coming.items)

-- what it has of what it was handed, in order
abbrev pub sent_of : MemoryWire → List (ℕ × List ℕ)
sent_of w = map (λ d. (d.0, d.1.items)) w.sent.items

-- what it was handed so far; none once out of memory
abbrev pub handed_of : MemoryWire → Option (List (ℕ × List ℕ))
handed_of w = if w.is_whole then Some (sent_of w) else None

-- the datagrams that are still to come, in order
abbrev pub coming_of : MemoryWire → List (List ℕ)
coming_of w = drop w.next (map (λ d. d.items) w.coming.items)

-- the first is given as far as there is room for it, and the others are still to come
abbrev pub IsNext : List (List ℕ) → (room : ℕ) → Option (List ℕ) → List (List ℕ) → Type 0
IsNext [] room came later = (came ≡ None) × (later ≡ [])
IsNext (d ∷ ds) room came later = (came ≡ Some (take room d)) × (later ≡ ds)

-- this went over it: it gave what it gave, and, while memory has that, was handed what it has
pub record WentOver (w : MemoryWire) (es : List WireEvent) : Type 0 where
  pub given : given_in es ≡ given_of w
  pub handed : IfSome (handed_of w) (λ all. handed_in es ≡ all)
