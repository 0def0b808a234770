-- What is handed to a wire again.
use Rattle.std.specs.Prelude.{◌≡◌, ℕ, ◌≤◌, ◌<◌, List, Some, length, slice_get}
use Rattle.px_model.specs.Law.{Among}
use Rattle.px_transport.specs.Wires.{WireEvent, Adds, hands}

-- a datagram with the member for whom it is
abbrev pub Addressed : Type 0
Addressed = ℕ × List ℕ

-- each of the first list is one of the second
abbrev pub AreAmong : {X : Type 0} → List X → List X → Type 0
AreAmong {X} xs ys = (x : X) → Among xs x → Among ys x

-- the wire was handed some of these, however often, and nothing else
abbrev pub HandsAgain : (kept : List Addressed) → (old new : List WireEvent → Type 0) → Type 0
HandsAgain kept old new = (again : List Addressed) × AreAmong again kept × Adds old new (hands again)

-- the wire was handed some of these that are for this member, however often, and nothing else
abbrev pub HandsFor : (member : ℕ) → (kept : List Addressed) → (old new : List WireEvent → Type 0) → Type 0
HandsFor m kept old new =
    (again : List Addressed) × AreAmong again kept × Adds old new (hands again) ×
    ((d : Addressed) → Among again d → d.0 ≡ m)

-- the wire was handed some of these, among them each that with a tag fits into a packet, and nothing else
abbrev pub HandsShort : (kept : List Addressed) → (old new : List WireEvent → Type 0) → Type 0
HandsShort kept old new =
    (again : List Addressed) × AreAmong again kept × Adds old new (hands again) ×
    ((d : Addressed) → Among kept d → length d.1 ≤ 1200 → Among again d)

-- the same of the first n of these
abbrev pub HandsFirst : (n : ℕ) → (kept : List Addressed) → (old new : List WireEvent → Type 0) → Type 0
HandsFirst n kept old new =
    (again : List Addressed) × AreAmong again kept × Adds old new (hands again) ×
    ((k : ℕ) (d : Addressed) → k < n → slice_get kept k ≡ Some d → length d.1 ≤ 1200 → Among again d)

-- the wire was handed the one at this place, or nothing; the one, where with a tag it fits into a packet
abbrev pub HandsAt : (place : ℕ) → (kept : List Addressed) → (old new : List WireEvent → Type 0) → Type 0
HandsAt i kept old new =
    (again : List Addressed) × ((d : Addressed) → Among again d → slice_get kept i ≡ Some d) ×
    Adds old new (hands again) × ((d : Addressed) → slice_get kept i ≡ Some d → length d.1 ≤ 1200 → Among again d)
