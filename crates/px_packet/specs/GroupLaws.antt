-- Laws of the bytes that a cluster's key is made of.
use Rattle.std.specs.Prelude.{◌≡◌, ℕ, ◌<◌, ◌^◌, List, [], ◌∷◌, length}
use Rattle.px_packet.specs.Groups.{group_bytes}

-- each text is shorter than 2^64 bytes
abbrev pub AreShort : List (List ℕ) → Type 0
AreShort [] = Unit {0}
AreShort (text ∷ texts) = (length text < 2 ^ 64) × AreShort texts

-- another number, or another list, or the same in another order, makes other bytes
abbrev pub GroupsDiffer : Type 0
GroupsDiffer = (c d : ℕ) (ms ns : List (List ℕ)) → c < 2 ^ 32 → d < 2 ^ 32 → AreShort ms → AreShort ns →
    group_bytes c ms ≡ group_bytes d ns → (c ≡ d) × (ms ≡ ns)
