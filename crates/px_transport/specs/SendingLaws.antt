-- Laws of the packets that a member sends.
use Rattle.std.specs.Prelude.{◌≡◌, ℕ, ◌+◌, ◌<◌, ◌==◌, List, [], ◌∷◌, length, map}
use Rattle.std.specs.List.{range_with_len, filter}
use Rattle.px_transport.specs.Sending.{ToMember, Unsealed, to_member, counted_for, counted_all}

-- for whom packets are that are sent one after another, and their counters
abbrev pub numbers : List ToMember → List Unsealed → List (ℕ × ℕ)
numbers os [] = []
numbers os (p ∷ ps) = (p.to, (to_member os p.to).counter + 1) ∷ numbers (counted_for os p.to) ps

-- the counters of those for one member
abbrev pub counters_for : ℕ → List ToMember → List Unsealed → List ℕ
counters_for m os ps = map (λ n. n.1) (filter (λ n. n.0 == m) (numbers os ps))

-- each packet is for a member
abbrev pub AreForMembers : (members : ℕ) → List Unsealed → Type 0
AreForMembers members [] = Unit {0}
AreForMembers members (p ∷ ps) = (p.to < members) × AreForMembers members ps

-- the counters of a member's packets are consecutive numbers, from the one after the last that was used on, whatever is
-- sent to others between them; and the sender goes on from there. So none is used twice
abbrev pub CountersFollow : Type 0
CountersFollow = (os : List ToMember) (ps : List Unsealed) (m : ℕ) → m < length os → AreForMembers (length os) ps →
    (counters_for m os ps ≡ range_with_len ((to_member os m).counter + 1) (length (counters_for m os ps))) ×
    ((to_member (counted_all os ps) m).counter ≡ (to_member os m).counter + length (counters_for m os ps))
