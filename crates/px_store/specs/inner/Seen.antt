-- What only code and proofs use beside `Seen`.
use Rattle.std.specs.Prelude.{◌≡◌, ⊤, ℕ, zero, suc, ◌<◌, pos, Bool}
use Rattle.std.specs.Prelude.{true, false}
use Rattle.std.specs.Prelude.{if◌then◌else◌, List, [], ◌∷◌, Option, Some, None, nat_eq}
use Rattle.sqlite.specs.declared.types.Value.TheVariants.{Int, Blob}
use Rattle.sqlite_value.specs.Order.{Row, column, value_cmp}
use Rattle.std.specs.Ordering.{is_gt}
use Rattle.sqlite_rules.specs.Lists.{Has}
use Rattle.px_model.specs.Node.{Proposal, Slot}
use Rattle.px_model.specs.Spelling.{Bytes}
use Rattle.px_model.specs.Step.{positions}
use Rattle.px_store.specs.Entries.{entry_of}
use Rattle.px_store.specs.Seen.{number_in, is_number}

-- ---- rows

-- none, or one whose first column is the key
abbrev pub IsKeyed : ℕ → List Row → Type 0
IsKeyed p [] = ⊤
IsKeyed p (r ∷ []) = column r 0 ≡ Int (pos p)
IsKeyed p (r ∷ x ∷ more) = ⊥

-- ---- slots: position, promised, ballot, entry

-- ballot 0 is no proposal
abbrev pub accepted_with : ℕ → List ℕ → Option (Proposal Bytes)
accepted_with ballot bytes =
    if nat_eq ballot 0 then None else Some (record { ballot = ballot; entry = entry_of bytes })

abbrev pub slot_with : (promised ballot : ℕ) → List ℕ → Slot Bytes
slot_with promised ballot bytes = record { promised = promised; accepted = accepted_with ballot bytes }

abbrev pub slot_row : (position promised ballot : ℕ) → List ℕ → Row
slot_row p promised ballot bytes = Int (pos p) ∷ Int (pos promised) ∷ Int (pos ballot) ∷ Blob bytes ∷ []

-- ---- learned: position, entry

abbrev pub learned_row : (position : ℕ) → List ℕ → Row
learned_row p bytes = Int (pos p) ∷ Blob bytes ∷ []

-- ---- meta: id, format, cluster, members, node, round, number; floor: id, ballot

abbrev pub floor_row : ℕ → Row
floor_row ballot = Int (pos 1) ∷ Int (pos ballot) ∷ []

-- no row is ballot 0
abbrev pub floor_rows : ℕ → List Row
floor_rows ballot = if nat_eq ballot 0 then [] else floor_row ballot ∷ []

-- the column has this number
abbrev pub HasNumber : Row → (at number : ℕ) → Type 0
HasNumber r at n = (is_number (column r at) ≡ true) × (number_in (column r at) ≡ n)

-- one row, which has these numbers
abbrev pub IsMetaIn : (cluster members node round number : ℕ) → List Row → Type 0
IsMetaIn c m n round number [] = ⊥
IsMetaIn c m n round number (r ∷ []) =
    HasNumber r 0 1 × (HasNumber r 1 3 ×
    (HasNumber r 2 c × (HasNumber r 3 m × (HasNumber r 4 n × (HasNumber r 5 round × HasNumber r 6 number)))))
IsMetaIn c m n round number (r ∷ x ∷ more) = ⊥

-- no row, or one, which has a ballot above 0
abbrev pub IsFloorIn : ℕ → List Row → Type 0
IsFloorIn b [] = b ≡ 0
IsFloorIn b (r ∷ []) = HasNumber r 0 1 × (HasNumber r 1 b × (0 < b))
IsFloorIn b (r ∷ x ∷ more) = ⊥

-- ---- the last row

-- the answer is the key of the last row that passes, or nothing where none does
abbrev pub IsLast : (Row → Bool) → List Row → List Row → Type 0
IsLast test rows [] = (r : Row) → Has rows r → test r ≡ false
IsLast test rows (a ∷ []) =
    (r : Row) × Has rows r × (test r ≡ true) × (a ≡ column r 0 ∷ [])
    × ((x : Row) → Has rows x → test x ≡ true → is_gt (value_cmp (column x 0) (column r 0)) ≡ false)
IsLast test rows (a ∷ b ∷ more) = ⊥

-- one more than the position that such an answer reports, or 0
abbrev pub IsEndOf : List Row → ℕ → Type 0
IsEndOf [] t = t ≡ 0
IsEndOf (a ∷ []) t =
    (is_number (column a 0) ≡ true) × ((t ≡ suc (number_in (column a 0))) × (number_in (column a 0) < positions))
IsEndOf (a ∷ b ∷ more) t = ⊥

-- one more than the position of the last row that passes, or 0 where none does
abbrev pub EndsAt : (Row → Bool) → List Row → ℕ → Type 0
EndsAt test rows zero = (r : Row) → Has rows r → test r ≡ false
EndsAt test rows (suc n) =
    (n < positions) × ((r : Row) × Has rows r × (test r ≡ true) × (column r 0 ≡ Int (pos n)))
    × ((x : Row) → Has rows x → test x ≡ true → is_gt (value_cmp (column x 0) (Int (pos n))) ≡ false)
