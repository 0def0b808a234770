-- What a run has written that gives nothing else.
use Rattle.std.specs.Prelude.{◌≡◌, ℕ, List, [], ◌∷◌, ◌++◌, Option, codes}
use Rattle.std.specs.Io.KnownBytes.{Appends}
use Rattle.cli_io.specs.declared.status.Status.{Status}
use Rattle.cli_io.specs.declared.status.Status.TheVariants.{Done, Refused, Usage, Memory, Failed}

-- a string and a newline
abbrev pub line : List ℕ → List ℕ
line text = text ++ 10 ∷ []

-- a front of the text was written behind what was there before, and nothing else
-- Example: of the text ab: nothing, a or ab.
abbrev pub AppendsFront : Option (List ℕ) → Option (List ℕ) → List ℕ → Type 0
AppendsFront old new text =
    (front : List ℕ) × (rest : List ℕ) × (text ≡ front ++ rest) × Appends old new front

-- What a run has done that ended so because its arguments aren't understood. Where it was out of memory it wrote that
-- alone; a write that failed, and the text for such arguments, aren't specified.
abbrev pub IsMisused : Status → Option (List ℕ) → Option (List ℕ) → Type 0
IsMisused Done old new = ⊥
IsMisused Refused old new = ⊥
IsMisused Usage old new = Unit {0}
IsMisused Memory old new = Appends old new (line (codes "memory"))
IsMisused Failed old new = Unit {0}

-- a run was out of memory, and wrote that, or a front of it where a write failed
abbrev pub RanOut : Status → (old new : Option (List ℕ)) → Type 0
RanOut Memory old new = Appends old new (line (codes "memory"))
RanOut Failed old new = AppendsFront old new (line (codes "memory"))
RanOut ending old new = ⊥
