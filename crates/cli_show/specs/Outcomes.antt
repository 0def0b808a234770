-- What a run of show writes.
use Rattle.std.specs.Prelude.{◌≡◌, ◌⊎◌, ℕ, List, ◌++◌, Bool, true, false, Option, codes, decimal}
use Rattle.std.specs.Io.KnownBytes.{Appends}
use Rattle.cli_io.specs.declared.status.Status.{Status}
use Rattle.cli_io.specs.declared.status.Status.TheVariants as status
use Rattle.cli_io.specs.Written.{line, AppendsFront}
use Rattle.cli_show.specs.declared.outcome.Outcome.{Outcome}
use Rattle.cli_show.specs.declared.outcome.Outcome.TheVariants.{Shown, Refused, Memory}

-- what an outcome is written as
-- Example: refused 73, memory.
abbrev pub text_of : Outcome → List ℕ
text_of (Shown s) = s.bytes.items
text_of (Refused code) = line (codes "refused " ++ decimal code)
text_of Memory = line (codes "memory")

-- how a run ends that shows a refusal, and one that shows no refusal
abbrev pub status_of : Bool → Status
status_of true = status.Refused
status_of false = status.Done

-- how a run with this outcome ends
abbrev pub ending : Outcome → Status
ending (Shown s) = status_of s.refused
ending (Refused code) = status.Refused
ending Memory = status.Memory

-- the outcome is written; when out of memory that alone; where a write failed a front of either
abbrev pub Wrote : Status → Outcome → Option (List ℕ) → Option (List ℕ) → Type 0
Wrote status.Memory outcome old new = Appends old new (line (codes "memory"))
Wrote status.Failed outcome old new =
    AppendsFront old new (line (codes "memory")) ⊎ AppendsFront old new (text_of outcome)
Wrote ended outcome old new = (ended ≡ ending outcome) × Appends old new (text_of outcome)
