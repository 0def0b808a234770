-- What a run of node, ask or key writes.
use Rattle.std.specs.Prelude.{◌≡◌, ◌⊎◌, ℕ, List, [], ◌++◌, Option, Some, None, codes, decimal}
use Rattle.std.specs.Io.KnownBytes.{Appends}
use Rattle.cli_files.specs.KeyTexts.{key_text}
use Rattle.cli_io.specs.declared.status.Status.{Status}
use Rattle.cli_io.specs.declared.status.Status.TheVariants as status
use Rattle.cli_io.specs.Written.{line, AppendsFront, IsMisused}
use Rattle.cli_node.specs.declared.outcome.Outcome.{Outcome}
use Rattle.cli_node.specs.declared.outcome.Outcome.TheVariants.{Front, Stopped, Asked, Key, Refused, RefusedLine}
use Rattle.cli_node.specs.declared.outcome.Outcome.TheVariants.{NoAnswer, Sound, Made, Memory, Unread}

-- what a run writes of its outcome, a line; nothing of a key that is in a file, and where the arguments were not read
abbrev pub line_of : Outcome → List ℕ
line_of (Front front applied) = line (codes "front " ++ decimal front ++ codes " applied " ++ decimal applied)
line_of (Stopped front applied) = line (codes "front " ++ decimal front ++ codes " applied " ++ decimal applied)
line_of (Asked node number) = line (codes "asked " ++ decimal node ++ codes "." ++ decimal number)
line_of (Key key) = key_text key
line_of (Refused code) = line (codes "refused " ++ decimal code)
line_of (RefusedLine code at) = line (codes "refused " ++ decimal code ++ codes " line " ++ decimal at)
line_of NoAnswer = line (codes "no answer")
line_of Sound = line (codes "ok")
line_of Memory = line (codes "memory")
line_of Made = []
line_of Unread = []

-- how a run with this outcome ends
abbrev pub status_of : Outcome → Status
status_of (Front front applied) = status.Done
status_of (Stopped front applied) = status.Done
status_of (Asked node number) = status.Done
status_of (Key key) = status.Done
status_of (Refused code) = status.Refused
status_of (RefusedLine code at) = status.Refused
status_of NoAnswer = status.Refused
status_of Sound = status.Done
status_of Made = status.Done
status_of Memory = status.Memory
status_of Unread = status.Failed

-- the outcome's line is written; out of memory, that alone; where a write failed a front of either
abbrev pub Wrote : Status → Outcome → Option (List ℕ) → Option (List ℕ) → Type 0
Wrote status.Memory outcome old new = Appends old new (line (codes "memory"))
Wrote status.Failed outcome old new =
    AppendsFront old new (line (codes "memory")) ⊎ AppendsFront old new (line_of outcome)
Wrote ending outcome old new = (ending ≡ status_of outcome) × Appends old new (line_of outcome)

-- a run with an outcome wrote it; without one the arguments weren't understood
abbrev pub Ends : Status → Option Outcome → (old new : Option (List ℕ)) → Type 0
Ends ending (Some outcome) old new = Wrote ending outcome old new
Ends ending None old new = IsMisused ending old new
