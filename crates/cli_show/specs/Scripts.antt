-- The script of a log, and the script that is shown.
use Rattle.std.specs.Prelude.{◌≡◌, ◌⊎◌, ℕ, zero, suc, List, [], ◌++◌, Option, Some, None, Result, Ok, Err}
use Rattle.px_model.specs.Node as node
use Rattle.px_model.specs.Node.{Log}
use Rattle.px_model.specs.Spelling.{Bytes, spelled}
use Rattle.pf_config.specs.Map.{Configuration}
use Rattle.pf_entry.specs.Entry.{Command, Entry}
use Rattle.pf_entry.specs.Reading.{reading}
use Rattle.pf_command.specs.Effect.{Effect, RefusedCommand, effect}
use Rattle.pf_node.specs.Applied.{after}
use Rattle.pf_dump.specs.Done.{IsDoneTo}
use Rattle.pf_dump.specs.Written.{script_of, change_lines}

-- a command as lines of a script, unless it is refused
abbrev pub lines_if : Result Effect RefusedCommand → Command → List ℕ
lines_if (Ok e) command = change_lines command
lines_if (Err refused) command = []

-- those of a command that was read, if one was
abbrev pub lines_read : Configuration → Option Entry → List ℕ
lines_read c None = []
lines_read c (Some e) = lines_if (effect c e.command) e.command

-- those of what a position has, at the configuration before it
abbrev pub lines_in : Option Configuration → Option (node.Entry Bytes) → List ℕ
lines_in None e = []
lines_in (Some c) None = []
lines_in (Some c) (Some e) = lines_read c (reading (spelled e))

-- the commands at positions 0 to k-1 that aren't refused, as a script
-- Example: of -t t -T add 10/8, twice, and -t u -T delete 10/8 it has two lines.
abbrev pub log_script : Log Bytes → (k : ℕ) → List ℕ
log_script log zero = []
log_script log (suc k) = log_script log k ++ lines_in (after log k) (log k)

-- a script that gives the configuration: the one written of it, or where that one doesn't give it the log's
abbrev pub ShowsScript : Log Bytes → (k : ℕ) → Configuration → List ℕ → Type 0
ShowsScript log k c script = IsDoneTo script c
    × ((script ≡ script_of c) ⊎ ((script ≡ log_script log k) × (IsDoneTo (script_of c) c → ⊥)))

-- one of the two gives it
abbrev pub HasScript : Log Bytes → (k : ℕ) → Configuration → Type 0
HasScript log k c = IsDoneTo (script_of c) c ⊎ IsDoneTo (log_script log k) c
