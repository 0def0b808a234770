-- What came of a command, as a line.
use Rattle.std.specs.Prelude.{ℕ, ◌&&◌, ◌+◌, nat_lt, nat_le, List, [], Option, Some, None}
use Rattle.std.specs.Prelude.{if◌then◌else◌}
use Rattle.px_model.specs.Node as node
use Rattle.px_model.specs.Node.{Log}
use Rattle.px_model.specs.Spelling.{Bytes, spelled}
use Rattle.pf_entry.specs.Entry as entries
use Rattle.pf_entry.specs.Reading.{reading}
use Rattle.pf_config.specs.Map.{Configuration}
use Rattle.pf_command.specs.Effect.{effect}
use Rattle.pf_scripts.specs.Ctl.{is_counted, change_line}
use Rattle.pf_node.specs.Applied.{after}

-- ---- of the log

-- the line of a command that was read, as a script prints it at a configuration
abbrev pub line_read : Configuration → Option entries.Entry → List ℕ
line_read c None = []
line_read c (Some e) = change_line (is_counted e.command) (effect c e.command)

-- the line of what a position has, at the configuration before it; nothing where one of them isn't there, or no command
-- is spelled
-- Example: ok 1 0, refused 20.
abbrev pub line_in : Option Configuration → Option (node.Entry Bytes) → List ℕ
line_in None e = []
line_in (Some c) None = []
line_in (Some c) (Some e) = line_read c (reading (spelled e))

-- the line of the command at position p, at the configuration after the p positions before it
abbrev pub line_at : Log Bytes → ℕ → List ℕ
line_at log p = line_in (after log p) (log p)

-- the same, as long as it is kept
-- Example: of 5 applied and 2 kept: positions 3 and 4; with 5,000 applied and 4,096 kept, from position 904 on.
abbrev pub kept_line : Log Bytes → (applied kept p : ℕ) → List ℕ
kept_line log applied kept p =
    if nat_lt p applied && nat_le applied (p + kept) then line_at log p else []
