-- The configuration of a log.
use Rattle.std.specs.Prelude.{ℕ, Option, Some, None}
use Rattle.px_model.specs.Node.{Entry, Log}
use Rattle.px_model.specs.Law.{state_after}
use Rattle.px_model.specs.Spelling.{Bytes, spelled}
use Rattle.pf_config.specs.Map.{Configuration}
use Rattle.pf_entry.specs.Entry as entries
use Rattle.pf_entry.specs.Reading.{reading}
use Rattle.pf_command.specs.Effect.{after_command, empty}

-- the configuration after a command that was read, if one was
abbrev pub after_read : Configuration → Option entries.Entry → Configuration
after_read c None = c
after_read c (Some e) = after_command c e.command

-- the configuration after the command that an entry spells
abbrev pub entry_applied : Configuration → Entry Bytes → Configuration
entry_applied c e = after_read c (reading (spelled e))

-- the configuration after the entries at positions 0 to k-1, from the empty one; none where one of them isn't learned
abbrev pub after : Log Bytes → (k : ℕ) → Option Configuration
after log k = state_after entry_applied empty log k
