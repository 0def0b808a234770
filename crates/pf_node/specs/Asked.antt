-- A command as it is asked.
use Rattle.px_model.specs.Spelling.{Bytes, command_in}
use Rattle.pf_entry.specs.Entry as entries
use Rattle.pf_entry.specs.Entry.{spelling}
use Rattle.pf_entry.specs.Owned.{command_value}
use Rattle.pf_entry.specs.declared.command.Command.{Command}

-- the command before a member has given it origin and number
abbrev pub unnamed : Command → entries.Entry
unnamed command = record { origin = 0; number = 0; command = command_value command }

-- the bytes of a command, without origin and number
abbrev pub bytes_of : Command → Bytes
bytes_of command = command_in (spelling (unnamed command))
