-- What an entry is, without where it is in memory.
use Rattle.std.specs.Prelude.{Bool, false, nat_lt, List, length, map, ◌||◌}
use Rattle.pf_rules.specs.declared.ruleset.TableEntry as rust_address
use Rattle.pf_entry.specs.declared.command.Command as rust_command
use Rattle.pf_entry.specs.declared.command.Command.TheVariants as owned
use Rattle.pf_entry.specs.declared.command.Entry as rust_entry
use Rattle.pf_entry.specs.Seen.{address_of}
use Rattle.pf_entry.specs.Entry.{Address, Command, load, flush_rules, flush_tables, flush_all, add, delete, replace}
use Rattle.pf_entry.specs.Entry.{flush_table, Entry, spelling}

-- the addresses that owned ones stand for
abbrev pub addresses_value : List rust_address.TableEntry → List Address
addresses_value list = map address_of list

-- the command that an owned one stands for
abbrev pub command_value : rust_command.Command → Command
command_value (owned.Load p profile text) = load p profile text.items
command_value (owned.FlushRules p) = flush_rules p
command_value (owned.FlushTables p) = flush_tables p
command_value (owned.FlushAll p) = flush_all p
command_value (owned.Add p table list) = add p table (addresses_value list.items.items)
command_value (owned.Delete p table list) = delete p table (addresses_value list.items.items)
command_value (owned.Replace p table list) = replace p table (addresses_value list.items)
command_value (owned.FlushTable p table) = flush_table p table

-- the entry that an owned one stands for
abbrev pub entry_value : rust_entry.Entry → Entry
entry_value e = record { origin = e.origin; number = e.number; command = command_value e.command }

-- a ruleset or a list of addresses is longer than any entry's
abbrev pub is_long : Command → Bool
is_long (load p profile text) = nat_lt 32768 (length text)
is_long (flush_rules p) = false
is_long (flush_tables p) = false
is_long (flush_all p) = false
is_long (add p table list) = nat_lt 4096 (length list)
is_long (delete p table list) = nat_lt 4096 (length list)
is_long (replace p table list) = nat_lt 4096 (length list)
is_long (flush_table p table) = false

-- the entry has more bytes or addresses than any that is written
abbrev pub is_over : Entry → Bool
is_over e = is_long e.command || nat_lt 32768 (length (spelling e))
