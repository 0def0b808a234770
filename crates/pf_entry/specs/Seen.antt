-- What views show, without where it is in memory.
use Rattle.std.specs.Prelude.{ℕ, List}
use Rattle.pf_rules.specs.declared.ruleset.TableEntry as rust
use Rattle.pf_entry.specs.declared.view.Names.{Names}
use Rattle.pf_entry.specs.declared.view.Addresses.{Addresses}
use Rattle.pf_entry.specs.declared.view.CommandView.{CommandView}
use Rattle.pf_entry.specs.declared.view.CommandView.TheVariants as views
use Rattle.pf_entry.specs.declared.view.EntryView.{EntryView}
use Rattle.pf_entry.specs.Entry.{Address, Command, load, flush_rules, flush_tables, flush_all, add, delete, replace}
use Rattle.pf_entry.specs.Entry.{flush_table, Entry}
use Rattle.pf_entry.specs.Reading.{names_in, addresses_in}

-- the address that an entry of a table in code stands for
abbrev pub address_of : rust.TableEntry → Address
address_of a = record { negated = a.negated; prefix = a.prefix }

-- the names that a view of a path shows
abbrev pub names_of : Names → List (List ℕ)
names_of v = names_in v.count v.bytes.now

-- the addresses that a view of a list shows
abbrev pub addresses_of : Addresses → List Address
addresses_of v = addresses_in v.count v.bytes.now

-- the command that a view of it shows
abbrev pub command_of : CommandView → Command
command_of (views.Load p profile text) = load (names_of p) profile text.now
command_of (views.FlushRules p) = flush_rules (names_of p)
command_of (views.FlushTables p) = flush_tables (names_of p)
command_of (views.FlushAll p) = flush_all (names_of p)
command_of (views.Add p table list) = add (names_of p) table.bytes.now (addresses_of list.items)
command_of (views.Delete p table list) = delete (names_of p) table.bytes.now (addresses_of list.items)
command_of (views.Replace p table list) = replace (names_of p) table.bytes.now (addresses_of list)
command_of (views.FlushTable p table) = flush_table (names_of p) table.bytes.now

-- the entry that a view of bytes shows
abbrev pub entry_of : EntryView → Entry
entry_of e = record { origin = e.origin; number = e.number; command = command_of e.command }
