-- A command's arguments.
use Rattle.std.specs.Prelude.{ℕ, List, [], ◌∷◌, ◌++◌, length, codes, decimal}
use Rattle.std.specs.List.{flat_map}
use Rattle.pf_config.specs.Map.{Path}
use Rattle.pf_rules.specs.Names.{Name}
use Rattle.pf_entry.specs.Entry.{Address, Command, load, flush_rules, flush_tables, flush_all, add, delete, replace}
use Rattle.pf_entry.specs.Entry.{flush_table}
use Rattle.pf_command.specs.Effect.{entry_of}
use Rattle.pf_show.specs.Shown.{slashed, spaced_entry}

-- -a PATH; of the main ruleset nothing
abbrev pub path_words : Path → List ℕ
path_words [] = []
path_words (n ∷ p) = codes "-a " ++ slashed (n ∷ p) ++ codes " "

-- -t TABLE -T WORD
abbrev pub table_words : Path → Name → List ℕ → List ℕ
table_words p table word = path_words p ++ codes "-t " ++ table ++ codes " -T " ++ word

-- an address, with a blank before it
abbrev pub address_word : Address → List ℕ
address_word a = spaced_entry (entry_of a)

-- a load's text is only counted
-- Source: pfctl(8). Example: a load of 120 bytes at x: -a x -f - (120).
abbrev pub command_words : Command → List ℕ
command_words (load p profile text) = path_words p ++ codes "-f - (" ++ decimal (length text) ++ codes ")"
command_words (flush_rules p) = path_words p ++ codes "-F rules"
command_words (flush_tables p) = path_words p ++ codes "-F Tables"
command_words (flush_all p) = path_words p ++ codes "-F all"
command_words (add p table list) = table_words p table (codes "add") ++ flat_map address_word list
command_words (delete p table list) = table_words p table (codes "delete") ++ flat_map address_word list
command_words (replace p table list) = table_words p table (codes "replace") ++ flat_map address_word list
command_words (flush_table p table) = table_words p table (codes "flush")
