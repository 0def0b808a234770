-- What a command does to a configuration (pfctl(8), -f, -F and -T).
use Rattle.std.specs.Prelude.{ℕ, List, [], ◌∷◌, map, fold, Option, Some, None, Result, Ok, Err, unwrap_or}
use Rattle.pf_rules.specs.declared.ruleset.TableEntry.{TableEntry}
use Rattle.pf_rules.specs.Names.{Name}
use Rattle.pf_rules.specs.Rulesets.{RulesetValue}
use Rattle.pf_tables.specs.Contents.{count_without}
use Rattle.pf_config.specs.declared.fault.ConfigFault.{ConfigFault}
use Rattle.pf_config.specs.Codes.{fault_code}
use Rattle.pf_config.specs.Map.{Configuration, Path, table_at}
use Rattle.pf_config.specs.Changes as change
use Rattle.pf_expansion.specs.Causes.{cause_code}
use Rattle.pf_grammar.specs.declared.fault.Refusal.{Refusal}
use Rattle.pf_grammar.specs.declared.place.Place.{Place}
use Rattle.pf_grammar.specs.declared.place.Place.TheVariants.{Main, Anchor}
use Rattle.pf_grammar.specs.Reading.{reading}
use Rattle.pf_entry.specs.Entry.{Address, Command, load, flush_rules, flush_tables, flush_all, add, delete, replace}
use Rattle.pf_entry.specs.Entry.{flush_table, Entry}

-- the configuration that a command leaves, and how many signed entries were added to its table and removed from it
pub record Effect : Type 0 where
  pub configuration : Configuration
  pub added : ℕ
  pub removed : ℕ

-- the number of a refusal, and the line of a refused text, else 0
pub record RefusedCommand : Type 0 where
  pub code : ℕ
  pub line : ℕ

-- ---- refusals

-- a change that the configuration refuses; there is no line then
abbrev pub refused_change : ConfigFault → RefusedCommand
refused_change fault = record { code = unwrap_or (fault_code fault) 0; line = 0 }

-- a load whose text is refused, with the line
abbrev pub refused_text : Refusal → RefusedCommand
refused_text refusal = record { code = cause_code refusal.cause; line = refusal.line }

-- ---- counts

-- loads and flushes count nothing
abbrev pub uncounted : Result Configuration ConfigFault → Result Effect RefusedCommand
uncounted (Ok new) = Ok (record { configuration = new; added = 0; removed = 0 })
uncounted (Err fault) = Err (refused_change fault)

-- what a table holds, nothing where there is none
abbrev pub contents_at : Configuration → Path → Name → List TableEntry
contents_at c p name = change.entries_in (table_at c p name)

-- the signed entries of the table that are new, and those that are gone
-- Example: -T replace 11/8 10/8 over 10/8 and !10.1/16 counts 1 and 1.
abbrev pub counted : Configuration → Path → Name → Result Configuration ConfigFault →
    Result Effect RefusedCommand
counted old p name (Ok new) = Ok (record {
  configuration = new;
  added = count_without (contents_at new p name) (contents_at old p name);
  removed = count_without (contents_at old p name) (contents_at new p name);
})
counted old p name (Err fault) = Err (refused_change fault)

-- ---- the commands

-- an address of a command as an entry of a table
abbrev pub entry_of : Address → TableEntry
entry_of a = record { negated = a.negated; prefix = a.prefix }

-- the same of a list
abbrev pub entries_of : List Address → List TableEntry
entries_of list = map entry_of list

-- the empty path is the main ruleset's
abbrev pub place_at : Path → Place
place_at [] = Main
place_at (n ∷ p) = Anchor

-- the ruleset that a source gives is loaded
abbrev pub loaded : Configuration → Path → Result RulesetValue Refusal → Result Effect RefusedCommand
loaded c p (Ok rules) = uncounted (change.load_ruleset c p rules)
loaded c p (Err refusal) = Err (refused_text refusal)

-- what a command does, or why it is refused
-- Source: pfctl(8), -f, -F, -T. Example: adding 10/8 to a table that has it counts 0 and 0.
unfoldable pub effect : Configuration → Command → Result Effect RefusedCommand
effect c (load p profile text) = loaded c p (reading (place_at p) profile text)
effect c (flush_rules p) = uncounted (Ok (change.flush_rules c p))
effect c (flush_tables p) = uncounted (Ok (change.flush_tables c p))
effect c (flush_all p) = uncounted (Ok (change.flush_all c p))
effect c (add p name list) = counted c p name (change.add c p name (entries_of list))
effect c (delete p name list) = counted c p name (change.delete c p name (entries_of list))
effect c (replace p name list) = counted c p name (change.replace c p name (entries_of list))
effect c (flush_table p name) = counted c p name (change.flush_table c p name)

-- ---- a log

-- a refused command changes nothing
abbrev pub changed : Configuration → Result Effect RefusedCommand → Configuration
changed c (Ok e) = e.configuration
changed c (Err refused) = c

-- the configuration after a command
abbrev pub after_command : Configuration → Command → Configuration
after_command c command = changed c (effect c command)

-- nothing is loaded
abbrev pub empty : Configuration
empty = record { skip = []; anchors = [] }

-- the configuration after the commands of a log's entries, in their order
unfoldable pub after : List Entry → Configuration
after entries = fold (λ (c : Configuration) (e : Entry). after_command c e.command) empty entries
