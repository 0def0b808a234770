-- What a change is refused for before a node is asked.
use Rattle.std.specs.Prelude.{ℕ, List, [], ◌∷◌, Option, Some, None, Result, Ok, Err}
use Rattle.pf_rules.specs.Rulesets.{RulesetValue}
use Rattle.pf_expansion.specs.Causes.{cause_code}
use Rattle.pf_grammar.specs.declared.fault.Refusal.{Refusal}
use Rattle.pf_grammar.specs.declared.place.Place.{Place}
use Rattle.pf_grammar.specs.declared.place.Place.TheVariants.{Main, Anchor}
use Rattle.pf_grammar.specs.Reading.{reading}
use Rattle.pf_entry.specs.Entry as entry
use Rattle.cli_ask.specs.declared.checking.Refused.{Refused}

-- a refusal without a line
abbrev pub by_code : (code : ℕ) → Refused
by_code code = record { code = code; line = 0 }

-- the place of a ruleset
abbrev pub place_of : (path : List (List ℕ)) → Place
place_of [] = Main
place_of (n ∷ names) = Anchor

-- a ruleset that the grammar refuses
abbrev pub text_refusal : Result RulesetValue Refusal → Option Refused
text_refusal (Ok rules) = None
text_refusal (Err r) = Some (record { code = cause_code r.cause; line = r.line })

-- what a command is refused for whatever is at the node
abbrev pub command_refusal : entry.Command → Option Refused
command_refusal (entry.load path profile text) = text_refusal (reading (place_of path) profile text)
command_refusal (entry.flush_rules path) = None
command_refusal (entry.flush_tables path) = None
command_refusal (entry.flush_all path) = None
command_refusal (entry.add path table list) = None
command_refusal (entry.delete path table list) = None
command_refusal (entry.replace path table list) = None
command_refusal (entry.flush_table path table) = None
