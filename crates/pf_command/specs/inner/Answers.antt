-- What only code and proofs use beside `Answers`.
use Rattle.std.specs.Prelude.{◌≡◌, ℕ, List, Option, Some, None, Result, Ok, Err}
use Rattle.pf_config.specs.declared.fault.ConfigFault.{ConfigFault}
use Rattle.pf_config.specs.Codes.{fault_code}
use Rattle.pf_expansion.specs.Causes.{cause_code}
use Rattle.pf_grammar.specs.declared.fault.Refusal.{Refusal}
use Rattle.pf_rules.specs.declared.ruleset.TableEntry.{TableEntry}
use Rattle.pf_tables.specs.Contents.{count_without}
use Rattle.pf_command.specs.declared.commands.Applied.{Applied}
use Rattle.pf_command.specs.declared.fault.ApplyFault.{ApplyFault}
use Rattle.pf_command.specs.declared.fault.ApplyFault.TheVariants.{Memory, Refused}

abbrev pub fault_of_code : Option ℕ → ApplyFault
fault_of_code None = Memory
fault_of_code (Some code) = Refused code 0

abbrev pub fault_of_change : ConfigFault → ApplyFault
fault_of_change fault = fault_of_code (fault_code fault)

abbrev pub fault_of_text : Refusal → ApplyFault
fault_of_text refusal = Refused (cause_code refusal.cause) refusal.line

-- the answer of a command whose change of the configuration is made, or refused
abbrev pub answer_of : {A : Type 0} → Result A ConfigFault → Applied → Result Applied ApplyFault
answer_of (Ok x) counts = Ok counts
answer_of (Err fault) counts = Err (fault_of_change fault)

-- how many signed entries new contents have that the old ones lack, and the other way round
abbrev pub Counts : Applied → List TableEntry → List TableEntry → Type 0
Counts counts old new = (counts.added ≡ count_without new old) × (counts.removed ≡ count_without old new)
