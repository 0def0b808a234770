-- The numbers of refusals.
use Rattle.std.specs.Prelude.{ℕ, Option, Some, None}
use Rattle.cli_ask.specs.declared.exchange.AskFault.{AskFault}
use Rattle.cli_ask.specs.declared.exchange.AskFault.TheVariants.{Memory, NoAnswer, BadAnswer}

-- none when out of memory
-- Example: where nobody answers it is 85.
abbrev pub ask_fault_code : AskFault → Option ℕ
ask_fault_code Memory = None
ask_fault_code NoAnswer = Some 85
ask_fault_code BadAnswer = Some 86
