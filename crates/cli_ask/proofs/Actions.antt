-- A fault of arguments is a refusal with its number.
use Rattle.std.proofs.Common.{◌≡◌, ℕ, List, Some, Err, ap}
use Rattle.clap.specs.Words.{Row, Text}
use Rattle.pf_arguments.specs.declared.fault.CommandFault.{CommandFault}
use Rattle.pf_arguments.specs.Answers.{FailsAs, command_fault_code}
use Rattle.pf_arguments.specs.Asked.{Asked}
use Rattle.pf_scripts.specs.Ctl.{numbered}
use Rattle.pf_scripts.proofs.Acted.{fault_numbered}
use Rattle.cli_ask.specs.Calls.{asked_call}
use Rattle.cli_ask.specs.Checking.{by_code}

pub fault_call : (rows : List Row) (rest : List Text) (at : ℕ) (fault : CommandFault) (a : Asked) (code : ℕ) → FailsAs fault a →
    command_fault_code fault ≡ Some code → asked_call rows rest at (numbered a) ≡ Err (by_code code)
fault_call rows rest at fault a code h e = ap (asked_call rows rest at) (fault_numbered fault a code h e)
