-- What a command does, as it is answered.
use Rattle.std.proofs.Common.{◌≡◌, ℕ, Bool, Option, Some, Result, Ok, Err, refl, ap, unwrap_or}
use Rattle.pf_config.specs.Map.{Configuration}
use Rattle.pf_command.specs.Effect.{Effect, RefusedCommand, changed}
use Rattle.pf_arguments.specs.declared.fault.CommandFault.{CommandFault}
use Rattle.pf_arguments.specs.declared.fault.CommandFault.TheVariants.{Memory, Usage, BadPath, BadAddress, TooLong}
use Rattle.pf_arguments.specs.Asked.{Asked}
use Rattle.pf_arguments.specs.Answers.{FailsAs, command_fault_code}
use Rattle.pf_scripts.specs.Ctl.{PrintedValue, Refused, Lines, numbered, prints, counts_line, change_printed}
use Rattle.pf_scripts.specs.inner.Seen.{Does}

pub applied_does : (c new : Configuration) (counts : Bool) (r : Result Effect RefusedCommand) (added removed : ℕ)
    (p : PrintedValue) → r ≡ Ok (record { configuration = new; added = added; removed = removed }) →
    p ≡ Lines (counts_line counts added removed) → Does (prints (changed c r) (change_printed counts r)) new p
applied_does c new counts r added removed p h k = rw h (refl, k)

pub refused_does : (c new : Configuration) (counts : Bool) (r : Result Effect RefusedCommand) (code at : ℕ) →
    r ≡ Err (record { code = code; line = at }) → new ≡ c →
    Does (prints (changed c r) (change_printed counts r)) new (Refused code at)
refused_does c new counts r code at h e = rw h (e, refl)

-- a fault has its number
pub fault_numbered : (fault : CommandFault) (a : Asked) (code : ℕ) → FailsAs fault a →
    command_fault_code fault ≡ Some code → numbered a ≡ Err code
fault_numbered Memory a code h e = cc
fault_numbered Usage a code h e = rw h (ap (λ (o : Option ℕ). Err (unwrap_or o 0)) e)
fault_numbered BadPath a code h e = rw h (ap (λ (o : Option ℕ). Err (unwrap_or o 0)) e)
fault_numbered (BadAddress f) a code h e = rw h (ap (λ (o : Option ℕ). Err (unwrap_or o 0)) e)
fault_numbered TooLong a code h e = rw h (ap (λ (o : Option ℕ). Err (unwrap_or o 0)) e)
