-- The numbers of refusals.
use Rattle.std.specs.Prelude.{ℕ, Option, Some, None}
use Rattle.pf_entry.specs.declared.fault.EncodeFault.{EncodeFault}
use Rattle.pf_entry.specs.declared.fault.EncodeFault.TheVariants.{Memory, TooLong}

-- none when out of memory
abbrev pub encode_fault_code : EncodeFault → Option ℕ
encode_fault_code Memory = None
encode_fault_code TooLong = Some 41
