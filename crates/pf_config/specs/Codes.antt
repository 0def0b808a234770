-- The numbers of refusals.
use Rattle.std.specs.Prelude.{ℕ, Option, Some, None}
use Rattle.pf_config.specs.declared.fault.ConfigFault.{ConfigFault}
use Rattle.pf_config.specs.declared.fault.ConfigFault.TheVariants.{NoTable, ConstTable, TableFull, AnchorsFull, BadPath}
use Rattle.pf_config.specs.declared.fault.ConfigFault.TheVariants.{Memory}

-- none when out of memory
abbrev pub fault_code : ConfigFault → Option ℕ
fault_code NoTable = Some 20
fault_code ConstTable = Some 21
fault_code TableFull = Some 22
fault_code AnchorsFull = Some 23
fault_code BadPath = Some 24
fault_code Memory = None
