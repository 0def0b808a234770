-- What only code and proofs use beside `Changes`.
use Rattle.std.specs.Prelude.{◌≡◌}
use Rattle.std.specs.Prelude.{Result, Err}
use Rattle.pf_config.specs.declared.fault.ConfigFault.{ConfigFault}
use Rattle.pf_config.specs.declared.fault.ConfigFault.TheVariants.{NoTable, ConstTable, TableFull, AnchorsFull, BadPath}
use Rattle.pf_config.specs.declared.fault.ConfigFault.TheVariants.{Memory}

-- ---- the commands on one table

-- a call fails out of memory, or with the fault that is defined
abbrev pub FailsWith : {A : Type 0} → ConfigFault → Result A ConfigFault → Type 0
FailsWith Memory r = Unit {0}
FailsWith NoTable r = r ≡ Err NoTable
FailsWith ConstTable r = r ≡ Err ConstTable
FailsWith TableFull r = r ≡ Err TableFull
FailsWith AnchorsFull r = r ≡ Err AnchorsFull
FailsWith BadPath r = r ≡ Err BadPath
