use Rattle.std.proofs.Common.{rules, map, option_map, string_bytes}
use Rattle.pfx.proofs.program.run_program.Goals as goal

-- what was given, and the control socket that the environment names
pub returns-clause-ran : goal.returns-clause-ran
returns-clause-ran g c = (
  map string_bytes c.in_ok-strings.strings.items,
  option_map string_bytes c.in_ok-control.control,
  search rules,
  search rules,
  search rules,
)

pub returns-clause-batch : goal.returns-clause-batch
returns-clause-batch g c = (
  map string_bytes c.in_ok-strings.strings.items,
  option_map string_bytes c.in_ok-control.control,
  search rules,
  search rules,
  search rules,
)
