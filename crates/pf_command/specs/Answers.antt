-- What `apply` answers.
use Rattle.std.specs.Prelude.{◌≡◌, Result, Ok, Err}
use Rattle.pf_config.specs.Map.{Configuration}
use Rattle.pf_command.specs.declared.commands.Applied.{Applied}
use Rattle.pf_command.specs.declared.fault.ApplyFault.{ApplyFault}
use Rattle.pf_command.specs.declared.fault.ApplyFault.TheVariants.{Memory, Refused}
use Rattle.pf_command.specs.Effect.{Effect, RefusedCommand}

-- The configuration and the counts are the effect's, or the refusal is; a command that is refused, or is out of memory,
-- changes nothing.
abbrev pub Applies : Result Applied ApplyFault → Configuration → Configuration →
    Result Effect RefusedCommand → Type 0
Applies (Ok counts) old new e = e ≡ Ok (record {
  configuration = new;
  added = counts.added;
  removed = counts.removed;
})
Applies (Err Memory) old new e = new ≡ old
Applies (Err (Refused code line)) old new e = (e ≡ Err (record { code = code; line = line })) × (new ≡ old)

-- The configuration is then the one after the command, which for a refused command is the same; when out of memory it
-- is as it was.
abbrev pub Leaves : Result Applied ApplyFault → Configuration → Configuration → Configuration → Type 0
Leaves (Ok counts) old new next = new ≡ next
Leaves (Err Memory) old new next = new ≡ old
Leaves (Err (Refused code line)) old new next = new ≡ next
