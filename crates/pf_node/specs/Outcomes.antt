-- What came of the commands of a log.
use Rattle.std.specs.Prelude.{ℕ, Option, Some, None, Result, Ok, Err}
use Rattle.px_model.specs.Node as node
use Rattle.px_model.specs.Node.{Log}
use Rattle.px_model.specs.Spelling.{Bytes, spelled}
use Rattle.pf_config.specs.Map.{Configuration}
use Rattle.pf_entry.specs.Entry as entries
use Rattle.pf_entry.specs.Reading.{reading}
use Rattle.pf_command.specs.Effect.{Effect, RefusedCommand, effect}
use Rattle.pf_node.specs.declared.outcomes.Outcome.{Outcome}
use Rattle.pf_node.specs.declared.outcomes.Outcome.TheVariants.{Done, Refused, NoCommand}
use Rattle.pf_node.specs.Applied.{after}

-- the counts of a command's effect, or its refusal
abbrev pub outcome_of : Result Effect RefusedCommand → Outcome
outcome_of (Ok e) = Done e.added e.removed
outcome_of (Err refused) = Refused refused.code refused.line

-- of a command that was read, if one was
abbrev pub outcome_read : Configuration → Option entries.Entry → Outcome
outcome_read c None = NoCommand
outcome_read c (Some e) = outcome_of (effect c e.command)

-- what came of what a position has, at the configuration before it; NoCommand where one of them isn't there, or no
-- command is spelled
abbrev pub outcome_in : Option Configuration → Option (node.Entry Bytes) → Outcome
outcome_in None e = NoCommand
outcome_in (Some c) None = NoCommand
outcome_in (Some c) (Some e) = outcome_read c (reading (spelled e))

-- at position p: of its entry's command, at the configuration after the p positions before it
abbrev pub outcome_at : Log Bytes → ℕ → Outcome
outcome_at log p = outcome_in (after log p) (log p)
